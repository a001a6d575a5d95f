-- Which trees of a body can be followed, by how they are written, and the last of them.
use Rattle.std.proofs.Common.{◌≡◌, ◌≢◌, ℕ, suc, ◌-◌, Bool, List, [], ◌∷◌, map, length, Option, Some, None, slice_get, option_map, refl, sym, ap, ◌∙◌, subst, arith}
use Rattle.kt_tree.specs.declared.token.Span.{Span}
use Rattle.kt_tree.specs.declared.ast.part.Ident.{Ident}
use Rattle.kt_tree.specs.declared.ast.part.TypeRef.{TypeRef}
use Rattle.kt_tree.specs.declared.ast.part.Assignment.{Assignment}
use Rattle.kt_tree.specs.declared.ast.body.Expr.{Expr}
use Rattle.kt_tree.specs.declared.ast.body.ExprKind.{ExprKind}
use Rattle.kt_tree.specs.declared.ast.body.ExprKind.TheVariants as e
use Rattle.kt_tree.specs.declared.ast.body.Stmt.{Stmt}
use Rattle.kt_tree.specs.declared.ast.body.Stmt.TheVariants as s
use Rattle.kt_tree.specs.declared.ast.body.Block.{Block}
use Rattle.kt_tree.specs.declared.ast.body.Branch.{Branch}
use Rattle.kt_tree.specs.declared.ast.body.Catch.{Catch}
use Rattle.kt_tree.specs.declared.ast.body.Condition.{Condition}
use Rattle.kt_tree.specs.declared.ast.body.Lambda.{Lambda}
use Rattle.kt_tree.specs.declared.ast.body.Subject.{Subject}
use Rattle.kt_tree.specs.declared.ast.body.WhenBranch.{WhenBranch}
use Rattle.kt_tree.specs.declared.ast.body.StringPart.{StringPart}
use Rattle.kt_tree.specs.declared.ast.body.Branch.TheOpen.{ExprKind-F}
use Rattle.kt_tree.specs.declared.ast.body.Branch.TheViews as v
use Rattle.kt_tree.specs.declared.ast.body.Branch.TheFolds.{fold-roll-ExprKind}
use Rattle.kt_model.specs.declared.uses.Named.{Named}
use Rattle.kt_model.specs.declared.uses.Named.TheVariants as named
use Rattle.kt_model.specs.BodyTrees.{Tree, Trees, Piece, Seen, SeenBlock, SeenKind, Operation, Mark, listed, name_tree, call_tree, local_tree, assigned_tree, assign_tree, compound_of, seen_trees, named_there, kind_step, stmt_step, branch_step, piece_step, block_step, expr_step, nothing, seen, seen_block, seen_branch, seen_kind, stmt_tree, block_trees, branch_trees, piece, expr_tree}
use Rattle.kt_model.proofs.BodyFolds.{tree_of_kind, kind_return_any, kind_return_at_any, kind_throw, stmt_local_any, stmt_assign_any}
use Rattle.kt_paths.specs.FlowRules.{last_tree}
use Rattle.kt_flow.specs.Ends.{followed}

-- ---- names, calls, locals and assignments

followed_name : (to : Named) (n : ℕ) (at : Span) → followed (name_tree to n at) ≡ Some n
followed_name (named.Variable x fixed) n at = refl
followed_name (named.Function f r) n at = refl
followed_name (named.BuiltIn f r) n at = refl
followed_name named.Other n at = refl

followed_call : (to : Named) (xs : Trees) (m : Mark) → followed (call_tree to xs m) ≡ Some m.number
followed_call (named.Variable x fixed) xs m = refl
followed_call (named.Function f r) xs m = refl
followed_call (named.BuiltIn f r) xs m = refl
followed_call named.Other xs m = refl

followed_declared : (to : Named) (m : Mark) (w : Option Seen) → followed (local_tree to m w) ≡ Some m.number
followed_declared (named.Variable x fixed) m (Some a) = refl
followed_declared (named.Variable x fixed) m None = refl
followed_declared (named.Function f r) m w = refl
followed_declared (named.BuiltIn f r) m w = refl
followed_declared named.Other m w = refl

followed_assigned : (m : Mark) (x : ℕ) (fixed : Bool) (o : Option Operation) (w : Option Seen) → followed (assigned_tree m x fixed o w) ≡ Some m.number
followed_assigned m x fixed None (Some a) = refl
followed_assigned m x fixed None None = refl
followed_assigned m x fixed (Some o) w = refl

followed_target : (to : Named) (n : ℕ) (at : Span) (word : Option Span) (a : Assignment) (w : Option Seen) → followed (assign_tree to n at word a w) ≡ Some n
followed_target (named.Variable x fixed) n at (Some word) a w = followed_assigned (named_there n at word) x fixed (compound_of a) w
followed_target (named.Variable x fixed) n at None a w = refl
followed_target (named.Function f r) n at word a w = refl
followed_target (named.BuiltIn f r) n at word a w = refl
followed_target named.Other n at word a w = refl

-- ---- expressions

pub followed_return : (uses : ℕ → Named) (x : Expr) (w : Option Expr) → x.kind ≡ e.Return None w → followed (expr_tree uses x) ≡ None
followed_return uses x w is = ap followed (tree_of_kind uses x _ _ is (kind_return_any uses w))

pub followed_return_at : (uses : ℕ → Named) (x : Expr) (l : Ident) (w : Option Expr) → x.kind ≡ e.Return (Some l) w → followed (expr_tree uses x) ≡ Some x.number
followed_return_at uses x l w is = ap followed (tree_of_kind uses x _ _ is (kind_return_at_any uses l w))

pub followed_throw : (uses : ℕ → Named) (x a : Expr) → x.kind ≡ e.Throw a → followed (expr_tree uses x) ≡ None
followed_throw uses x a is = ap followed (tree_of_kind uses x _ _ is (kind_throw uses a))

abbrev Layer : Type 0
Layer = ExprKind-F Branch Condition ExprKind Stmt StringPart Block Catch Expr Lambda Subject WhenBranch

followed_at : (uses : ℕ → Named) (l : Layer) (n : ℕ) (at : Span) → ((l' : Option Ident) (w : Option Expr) → v.roll-ExprKind l ≢ e.Return l' w) → ((x : Expr) → v.roll-ExprKind l ≢ e.Throw x) → followed ((seen_kind uses (v.roll-ExprKind l)).tree_at n at) ≡ Some n
unfolding seen seen_kind stmt_tree seen_block seen_branch piece
followed_at uses (ExprKind-F.Return l' w) n at h k = absurd (h l' w (v.rolls-Return l' w))
followed_at uses (ExprKind-F.Throw x) n at h k = absurd (k x (v.rolls-Throw x))
followed_at uses (ExprKind-F.Name x) n at h k = ap (λ (g : SeenKind). followed (g.tree_at n at)) (fold-roll-ExprKind SeenBlock (Unit {0}) SeenKind Tree Piece SeenBlock (Unit {0}) Seen (Unit {0}) (Unit {0}) (Unit {0}) branch_step nothing (kind_step uses) (stmt_step uses) piece_step block_step nothing expr_step nothing nothing nothing (ExprKind-F.Name x)) ∙ followed_name (uses n) n at
followed_at uses (ExprKind-F.Call f xs None) n at h k = ap (λ (g : SeenKind). followed (g.tree_at n at)) (fold-roll-ExprKind SeenBlock (Unit {0}) SeenKind Tree Piece SeenBlock (Unit {0}) Seen (Unit {0}) (Unit {0}) (Unit {0}) branch_step nothing (kind_step uses) (stmt_step uses) piece_step block_step nothing expr_step nothing nothing nothing (ExprKind-F.Call f xs None)) ∙ followed_call (uses n) (seen_trees (map (seen uses) xs)) (named_there n at f.span)
followed_at uses (ExprKind-F.Call f xs (Some l)) n at h k = ap (λ (g : SeenKind). followed (g.tree_at n at)) (fold-roll-ExprKind SeenBlock (Unit {0}) SeenKind Tree Piece SeenBlock (Unit {0}) Seen (Unit {0}) (Unit {0}) (Unit {0}) branch_step nothing (kind_step uses) (stmt_step uses) piece_step block_step nothing expr_step nothing nothing nothing (ExprKind-F.Call f xs (Some l)))
followed_at uses l n at h k = ap (λ (g : SeenKind). followed (g.tree_at n at)) (fold-roll-ExprKind SeenBlock (Unit {0}) SeenKind Tree Piece SeenBlock (Unit {0}) Seen (Unit {0}) (Unit {0}) (Unit {0}) branch_step nothing (kind_step uses) (stmt_step uses) piece_step block_step nothing expr_step nothing nothing nothing l)

-- an expression that is neither a `return` nor a `throw` can be followed
pub followed_other : (uses : ℕ → Named) (x : Expr) → ((l : Option Ident) (w : Option Expr) → x.kind ≢ e.Return l w) → ((a : Expr) → x.kind ≢ e.Throw a) → followed (expr_tree uses x) ≡ Some x.number
followed_other uses x h k =
    ap followed (tree_of_kind uses x x.kind (seen_kind uses x.kind) refl refl)
    ∙ subst (λ j. followed ((seen_kind uses j).tree_at x.number x.span) ≡ Some x.number) (v.roll-out-ExprKind x.kind)
    (followed_at uses (v.out-ExprKind x.kind) x.number x.span (λ l w. subst (λ j. j ≢ e.Return l w) (sym (v.roll-out-ExprKind x.kind)) (h l w)) (λ a. subst (λ j. j ≢ e.Throw a) (sym (v.roll-out-ExprKind x.kind)) (k a)))

-- ---- statements

pub followed_local : (uses : ℕ → Named) (n : ℕ) (at : Span) (m : Bool) (i : Ident) (w : Option TypeRef) (x : Option Expr) → followed (stmt_tree uses (s.Local n at m i w x)) ≡ Some n
followed_local uses n at m i w x = ap followed (stmt_local_any uses n at m i w x) ∙ followed_declared (uses n) (named_there n at i.span) (option_map (seen uses) x)

pub followed_assign : (uses : ℕ → Named) (n : ℕ) (at : Span) (t : Expr) (a : Assignment) (x : Option Expr) → followed (stmt_tree uses (s.Assign n at t a x)) ≡ Some n
followed_assign uses n at t a x = ap followed (stmt_assign_any uses n at t a x) ∙ followed_target (uses n) n at (seen uses t).name a (option_map (seen uses) x)

-- ---- the last one

pub none_some : {A : Type 0} (x : A) → None ≡ Some x → ⊥
none_some x h = cc

pub last_of_listed : {A : Type 0} (f : A → Tree) (xs : List A) (x : A) → slice_get xs (length xs - 1) ≡ Some x → last_tree (listed (map f xs)) ≡ Some (f x)
last_of_listed f [] x h = absurd (none_some x h)
last_of_listed f (a ∷ []) x h =
    let one : length (a ∷ []) - 1 ≡ 0 = omega arith in
    ap (option_map f) (ap (slice_get (a ∷ [])) (sym one) ∙ h)
last_of_listed f (a ∷ b ∷ rest) x h =
    let next : length (a ∷ b ∷ rest) - 1 ≡ suc (length (b ∷ rest) - 1) = omega arith in
    last_of_listed f (b ∷ rest) x (ap (slice_get (a ∷ b ∷ rest)) (sym next) ∙ h)
