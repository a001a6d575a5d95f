-- What is told in the parts of a call, an `if`, a `when` or a `try`, and in those of a statement.
use Rattle.std.proofs.Common.{◌≡◌, ◌≢◌, ℕ, Bool, List, [], ◌++◌, map, Option, option_map, cond, refl, sym, ap, ◌∙◌, subst}
use Rattle.kt_tree.specs.declared.token.Span.{Span}
use Rattle.kt_tree.specs.declared.ast.part.Access.{Access}
use Rattle.kt_tree.specs.declared.ast.part.Assignment.{Assignment}
use Rattle.kt_tree.specs.declared.ast.part.Ident.{Ident}
use Rattle.kt_tree.specs.declared.ast.part.Progression.{Progression}
use Rattle.kt_tree.specs.declared.ast.part.TypeRef.{TypeRef}
use Rattle.kt_tree.specs.declared.ast.body.Block.{Block}
use Rattle.kt_tree.specs.declared.ast.body.Branch.{Branch}
use Rattle.kt_tree.specs.declared.ast.body.Catch.{Catch}
use Rattle.kt_tree.specs.declared.ast.body.Expr.{Expr}
use Rattle.kt_tree.specs.declared.ast.body.ExprKind.{ExprKind}
use Rattle.kt_tree.specs.declared.ast.body.ExprKind.TheVariants as e
use Rattle.kt_tree.specs.declared.ast.body.Lambda.{Lambda}
use Rattle.kt_tree.specs.declared.ast.body.Stmt.{Stmt}
use Rattle.kt_tree.specs.declared.ast.body.Stmt.TheVariants as s
use Rattle.kt_tree.specs.declared.ast.body.Subject.{Subject}
use Rattle.kt_tree.specs.declared.ast.body.WhenBranch.{WhenBranch}
use Rattle.kt_tree.specs.declared.ast.body.Branch.TheOpen.{ExprKind-F, Stmt-F}
use Rattle.kt_tree.specs.declared.ast.body.Branch.TheViews as v
use Rattle.kt_model.specs.DeadTrees.{block_dead, branch_dead, expr_dead, kind_dead, optional, outermost, stmt_dead}
use Rattle.kt_init.specs.DeadParts.{OpenKind, OpenStmt, compound_dead, inside, is_compound, parts_dead}
use Rattle.kt_init.proofs.DeadFolds as fold

-- ---- calls, `if`, `when` and `try`

chosen : (dead : ℕ → Bool) (layer : OpenKind) (k : ExprKind) → v.roll-ExprKind layer ≡ k → compound_dead dead k ≡ cond (is_compound layer) (kind_dead dead k) []
unfolding compound_dead
chosen dead layer k e = ap (λ b. cond b (kind_dead dead k) []) (ap (λ j. is_compound (v.out-ExprKind j)) (sym e) ∙ ap is_compound (v.out-roll-ExprKind layer))

pub compound_call : (dead : ℕ → Bool) (f : Ident) (xs : List Expr) (l : Option Lambda) → compound_dead dead (e.Call f xs l) ≡ kind_dead dead (e.Call f xs l)
compound_call dead f xs l = chosen dead (ExprKind-F.Call f xs l) (e.Call f xs l) (v.rolls-Call f xs l)

pub compound_member_call : (dead : ℕ → Bool) (x : Expr) (a : Access) (n : Ident) (xs : List Expr) → compound_dead dead (e.MemberCall x a n xs) ≡ kind_dead dead (e.MemberCall x a n xs)
compound_member_call dead x a n xs = chosen dead (ExprKind-F.MemberCall x a n xs) (e.MemberCall x a n xs) (v.rolls-MemberCall x a n xs)

pub compound_if : (dead : ℕ → Bool) (c : Expr) (x : Branch) (y : Option Branch) → compound_dead dead (e.If c x y) ≡ kind_dead dead (e.If c x y)
compound_if dead c x y = chosen dead (ExprKind-F.If c x y) (e.If c x y) (v.rolls-If c x y)

pub compound_when : (dead : ℕ → Bool) (w : Option Subject) (bs : List WhenBranch) → compound_dead dead (e.When w bs) ≡ kind_dead dead (e.When w bs)
compound_when dead w bs = chosen dead (ExprKind-F.When w bs) (e.When w bs) (v.rolls-When w bs)

pub compound_try : (dead : ℕ → Bool) (x : Block) (cs : List Catch) (f : Option Block) → compound_dead dead (e.Try x cs f) ≡ kind_dead dead (e.Try x cs f)
compound_try dead x cs f = chosen dead (ExprKind-F.Try x cs f) (e.Try x cs f) (v.rolls-Try x cs f)

pub ruleset compounds = (compound_call, compound_member_call, compound_if, compound_when, compound_try)

-- none of these
other_layer : (dead : ℕ → Bool) (layer : OpenKind) → ((f : Ident) (xs : List Expr) (l : Option Lambda) → v.roll-ExprKind layer ≢ e.Call f xs l) → ((x : Expr) (a : Access) (n : Ident) (xs : List Expr) → v.roll-ExprKind layer ≢ e.MemberCall x a n xs) → ((c : Expr) (x : Branch) (y : Option Branch) → v.roll-ExprKind layer ≢ e.If c x y) → ((w : Option Subject) (bs : List WhenBranch) → v.roll-ExprKind layer ≢ e.When w bs) → ((x : Block) (cs : List Catch) (f : Option Block) → v.roll-ExprKind layer ≢ e.Try x cs f) → compound_dead dead (v.roll-ExprKind layer) ≡ []
other_layer dead (ExprKind-F.Call f xs l) h0 h1 h2 h3 h4 = absurd (h0 f xs l (v.rolls-Call f xs l))
other_layer dead (ExprKind-F.MemberCall x a n xs) h0 h1 h2 h3 h4 = absurd (h1 x a n xs (v.rolls-MemberCall x a n xs))
other_layer dead (ExprKind-F.If c x y) h0 h1 h2 h3 h4 = absurd (h2 c x y (v.rolls-If c x y))
other_layer dead (ExprKind-F.When w bs) h0 h1 h2 h3 h4 = absurd (h3 w bs (v.rolls-When w bs))
other_layer dead (ExprKind-F.Try x cs f) h0 h1 h2 h3 h4 = absurd (h4 x cs f (v.rolls-Try x cs f))
other_layer dead layer h0 h1 h2 h3 h4 = chosen dead layer (v.roll-ExprKind layer) refl

pub compound_other : (dead : ℕ → Bool) (k : ExprKind) → ((f : Ident) (xs : List Expr) (l : Option Lambda) → k ≢ e.Call f xs l) → ((x : Expr) (a : Access) (n : Ident) (xs : List Expr) → k ≢ e.MemberCall x a n xs) → ((c : Expr) (x : Branch) (y : Option Branch) → k ≢ e.If c x y) → ((w : Option Subject) (bs : List WhenBranch) → k ≢ e.When w bs) → ((x : Block) (cs : List Catch) (f : Option Block) → k ≢ e.Try x cs f) → compound_dead dead k ≡ []
compound_other dead k h0 h1 h2 h3 h4 =
    let e = v.roll-out-ExprKind k in
    subst (λ j. compound_dead dead j ≡ []) e (other_layer dead (v.out-ExprKind k) (λ f xs l i. h0 f xs l (sym e ∙ i)) (λ x a n xs i. h1 x a n xs (sym e ∙ i)) (λ c x y i. h2 c x y (sym e ∙ i)) (λ w bs i. h3 w bs (sym e ∙ i)) (λ x cs f i. h4 x cs f (sym e ∙ i)))

-- ---- statements

opened : (dead : ℕ → Bool) (layer : OpenStmt) {y : Stmt} → v.roll-Stmt layer ≡ y → parts_dead dead y ≡ inside dead layer
unfolding parts_dead
opened dead layer e = ap (λ y. inside dead (v.out-Stmt y)) (sym e) ∙ ap (inside dead) (v.out-roll-Stmt layer)

pub parts_expr : (dead : ℕ → Bool) (x : Expr) → parts_dead dead (s.Expr x) ≡ expr_dead dead x
parts_expr dead x = opened dead (Stmt-F.Expr x) (v.rolls-Expr x)

pub parts_local : (dead : ℕ → Bool) (n : ℕ) (at : Span) (m : Bool) (i : Ident) (w : Option TypeRef) (x : Option Expr) → parts_dead dead (s.Local n at m i w x) ≡ optional (option_map (expr_dead dead) x)
parts_local dead n at m i w x = opened dead (Stmt-F.Local n at m i w x) (v.rolls-Local n at m i w x)

pub parts_assign : (dead : ℕ → Bool) (n : ℕ) (at : Span) (t : Expr) (a : Assignment) (x : Option Expr) → parts_dead dead (s.Assign n at t a x) ≡ expr_dead dead t ++ optional (option_map (expr_dead dead) x)
parts_assign dead n at t a x = opened dead (Stmt-F.Assign n at t a x) (v.rolls-Assign n at t a x)

pub parts_while : (dead : ℕ → Bool) (n : ℕ) (at : Span) (c : Expr) (x : Branch) → parts_dead dead (s.While n at c x) ≡ expr_dead dead c ++ branch_dead dead x
parts_while dead n at c x = opened dead (Stmt-F.While n at c x) (v.rolls-While n at c x)

pub parts_do_while : (dead : ℕ → Bool) (n : ℕ) (at : Span) (x : Block) (c : Expr) → parts_dead dead (s.DoWhile n at x c) ≡ block_dead dead x ++ expr_dead dead c
parts_do_while dead n at x c = opened dead (Stmt-F.DoWhile n at x c) (v.rolls-DoWhile n at x c)

pub parts_for : (dead : ℕ → Bool) (n : ℕ) (at : Span) (i : Ident) (w : Option TypeRef) (l : Expr) (o : Progression) (h : Expr) (x : Branch) → parts_dead dead (s.For n at i w l o h x) ≡ expr_dead dead l ++ (expr_dead dead h ++ branch_dead dead x)
parts_for dead n at i w l o h x = opened dead (Stmt-F.For n at i w l o h x) (v.rolls-For n at i w l o h x)

-- a statement that is a tree, by its parts
pub own_local : (dead : ℕ → Bool) (n : ℕ) (at : Span) (m : Bool) (i : Ident) (w : Option TypeRef) (x : Option Expr) → stmt_dead dead (s.Local n at m i w x) ≡ outermost dead n at (parts_dead dead (s.Local n at m i w x))
own_local dead n at m i w x = fold.stmt_local_any dead n at m i w x ∙ ap (outermost dead n at) (sym (parts_local dead n at m i w x))

pub own_assign : (dead : ℕ → Bool) (n : ℕ) (at : Span) (t : Expr) (a : Assignment) (x : Option Expr) → stmt_dead dead (s.Assign n at t a x) ≡ outermost dead n at (parts_dead dead (s.Assign n at t a x))
own_assign dead n at t a x = fold.stmt_assign_any dead n at t a x ∙ ap (outermost dead n at) (sym (parts_assign dead n at t a x))

pub own_while : (dead : ℕ → Bool) (n : ℕ) (at : Span) (c : Expr) (x : Branch) → stmt_dead dead (s.While n at c x) ≡ outermost dead n at (parts_dead dead (s.While n at c x))
own_while dead n at c x = fold.stmt_while dead n at c x ∙ ap (outermost dead n at) (sym (parts_while dead n at c x))

pub own_do_while : (dead : ℕ → Bool) (n : ℕ) (at : Span) (x : Block) (c : Expr) → stmt_dead dead (s.DoWhile n at x c) ≡ outermost dead n at (parts_dead dead (s.DoWhile n at x c))
own_do_while dead n at x c = fold.stmt_do_while dead n at x c ∙ ap (outermost dead n at) (sym (parts_do_while dead n at x c))

pub own_for : (dead : ℕ → Bool) (n : ℕ) (at : Span) (i : Ident) (w : Option TypeRef) (l : Expr) (o : Progression) (h : Expr) (x : Branch) → stmt_dead dead (s.For n at i w l o h x) ≡ outermost dead n at (parts_dead dead (s.For n at i w l o h x))
own_for dead n at i w l o h x = fold.stmt_for dead n at i w l o h x ∙ ap (outermost dead n at) (sym (parts_for dead n at i w l o h x))

pub ruleset statements = (own_local, own_assign, own_while, own_do_while, own_for)
