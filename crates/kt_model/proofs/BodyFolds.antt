-- What each tree of a file is as plain data.
use Rattle.std.proofs.Common.{◌≡◌, ◌≢◌, ℕ, Bool, true, false, List, map, Option, Some, None, option_map, refl, sym, ap, ◌∙◌, subst}
use Rattle.kt_tree.specs.declared.token.Span.{Span}
use Rattle.kt_tree.specs.declared.ast.part.Ident.{Ident}
use Rattle.kt_tree.specs.declared.ast.part.TypeRef.{TypeRef}
use Rattle.kt_tree.specs.declared.ast.part.Sign.{Sign}
use Rattle.kt_tree.specs.declared.ast.part.Arithmetic.{Arithmetic}
use Rattle.kt_tree.specs.declared.ast.part.Comparison.{Comparison}
use Rattle.kt_tree.specs.declared.ast.part.Equality.{Equality}
use Rattle.kt_tree.specs.declared.ast.part.Assignment.{Assignment}
use Rattle.kt_tree.specs.declared.ast.part.Progression.{Progression}
use Rattle.kt_tree.specs.declared.ast.body.Expr.{Expr}
use Rattle.kt_tree.specs.declared.ast.body.ExprKind.{ExprKind}
use Rattle.kt_tree.specs.declared.ast.body.ExprKind.TheVariants as e
use Rattle.kt_tree.specs.declared.ast.body.Stmt.{Stmt}
use Rattle.kt_tree.specs.declared.ast.body.Stmt.TheVariants as s
use Rattle.kt_tree.specs.declared.ast.body.Block.{Block, out-Block}
use Rattle.kt_tree.specs.declared.ast.body.Branch.{Branch}
use Rattle.kt_tree.specs.declared.ast.body.Branch.TheVariants as b
use Rattle.kt_tree.specs.declared.ast.body.Condition.{Condition}
use Rattle.kt_tree.specs.declared.ast.body.Catch.{Catch}
use Rattle.kt_tree.specs.declared.ast.body.Lambda.{Lambda}
use Rattle.kt_tree.specs.declared.ast.body.Subject.{Subject}
use Rattle.kt_tree.specs.declared.ast.body.WhenBranch.{WhenBranch}
use Rattle.kt_tree.specs.declared.ast.body.StringPart.{StringPart}
use Rattle.kt_tree.specs.declared.ast.body.StringPart.TheVariants as p
use Rattle.kt_tree.specs.declared.ast.body.Branch.TheOpen.{Branch-F, ExprKind-F, Stmt-F, StringPart-F}
use Rattle.kt_tree.specs.declared.ast.body.Branch.TheViews as v
use Rattle.kt_tree.specs.declared.ast.body.Branch.TheFolds.{fold_out-Block, fold-roll-Expr, fold-roll-ExprKind, fold-roll-Stmt, fold-roll-Branch, fold-roll-StringPart}
use Rattle.kt_model.specs.declared.uses.Named.{Named}
use Rattle.kt_model.specs.BodyTrees.{Tree, Trees, Piece, Text', Inserted', Seen, SeenKind, Paren', Not', And', Or', If', Return', Throw', Shut', Empty', First', Int', Bool', Null', Template', Sign', Sum', Arithmetic', Compare', Equal', listed, otherwise, texts_of, inserted_of, seen_trees, seen_optional, plain, operation, shut, whole, named_there, name_tree, name_span, call_tree, local_tree, assign_tree, kind_step, stmt_step, branch_step, piece_step, block_step, expr_step, nothing, seen, seen_kind, stmt_tree, seen_block, block_trees, seen_branch, branch_trees, if_braces, SeenBlock, piece, expr_tree}

-- an expression, by its kind
pub tree_of_kind : (uses : ℕ → Named) (x : Expr) (k : ExprKind) (f : SeenKind) → x.kind ≡ k → seen_kind uses k ≡ f → expr_tree uses x ≡ f.tree_at x.number x.span
unfolding seen seen_kind stmt_tree seen_block seen_branch piece
tree_of_kind uses x k f is step =
    ap (λ (y : Seen). y.tree) (fold-roll-Expr SeenBlock (Unit {0}) SeenKind Tree Piece SeenBlock (Unit {0}) Seen (Unit {0}) (Unit {0}) (Unit {0}) branch_step nothing (kind_step uses) (stmt_step uses) piece_step block_step nothing expr_step nothing nothing nothing (record { number = x.number; span = x.span; kind = x.kind })) ∙ ap (λ j. (seen_kind uses j).tree_at x.number x.span) is ∙ ap (λ (g : SeenKind). g.tree_at x.number x.span) step

-- whether it is a name alone
pub name_of_kind : (uses : ℕ → Named) (x : Expr) (k : ExprKind) (f : SeenKind) → x.kind ≡ k → seen_kind uses k ≡ f → (seen uses x).name ≡ name_span f.is_name x.span
unfolding seen seen_kind stmt_tree seen_block seen_branch piece
name_of_kind uses x k f is step =
    ap (λ (y : Seen). y.name) (fold-roll-Expr SeenBlock (Unit {0}) SeenKind Tree Piece SeenBlock (Unit {0}) Seen (Unit {0}) (Unit {0}) (Unit {0}) branch_step nothing (kind_step uses) (stmt_step uses) piece_step block_step nothing expr_step nothing nothing nothing (record { number = x.number; span = x.span; kind = x.kind })) ∙ ap (λ j. name_span (seen_kind uses j).is_name x.span) is ∙ ap (λ (g : SeenKind). name_span g.is_name x.span) step

-- an integer
pub kind_int : (uses : ℕ → Named) (k : ℕ) → seen_kind uses (e.Int k) ≡ operation (Int' k) Empty'
unfolding seen seen_kind stmt_tree seen_block seen_branch piece
kind_int uses k = ap (seen_kind uses) (sym (v.rolls-Int k)) ∙ fold-roll-ExprKind SeenBlock (Unit {0}) SeenKind Tree Piece SeenBlock (Unit {0}) Seen (Unit {0}) (Unit {0}) (Unit {0}) branch_step nothing (kind_step uses) (stmt_step uses) piece_step block_step nothing expr_step nothing nothing nothing (ExprKind-F.Int k)

-- `true` or `false`
pub kind_bool : (uses : ℕ → Named) (t : Bool) → seen_kind uses (e.Bool t) ≡ operation (Bool' t) Empty'
unfolding seen seen_kind stmt_tree seen_block seen_branch piece
kind_bool uses t = ap (seen_kind uses) (sym (v.rolls-Bool t)) ∙ fold-roll-ExprKind SeenBlock (Unit {0}) SeenKind Tree Piece SeenBlock (Unit {0}) Seen (Unit {0}) (Unit {0}) (Unit {0}) branch_step nothing (kind_step uses) (stmt_step uses) piece_step block_step nothing expr_step nothing nothing nothing (ExprKind-F.Bool t)

-- `null`
pub kind_null : (uses : ℕ → Named) → seen_kind uses e.Null ≡ operation Null' Empty'
unfolding seen seen_kind stmt_tree seen_block seen_branch piece
kind_null uses = ap (seen_kind uses) (sym v.rolls-Null) ∙ fold-roll-ExprKind SeenBlock (Unit {0}) SeenKind Tree Piece SeenBlock (Unit {0}) Seen (Unit {0}) (Unit {0}) (Unit {0}) branch_step nothing (kind_step uses) (stmt_step uses) piece_step block_step nothing expr_step nothing nothing nothing ExprKind-F.Null

-- a name
pub kind_name : (uses : ℕ → Named) (x : ℕ) → seen_kind uses (e.Name x) ≡ record { tree_at = λ n at. name_tree (uses n) n at; is_name = true }
unfolding seen seen_kind stmt_tree seen_block seen_branch piece
kind_name uses x = ap (seen_kind uses) (sym (v.rolls-Name x)) ∙ fold-roll-ExprKind SeenBlock (Unit {0}) SeenKind Tree Piece SeenBlock (Unit {0}) Seen (Unit {0}) (Unit {0}) (Unit {0}) branch_step nothing (kind_step uses) (stmt_step uses) piece_step block_step nothing expr_step nothing nothing nothing (ExprKind-F.Name x)

-- a string
pub kind_template : (uses : ℕ → Named) (ps : List StringPart) → seen_kind uses (e.Template ps) ≡ operation (Template' (texts_of (map (piece uses) ps))) (inserted_of (map (piece uses) ps))
unfolding seen seen_kind stmt_tree seen_block seen_branch piece
kind_template uses ps = ap (seen_kind uses) (sym (v.rolls-Template ps)) ∙ fold-roll-ExprKind SeenBlock (Unit {0}) SeenKind Tree Piece SeenBlock (Unit {0}) Seen (Unit {0}) (Unit {0}) (Unit {0}) branch_step nothing (kind_step uses) (stmt_step uses) piece_step block_step nothing expr_step nothing nothing nothing (ExprKind-F.Template ps)

-- parentheses
pub kind_paren : (uses : ℕ → Named) (x : Expr) → seen_kind uses (e.Paren x) ≡ plain (λ n at. Paren' (whole n at) (expr_tree uses x))
unfolding seen seen_kind stmt_tree seen_block seen_branch piece
kind_paren uses x = ap (seen_kind uses) (sym (v.rolls-Paren x)) ∙ fold-roll-ExprKind SeenBlock (Unit {0}) SeenKind Tree Piece SeenBlock (Unit {0}) Seen (Unit {0}) (Unit {0}) (Unit {0}) branch_step nothing (kind_step uses) (stmt_step uses) piece_step block_step nothing expr_step nothing nothing nothing (ExprKind-F.Paren x)

-- a call
pub kind_call : (uses : ℕ → Named) (f : Ident) (xs : List Expr) → seen_kind uses (e.Call f xs None) ≡ plain (λ n at. call_tree (uses n) (seen_trees (map (seen uses) xs)) (named_there n at f.span))
unfolding seen seen_kind stmt_tree seen_block seen_branch piece
kind_call uses f xs = ap (seen_kind uses) (sym (v.rolls-Call f xs None)) ∙ fold-roll-ExprKind SeenBlock (Unit {0}) SeenKind Tree Piece SeenBlock (Unit {0}) Seen (Unit {0}) (Unit {0}) (Unit {0}) branch_step nothing (kind_step uses) (stmt_step uses) piece_step block_step nothing expr_step nothing nothing nothing (ExprKind-F.Call f xs None)

-- a call with a lambda
pub kind_call_with : (uses : ℕ → Named) (f : Ident) (xs : List Expr) (l : Lambda) → seen_kind uses (e.Call f xs (Some l)) ≡ shut
unfolding seen seen_kind stmt_tree seen_block seen_branch piece
kind_call_with uses f xs l = ap (seen_kind uses) (sym (v.rolls-Call f xs (Some l))) ∙ fold-roll-ExprKind SeenBlock (Unit {0}) SeenKind Tree Piece SeenBlock (Unit {0}) Seen (Unit {0}) (Unit {0}) (Unit {0}) branch_step nothing (kind_step uses) (stmt_step uses) piece_step block_step nothing expr_step nothing nothing nothing (ExprKind-F.Call f xs (Some l))

-- a sign
pub kind_sign : (uses : ℕ → Named) (o : Sign) (x : Expr) → seen_kind uses (e.Sign o x) ≡ operation (Sign' o) (First' (expr_tree uses x) Empty')
unfolding seen seen_kind stmt_tree seen_block seen_branch piece
kind_sign uses o x = ap (seen_kind uses) (sym (v.rolls-Sign o x)) ∙ fold-roll-ExprKind SeenBlock (Unit {0}) SeenKind Tree Piece SeenBlock (Unit {0}) Seen (Unit {0}) (Unit {0}) (Unit {0}) branch_step nothing (kind_step uses) (stmt_step uses) piece_step block_step nothing expr_step nothing nothing nothing (ExprKind-F.Sign o x)

-- `!`
pub kind_not : (uses : ℕ → Named) (x : Expr) → seen_kind uses (e.Not x) ≡ plain (λ n at. Not' (whole n at) (expr_tree uses x))
unfolding seen seen_kind stmt_tree seen_block seen_branch piece
kind_not uses x = ap (seen_kind uses) (sym (v.rolls-Not x)) ∙ fold-roll-ExprKind SeenBlock (Unit {0}) SeenKind Tree Piece SeenBlock (Unit {0}) Seen (Unit {0}) (Unit {0}) (Unit {0}) branch_step nothing (kind_step uses) (stmt_step uses) piece_step block_step nothing expr_step nothing nothing nothing (ExprKind-F.Not x)

-- a sum
pub kind_sum : (uses : ℕ → Named) (x : Expr) (y : Expr) → seen_kind uses (e.Sum x y) ≡ operation Sum' (First' (expr_tree uses x) (First' (expr_tree uses y) Empty'))
unfolding seen seen_kind stmt_tree seen_block seen_branch piece
kind_sum uses x y = ap (seen_kind uses) (sym (v.rolls-Sum x y)) ∙ fold-roll-ExprKind SeenBlock (Unit {0}) SeenKind Tree Piece SeenBlock (Unit {0}) Seen (Unit {0}) (Unit {0}) (Unit {0}) branch_step nothing (kind_step uses) (stmt_step uses) piece_step block_step nothing expr_step nothing nothing nothing (ExprKind-F.Sum x y)

-- arithmetic
pub kind_arithmetic : (uses : ℕ → Named) (o : Arithmetic) (x : Expr) (y : Expr) → seen_kind uses (e.Arithmetic o x y) ≡ operation (Arithmetic' o) (First' (expr_tree uses x) (First' (expr_tree uses y) Empty'))
unfolding seen seen_kind stmt_tree seen_block seen_branch piece
kind_arithmetic uses o x y = ap (seen_kind uses) (sym (v.rolls-Arithmetic o x y)) ∙ fold-roll-ExprKind SeenBlock (Unit {0}) SeenKind Tree Piece SeenBlock (Unit {0}) Seen (Unit {0}) (Unit {0}) (Unit {0}) branch_step nothing (kind_step uses) (stmt_step uses) piece_step block_step nothing expr_step nothing nothing nothing (ExprKind-F.Arithmetic o x y)

-- a comparison
pub kind_compare : (uses : ℕ → Named) (o : Comparison) (x : Expr) (y : Expr) → seen_kind uses (e.Compare o x y) ≡ operation (Compare' o) (First' (expr_tree uses x) (First' (expr_tree uses y) Empty'))
unfolding seen seen_kind stmt_tree seen_block seen_branch piece
kind_compare uses o x y = ap (seen_kind uses) (sym (v.rolls-Compare o x y)) ∙ fold-roll-ExprKind SeenBlock (Unit {0}) SeenKind Tree Piece SeenBlock (Unit {0}) Seen (Unit {0}) (Unit {0}) (Unit {0}) branch_step nothing (kind_step uses) (stmt_step uses) piece_step block_step nothing expr_step nothing nothing nothing (ExprKind-F.Compare o x y)

-- an equality
pub kind_equal : (uses : ℕ → Named) (o : Equality) (x : Expr) (y : Expr) → seen_kind uses (e.Equal o x y) ≡ operation (Equal' o) (First' (expr_tree uses x) (First' (expr_tree uses y) Empty'))
unfolding seen seen_kind stmt_tree seen_block seen_branch piece
kind_equal uses o x y = ap (seen_kind uses) (sym (v.rolls-Equal o x y)) ∙ fold-roll-ExprKind SeenBlock (Unit {0}) SeenKind Tree Piece SeenBlock (Unit {0}) Seen (Unit {0}) (Unit {0}) (Unit {0}) branch_step nothing (kind_step uses) (stmt_step uses) piece_step block_step nothing expr_step nothing nothing nothing (ExprKind-F.Equal o x y)

-- `&&`
pub kind_and : (uses : ℕ → Named) (x : Expr) (y : Expr) → seen_kind uses (e.And x y) ≡ plain (λ n at. And' (whole n at) (expr_tree uses x) (expr_tree uses y))
unfolding seen seen_kind stmt_tree seen_block seen_branch piece
kind_and uses x y = ap (seen_kind uses) (sym (v.rolls-And x y)) ∙ fold-roll-ExprKind SeenBlock (Unit {0}) SeenKind Tree Piece SeenBlock (Unit {0}) Seen (Unit {0}) (Unit {0}) (Unit {0}) branch_step nothing (kind_step uses) (stmt_step uses) piece_step block_step nothing expr_step nothing nothing nothing (ExprKind-F.And x y)

-- `||`
pub kind_or : (uses : ℕ → Named) (x : Expr) (y : Expr) → seen_kind uses (e.Or x y) ≡ plain (λ n at. Or' (whole n at) (expr_tree uses x) (expr_tree uses y))
unfolding seen seen_kind stmt_tree seen_block seen_branch piece
kind_or uses x y = ap (seen_kind uses) (sym (v.rolls-Or x y)) ∙ fold-roll-ExprKind SeenBlock (Unit {0}) SeenKind Tree Piece SeenBlock (Unit {0}) Seen (Unit {0}) (Unit {0}) (Unit {0}) branch_step nothing (kind_step uses) (stmt_step uses) piece_step block_step nothing expr_step nothing nothing nothing (ExprKind-F.Or x y)

-- `if` with `else`
pub kind_if : (uses : ℕ → Named) (c : Expr) (x : Branch) (y : Branch) → seen_kind uses (e.If c x (Some y)) ≡ plain (λ n at. If' (whole n at) (if_braces uses x (Some y)) (expr_tree uses c) (branch_trees uses x) (branch_trees uses y))
unfolding seen seen_kind stmt_tree seen_block seen_branch piece
kind_if uses c x y = ap (seen_kind uses) (sym (v.rolls-If c x (Some y))) ∙ fold-roll-ExprKind SeenBlock (Unit {0}) SeenKind Tree Piece SeenBlock (Unit {0}) Seen (Unit {0}) (Unit {0}) (Unit {0}) branch_step nothing (kind_step uses) (stmt_step uses) piece_step block_step nothing expr_step nothing nothing nothing (ExprKind-F.If c x (Some y))

-- `if` without `else`
pub kind_if_alone : (uses : ℕ → Named) (c : Expr) (x : Branch) → seen_kind uses (e.If c x None) ≡ plain (λ n at. If' (whole n at) (if_braces uses x None) (expr_tree uses c) (branch_trees uses x) Empty')
unfolding seen seen_kind stmt_tree seen_block seen_branch piece
kind_if_alone uses c x = ap (seen_kind uses) (sym (v.rolls-If c x None)) ∙ fold-roll-ExprKind SeenBlock (Unit {0}) SeenKind Tree Piece SeenBlock (Unit {0}) Seen (Unit {0}) (Unit {0}) (Unit {0}) branch_step nothing (kind_step uses) (stmt_step uses) piece_step block_step nothing expr_step nothing nothing nothing (ExprKind-F.If c x None)

-- `return` with a value
pub kind_return : (uses : ℕ → Named) (x : Expr) → seen_kind uses (e.Return None (Some x)) ≡ plain (λ n at. Return' (whole n at) (First' (expr_tree uses x) Empty'))
unfolding seen seen_kind stmt_tree seen_block seen_branch piece
kind_return uses x = ap (seen_kind uses) (sym (v.rolls-Return None (Some x))) ∙ fold-roll-ExprKind SeenBlock (Unit {0}) SeenKind Tree Piece SeenBlock (Unit {0}) Seen (Unit {0}) (Unit {0}) (Unit {0}) branch_step nothing (kind_step uses) (stmt_step uses) piece_step block_step nothing expr_step nothing nothing nothing (ExprKind-F.Return None (Some x))

-- `return` alone
pub kind_return_alone : (uses : ℕ → Named) → seen_kind uses (e.Return None None) ≡ plain (λ n at. Return' (whole n at) Empty')
unfolding seen seen_kind stmt_tree seen_block seen_branch piece
kind_return_alone uses = ap (seen_kind uses) (sym (v.rolls-Return None None)) ∙ fold-roll-ExprKind SeenBlock (Unit {0}) SeenKind Tree Piece SeenBlock (Unit {0}) Seen (Unit {0}) (Unit {0}) (Unit {0}) branch_step nothing (kind_step uses) (stmt_step uses) piece_step block_step nothing expr_step nothing nothing nothing (ExprKind-F.Return None None)

-- `return@`
pub kind_return_at : (uses : ℕ → Named) (l : Ident) (x : Expr) → seen_kind uses (e.Return (Some l) (Some x)) ≡ shut
unfolding seen seen_kind stmt_tree seen_block seen_branch piece
kind_return_at uses l x = ap (seen_kind uses) (sym (v.rolls-Return (Some l) (Some x))) ∙ fold-roll-ExprKind SeenBlock (Unit {0}) SeenKind Tree Piece SeenBlock (Unit {0}) Seen (Unit {0}) (Unit {0}) (Unit {0}) branch_step nothing (kind_step uses) (stmt_step uses) piece_step block_step nothing expr_step nothing nothing nothing (ExprKind-F.Return (Some l) (Some x))

-- `return@` alone
pub kind_return_at_alone : (uses : ℕ → Named) (l : Ident) → seen_kind uses (e.Return (Some l) None) ≡ shut
unfolding seen seen_kind stmt_tree seen_block seen_branch piece
kind_return_at_alone uses l = ap (seen_kind uses) (sym (v.rolls-Return (Some l) None)) ∙ fold-roll-ExprKind SeenBlock (Unit {0}) SeenKind Tree Piece SeenBlock (Unit {0}) Seen (Unit {0}) (Unit {0}) (Unit {0}) branch_step nothing (kind_step uses) (stmt_step uses) piece_step block_step nothing expr_step nothing nothing nothing (ExprKind-F.Return (Some l) None)

-- `throw`
pub kind_throw : (uses : ℕ → Named) (x : Expr) → seen_kind uses (e.Throw x) ≡ plain (λ n at. Throw' (whole n at) (expr_tree uses x))
unfolding seen seen_kind stmt_tree seen_block seen_branch piece
kind_throw uses x = ap (seen_kind uses) (sym (v.rolls-Throw x)) ∙ fold-roll-ExprKind SeenBlock (Unit {0}) SeenKind Tree Piece SeenBlock (Unit {0}) Seen (Unit {0}) (Unit {0}) (Unit {0}) branch_step nothing (kind_step uses) (stmt_step uses) piece_step block_step nothing expr_step nothing nothing nothing (ExprKind-F.Throw x)

-- an expression as a statement
pub stmt_expr : (uses : ℕ → Named) (x : Expr) → stmt_tree uses (s.Expr x) ≡ expr_tree uses x
unfolding seen seen_kind stmt_tree seen_block seen_branch piece
stmt_expr uses x = ap (stmt_tree uses) (sym (v.rolls-Expr x)) ∙ fold-roll-Stmt SeenBlock (Unit {0}) SeenKind Tree Piece SeenBlock (Unit {0}) Seen (Unit {0}) (Unit {0}) (Unit {0}) branch_step nothing (kind_step uses) (stmt_step uses) piece_step block_step nothing expr_step nothing nothing nothing (Stmt-F.Expr x)

-- a local with a value
pub stmt_local : (uses : ℕ → Named) (n : ℕ) (at : Span) (m : Bool) (i : Ident) (w : Option TypeRef) (x : Expr) → stmt_tree uses (s.Local n at m i w (Some x)) ≡ local_tree (uses n) (named_there n at i.span) (Some (seen uses x))
unfolding seen seen_kind stmt_tree seen_block seen_branch piece
stmt_local uses n at m i w x = ap (stmt_tree uses) (sym (v.rolls-Local n at m i w (Some x))) ∙ fold-roll-Stmt SeenBlock (Unit {0}) SeenKind Tree Piece SeenBlock (Unit {0}) Seen (Unit {0}) (Unit {0}) (Unit {0}) branch_step nothing (kind_step uses) (stmt_step uses) piece_step block_step nothing expr_step nothing nothing nothing (Stmt-F.Local n at m i w (Some x))

-- a local without a value
pub stmt_local_alone : (uses : ℕ → Named) (n : ℕ) (at : Span) (m : Bool) (i : Ident) (w : Option TypeRef) → stmt_tree uses (s.Local n at m i w None) ≡ local_tree (uses n) (named_there n at i.span) None
unfolding seen seen_kind stmt_tree seen_block seen_branch piece
stmt_local_alone uses n at m i w = ap (stmt_tree uses) (sym (v.rolls-Local n at m i w None)) ∙ fold-roll-Stmt SeenBlock (Unit {0}) SeenKind Tree Piece SeenBlock (Unit {0}) Seen (Unit {0}) (Unit {0}) (Unit {0}) branch_step nothing (kind_step uses) (stmt_step uses) piece_step block_step nothing expr_step nothing nothing nothing (Stmt-F.Local n at m i w None)

-- an assignment
pub stmt_assign : (uses : ℕ → Named) (n : ℕ) (at : Span) (t : Expr) (a : Assignment) (x : Expr) → stmt_tree uses (s.Assign n at t a (Some x)) ≡ assign_tree (uses n) n at (seen uses t).name a (Some (seen uses x))
unfolding seen seen_kind stmt_tree seen_block seen_branch piece
stmt_assign uses n at t a x = ap (stmt_tree uses) (sym (v.rolls-Assign n at t a (Some x))) ∙ fold-roll-Stmt SeenBlock (Unit {0}) SeenKind Tree Piece SeenBlock (Unit {0}) Seen (Unit {0}) (Unit {0}) (Unit {0}) branch_step nothing (kind_step uses) (stmt_step uses) piece_step block_step nothing expr_step nothing nothing nothing (Stmt-F.Assign n at t a (Some x))

-- `++` and `--`
pub stmt_assign_alone : (uses : ℕ → Named) (n : ℕ) (at : Span) (t : Expr) (a : Assignment) → stmt_tree uses (s.Assign n at t a None) ≡ assign_tree (uses n) n at (seen uses t).name a None
unfolding seen seen_kind stmt_tree seen_block seen_branch piece
stmt_assign_alone uses n at t a = ap (stmt_tree uses) (sym (v.rolls-Assign n at t a None)) ∙ fold-roll-Stmt SeenBlock (Unit {0}) SeenKind Tree Piece SeenBlock (Unit {0}) Seen (Unit {0}) (Unit {0}) (Unit {0}) branch_step nothing (kind_step uses) (stmt_step uses) piece_step block_step nothing expr_step nothing nothing nothing (Stmt-F.Assign n at t a None)

-- a loop
pub stmt_while : (uses : ℕ → Named) (n : ℕ) (at : Span) (c : Expr) (x : Branch) → stmt_tree uses (s.While n at c x) ≡ Shut' (whole n at)
unfolding seen seen_kind stmt_tree seen_block seen_branch piece
stmt_while uses n at c x = ap (stmt_tree uses) (sym (v.rolls-While n at c x)) ∙ fold-roll-Stmt SeenBlock (Unit {0}) SeenKind Tree Piece SeenBlock (Unit {0}) Seen (Unit {0}) (Unit {0}) (Unit {0}) branch_step nothing (kind_step uses) (stmt_step uses) piece_step block_step nothing expr_step nothing nothing nothing (Stmt-F.While n at c x)

-- a loop with its condition at its end
pub stmt_do_while : (uses : ℕ → Named) (n : ℕ) (at : Span) (x : Block) (c : Expr) → stmt_tree uses (s.DoWhile n at x c) ≡ Shut' (whole n at)
unfolding seen seen_kind stmt_tree seen_block seen_branch piece
stmt_do_while uses n at x c = ap (stmt_tree uses) (sym (v.rolls-DoWhile n at x c)) ∙ fold-roll-Stmt SeenBlock (Unit {0}) SeenKind Tree Piece SeenBlock (Unit {0}) Seen (Unit {0}) (Unit {0}) (Unit {0}) branch_step nothing (kind_step uses) (stmt_step uses) piece_step block_step nothing expr_step nothing nothing nothing (Stmt-F.DoWhile n at x c)

-- a loop over numbers
pub stmt_for : (uses : ℕ → Named) (n : ℕ) (at : Span) (i : Ident) (w : Option TypeRef) (l : Expr) (o : Progression) (h : Expr) (x : Branch) → stmt_tree uses (s.For n at i w l o h x) ≡ Shut' (whole n at)
unfolding seen seen_kind stmt_tree seen_block seen_branch piece
stmt_for uses n at i w l o h x = ap (stmt_tree uses) (sym (v.rolls-For n at i w l o h x)) ∙ fold-roll-Stmt SeenBlock (Unit {0}) SeenKind Tree Piece SeenBlock (Unit {0}) Seen (Unit {0}) (Unit {0}) (Unit {0}) branch_step nothing (kind_step uses) (stmt_step uses) piece_step block_step nothing expr_step nothing nothing nothing (Stmt-F.For n at i w l o h x)

-- a branch in braces
pub seen_braced : (uses : ℕ → Named) (x : Block) → seen_branch uses (b.Braced x) ≡ seen_block uses x
unfolding seen seen_kind stmt_tree seen_block seen_branch piece
seen_braced uses x = ap (seen_branch uses) (sym (v.rolls-Braced x)) ∙ fold-roll-Branch SeenBlock (Unit {0}) SeenKind Tree Piece SeenBlock (Unit {0}) Seen (Unit {0}) (Unit {0}) (Unit {0}) branch_step nothing (kind_step uses) (stmt_step uses) piece_step block_step nothing expr_step nothing nothing nothing (Branch-F.Braced x)

pub branch_braced : (uses : ℕ → Named) (x : Block) → branch_trees uses (b.Braced x) ≡ block_trees uses x
branch_braced uses x = ap (λ (s : SeenBlock). s.trees) (seen_braced uses x)

-- a branch that is one statement
pub seen_single : (uses : ℕ → Named) (x : Stmt) → seen_branch uses (b.Single x) ≡ record { braces = None; trees = First' (stmt_tree uses x) Empty' }
unfolding seen seen_kind stmt_tree seen_block seen_branch piece
seen_single uses x = ap (seen_branch uses) (sym (v.rolls-Single x)) ∙ fold-roll-Branch SeenBlock (Unit {0}) SeenKind Tree Piece SeenBlock (Unit {0}) Seen (Unit {0}) (Unit {0}) (Unit {0}) branch_step nothing (kind_step uses) (stmt_step uses) piece_step block_step nothing expr_step nothing nothing nothing (Branch-F.Single x)

pub branch_single : (uses : ℕ → Named) (x : Stmt) → branch_trees uses (b.Single x) ≡ First' (stmt_tree uses x) Empty'
branch_single uses x = ap (λ (s : SeenBlock). s.trees) (seen_single uses x)

-- a text of a string
pub piece_text : (uses : ℕ → Named) (bs : List ℕ) → piece uses (p.Text bs) ≡ Text' bs
unfolding seen seen_kind stmt_tree seen_block seen_branch piece
piece_text uses bs = ap (piece uses) (sym (v.rolls-Text bs)) ∙ fold-roll-StringPart SeenBlock (Unit {0}) SeenKind Tree Piece SeenBlock (Unit {0}) Seen (Unit {0}) (Unit {0}) (Unit {0}) branch_step nothing (kind_step uses) (stmt_step uses) piece_step block_step nothing expr_step nothing nothing nothing (StringPart-F.Text bs)

-- an inserted part of a string
pub piece_inserted : (uses : ℕ → Named) (x : Expr) → piece uses (p.Inserted x) ≡ Inserted' (expr_tree uses x)
unfolding seen seen_kind stmt_tree seen_block seen_branch piece
piece_inserted uses x = ap (piece uses) (sym (v.rolls-Inserted x)) ∙ fold-roll-StringPart SeenBlock (Unit {0}) SeenKind Tree Piece SeenBlock (Unit {0}) Seen (Unit {0}) (Unit {0}) (Unit {0}) branch_step nothing (kind_step uses) (stmt_step uses) piece_step block_step nothing expr_step nothing nothing nothing (StringPart-F.Inserted x)

-- a block, with its statements
pub seen_list : (uses : ℕ → Named) (x : Block) → seen_block uses x ≡ record { braces = Some (out-Block x).span; trees = listed (map (stmt_tree uses) (out-Block x).statements) }
unfolding seen seen_kind stmt_tree seen_block seen_branch piece
seen_list uses x = fold_out-Block SeenBlock (Unit {0}) SeenKind Tree Piece SeenBlock (Unit {0}) Seen (Unit {0}) (Unit {0}) (Unit {0}) branch_step nothing (kind_step uses) (stmt_step uses) piece_step block_step nothing expr_step nothing nothing nothing x

pub block_list : (uses : ℕ → Named) (x : Block) → block_trees uses x ≡ listed (map (stmt_tree uses) (out-Block x).statements)
block_list uses x = ap (λ (s : SeenBlock). s.trees) (seen_list uses x)

-- ---- whatever may not be written

-- `if`, with or without `else`
pub kind_if_any : (uses : ℕ → Named) (c : Expr) (x : Branch) (y : Option Branch) → seen_kind uses (e.If c x y) ≡ plain (λ n at. If' (whole n at) (if_braces uses x y) (expr_tree uses c) (branch_trees uses x) (otherwise (option_map (branch_trees uses) y)))
kind_if_any uses c x (Some y) = kind_if uses c x y
kind_if_any uses c x None = kind_if_alone uses c x

-- `return`, with or without a value
pub kind_return_any : (uses : ℕ → Named) (w : Option Expr) → seen_kind uses (e.Return None w) ≡ plain (λ n at. Return' (whole n at) (seen_optional (option_map (seen uses) w)))
kind_return_any uses (Some x) = kind_return uses x
kind_return_any uses None = kind_return_alone uses

-- `return@`, with or without a value
pub kind_return_at_any : (uses : ℕ → Named) (l : Ident) (w : Option Expr) → seen_kind uses (e.Return (Some l) w) ≡ shut
kind_return_at_any uses l (Some x) = kind_return_at uses l x
kind_return_at_any uses l None = kind_return_at_alone uses l

-- a local, with or without a value
pub stmt_local_any : (uses : ℕ → Named) (n : ℕ) (at : Span) (m : Bool) (i : Ident) (w : Option TypeRef) (x : Option Expr) → stmt_tree uses (s.Local n at m i w x) ≡ local_tree (uses n) (named_there n at i.span) (option_map (seen uses) x)
stmt_local_any uses n at m i w (Some x) = stmt_local uses n at m i w x
stmt_local_any uses n at m i w None = stmt_local_alone uses n at m i w

-- an assignment, with or without a value
pub stmt_assign_any : (uses : ℕ → Named) (n : ℕ) (at : Span) (t : Expr) (a : Assignment) (x : Option Expr) → stmt_tree uses (s.Assign n at t a x) ≡ assign_tree (uses n) n at (seen uses t).name a (option_map (seen uses) x)
stmt_assign_any uses n at t a (Some x) = stmt_assign uses n at t a x
stmt_assign_any uses n at t a None = stmt_assign_alone uses n at t a

-- ---- what is not open

abbrev Layer : Type 0
Layer = ExprKind-F Branch Condition ExprKind Stmt StringPart Block Catch Expr Lambda Subject WhenBranch

kind_other_at : (uses : ℕ → Named) (l : Layer) → ((k : ℕ) → v.roll-ExprKind l ≢ e.Int k) → ((t : Bool) → v.roll-ExprKind l ≢ e.Bool t) → (v.roll-ExprKind l ≢ e.Null) → ((x : ℕ) → v.roll-ExprKind l ≢ e.Name x) → ((ps : List StringPart) → v.roll-ExprKind l ≢ e.Template ps) → ((x : Expr) → v.roll-ExprKind l ≢ e.Paren x) → ((f : Ident) (xs : List Expr) (l' : Option Lambda) → v.roll-ExprKind l ≢ e.Call f xs l') → ((o : Sign) (x : Expr) → v.roll-ExprKind l ≢ e.Sign o x) → ((x : Expr) → v.roll-ExprKind l ≢ e.Not x) → ((x : Expr) (y : Expr) → v.roll-ExprKind l ≢ e.Sum x y) → ((o : Arithmetic) (x : Expr) (y : Expr) → v.roll-ExprKind l ≢ e.Arithmetic o x y) → ((o : Comparison) (x : Expr) (y : Expr) → v.roll-ExprKind l ≢ e.Compare o x y) → ((o : Equality) (x : Expr) (y : Expr) → v.roll-ExprKind l ≢ e.Equal o x y) → ((x : Expr) (y : Expr) → v.roll-ExprKind l ≢ e.And x y) → ((x : Expr) (y : Expr) → v.roll-ExprKind l ≢ e.Or x y) → ((c : Expr) (x : Branch) (y : Option Branch) → v.roll-ExprKind l ≢ e.If c x y) → ((l' : Option Ident) (w : Option Expr) → v.roll-ExprKind l ≢ e.Return l' w) → ((x : Expr) → v.roll-ExprKind l ≢ e.Throw x) → seen_kind uses (v.roll-ExprKind l) ≡ shut
unfolding seen seen_kind stmt_tree seen_block seen_branch piece
kind_other_at uses (ExprKind-F.Int k) h0 h1 h2 h3 h4 h5 h6 h7 h8 h9 h10 h11 h12 h13 h14 h15 h16 h17 = absurd (h0 k (v.rolls-Int k))
kind_other_at uses (ExprKind-F.Bool t) h0 h1 h2 h3 h4 h5 h6 h7 h8 h9 h10 h11 h12 h13 h14 h15 h16 h17 = absurd (h1 t (v.rolls-Bool t))
kind_other_at uses ExprKind-F.Null h0 h1 h2 h3 h4 h5 h6 h7 h8 h9 h10 h11 h12 h13 h14 h15 h16 h17 = absurd (h2 v.rolls-Null)
kind_other_at uses (ExprKind-F.Name x) h0 h1 h2 h3 h4 h5 h6 h7 h8 h9 h10 h11 h12 h13 h14 h15 h16 h17 = absurd (h3 x (v.rolls-Name x))
kind_other_at uses (ExprKind-F.Template ps) h0 h1 h2 h3 h4 h5 h6 h7 h8 h9 h10 h11 h12 h13 h14 h15 h16 h17 = absurd (h4 ps (v.rolls-Template ps))
kind_other_at uses (ExprKind-F.Paren x) h0 h1 h2 h3 h4 h5 h6 h7 h8 h9 h10 h11 h12 h13 h14 h15 h16 h17 = absurd (h5 x (v.rolls-Paren x))
kind_other_at uses (ExprKind-F.Call f xs l) h0 h1 h2 h3 h4 h5 h6 h7 h8 h9 h10 h11 h12 h13 h14 h15 h16 h17 = absurd (h6 f xs l (v.rolls-Call f xs l))
kind_other_at uses (ExprKind-F.Sign o x) h0 h1 h2 h3 h4 h5 h6 h7 h8 h9 h10 h11 h12 h13 h14 h15 h16 h17 = absurd (h7 o x (v.rolls-Sign o x))
kind_other_at uses (ExprKind-F.Not x) h0 h1 h2 h3 h4 h5 h6 h7 h8 h9 h10 h11 h12 h13 h14 h15 h16 h17 = absurd (h8 x (v.rolls-Not x))
kind_other_at uses (ExprKind-F.Sum x y) h0 h1 h2 h3 h4 h5 h6 h7 h8 h9 h10 h11 h12 h13 h14 h15 h16 h17 = absurd (h9 x y (v.rolls-Sum x y))
kind_other_at uses (ExprKind-F.Arithmetic o x y) h0 h1 h2 h3 h4 h5 h6 h7 h8 h9 h10 h11 h12 h13 h14 h15 h16 h17 = absurd (h10 o x y (v.rolls-Arithmetic o x y))
kind_other_at uses (ExprKind-F.Compare o x y) h0 h1 h2 h3 h4 h5 h6 h7 h8 h9 h10 h11 h12 h13 h14 h15 h16 h17 = absurd (h11 o x y (v.rolls-Compare o x y))
kind_other_at uses (ExprKind-F.Equal o x y) h0 h1 h2 h3 h4 h5 h6 h7 h8 h9 h10 h11 h12 h13 h14 h15 h16 h17 = absurd (h12 o x y (v.rolls-Equal o x y))
kind_other_at uses (ExprKind-F.And x y) h0 h1 h2 h3 h4 h5 h6 h7 h8 h9 h10 h11 h12 h13 h14 h15 h16 h17 = absurd (h13 x y (v.rolls-And x y))
kind_other_at uses (ExprKind-F.Or x y) h0 h1 h2 h3 h4 h5 h6 h7 h8 h9 h10 h11 h12 h13 h14 h15 h16 h17 = absurd (h14 x y (v.rolls-Or x y))
kind_other_at uses (ExprKind-F.If c x y) h0 h1 h2 h3 h4 h5 h6 h7 h8 h9 h10 h11 h12 h13 h14 h15 h16 h17 = absurd (h15 c x y (v.rolls-If c x y))
kind_other_at uses (ExprKind-F.Return l w) h0 h1 h2 h3 h4 h5 h6 h7 h8 h9 h10 h11 h12 h13 h14 h15 h16 h17 = absurd (h16 l w (v.rolls-Return l w))
kind_other_at uses (ExprKind-F.Throw x) h0 h1 h2 h3 h4 h5 h6 h7 h8 h9 h10 h11 h12 h13 h14 h15 h16 h17 = absurd (h17 x (v.rolls-Throw x))
kind_other_at uses l h0 h1 h2 h3 h4 h5 h6 h7 h8 h9 h10 h11 h12 h13 h14 h15 h16 h17 = fold-roll-ExprKind SeenBlock (Unit {0}) SeenKind Tree Piece SeenBlock (Unit {0}) Seen (Unit {0}) (Unit {0}) (Unit {0}) branch_step nothing (kind_step uses) (stmt_step uses) piece_step block_step nothing expr_step nothing nothing nothing l

-- a kind that is none of the open ones
pub kind_other : (uses : ℕ → Named) (k' : ExprKind) → ((k : ℕ) → k' ≢ e.Int k) → ((t : Bool) → k' ≢ e.Bool t) → (k' ≢ e.Null) → ((x : ℕ) → k' ≢ e.Name x) → ((ps : List StringPart) → k' ≢ e.Template ps) → ((x : Expr) → k' ≢ e.Paren x) → ((f : Ident) (xs : List Expr) (l : Option Lambda) → k' ≢ e.Call f xs l) → ((o : Sign) (x : Expr) → k' ≢ e.Sign o x) → ((x : Expr) → k' ≢ e.Not x) → ((x : Expr) (y : Expr) → k' ≢ e.Sum x y) → ((o : Arithmetic) (x : Expr) (y : Expr) → k' ≢ e.Arithmetic o x y) → ((o : Comparison) (x : Expr) (y : Expr) → k' ≢ e.Compare o x y) → ((o : Equality) (x : Expr) (y : Expr) → k' ≢ e.Equal o x y) → ((x : Expr) (y : Expr) → k' ≢ e.And x y) → ((x : Expr) (y : Expr) → k' ≢ e.Or x y) → ((c : Expr) (x : Branch) (y : Option Branch) → k' ≢ e.If c x y) → ((l : Option Ident) (w : Option Expr) → k' ≢ e.Return l w) → ((x : Expr) → k' ≢ e.Throw x) → seen_kind uses k' ≡ shut
kind_other uses k' h0 h1 h2 h3 h4 h5 h6 h7 h8 h9 h10 h11 h12 h13 h14 h15 h16 h17 =
    subst (λ j. seen_kind uses j ≡ shut) (v.roll-out-ExprKind k') (kind_other_at uses (v.out-ExprKind k')
    (λ k. subst (λ j. j ≢ e.Int k) (sym (v.roll-out-ExprKind k')) (h0 k))
    (λ t. subst (λ j. j ≢ e.Bool t) (sym (v.roll-out-ExprKind k')) (h1 t))
    (subst (λ j. j ≢ e.Null) (sym (v.roll-out-ExprKind k')) h2)
    (λ x. subst (λ j. j ≢ e.Name x) (sym (v.roll-out-ExprKind k')) (h3 x))
    (λ ps. subst (λ j. j ≢ e.Template ps) (sym (v.roll-out-ExprKind k')) (h4 ps))
    (λ x. subst (λ j. j ≢ e.Paren x) (sym (v.roll-out-ExprKind k')) (h5 x))
    (λ f xs l. subst (λ j. j ≢ e.Call f xs l) (sym (v.roll-out-ExprKind k')) (h6 f xs l))
    (λ o x. subst (λ j. j ≢ e.Sign o x) (sym (v.roll-out-ExprKind k')) (h7 o x))
    (λ x. subst (λ j. j ≢ e.Not x) (sym (v.roll-out-ExprKind k')) (h8 x))
    (λ x y. subst (λ j. j ≢ e.Sum x y) (sym (v.roll-out-ExprKind k')) (h9 x y))
    (λ o x y. subst (λ j. j ≢ e.Arithmetic o x y) (sym (v.roll-out-ExprKind k')) (h10 o x y))
    (λ o x y. subst (λ j. j ≢ e.Compare o x y) (sym (v.roll-out-ExprKind k')) (h11 o x y))
    (λ o x y. subst (λ j. j ≢ e.Equal o x y) (sym (v.roll-out-ExprKind k')) (h12 o x y))
    (λ x y. subst (λ j. j ≢ e.And x y) (sym (v.roll-out-ExprKind k')) (h13 x y))
    (λ x y. subst (λ j. j ≢ e.Or x y) (sym (v.roll-out-ExprKind k')) (h14 x y))
    (λ c x y. subst (λ j. j ≢ e.If c x y) (sym (v.roll-out-ExprKind k')) (h15 c x y))
    (λ l w. subst (λ j. j ≢ e.Return l w) (sym (v.roll-out-ExprKind k')) (h16 l w))
    (λ x. subst (λ j. j ≢ e.Throw x) (sym (v.roll-out-ExprKind k')) (h17 x)))

not_name_at : (uses : ℕ → Named) (l : Layer) → ((x : ℕ) → v.roll-ExprKind l ≢ e.Name x) → (seen_kind uses (v.roll-ExprKind l)).is_name ≡ false
unfolding seen seen_kind stmt_tree seen_block seen_branch piece
not_name_at uses (ExprKind-F.Name x) h = absurd (h x (v.rolls-Name x))
not_name_at uses (ExprKind-F.Call f xs None) h = ap (λ (g : SeenKind). g.is_name) (fold-roll-ExprKind SeenBlock (Unit {0}) SeenKind Tree Piece SeenBlock (Unit {0}) Seen (Unit {0}) (Unit {0}) (Unit {0}) branch_step nothing (kind_step uses) (stmt_step uses) piece_step block_step nothing expr_step nothing nothing nothing (ExprKind-F.Call f xs None))
not_name_at uses (ExprKind-F.Call f xs (Some l)) h = ap (λ (g : SeenKind). g.is_name) (fold-roll-ExprKind SeenBlock (Unit {0}) SeenKind Tree Piece SeenBlock (Unit {0}) Seen (Unit {0}) (Unit {0}) (Unit {0}) branch_step nothing (kind_step uses) (stmt_step uses) piece_step block_step nothing expr_step nothing nothing nothing (ExprKind-F.Call f xs (Some l)))
not_name_at uses (ExprKind-F.Return None w) h = ap (λ (g : SeenKind). g.is_name) (fold-roll-ExprKind SeenBlock (Unit {0}) SeenKind Tree Piece SeenBlock (Unit {0}) Seen (Unit {0}) (Unit {0}) (Unit {0}) branch_step nothing (kind_step uses) (stmt_step uses) piece_step block_step nothing expr_step nothing nothing nothing (ExprKind-F.Return None w))
not_name_at uses (ExprKind-F.Return (Some l) w) h = ap (λ (g : SeenKind). g.is_name) (fold-roll-ExprKind SeenBlock (Unit {0}) SeenKind Tree Piece SeenBlock (Unit {0}) Seen (Unit {0}) (Unit {0}) (Unit {0}) branch_step nothing (kind_step uses) (stmt_step uses) piece_step block_step nothing expr_step nothing nothing nothing (ExprKind-F.Return (Some l) w))
not_name_at uses l h = ap (λ (g : SeenKind). g.is_name) (fold-roll-ExprKind SeenBlock (Unit {0}) SeenKind Tree Piece SeenBlock (Unit {0}) Seen (Unit {0}) (Unit {0}) (Unit {0}) branch_step nothing (kind_step uses) (stmt_step uses) piece_step block_step nothing expr_step nothing nothing nothing l)

-- an expression that is no name alone
pub not_name : (uses : ℕ → Named) (x : Expr) → ((y : ℕ) → x.kind ≢ e.Name y) → (seen uses x).name ≡ None
not_name uses x h =
    name_of_kind uses x x.kind (seen_kind uses x.kind) refl refl
    ∙ ap (λ b. name_span b x.span) (subst (λ j. (seen_kind uses j).is_name ≡ false) (v.roll-out-ExprKind x.kind) (not_name_at uses (v.out-ExprKind x.kind) (λ y. subst (λ j. j ≢ e.Name y) (sym (v.roll-out-ExprKind x.kind)) (h y))))
