-- What the height of each tree is, by its parts.
use Rattle.std.proofs.Common.{◌≡◌, ◌≢◌, ℕ, Bool, true, false, max, List, [], ◌∷◌, map, Option, Some, None, option_map, refl, sym, ap, ◌∙◌, subst}
use Rattle.kt_tree.specs.declared.token.Span.{Span}
use Rattle.kt_tree.specs.declared.ast.part.Ident.{Ident}
use Rattle.kt_tree.specs.declared.ast.part.TypeRef.{TypeRef}
use Rattle.kt_tree.specs.declared.ast.part.Access.{Access}
use Rattle.kt_tree.specs.declared.ast.part.Sign.{Sign}
use Rattle.kt_tree.specs.declared.ast.part.Arithmetic.{Arithmetic}
use Rattle.kt_tree.specs.declared.ast.part.Comparison.{Comparison}
use Rattle.kt_tree.specs.declared.ast.part.Equality.{Equality}
use Rattle.kt_tree.specs.declared.ast.part.Assignment.{Assignment}
use Rattle.kt_tree.specs.declared.ast.part.Progression.{Progression}
use Rattle.kt_tree.specs.declared.ast.body.Expr.{Expr}
use Rattle.kt_tree.specs.declared.ast.body.ExprKind.{ExprKind}
use Rattle.kt_tree.specs.declared.ast.body.ExprKind.TheVariants as e
use Rattle.kt_tree.specs.declared.ast.body.Stmt.{Stmt}
use Rattle.kt_tree.specs.declared.ast.body.Stmt.TheVariants as s
use Rattle.kt_tree.specs.declared.ast.body.Block.{Block, out-Block}
use Rattle.kt_tree.specs.declared.ast.body.Branch.{Branch}
use Rattle.kt_tree.specs.declared.ast.body.Branch.TheVariants as b
use Rattle.kt_tree.specs.declared.ast.body.Condition.{Condition}
use Rattle.kt_tree.specs.declared.ast.body.Condition.TheVariants as c
use Rattle.kt_tree.specs.declared.ast.body.Catch.{Catch, out-Catch}
use Rattle.kt_tree.specs.declared.ast.body.Lambda.{Lambda, out-Lambda}
use Rattle.kt_tree.specs.declared.ast.body.Subject.{Subject}
use Rattle.kt_tree.specs.declared.ast.body.WhenBranch.{WhenBranch, out-WhenBranch}
use Rattle.kt_tree.specs.declared.ast.body.StringPart.{StringPart}
use Rattle.kt_tree.specs.declared.ast.body.StringPart.TheVariants as p
use Rattle.kt_tree.specs.declared.ast.body.Branch.TheOpen.{Branch-F, Condition-F, ExprKind-F, Stmt-F, StringPart-F}
use Rattle.kt_tree.specs.declared.ast.body.Branch.TheViews as v
use Rattle.kt_tree.specs.declared.ast.body.Branch.TheFolds.{fold_out-Block, fold_out-Catch, fold_out-Lambda, fold-roll-Expr, fold-roll-Subject, fold-roll-WhenBranch, fold-roll-ExprKind, fold-roll-Stmt, fold-roll-Branch, fold-roll-Condition, fold-roll-StringPart}
use Rattle.kt_tree.specs.Derives.{grown}
use Rattle.kt_height.specs.Height.{Parts, whole, on_left, is_dot, greatest, height_if, branch_step, condition_step, kind_step, stmt_step, piece_step, block_step, catch_step, expr_step, lambda_step, subject_step, when_branch_step, expr_parts, kind_parts, stmt_height, lambda_height, block_height, branch_height, piece_height, condition_height, catch_height, subject_height, when_branch_height, expr_height}

map_whole : (xs : List Expr) → map whole (map expr_parts xs) ≡ map expr_height xs
unfolding expr_height
map_whole [] = refl
map_whole (x ∷ xs) = ap (λ rest. expr_height x ∷ rest) (map_whole xs)

pub kind_int : (k : ℕ) → (kind_parts (e.Int k)).height ≡ 0
unfolding expr_parts kind_parts stmt_height lambda_height block_height branch_height piece_height condition_height catch_height subject_height when_branch_height expr_height
kind_int k = ap (λ (k : Parts). k.height) (ap kind_parts (sym (v.rolls-Int k)) ∙ fold-roll-ExprKind ℕ ℕ Parts ℕ ℕ ℕ ℕ Parts ℕ ℕ ℕ branch_step condition_step kind_step stmt_step piece_step block_step catch_step expr_step lambda_step subject_step when_branch_step (ExprKind-F.Int k))

pub kind_bool : (t : Bool) → (kind_parts (e.Bool t)).height ≡ 0
unfolding expr_parts kind_parts stmt_height lambda_height block_height branch_height piece_height condition_height catch_height subject_height when_branch_height expr_height
kind_bool t = ap (λ (k : Parts). k.height) (ap kind_parts (sym (v.rolls-Bool t)) ∙ fold-roll-ExprKind ℕ ℕ Parts ℕ ℕ ℕ ℕ Parts ℕ ℕ ℕ branch_step condition_step kind_step stmt_step piece_step block_step catch_step expr_step lambda_step subject_step when_branch_step (ExprKind-F.Bool t))

pub kind_null : (kind_parts e.Null).height ≡ 0
unfolding expr_parts kind_parts stmt_height lambda_height block_height branch_height piece_height condition_height catch_height subject_height when_branch_height expr_height
kind_null = ap (λ (k : Parts). k.height) (ap kind_parts (sym v.rolls-Null) ∙ fold-roll-ExprKind ℕ ℕ Parts ℕ ℕ ℕ ℕ Parts ℕ ℕ ℕ branch_step condition_step kind_step stmt_step piece_step block_step catch_step expr_step lambda_step subject_step when_branch_step ExprKind-F.Null)

pub kind_this : (kind_parts e.This).height ≡ 0
unfolding expr_parts kind_parts stmt_height lambda_height block_height branch_height piece_height condition_height catch_height subject_height when_branch_height expr_height
kind_this = ap (λ (k : Parts). k.height) (ap kind_parts (sym v.rolls-This) ∙ fold-roll-ExprKind ℕ ℕ Parts ℕ ℕ ℕ ℕ Parts ℕ ℕ ℕ branch_step condition_step kind_step stmt_step piece_step block_step catch_step expr_step lambda_step subject_step when_branch_step ExprKind-F.This)

pub kind_name : (x : ℕ) → (kind_parts (e.Name x)).height ≡ 0
unfolding expr_parts kind_parts stmt_height lambda_height block_height branch_height piece_height condition_height catch_height subject_height when_branch_height expr_height
kind_name x = ap (λ (k : Parts). k.height) (ap kind_parts (sym (v.rolls-Name x)) ∙ fold-roll-ExprKind ℕ ℕ Parts ℕ ℕ ℕ ℕ Parts ℕ ℕ ℕ branch_step condition_step kind_step stmt_step piece_step block_step catch_step expr_step lambda_step subject_step when_branch_step (ExprKind-F.Name x))

pub kind_break : (kind_parts e.Break).height ≡ 0
unfolding expr_parts kind_parts stmt_height lambda_height block_height branch_height piece_height condition_height catch_height subject_height when_branch_height expr_height
kind_break = ap (λ (k : Parts). k.height) (ap kind_parts (sym v.rolls-Break) ∙ fold-roll-ExprKind ℕ ℕ Parts ℕ ℕ ℕ ℕ Parts ℕ ℕ ℕ branch_step condition_step kind_step stmt_step piece_step block_step catch_step expr_step lambda_step subject_step when_branch_step ExprKind-F.Break)

pub kind_continue : (kind_parts e.Continue).height ≡ 0
unfolding expr_parts kind_parts stmt_height lambda_height block_height branch_height piece_height condition_height catch_height subject_height when_branch_height expr_height
kind_continue = ap (λ (k : Parts). k.height) (ap kind_parts (sym v.rolls-Continue) ∙ fold-roll-ExprKind ℕ ℕ Parts ℕ ℕ ℕ ℕ Parts ℕ ℕ ℕ branch_step condition_step kind_step stmt_step piece_step block_step catch_step expr_step lambda_step subject_step when_branch_step ExprKind-F.Continue)

pub kind_template : (ps : List StringPart) → (kind_parts (e.Template ps)).height ≡ greatest (map piece_height ps)
unfolding expr_parts kind_parts stmt_height lambda_height block_height branch_height piece_height condition_height catch_height subject_height when_branch_height expr_height
kind_template ps = ap (λ (k : Parts). k.height) (ap kind_parts (sym (v.rolls-Template ps)) ∙ fold-roll-ExprKind ℕ ℕ Parts ℕ ℕ ℕ ℕ Parts ℕ ℕ ℕ branch_step condition_step kind_step stmt_step piece_step block_step catch_step expr_step lambda_step subject_step when_branch_step (ExprKind-F.Template ps))

pub kind_paren : (x : Expr) → (kind_parts (e.Paren x)).height ≡ expr_height x
unfolding expr_parts kind_parts stmt_height lambda_height block_height branch_height piece_height condition_height catch_height subject_height when_branch_height expr_height
kind_paren x = ap (λ (k : Parts). k.height) (ap kind_parts (sym (v.rolls-Paren x)) ∙ fold-roll-ExprKind ℕ ℕ Parts ℕ ℕ ℕ ℕ Parts ℕ ℕ ℕ branch_step condition_step kind_step stmt_step piece_step block_step catch_step expr_step lambda_step subject_step when_branch_step (ExprKind-F.Paren x))

pub kind_not_null : (x : Expr) → (kind_parts (e.NotNull x)).height ≡ expr_height x
unfolding expr_parts kind_parts stmt_height lambda_height block_height branch_height piece_height condition_height catch_height subject_height when_branch_height expr_height
kind_not_null x = ap (λ (k : Parts). k.height) (ap kind_parts (sym (v.rolls-NotNull x)) ∙ fold-roll-ExprKind ℕ ℕ Parts ℕ ℕ ℕ ℕ Parts ℕ ℕ ℕ branch_step condition_step kind_step stmt_step piece_step block_step catch_step expr_step lambda_step subject_step when_branch_step (ExprKind-F.NotNull x))

pub kind_not : (x : Expr) → (kind_parts (e.Not x)).height ≡ expr_height x
unfolding expr_parts kind_parts stmt_height lambda_height block_height branch_height piece_height condition_height catch_height subject_height when_branch_height expr_height
kind_not x = ap (λ (k : Parts). k.height) (ap kind_parts (sym (v.rolls-Not x)) ∙ fold-roll-ExprKind ℕ ℕ Parts ℕ ℕ ℕ ℕ Parts ℕ ℕ ℕ branch_step condition_step kind_step stmt_step piece_step block_step catch_step expr_step lambda_step subject_step when_branch_step (ExprKind-F.Not x))

pub kind_throw : (x : Expr) → (kind_parts (e.Throw x)).height ≡ expr_height x
unfolding expr_parts kind_parts stmt_height lambda_height block_height branch_height piece_height condition_height catch_height subject_height when_branch_height expr_height
kind_throw x = ap (λ (k : Parts). k.height) (ap kind_parts (sym (v.rolls-Throw x)) ∙ fold-roll-ExprKind ℕ ℕ Parts ℕ ℕ ℕ ℕ Parts ℕ ℕ ℕ branch_step condition_step kind_step stmt_step piece_step block_step catch_step expr_step lambda_step subject_step when_branch_step (ExprKind-F.Throw x))

pub kind_sign : (o : Sign) (x : Expr) → (kind_parts (e.Sign o x)).height ≡ expr_height x
unfolding expr_parts kind_parts stmt_height lambda_height block_height branch_height piece_height condition_height catch_height subject_height when_branch_height expr_height
kind_sign o x = ap (λ (k : Parts). k.height) (ap kind_parts (sym (v.rolls-Sign o x)) ∙ fold-roll-ExprKind ℕ ℕ Parts ℕ ℕ ℕ ℕ Parts ℕ ℕ ℕ branch_step condition_step kind_step stmt_step piece_step block_step catch_step expr_step lambda_step subject_step when_branch_step (ExprKind-F.Sign o x))

pub kind_as : (x : Expr) (w : TypeRef) → (kind_parts (e.As x w)).height ≡ expr_height x
unfolding expr_parts kind_parts stmt_height lambda_height block_height branch_height piece_height condition_height catch_height subject_height when_branch_height expr_height
kind_as x w = ap (λ (k : Parts). k.height) (ap kind_parts (sym (v.rolls-As x w)) ∙ fold-roll-ExprKind ℕ ℕ Parts ℕ ℕ ℕ ℕ Parts ℕ ℕ ℕ branch_step condition_step kind_step stmt_step piece_step block_step catch_step expr_step lambda_step subject_step when_branch_step (ExprKind-F.As x w))

pub kind_as_safe : (x : Expr) (w : TypeRef) → (kind_parts (e.AsSafe x w)).height ≡ expr_height x
unfolding expr_parts kind_parts stmt_height lambda_height block_height branch_height piece_height condition_height catch_height subject_height when_branch_height expr_height
kind_as_safe x w = ap (λ (k : Parts). k.height) (ap kind_parts (sym (v.rolls-AsSafe x w)) ∙ fold-roll-ExprKind ℕ ℕ Parts ℕ ℕ ℕ ℕ Parts ℕ ℕ ℕ branch_step condition_step kind_step stmt_step piece_step block_step catch_step expr_step lambda_step subject_step when_branch_step (ExprKind-F.AsSafe x w))

pub kind_is : (x : Expr) (w : TypeRef) → (kind_parts (e.Is x w)).height ≡ expr_height x
unfolding expr_parts kind_parts stmt_height lambda_height block_height branch_height piece_height condition_height catch_height subject_height when_branch_height expr_height
kind_is x w = ap (λ (k : Parts). k.height) (ap kind_parts (sym (v.«rolls-ExprKind::Is» x w)) ∙ fold-roll-ExprKind ℕ ℕ Parts ℕ ℕ ℕ ℕ Parts ℕ ℕ ℕ branch_step condition_step kind_step stmt_step piece_step block_step catch_step expr_step lambda_step subject_step when_branch_step (ExprKind-F.«ExprKind::Is» x w))

pub kind_is_not : (x : Expr) (w : TypeRef) → (kind_parts (e.IsNot x w)).height ≡ expr_height x
unfolding expr_parts kind_parts stmt_height lambda_height block_height branch_height piece_height condition_height catch_height subject_height when_branch_height expr_height
kind_is_not x w = ap (λ (k : Parts). k.height) (ap kind_parts (sym (v.«rolls-ExprKind::IsNot» x w)) ∙ fold-roll-ExprKind ℕ ℕ Parts ℕ ℕ ℕ ℕ Parts ℕ ℕ ℕ branch_step condition_step kind_step stmt_step piece_step block_step catch_step expr_step lambda_step subject_step when_branch_step (ExprKind-F.«ExprKind::IsNot» x w))

pub kind_member : (x : Expr) (a : Access) (m : Ident) → (kind_parts (e.Member x a m)).height ≡ expr_height x
unfolding expr_parts kind_parts stmt_height lambda_height block_height branch_height piece_height condition_height catch_height subject_height when_branch_height expr_height
kind_member x a m = ap (λ (k : Parts). k.height) (ap kind_parts (sym (v.rolls-Member x a m)) ∙ fold-roll-ExprKind ℕ ℕ Parts ℕ ℕ ℕ ℕ Parts ℕ ℕ ℕ branch_step condition_step kind_step stmt_step piece_step block_step catch_step expr_step lambda_step subject_step when_branch_step (ExprKind-F.Member x a m))

pub kind_sum : (x y : Expr) → (kind_parts (e.Sum x y)).height ≡ max (expr_height x) (expr_height y)
unfolding expr_parts kind_parts stmt_height lambda_height block_height branch_height piece_height condition_height catch_height subject_height when_branch_height expr_height
kind_sum x y = ap (λ (k : Parts). k.height) (ap kind_parts (sym (v.rolls-Sum x y)) ∙ fold-roll-ExprKind ℕ ℕ Parts ℕ ℕ ℕ ℕ Parts ℕ ℕ ℕ branch_step condition_step kind_step stmt_step piece_step block_step catch_step expr_step lambda_step subject_step when_branch_step (ExprKind-F.Sum x y))

pub kind_and : (x y : Expr) → (kind_parts (e.And x y)).height ≡ max (expr_height x) (expr_height y)
unfolding expr_parts kind_parts stmt_height lambda_height block_height branch_height piece_height condition_height catch_height subject_height when_branch_height expr_height
kind_and x y = ap (λ (k : Parts). k.height) (ap kind_parts (sym (v.rolls-And x y)) ∙ fold-roll-ExprKind ℕ ℕ Parts ℕ ℕ ℕ ℕ Parts ℕ ℕ ℕ branch_step condition_step kind_step stmt_step piece_step block_step catch_step expr_step lambda_step subject_step when_branch_step (ExprKind-F.And x y))

pub kind_or : (x y : Expr) → (kind_parts (e.Or x y)).height ≡ max (expr_height x) (expr_height y)
unfolding expr_parts kind_parts stmt_height lambda_height block_height branch_height piece_height condition_height catch_height subject_height when_branch_height expr_height
kind_or x y = ap (λ (k : Parts). k.height) (ap kind_parts (sym (v.rolls-Or x y)) ∙ fold-roll-ExprKind ℕ ℕ Parts ℕ ℕ ℕ ℕ Parts ℕ ℕ ℕ branch_step condition_step kind_step stmt_step piece_step block_step catch_step expr_step lambda_step subject_step when_branch_step (ExprKind-F.Or x y))

pub kind_elvis : (x y : Expr) → (kind_parts (e.Elvis x y)).height ≡ max (expr_height x) (expr_height y)
unfolding expr_parts kind_parts stmt_height lambda_height block_height branch_height piece_height condition_height catch_height subject_height when_branch_height expr_height
kind_elvis x y = ap (λ (k : Parts). k.height) (ap kind_parts (sym (v.rolls-Elvis x y)) ∙ fold-roll-ExprKind ℕ ℕ Parts ℕ ℕ ℕ ℕ Parts ℕ ℕ ℕ branch_step condition_step kind_step stmt_step piece_step block_step catch_step expr_step lambda_step subject_step when_branch_step (ExprKind-F.Elvis x y))

pub kind_arithmetic : (o : Arithmetic) (x y : Expr) → (kind_parts (e.Arithmetic o x y)).height ≡ max (expr_height x) (expr_height y)
unfolding expr_parts kind_parts stmt_height lambda_height block_height branch_height piece_height condition_height catch_height subject_height when_branch_height expr_height
kind_arithmetic o x y = ap (λ (k : Parts). k.height) (ap kind_parts (sym (v.rolls-Arithmetic o x y)) ∙ fold-roll-ExprKind ℕ ℕ Parts ℕ ℕ ℕ ℕ Parts ℕ ℕ ℕ branch_step condition_step kind_step stmt_step piece_step block_step catch_step expr_step lambda_step subject_step when_branch_step (ExprKind-F.Arithmetic o x y))

pub kind_compare : (o : Comparison) (x y : Expr) → (kind_parts (e.Compare o x y)).height ≡ max (expr_height x) (expr_height y)
unfolding expr_parts kind_parts stmt_height lambda_height block_height branch_height piece_height condition_height catch_height subject_height when_branch_height expr_height
kind_compare o x y = ap (λ (k : Parts). k.height) (ap kind_parts (sym (v.rolls-Compare o x y)) ∙ fold-roll-ExprKind ℕ ℕ Parts ℕ ℕ ℕ ℕ Parts ℕ ℕ ℕ branch_step condition_step kind_step stmt_step piece_step block_step catch_step expr_step lambda_step subject_step when_branch_step (ExprKind-F.Compare o x y))

pub kind_equal : (o : Equality) (x y : Expr) → (kind_parts (e.Equal o x y)).height ≡ max (expr_height x) (expr_height y)
unfolding expr_parts kind_parts stmt_height lambda_height block_height branch_height piece_height condition_height catch_height subject_height when_branch_height expr_height
kind_equal o x y = ap (λ (k : Parts). k.height) (ap kind_parts (sym (v.rolls-Equal o x y)) ∙ fold-roll-ExprKind ℕ ℕ Parts ℕ ℕ ℕ ℕ Parts ℕ ℕ ℕ branch_step condition_step kind_step stmt_step piece_step block_step catch_step expr_step lambda_step subject_step when_branch_step (ExprKind-F.Equal o x y))

pub kind_call : (f : Ident) (xs : List Expr) (l : Option Lambda) → (kind_parts (e.Call f xs l)).height ≡ max (greatest (map expr_height xs)) (height_if (option_map lambda_height l))
unfolding expr_parts kind_parts stmt_height lambda_height block_height branch_height piece_height condition_height catch_height subject_height when_branch_height expr_height
kind_call f xs (Some l) = ap (λ (k : Parts). k.height) (ap kind_parts (sym (v.rolls-Call f xs (Some l))) ∙ fold-roll-ExprKind ℕ ℕ Parts ℕ ℕ ℕ ℕ Parts ℕ ℕ ℕ branch_step condition_step kind_step stmt_step piece_step block_step catch_step expr_step lambda_step subject_step when_branch_step (ExprKind-F.Call f xs (Some l))) ∙ ap (λ hs. max (greatest hs) (height_if (option_map lambda_height (Some l)))) (map_whole xs)
kind_call f xs None = ap (λ (k : Parts). k.height) (ap kind_parts (sym (v.rolls-Call f xs None)) ∙ fold-roll-ExprKind ℕ ℕ Parts ℕ ℕ ℕ ℕ Parts ℕ ℕ ℕ branch_step condition_step kind_step stmt_step piece_step block_step catch_step expr_step lambda_step subject_step when_branch_step (ExprKind-F.Call f xs None)) ∙ ap (λ hs. max (greatest hs) 0) (map_whole xs)

pub kind_member_call : (x : Expr) (a : Access) (m : Ident) (xs : List Expr) → (kind_parts (e.MemberCall x a m xs)).height ≡ max (expr_height x) (greatest (map expr_height xs))
unfolding expr_parts kind_parts stmt_height lambda_height block_height branch_height piece_height condition_height catch_height subject_height when_branch_height expr_height
kind_member_call x a m xs = ap (λ (k : Parts). k.height) (ap kind_parts (sym (v.rolls-MemberCall x a m xs)) ∙ fold-roll-ExprKind ℕ ℕ Parts ℕ ℕ ℕ ℕ Parts ℕ ℕ ℕ branch_step condition_step kind_step stmt_step piece_step block_step catch_step expr_step lambda_step subject_step when_branch_step (ExprKind-F.MemberCall x a m xs)) ∙ ap (λ hs. max (expr_height x) (greatest hs)) (map_whole xs)

pub kind_if : (x : Expr) (y : Branch) (z : Option Branch) → (kind_parts (e.If x y z)).height ≡ max (max (expr_height x) (branch_height y)) (height_if (option_map branch_height z))
unfolding expr_parts kind_parts stmt_height lambda_height block_height branch_height piece_height condition_height catch_height subject_height when_branch_height expr_height
kind_if x y (Some z) = ap (λ (k : Parts). k.height) (ap kind_parts (sym (v.rolls-If x y (Some z))) ∙ fold-roll-ExprKind ℕ ℕ Parts ℕ ℕ ℕ ℕ Parts ℕ ℕ ℕ branch_step condition_step kind_step stmt_step piece_step block_step catch_step expr_step lambda_step subject_step when_branch_step (ExprKind-F.If x y (Some z)))
kind_if x y None = ap (λ (k : Parts). k.height) (ap kind_parts (sym (v.rolls-If x y None)) ∙ fold-roll-ExprKind ℕ ℕ Parts ℕ ℕ ℕ ℕ Parts ℕ ℕ ℕ branch_step condition_step kind_step stmt_step piece_step block_step catch_step expr_step lambda_step subject_step when_branch_step (ExprKind-F.If x y None))

pub kind_when : (x : Option Subject) (ws : List WhenBranch) → (kind_parts (e.When x ws)).height ≡ max (height_if (option_map subject_height x)) (greatest (map when_branch_height ws))
unfolding expr_parts kind_parts stmt_height lambda_height block_height branch_height piece_height condition_height catch_height subject_height when_branch_height expr_height
kind_when (Some x) ws = ap (λ (k : Parts). k.height) (ap kind_parts (sym (v.rolls-When (Some x) ws)) ∙ fold-roll-ExprKind ℕ ℕ Parts ℕ ℕ ℕ ℕ Parts ℕ ℕ ℕ branch_step condition_step kind_step stmt_step piece_step block_step catch_step expr_step lambda_step subject_step when_branch_step (ExprKind-F.When (Some x) ws))
kind_when None ws = ap (λ (k : Parts). k.height) (ap kind_parts (sym (v.rolls-When None ws)) ∙ fold-roll-ExprKind ℕ ℕ Parts ℕ ℕ ℕ ℕ Parts ℕ ℕ ℕ branch_step condition_step kind_step stmt_step piece_step block_step catch_step expr_step lambda_step subject_step when_branch_step (ExprKind-F.When None ws))

pub kind_try : (x : Block) (cs : List Catch) (y : Option Block) → (kind_parts (e.Try x cs y)).height ≡ max (max (block_height x) (greatest (map catch_height cs))) (height_if (option_map block_height y))
unfolding expr_parts kind_parts stmt_height lambda_height block_height branch_height piece_height condition_height catch_height subject_height when_branch_height expr_height
kind_try x cs (Some y) = ap (λ (k : Parts). k.height) (ap kind_parts (sym (v.rolls-Try x cs (Some y))) ∙ fold-roll-ExprKind ℕ ℕ Parts ℕ ℕ ℕ ℕ Parts ℕ ℕ ℕ branch_step condition_step kind_step stmt_step piece_step block_step catch_step expr_step lambda_step subject_step when_branch_step (ExprKind-F.Try x cs (Some y)))
kind_try x cs None = ap (λ (k : Parts). k.height) (ap kind_parts (sym (v.rolls-Try x cs None)) ∙ fold-roll-ExprKind ℕ ℕ Parts ℕ ℕ ℕ ℕ Parts ℕ ℕ ℕ branch_step condition_step kind_step stmt_step piece_step block_step catch_step expr_step lambda_step subject_step when_branch_step (ExprKind-F.Try x cs None))

pub kind_return : (l : Option Ident) (x : Option Expr) → (kind_parts (e.Return l x)).height ≡ height_if (option_map expr_height x)
unfolding expr_parts kind_parts stmt_height lambda_height block_height branch_height piece_height condition_height catch_height subject_height when_branch_height expr_height
kind_return (Some l) (Some x) = ap (λ (k : Parts). k.height) (ap kind_parts (sym (v.rolls-Return (Some l) (Some x))) ∙ fold-roll-ExprKind ℕ ℕ Parts ℕ ℕ ℕ ℕ Parts ℕ ℕ ℕ branch_step condition_step kind_step stmt_step piece_step block_step catch_step expr_step lambda_step subject_step when_branch_step (ExprKind-F.Return (Some l) (Some x)))
kind_return (Some l) None = ap (λ (k : Parts). k.height) (ap kind_parts (sym (v.rolls-Return (Some l) None)) ∙ fold-roll-ExprKind ℕ ℕ Parts ℕ ℕ ℕ ℕ Parts ℕ ℕ ℕ branch_step condition_step kind_step stmt_step piece_step block_step catch_step expr_step lambda_step subject_step when_branch_step (ExprKind-F.Return (Some l) None))
kind_return None (Some x) = ap (λ (k : Parts). k.height) (ap kind_parts (sym (v.rolls-Return None (Some x))) ∙ fold-roll-ExprKind ℕ ℕ Parts ℕ ℕ ℕ ℕ Parts ℕ ℕ ℕ branch_step condition_step kind_step stmt_step piece_step block_step catch_step expr_step lambda_step subject_step when_branch_step (ExprKind-F.Return None (Some x)))
kind_return None None = ap (λ (k : Parts). k.height) (ap kind_parts (sym (v.rolls-Return None None)) ∙ fold-roll-ExprKind ℕ ℕ Parts ℕ ℕ ℕ ℕ Parts ℕ ℕ ℕ branch_step condition_step kind_step stmt_step piece_step block_step catch_step expr_step lambda_step subject_step when_branch_step (ExprKind-F.Return None None))

pub stmt_expr : (x : Expr) → stmt_height (s.Expr x) ≡ expr_height x
unfolding expr_parts kind_parts stmt_height lambda_height block_height branch_height piece_height condition_height catch_height subject_height when_branch_height expr_height
stmt_expr x = ap stmt_height (sym (v.rolls-Expr x)) ∙ fold-roll-Stmt ℕ ℕ Parts ℕ ℕ ℕ ℕ Parts ℕ ℕ ℕ branch_step condition_step kind_step stmt_step piece_step block_step catch_step expr_step lambda_step subject_step when_branch_step (Stmt-F.Expr x)

pub stmt_local : (n : ℕ) (at : Span) (m : Bool) (i : Ident) (w : Option TypeRef) (x : Option Expr) → stmt_height (s.Local n at m i w x) ≡ grown (height_if (option_map expr_height x))
unfolding expr_parts kind_parts stmt_height lambda_height block_height branch_height piece_height condition_height catch_height subject_height when_branch_height expr_height
stmt_local n at m i (Some w) (Some x) = ap stmt_height (sym (v.rolls-Local n at m i (Some w) (Some x))) ∙ fold-roll-Stmt ℕ ℕ Parts ℕ ℕ ℕ ℕ Parts ℕ ℕ ℕ branch_step condition_step kind_step stmt_step piece_step block_step catch_step expr_step lambda_step subject_step when_branch_step (Stmt-F.Local n at m i (Some w) (Some x))
stmt_local n at m i (Some w) None = ap stmt_height (sym (v.rolls-Local n at m i (Some w) None)) ∙ fold-roll-Stmt ℕ ℕ Parts ℕ ℕ ℕ ℕ Parts ℕ ℕ ℕ branch_step condition_step kind_step stmt_step piece_step block_step catch_step expr_step lambda_step subject_step when_branch_step (Stmt-F.Local n at m i (Some w) None)
stmt_local n at m i None (Some x) = ap stmt_height (sym (v.rolls-Local n at m i None (Some x))) ∙ fold-roll-Stmt ℕ ℕ Parts ℕ ℕ ℕ ℕ Parts ℕ ℕ ℕ branch_step condition_step kind_step stmt_step piece_step block_step catch_step expr_step lambda_step subject_step when_branch_step (Stmt-F.Local n at m i None (Some x))
stmt_local n at m i None None = ap stmt_height (sym (v.rolls-Local n at m i None None)) ∙ fold-roll-Stmt ℕ ℕ Parts ℕ ℕ ℕ ℕ Parts ℕ ℕ ℕ branch_step condition_step kind_step stmt_step piece_step block_step catch_step expr_step lambda_step subject_step when_branch_step (Stmt-F.Local n at m i None None)

pub stmt_assign : (n : ℕ) (at : Span) (t : Expr) (a : Assignment) (x : Option Expr) → stmt_height (s.Assign n at t a x) ≡ grown (max (on_left (expr_parts t)) (height_if (option_map expr_height x)))
unfolding expr_parts kind_parts stmt_height lambda_height block_height branch_height piece_height condition_height catch_height subject_height when_branch_height expr_height
stmt_assign n at t a (Some x) = ap stmt_height (sym (v.rolls-Assign n at t a (Some x))) ∙ fold-roll-Stmt ℕ ℕ Parts ℕ ℕ ℕ ℕ Parts ℕ ℕ ℕ branch_step condition_step kind_step stmt_step piece_step block_step catch_step expr_step lambda_step subject_step when_branch_step (Stmt-F.Assign n at t a (Some x))
stmt_assign n at t a None = ap stmt_height (sym (v.rolls-Assign n at t a None)) ∙ fold-roll-Stmt ℕ ℕ Parts ℕ ℕ ℕ ℕ Parts ℕ ℕ ℕ branch_step condition_step kind_step stmt_step piece_step block_step catch_step expr_step lambda_step subject_step when_branch_step (Stmt-F.Assign n at t a None)

pub stmt_while : (n : ℕ) (at : Span) (x : Expr) (y : Branch) → stmt_height (s.While n at x y) ≡ grown (max (expr_height x) (branch_height y))
unfolding expr_parts kind_parts stmt_height lambda_height block_height branch_height piece_height condition_height catch_height subject_height when_branch_height expr_height
stmt_while n at x y = ap stmt_height (sym (v.rolls-While n at x y)) ∙ fold-roll-Stmt ℕ ℕ Parts ℕ ℕ ℕ ℕ Parts ℕ ℕ ℕ branch_step condition_step kind_step stmt_step piece_step block_step catch_step expr_step lambda_step subject_step when_branch_step (Stmt-F.While n at x y)

pub stmt_do_while : (n : ℕ) (at : Span) (y : Block) (x : Expr) → stmt_height (s.DoWhile n at y x) ≡ grown (max (block_height y) (expr_height x))
unfolding expr_parts kind_parts stmt_height lambda_height block_height branch_height piece_height condition_height catch_height subject_height when_branch_height expr_height
stmt_do_while n at y x = ap stmt_height (sym (v.rolls-DoWhile n at y x)) ∙ fold-roll-Stmt ℕ ℕ Parts ℕ ℕ ℕ ℕ Parts ℕ ℕ ℕ branch_step condition_step kind_step stmt_step piece_step block_step catch_step expr_step lambda_step subject_step when_branch_step (Stmt-F.DoWhile n at y x)

pub stmt_for : (n : ℕ) (at : Span) (i : Ident) (w : Option TypeRef) (x : Expr) (o : Progression) (y : Expr) (z : Branch) → stmt_height (s.For n at i w x o y z) ≡ grown (max (max (expr_height x) (expr_height y)) (branch_height z))
unfolding expr_parts kind_parts stmt_height lambda_height block_height branch_height piece_height condition_height catch_height subject_height when_branch_height expr_height
stmt_for n at i (Some w) x o y z = ap stmt_height (sym (v.rolls-For n at i (Some w) x o y z)) ∙ fold-roll-Stmt ℕ ℕ Parts ℕ ℕ ℕ ℕ Parts ℕ ℕ ℕ branch_step condition_step kind_step stmt_step piece_step block_step catch_step expr_step lambda_step subject_step when_branch_step (Stmt-F.For n at i (Some w) x o y z)
stmt_for n at i None x o y z = ap stmt_height (sym (v.rolls-For n at i None x o y z)) ∙ fold-roll-Stmt ℕ ℕ Parts ℕ ℕ ℕ ℕ Parts ℕ ℕ ℕ branch_step condition_step kind_step stmt_step piece_step block_step catch_step expr_step lambda_step subject_step when_branch_step (Stmt-F.For n at i None x o y z)

pub branch_braced : (x : Block) → branch_height (b.Braced x) ≡ block_height x
unfolding expr_parts kind_parts stmt_height lambda_height block_height branch_height piece_height condition_height catch_height subject_height when_branch_height expr_height
branch_braced x = ap branch_height (sym (v.rolls-Braced x)) ∙ fold-roll-Branch ℕ ℕ Parts ℕ ℕ ℕ ℕ Parts ℕ ℕ ℕ branch_step condition_step kind_step stmt_step piece_step block_step catch_step expr_step lambda_step subject_step when_branch_step (Branch-F.Braced x)

pub branch_single : (x : Stmt) → branch_height (b.Single x) ≡ stmt_height x
unfolding expr_parts kind_parts stmt_height lambda_height block_height branch_height piece_height condition_height catch_height subject_height when_branch_height expr_height
branch_single x = ap branch_height (sym (v.rolls-Single x)) ∙ fold-roll-Branch ℕ ℕ Parts ℕ ℕ ℕ ℕ Parts ℕ ℕ ℕ branch_step condition_step kind_step stmt_step piece_step block_step catch_step expr_step lambda_step subject_step when_branch_step (Branch-F.Single x)

pub condition_is : (at : Span) (w : TypeRef) → condition_height (c.Is at w) ≡ 0
unfolding expr_parts kind_parts stmt_height lambda_height block_height branch_height piece_height condition_height catch_height subject_height when_branch_height expr_height
condition_is at w = ap condition_height (sym (v.«rolls-Condition::Is» at w)) ∙ fold-roll-Condition ℕ ℕ Parts ℕ ℕ ℕ ℕ Parts ℕ ℕ ℕ branch_step condition_step kind_step stmt_step piece_step block_step catch_step expr_step lambda_step subject_step when_branch_step (Condition-F.«Condition::Is» at w)

pub condition_is_not : (at : Span) (w : TypeRef) → condition_height (c.IsNot at w) ≡ 0
unfolding expr_parts kind_parts stmt_height lambda_height block_height branch_height piece_height condition_height catch_height subject_height when_branch_height expr_height
condition_is_not at w = ap condition_height (sym (v.«rolls-Condition::IsNot» at w)) ∙ fold-roll-Condition ℕ ℕ Parts ℕ ℕ ℕ ℕ Parts ℕ ℕ ℕ branch_step condition_step kind_step stmt_step piece_step block_step catch_step expr_step lambda_step subject_step when_branch_step (Condition-F.«Condition::IsNot» at w)

pub condition_value : (x : Expr) → condition_height (c.Value x) ≡ expr_height x
unfolding expr_parts kind_parts stmt_height lambda_height block_height branch_height piece_height condition_height catch_height subject_height when_branch_height expr_height
condition_value x = ap condition_height (sym (v.rolls-Value x)) ∙ fold-roll-Condition ℕ ℕ Parts ℕ ℕ ℕ ℕ Parts ℕ ℕ ℕ branch_step condition_step kind_step stmt_step piece_step block_step catch_step expr_step lambda_step subject_step when_branch_step (Condition-F.Value x)

pub piece_text : (bs : List ℕ) → piece_height (p.Text bs) ≡ 0
unfolding expr_parts kind_parts stmt_height lambda_height block_height branch_height piece_height condition_height catch_height subject_height when_branch_height expr_height
piece_text bs = ap piece_height (sym (v.rolls-Text bs)) ∙ fold-roll-StringPart ℕ ℕ Parts ℕ ℕ ℕ ℕ Parts ℕ ℕ ℕ branch_step condition_step kind_step stmt_step piece_step block_step catch_step expr_step lambda_step subject_step when_branch_step (StringPart-F.Text bs)

pub piece_inserted : (x : Expr) → piece_height (p.Inserted x) ≡ expr_height x
unfolding expr_parts kind_parts stmt_height lambda_height block_height branch_height piece_height condition_height catch_height subject_height when_branch_height expr_height
piece_inserted x = ap piece_height (sym (v.rolls-Inserted x)) ∙ fold-roll-StringPart ℕ ℕ Parts ℕ ℕ ℕ ℕ Parts ℕ ℕ ℕ branch_step condition_step kind_step stmt_step piece_step block_step catch_step expr_step lambda_step subject_step when_branch_step (StringPart-F.Inserted x)

pub parts_of_expr : (x : Expr) → expr_parts x ≡ kind_parts x.kind
unfolding expr_parts kind_parts stmt_height lambda_height block_height branch_height piece_height condition_height catch_height subject_height when_branch_height expr_height
parts_of_expr x = fold-roll-Expr ℕ ℕ Parts ℕ ℕ ℕ ℕ Parts ℕ ℕ ℕ branch_step condition_step kind_step stmt_step piece_step block_step catch_step expr_step lambda_step subject_step when_branch_step (record { number = x.number; span = x.span; kind = x.kind })

pub whole_expr : (x : Expr) → expr_height x ≡ grown (kind_parts x.kind).height
unfolding expr_height
whole_expr x = ap whole (parts_of_expr x)

pub left_expr : (x : Expr) → on_left (expr_parts x) ≡ on_left (kind_parts x.kind)
left_expr x = ap on_left (parts_of_expr x)

pub subject_parts : (x : Subject) → subject_height x ≡ expr_height x.value
unfolding expr_parts kind_parts stmt_height lambda_height block_height branch_height piece_height condition_height catch_height subject_height when_branch_height expr_height
subject_parts x = fold-roll-Subject ℕ ℕ Parts ℕ ℕ ℕ ℕ Parts ℕ ℕ ℕ branch_step condition_step kind_step stmt_step piece_step block_step catch_step expr_step lambda_step subject_step when_branch_step (record { variable = x.variable; written = x.written; value = x.value })

pub block_parts : (x : Block) → block_height x ≡ greatest (map stmt_height (out-Block x).statements)
unfolding expr_parts kind_parts stmt_height lambda_height block_height branch_height piece_height condition_height catch_height subject_height when_branch_height expr_height
block_parts x = fold_out-Block ℕ ℕ Parts ℕ ℕ ℕ ℕ Parts ℕ ℕ ℕ branch_step condition_step kind_step stmt_step piece_step block_step catch_step expr_step lambda_step subject_step when_branch_step x

pub lambda_parts : (x : Lambda) → lambda_height x ≡ grown (block_height (out-Lambda x).body)
unfolding expr_parts kind_parts stmt_height lambda_height block_height branch_height piece_height condition_height catch_height subject_height when_branch_height expr_height
lambda_parts x = fold_out-Lambda ℕ ℕ Parts ℕ ℕ ℕ ℕ Parts ℕ ℕ ℕ branch_step condition_step kind_step stmt_step piece_step block_step catch_step expr_step lambda_step subject_step when_branch_step x

pub catch_parts : (x : Catch) → catch_height x ≡ block_height (out-Catch x).body
unfolding expr_parts kind_parts stmt_height lambda_height block_height branch_height piece_height condition_height catch_height subject_height when_branch_height expr_height
catch_parts x = fold_out-Catch ℕ ℕ Parts ℕ ℕ ℕ ℕ Parts ℕ ℕ ℕ branch_step condition_step kind_step stmt_step piece_step block_step catch_step expr_step lambda_step subject_step when_branch_step x

pub conditions_parts : (x : WhenBranch) (cs : List Condition) → (out-WhenBranch x).conditions ≡ Some cs → when_branch_height x ≡ max (greatest (map condition_height cs)) (branch_height (out-WhenBranch x).body)
unfolding expr_parts kind_parts stmt_height lambda_height block_height branch_height piece_height condition_height catch_height subject_height when_branch_height expr_height
conditions_parts x cs e =
    ap when_branch_height (sym (v.roll-out-WhenBranch x)) ∙ ap (λ z. when_branch_height (v.roll-WhenBranch (record { conditions = z; begins = (out-WhenBranch x).begins; body = (out-WhenBranch x).body }))) e ∙ fold-roll-WhenBranch ℕ ℕ Parts ℕ ℕ ℕ ℕ Parts ℕ ℕ ℕ branch_step condition_step kind_step stmt_step piece_step block_step catch_step expr_step lambda_step subject_step when_branch_step (record { conditions = Some cs; begins = (out-WhenBranch x).begins; body = (out-WhenBranch x).body })

pub else_parts : (x : WhenBranch) → (out-WhenBranch x).conditions ≡ None → when_branch_height x ≡ max 0 (branch_height (out-WhenBranch x).body)
unfolding expr_parts kind_parts stmt_height lambda_height block_height branch_height piece_height condition_height catch_height subject_height when_branch_height expr_height
else_parts x e =
    ap when_branch_height (sym (v.roll-out-WhenBranch x)) ∙ ap (λ z. when_branch_height (v.roll-WhenBranch (record { conditions = z; begins = (out-WhenBranch x).begins; body = (out-WhenBranch x).body }))) e ∙ fold-roll-WhenBranch ℕ ℕ Parts ℕ ℕ ℕ ℕ Parts ℕ ℕ ℕ branch_step condition_step kind_step stmt_step piece_step block_step catch_step expr_step lambda_step subject_step when_branch_step (record { conditions = None; begins = (out-WhenBranch x).begins; body = (out-WhenBranch x).body })

pub ruleset heights = (kind_int, kind_bool, kind_null, kind_this, kind_name, kind_break, kind_continue, kind_template, kind_paren, kind_not_null, kind_not, kind_throw, kind_sign, kind_as, kind_as_safe, kind_is, kind_is_not, kind_member, kind_sum, kind_and, kind_or, kind_elvis, kind_arithmetic, kind_compare, kind_equal, kind_call, kind_member_call, kind_if, kind_when, kind_try, kind_return, stmt_expr, stmt_local, stmt_assign, stmt_while, stmt_do_while, stmt_for, branch_braced, branch_single, condition_is, condition_is_not, condition_value, piece_text, piece_inserted, whole_expr, left_expr, subject_parts, block_parts, lambda_parts, catch_parts, conditions_parts, else_parts)

-- ---- left sides

pub name_target : (x : ℕ) → (kind_parts (e.Name x)).is_target ≡ true
unfolding expr_parts kind_parts stmt_height lambda_height block_height branch_height piece_height condition_height catch_height subject_height when_branch_height expr_height
name_target x = ap (λ (k : Parts). k.is_target) (ap kind_parts (sym (v.rolls-Name x)) ∙ fold-roll-ExprKind ℕ ℕ Parts ℕ ℕ ℕ ℕ Parts ℕ ℕ ℕ branch_step condition_step kind_step stmt_step piece_step block_step catch_step expr_step lambda_step subject_step when_branch_step (ExprKind-F.Name x))

pub member_target : (x : Expr) (a : Access) (m : Ident) → (kind_parts (e.Member x a m)).is_target ≡ is_dot a
unfolding expr_parts kind_parts stmt_height lambda_height block_height branch_height piece_height condition_height catch_height subject_height when_branch_height expr_height
member_target x a m = ap (λ (k : Parts). k.is_target) (ap kind_parts (sym (v.rolls-Member x a m)) ∙ fold-roll-ExprKind ℕ ℕ Parts ℕ ℕ ℕ ℕ Parts ℕ ℕ ℕ branch_step condition_step kind_step stmt_step piece_step block_step catch_step expr_step lambda_step subject_step when_branch_step (ExprKind-F.Member x a m))

abbrev Layer : Type 0
Layer = ExprKind-F Branch Condition ExprKind Stmt StringPart Block Catch Expr Lambda Subject WhenBranch

other_layer : (layer : Layer) → ((x : ℕ) → v.roll-ExprKind layer ≢ e.Name x) → ((x : Expr) (a : Access) (m : Ident) → v.roll-ExprKind layer ≢ e.Member x a m) → (kind_parts (v.roll-ExprKind layer)).is_target ≡ false
unfolding expr_parts kind_parts stmt_height lambda_height block_height branch_height piece_height condition_height catch_height subject_height when_branch_height expr_height
other_layer (ExprKind-F.Name x) h k = absurd (h x (v.rolls-Name x))
other_layer (ExprKind-F.Member x a m) h k = absurd (k x a m (v.rolls-Member x a m))
other_layer layer h k = ap (λ (g : Parts). g.is_target) (fold-roll-ExprKind ℕ ℕ Parts ℕ ℕ ℕ ℕ Parts ℕ ℕ ℕ branch_step condition_step kind_step stmt_step piece_step block_step catch_step expr_step lambda_step subject_step when_branch_step layer)

-- neither a name nor a member
pub other_target : (j : ExprKind) → ((x : ℕ) → j ≢ e.Name x) → ((x : Expr) (a : Access) (m : Ident) → j ≢ e.Member x a m) → (kind_parts j).is_target ≡ false
other_target j h k = subst (λ i. (kind_parts i).is_target ≡ false) (v.roll-out-ExprKind j) (other_layer (v.out-ExprKind j) (λ x. subst (λ i. i ≢ e.Name x) (sym (v.roll-out-ExprKind j)) (h x)) (λ x a m. subst (λ i. i ≢ e.Member x a m) (sym (v.roll-out-ExprKind j)) (k x a m)))
