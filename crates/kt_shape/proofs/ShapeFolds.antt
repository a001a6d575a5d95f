-- What each tree gives, by its parts.
use Rattle.std.proofs.Common.{◌≡◌, ◌≢◌, ℕ, Bool, true, false, not, ◌&&◌, List, [], ◌∷◌, ◌++◌, map, Option, Some, None, option_map, is_some, is_none, true≢false, suc, if◌then◌else◌, ◌||◌, ◌==◌, ◌+◌, ◌-◌, ◌<◌, ◌≤◌, length, drop, get_or, append-nil, length-drop, arith, refl, sym, ap, ◌∙◌, subst}
use Rattle.std.specs.List.{flat_map, list_any}
use Rattle.std.proofs.lemmas.List.{at_drop_more, length-map}
use Rattle.std.proofs.lemmas.Bool.Decides.{nat_tests}
use Rattle.kt_tree.specs.declared.token.Span.{Span}
use Rattle.kt_tree.specs.declared.ast.part.Ident.{Ident}
use Rattle.kt_tree.specs.declared.ast.part.TypeRef.{TypeRef}
use Rattle.kt_tree.specs.declared.ast.part.Access.{Access}
use Rattle.kt_tree.specs.declared.ast.part.Sign.{Sign}
use Rattle.kt_tree.specs.declared.ast.part.Arithmetic.{Arithmetic}
use Rattle.kt_tree.specs.declared.ast.part.Comparison.{Comparison}
use Rattle.kt_tree.specs.declared.ast.part.Equality.{Equality}
use Rattle.kt_tree.specs.declared.ast.part.Assignment.{Assignment}
use Rattle.kt_tree.specs.declared.ast.part.Progression.{Progression}
use Rattle.kt_tree.specs.declared.ast.body.Expr.{Expr}
use Rattle.kt_tree.specs.declared.ast.body.ExprKind.{ExprKind}
use Rattle.kt_tree.specs.declared.ast.body.ExprKind.TheVariants as e
use Rattle.kt_tree.specs.declared.ast.body.Stmt.{Stmt}
use Rattle.kt_tree.specs.declared.ast.body.Stmt.TheVariants as s
use Rattle.kt_tree.specs.declared.ast.body.Block.{Block, out-Block}
use Rattle.kt_tree.specs.declared.ast.body.Branch.{Branch}
use Rattle.kt_tree.specs.declared.ast.body.Branch.TheVariants as b
use Rattle.kt_tree.specs.declared.ast.body.Condition.{Condition}
use Rattle.kt_tree.specs.declared.ast.body.Condition.TheVariants as c
use Rattle.kt_tree.specs.declared.ast.body.Catch.{Catch, out-Catch}
use Rattle.kt_tree.specs.declared.ast.body.Lambda.{Lambda, out-Lambda}
use Rattle.kt_tree.specs.declared.ast.body.Subject.{Subject}
use Rattle.kt_tree.specs.declared.ast.body.WhenBranch.{WhenBranch, out-WhenBranch}
use Rattle.kt_tree.specs.declared.ast.body.StringPart.{StringPart}
use Rattle.kt_tree.specs.declared.ast.body.StringPart.TheVariants as p
use Rattle.kt_tree.specs.declared.ast.body.Branch.TheOpen.{Branch-F, Condition-F, ExprKind-F, Stmt-F, StringPart-F}
use Rattle.kt_tree.specs.declared.ast.body.Branch.TheViews as v
use Rattle.kt_tree.specs.declared.ast.body.Branch.TheFolds.{fold_out-Block, fold_out-Catch, fold_out-Lambda, fold-roll-Expr, fold-roll-Subject, fold-roll-WhenBranch, fold-roll-ExprKind, fold-roll-Stmt, fold-roll-Branch, fold-roll-Condition, fold-roll-StringPart}
use Rattle.kt_model.specs.DeclarationRules.{where_}
use Rattle.kt_model.specs.declared.finding.Finding.{Finding}
use Rattle.kt_model.specs.declared.finding.Rule.TheVariants.{AssignTarget, NoElse, ValueExpected}
use Rattle.kt_shape.specs.ShapeRules.{ByUse, KindShape, ExprShape, StmtShape, CaseShape, taken, taken_if, each_taken, given_if, whole_if, joined, joined_if, in_turn, inner, target_if, is_dot, branch_step, condition_step, kind_step, stmt_step, piece_step, block_step, catch_step, expr_step, lambda_step, subject_step, when_branch_step, expr_shape, kind_shape, stmt_shape, block_shape, branch_shape, piece_shape, condition_shape, catch_shape, lambda_shape, subject_shape, case_shape, in_part}
use Rattle.kt_shape.specs.Operations.{is_operation, in_operation}

abbrev Layer : Type 0
Layer = ExprKind-F Branch Condition ExprKind Stmt StringPart Block Catch Expr Lambda Subject WhenBranch

-- ---- lists of parts

each_map : (xs : List Expr) → each_taken (map expr_shape xs) ≡ flat_map in_part xs
each_map [] = refl
each_map (x ∷ xs) = ap (λ rest. in_part x ++ rest) (each_map xs)

joined_map : {B : Type 0} (f : B → List Finding) (xs : List B) → joined (map f xs) ≡ flat_map f xs
joined_map f [] = refl
joined_map f (x ∷ xs) = ap (λ rest. f x ++ rest) (joined_map f xs)

flat_through : {B C : Type 0} (g : C → List Finding) (f : B → C) (xs : List B) → flat_map g (map f xs) ≡ flat_map (λ x. g (f x)) xs
flat_through g f [] = refl
flat_through g f (x ∷ xs) = ap (λ rest. g (f x) ++ rest) (flat_through g f xs)

any_through : {B C : Type 0} (g : C → Bool) (f : B → C) (xs : List B) → list_any g (map f xs) ≡ list_any (λ x. g (f x)) xs
any_through g f [] = refl
any_through g f (x ∷ xs) = ap (λ rest. g (f x) || rest) (any_through g f xs)

-- ---- operations

operation_at : (layer : Layer) → in_operation (v.roll-ExprKind layer) ≡ (if is_operation layer then (kind_shape (v.roll-ExprKind layer)).inside true else [])
unfolding in_operation
operation_at layer = ap (λ l. if is_operation l then (kind_shape (v.roll-ExprKind layer)).inside true else []) (v.out-roll-ExprKind layer)

pub operation_int : (k : ℕ) → in_operation (e.Int k) ≡ []
unfolding expr_shape kind_shape stmt_shape block_shape branch_shape piece_shape condition_shape catch_shape lambda_shape subject_shape case_shape
operation_int k = ap in_operation (sym (v.rolls-Int k)) ∙ operation_at (ExprKind-F.Int k) ∙ ap (λ (k : KindShape). k.inside true) (fold-roll-ExprKind ByUse (List Finding) KindShape StmtShape (List Finding) ByUse ByUse ExprShape (List Finding) (List Finding) CaseShape branch_step condition_step kind_step stmt_step piece_step block_step catch_step expr_step lambda_step subject_step when_branch_step (ExprKind-F.Int k))

pub operation_bool : (t : Bool) → in_operation (e.Bool t) ≡ []
unfolding expr_shape kind_shape stmt_shape block_shape branch_shape piece_shape condition_shape catch_shape lambda_shape subject_shape case_shape
operation_bool t = ap in_operation (sym (v.rolls-Bool t)) ∙ operation_at (ExprKind-F.Bool t) ∙ ap (λ (k : KindShape). k.inside true) (fold-roll-ExprKind ByUse (List Finding) KindShape StmtShape (List Finding) ByUse ByUse ExprShape (List Finding) (List Finding) CaseShape branch_step condition_step kind_step stmt_step piece_step block_step catch_step expr_step lambda_step subject_step when_branch_step (ExprKind-F.Bool t))

pub operation_null : in_operation e.Null ≡ []
unfolding expr_shape kind_shape stmt_shape block_shape branch_shape piece_shape condition_shape catch_shape lambda_shape subject_shape case_shape
operation_null = ap in_operation (sym v.rolls-Null) ∙ operation_at ExprKind-F.Null ∙ ap (λ (k : KindShape). k.inside true) (fold-roll-ExprKind ByUse (List Finding) KindShape StmtShape (List Finding) ByUse ByUse ExprShape (List Finding) (List Finding) CaseShape branch_step condition_step kind_step stmt_step piece_step block_step catch_step expr_step lambda_step subject_step when_branch_step ExprKind-F.Null)

pub operation_this : in_operation e.This ≡ []
unfolding expr_shape kind_shape stmt_shape block_shape branch_shape piece_shape condition_shape catch_shape lambda_shape subject_shape case_shape
operation_this = ap in_operation (sym v.rolls-This) ∙ operation_at ExprKind-F.This ∙ ap (λ (k : KindShape). k.inside true) (fold-roll-ExprKind ByUse (List Finding) KindShape StmtShape (List Finding) ByUse ByUse ExprShape (List Finding) (List Finding) CaseShape branch_step condition_step kind_step stmt_step piece_step block_step catch_step expr_step lambda_step subject_step when_branch_step ExprKind-F.This)

pub operation_name : (x : ℕ) → in_operation (e.Name x) ≡ []
unfolding expr_shape kind_shape stmt_shape block_shape branch_shape piece_shape condition_shape catch_shape lambda_shape subject_shape case_shape
operation_name x = ap in_operation (sym (v.rolls-Name x)) ∙ operation_at (ExprKind-F.Name x) ∙ ap (λ (k : KindShape). k.inside true) (fold-roll-ExprKind ByUse (List Finding) KindShape StmtShape (List Finding) ByUse ByUse ExprShape (List Finding) (List Finding) CaseShape branch_step condition_step kind_step stmt_step piece_step block_step catch_step expr_step lambda_step subject_step when_branch_step (ExprKind-F.Name x))

pub operation_break : in_operation e.Break ≡ []
unfolding expr_shape kind_shape stmt_shape block_shape branch_shape piece_shape condition_shape catch_shape lambda_shape subject_shape case_shape
operation_break = ap in_operation (sym v.rolls-Break) ∙ operation_at ExprKind-F.Break ∙ ap (λ (k : KindShape). k.inside true) (fold-roll-ExprKind ByUse (List Finding) KindShape StmtShape (List Finding) ByUse ByUse ExprShape (List Finding) (List Finding) CaseShape branch_step condition_step kind_step stmt_step piece_step block_step catch_step expr_step lambda_step subject_step when_branch_step ExprKind-F.Break)

pub operation_continue : in_operation e.Continue ≡ []
unfolding expr_shape kind_shape stmt_shape block_shape branch_shape piece_shape condition_shape catch_shape lambda_shape subject_shape case_shape
operation_continue = ap in_operation (sym v.rolls-Continue) ∙ operation_at ExprKind-F.Continue ∙ ap (λ (k : KindShape). k.inside true) (fold-roll-ExprKind ByUse (List Finding) KindShape StmtShape (List Finding) ByUse ByUse ExprShape (List Finding) (List Finding) CaseShape branch_step condition_step kind_step stmt_step piece_step block_step catch_step expr_step lambda_step subject_step when_branch_step ExprKind-F.Continue)

pub operation_template : (ps : List StringPart) → in_operation (e.Template ps) ≡ flat_map piece_shape ps
unfolding expr_shape kind_shape stmt_shape block_shape branch_shape piece_shape condition_shape catch_shape lambda_shape subject_shape case_shape
operation_template ps = ap in_operation (sym (v.rolls-Template ps)) ∙ operation_at (ExprKind-F.Template ps) ∙ ap (λ (k : KindShape). k.inside true) (fold-roll-ExprKind ByUse (List Finding) KindShape StmtShape (List Finding) ByUse ByUse ExprShape (List Finding) (List Finding) CaseShape branch_step condition_step kind_step stmt_step piece_step block_step catch_step expr_step lambda_step subject_step when_branch_step (ExprKind-F.Template ps)) ∙ joined_map piece_shape ps

pub operation_paren : (x : Expr) → in_operation (e.Paren x) ≡ in_part x
unfolding expr_shape kind_shape stmt_shape block_shape branch_shape piece_shape condition_shape catch_shape lambda_shape subject_shape case_shape
operation_paren x = ap in_operation (sym (v.rolls-Paren x)) ∙ operation_at (ExprKind-F.Paren x) ∙ ap (λ (k : KindShape). k.inside true) (fold-roll-ExprKind ByUse (List Finding) KindShape StmtShape (List Finding) ByUse ByUse ExprShape (List Finding) (List Finding) CaseShape branch_step condition_step kind_step stmt_step piece_step block_step catch_step expr_step lambda_step subject_step when_branch_step (ExprKind-F.Paren x))

pub operation_not_null : (x : Expr) → in_operation (e.NotNull x) ≡ in_part x
unfolding expr_shape kind_shape stmt_shape block_shape branch_shape piece_shape condition_shape catch_shape lambda_shape subject_shape case_shape
operation_not_null x = ap in_operation (sym (v.rolls-NotNull x)) ∙ operation_at (ExprKind-F.NotNull x) ∙ ap (λ (k : KindShape). k.inside true) (fold-roll-ExprKind ByUse (List Finding) KindShape StmtShape (List Finding) ByUse ByUse ExprShape (List Finding) (List Finding) CaseShape branch_step condition_step kind_step stmt_step piece_step block_step catch_step expr_step lambda_step subject_step when_branch_step (ExprKind-F.NotNull x))

pub operation_not : (x : Expr) → in_operation (e.Not x) ≡ in_part x
unfolding expr_shape kind_shape stmt_shape block_shape branch_shape piece_shape condition_shape catch_shape lambda_shape subject_shape case_shape
operation_not x = ap in_operation (sym (v.rolls-Not x)) ∙ operation_at (ExprKind-F.Not x) ∙ ap (λ (k : KindShape). k.inside true) (fold-roll-ExprKind ByUse (List Finding) KindShape StmtShape (List Finding) ByUse ByUse ExprShape (List Finding) (List Finding) CaseShape branch_step condition_step kind_step stmt_step piece_step block_step catch_step expr_step lambda_step subject_step when_branch_step (ExprKind-F.Not x))

pub operation_throw : (x : Expr) → in_operation (e.Throw x) ≡ in_part x
unfolding expr_shape kind_shape stmt_shape block_shape branch_shape piece_shape condition_shape catch_shape lambda_shape subject_shape case_shape
operation_throw x = ap in_operation (sym (v.rolls-Throw x)) ∙ operation_at (ExprKind-F.Throw x) ∙ ap (λ (k : KindShape). k.inside true) (fold-roll-ExprKind ByUse (List Finding) KindShape StmtShape (List Finding) ByUse ByUse ExprShape (List Finding) (List Finding) CaseShape branch_step condition_step kind_step stmt_step piece_step block_step catch_step expr_step lambda_step subject_step when_branch_step (ExprKind-F.Throw x))

pub operation_sign : (o : Sign) (x : Expr) → in_operation (e.Sign o x) ≡ in_part x
unfolding expr_shape kind_shape stmt_shape block_shape branch_shape piece_shape condition_shape catch_shape lambda_shape subject_shape case_shape
operation_sign o x = ap in_operation (sym (v.rolls-Sign o x)) ∙ operation_at (ExprKind-F.Sign o x) ∙ ap (λ (k : KindShape). k.inside true) (fold-roll-ExprKind ByUse (List Finding) KindShape StmtShape (List Finding) ByUse ByUse ExprShape (List Finding) (List Finding) CaseShape branch_step condition_step kind_step stmt_step piece_step block_step catch_step expr_step lambda_step subject_step when_branch_step (ExprKind-F.Sign o x))

pub operation_as : (x : Expr) (w : TypeRef) → in_operation (e.As x w) ≡ in_part x
unfolding expr_shape kind_shape stmt_shape block_shape branch_shape piece_shape condition_shape catch_shape lambda_shape subject_shape case_shape
operation_as x w = ap in_operation (sym (v.rolls-As x w)) ∙ operation_at (ExprKind-F.As x w) ∙ ap (λ (k : KindShape). k.inside true) (fold-roll-ExprKind ByUse (List Finding) KindShape StmtShape (List Finding) ByUse ByUse ExprShape (List Finding) (List Finding) CaseShape branch_step condition_step kind_step stmt_step piece_step block_step catch_step expr_step lambda_step subject_step when_branch_step (ExprKind-F.As x w))

pub operation_as_safe : (x : Expr) (w : TypeRef) → in_operation (e.AsSafe x w) ≡ in_part x
unfolding expr_shape kind_shape stmt_shape block_shape branch_shape piece_shape condition_shape catch_shape lambda_shape subject_shape case_shape
operation_as_safe x w = ap in_operation (sym (v.rolls-AsSafe x w)) ∙ operation_at (ExprKind-F.AsSafe x w) ∙ ap (λ (k : KindShape). k.inside true) (fold-roll-ExprKind ByUse (List Finding) KindShape StmtShape (List Finding) ByUse ByUse ExprShape (List Finding) (List Finding) CaseShape branch_step condition_step kind_step stmt_step piece_step block_step catch_step expr_step lambda_step subject_step when_branch_step (ExprKind-F.AsSafe x w))

pub operation_is : (x : Expr) (w : TypeRef) → in_operation (e.Is x w) ≡ in_part x
unfolding expr_shape kind_shape stmt_shape block_shape branch_shape piece_shape condition_shape catch_shape lambda_shape subject_shape case_shape
operation_is x w = ap in_operation (sym (v.«rolls-ExprKind::Is» x w)) ∙ operation_at (ExprKind-F.«ExprKind::Is» x w) ∙ ap (λ (k : KindShape). k.inside true) (fold-roll-ExprKind ByUse (List Finding) KindShape StmtShape (List Finding) ByUse ByUse ExprShape (List Finding) (List Finding) CaseShape branch_step condition_step kind_step stmt_step piece_step block_step catch_step expr_step lambda_step subject_step when_branch_step (ExprKind-F.«ExprKind::Is» x w))

pub operation_is_not : (x : Expr) (w : TypeRef) → in_operation (e.IsNot x w) ≡ in_part x
unfolding expr_shape kind_shape stmt_shape block_shape branch_shape piece_shape condition_shape catch_shape lambda_shape subject_shape case_shape
operation_is_not x w = ap in_operation (sym (v.«rolls-ExprKind::IsNot» x w)) ∙ operation_at (ExprKind-F.«ExprKind::IsNot» x w) ∙ ap (λ (k : KindShape). k.inside true) (fold-roll-ExprKind ByUse (List Finding) KindShape StmtShape (List Finding) ByUse ByUse ExprShape (List Finding) (List Finding) CaseShape branch_step condition_step kind_step stmt_step piece_step block_step catch_step expr_step lambda_step subject_step when_branch_step (ExprKind-F.«ExprKind::IsNot» x w))

pub operation_member : (x : Expr) (a : Access) (m : Ident) → in_operation (e.Member x a m) ≡ in_part x
unfolding expr_shape kind_shape stmt_shape block_shape branch_shape piece_shape condition_shape catch_shape lambda_shape subject_shape case_shape
operation_member x a m = ap in_operation (sym (v.rolls-Member x a m)) ∙ operation_at (ExprKind-F.Member x a m) ∙ ap (λ (k : KindShape). k.inside true) (fold-roll-ExprKind ByUse (List Finding) KindShape StmtShape (List Finding) ByUse ByUse ExprShape (List Finding) (List Finding) CaseShape branch_step condition_step kind_step stmt_step piece_step block_step catch_step expr_step lambda_step subject_step when_branch_step (ExprKind-F.Member x a m))

pub operation_sum : (x : Expr) (y : Expr) → in_operation (e.Sum x y) ≡ in_part x ++ in_part y
unfolding expr_shape kind_shape stmt_shape block_shape branch_shape piece_shape condition_shape catch_shape lambda_shape subject_shape case_shape
operation_sum x y = ap in_operation (sym (v.rolls-Sum x y)) ∙ operation_at (ExprKind-F.Sum x y) ∙ ap (λ (k : KindShape). k.inside true) (fold-roll-ExprKind ByUse (List Finding) KindShape StmtShape (List Finding) ByUse ByUse ExprShape (List Finding) (List Finding) CaseShape branch_step condition_step kind_step stmt_step piece_step block_step catch_step expr_step lambda_step subject_step when_branch_step (ExprKind-F.Sum x y))

pub operation_and : (x : Expr) (y : Expr) → in_operation (e.And x y) ≡ in_part x ++ in_part y
unfolding expr_shape kind_shape stmt_shape block_shape branch_shape piece_shape condition_shape catch_shape lambda_shape subject_shape case_shape
operation_and x y = ap in_operation (sym (v.rolls-And x y)) ∙ operation_at (ExprKind-F.And x y) ∙ ap (λ (k : KindShape). k.inside true) (fold-roll-ExprKind ByUse (List Finding) KindShape StmtShape (List Finding) ByUse ByUse ExprShape (List Finding) (List Finding) CaseShape branch_step condition_step kind_step stmt_step piece_step block_step catch_step expr_step lambda_step subject_step when_branch_step (ExprKind-F.And x y))

pub operation_or : (x : Expr) (y : Expr) → in_operation (e.Or x y) ≡ in_part x ++ in_part y
unfolding expr_shape kind_shape stmt_shape block_shape branch_shape piece_shape condition_shape catch_shape lambda_shape subject_shape case_shape
operation_or x y = ap in_operation (sym (v.rolls-Or x y)) ∙ operation_at (ExprKind-F.Or x y) ∙ ap (λ (k : KindShape). k.inside true) (fold-roll-ExprKind ByUse (List Finding) KindShape StmtShape (List Finding) ByUse ByUse ExprShape (List Finding) (List Finding) CaseShape branch_step condition_step kind_step stmt_step piece_step block_step catch_step expr_step lambda_step subject_step when_branch_step (ExprKind-F.Or x y))

pub operation_elvis : (x : Expr) (y : Expr) → in_operation (e.Elvis x y) ≡ in_part x ++ in_part y
unfolding expr_shape kind_shape stmt_shape block_shape branch_shape piece_shape condition_shape catch_shape lambda_shape subject_shape case_shape
operation_elvis x y = ap in_operation (sym (v.rolls-Elvis x y)) ∙ operation_at (ExprKind-F.Elvis x y) ∙ ap (λ (k : KindShape). k.inside true) (fold-roll-ExprKind ByUse (List Finding) KindShape StmtShape (List Finding) ByUse ByUse ExprShape (List Finding) (List Finding) CaseShape branch_step condition_step kind_step stmt_step piece_step block_step catch_step expr_step lambda_step subject_step when_branch_step (ExprKind-F.Elvis x y))

pub operation_arithmetic : (o : Arithmetic) (x : Expr) (y : Expr) → in_operation (e.Arithmetic o x y) ≡ in_part x ++ in_part y
unfolding expr_shape kind_shape stmt_shape block_shape branch_shape piece_shape condition_shape catch_shape lambda_shape subject_shape case_shape
operation_arithmetic o x y = ap in_operation (sym (v.rolls-Arithmetic o x y)) ∙ operation_at (ExprKind-F.Arithmetic o x y) ∙ ap (λ (k : KindShape). k.inside true) (fold-roll-ExprKind ByUse (List Finding) KindShape StmtShape (List Finding) ByUse ByUse ExprShape (List Finding) (List Finding) CaseShape branch_step condition_step kind_step stmt_step piece_step block_step catch_step expr_step lambda_step subject_step when_branch_step (ExprKind-F.Arithmetic o x y))

pub operation_compare : (o : Comparison) (x : Expr) (y : Expr) → in_operation (e.Compare o x y) ≡ in_part x ++ in_part y
unfolding expr_shape kind_shape stmt_shape block_shape branch_shape piece_shape condition_shape catch_shape lambda_shape subject_shape case_shape
operation_compare o x y = ap in_operation (sym (v.rolls-Compare o x y)) ∙ operation_at (ExprKind-F.Compare o x y) ∙ ap (λ (k : KindShape). k.inside true) (fold-roll-ExprKind ByUse (List Finding) KindShape StmtShape (List Finding) ByUse ByUse ExprShape (List Finding) (List Finding) CaseShape branch_step condition_step kind_step stmt_step piece_step block_step catch_step expr_step lambda_step subject_step when_branch_step (ExprKind-F.Compare o x y))

pub operation_equal : (o : Equality) (x : Expr) (y : Expr) → in_operation (e.Equal o x y) ≡ in_part x ++ in_part y
unfolding expr_shape kind_shape stmt_shape block_shape branch_shape piece_shape condition_shape catch_shape lambda_shape subject_shape case_shape
operation_equal o x y = ap in_operation (sym (v.rolls-Equal o x y)) ∙ operation_at (ExprKind-F.Equal o x y) ∙ ap (λ (k : KindShape). k.inside true) (fold-roll-ExprKind ByUse (List Finding) KindShape StmtShape (List Finding) ByUse ByUse ExprShape (List Finding) (List Finding) CaseShape branch_step condition_step kind_step stmt_step piece_step block_step catch_step expr_step lambda_step subject_step when_branch_step (ExprKind-F.Equal o x y))

pub operation_return : (l : Option Ident) (w : Option Expr) → in_operation (e.Return l w) ≡ taken_if (option_map expr_shape w)
unfolding expr_shape kind_shape stmt_shape block_shape branch_shape piece_shape condition_shape catch_shape lambda_shape subject_shape case_shape
operation_return (Some l) (Some w) = ap in_operation (sym (v.rolls-Return (Some l) (Some w))) ∙ operation_at (ExprKind-F.Return (Some l) (Some w)) ∙ ap (λ (k : KindShape). k.inside true) (fold-roll-ExprKind ByUse (List Finding) KindShape StmtShape (List Finding) ByUse ByUse ExprShape (List Finding) (List Finding) CaseShape branch_step condition_step kind_step stmt_step piece_step block_step catch_step expr_step lambda_step subject_step when_branch_step (ExprKind-F.Return (Some l) (Some w)))
operation_return (Some l) None = ap in_operation (sym (v.rolls-Return (Some l) None)) ∙ operation_at (ExprKind-F.Return (Some l) None) ∙ ap (λ (k : KindShape). k.inside true) (fold-roll-ExprKind ByUse (List Finding) KindShape StmtShape (List Finding) ByUse ByUse ExprShape (List Finding) (List Finding) CaseShape branch_step condition_step kind_step stmt_step piece_step block_step catch_step expr_step lambda_step subject_step when_branch_step (ExprKind-F.Return (Some l) None))
operation_return None (Some w) = ap in_operation (sym (v.rolls-Return None (Some w))) ∙ operation_at (ExprKind-F.Return None (Some w)) ∙ ap (λ (k : KindShape). k.inside true) (fold-roll-ExprKind ByUse (List Finding) KindShape StmtShape (List Finding) ByUse ByUse ExprShape (List Finding) (List Finding) CaseShape branch_step condition_step kind_step stmt_step piece_step block_step catch_step expr_step lambda_step subject_step when_branch_step (ExprKind-F.Return None (Some w)))
operation_return None None = ap in_operation (sym (v.rolls-Return None None)) ∙ operation_at (ExprKind-F.Return None None) ∙ ap (λ (k : KindShape). k.inside true) (fold-roll-ExprKind ByUse (List Finding) KindShape StmtShape (List Finding) ByUse ByUse ExprShape (List Finding) (List Finding) CaseShape branch_step condition_step kind_step stmt_step piece_step block_step catch_step expr_step lambda_step subject_step when_branch_step (ExprKind-F.Return None None))

pub operation_call : (f : Ident) (xs : List Expr) (l : Option Lambda) → in_operation (e.Call f xs l) ≡ []
operation_call f xs l = ap in_operation (sym (v.rolls-Call f xs l)) ∙ operation_at (ExprKind-F.Call f xs l)

pub operation_member_call : (x : Expr) (a : Access) (m : Ident) (xs : List Expr) → in_operation (e.MemberCall x a m xs) ≡ []
operation_member_call x a m xs = ap in_operation (sym (v.rolls-MemberCall x a m xs)) ∙ operation_at (ExprKind-F.MemberCall x a m xs)

pub operation_if : (q : Expr) (x : Branch) (y : Option Branch) → in_operation (e.If q x y) ≡ []
operation_if q x y = ap in_operation (sym (v.rolls-If q x y)) ∙ operation_at (ExprKind-F.If q x y)

pub operation_when : (y : Option Subject) (bs : List WhenBranch) → in_operation (e.When y bs) ≡ []
operation_when y bs = ap in_operation (sym (v.rolls-When y bs)) ∙ operation_at (ExprKind-F.When y bs)

pub operation_try : (x : Block) (cs : List Catch) (y : Option Block) → in_operation (e.Try x cs y) ≡ []
operation_try x cs y = ap in_operation (sym (v.rolls-Try x cs y)) ∙ operation_at (ExprKind-F.Try x cs y)

pub ruleset operations = (operation_int, operation_bool, operation_null, operation_this, operation_name, operation_break, operation_continue, operation_template, operation_paren, operation_not_null, operation_not, operation_throw, operation_sign, operation_as, operation_as_safe, operation_is, operation_is_not, operation_member, operation_sum, operation_and, operation_or, operation_elvis, operation_arithmetic, operation_compare, operation_equal, operation_return, operation_call, operation_member_call, operation_if, operation_when, operation_try)

operation_whole_at : (layer : Layer) → ((f : Ident) (xs : List Expr) (l : Option Lambda) → v.roll-ExprKind layer ≢ e.Call f xs l) → ((x : Expr) (a : Access) (m : Ident) (xs : List Expr) → v.roll-ExprKind layer ≢ e.MemberCall x a m xs) → ((q : Expr) (x : Branch) (y : Option Branch) → v.roll-ExprKind layer ≢ e.If q x y) → ((y : Option Subject) (bs : List WhenBranch) → v.roll-ExprKind layer ≢ e.When y bs) → ((x : Block) (cs : List Catch) (y : Option Block) → v.roll-ExprKind layer ≢ e.Try x cs y) → (valued : Bool) → (kind_shape (v.roll-ExprKind layer)).inside valued ≡ in_operation (v.roll-ExprKind layer)
unfolding expr_shape kind_shape stmt_shape block_shape branch_shape piece_shape condition_shape catch_shape lambda_shape subject_shape case_shape
operation_whole_at (ExprKind-F.Call f xs l) h0 h1 h2 h3 h4 valued = absurd (h0 f xs l (v.rolls-Call f xs l))
operation_whole_at (ExprKind-F.MemberCall x a m xs) h0 h1 h2 h3 h4 valued = absurd (h1 x a m xs (v.rolls-MemberCall x a m xs))
operation_whole_at (ExprKind-F.If q x y) h0 h1 h2 h3 h4 valued = absurd (h2 q x y (v.rolls-If q x y))
operation_whole_at (ExprKind-F.When y bs) h0 h1 h2 h3 h4 valued = absurd (h3 y bs (v.rolls-When y bs))
operation_whole_at (ExprKind-F.Try x cs y) h0 h1 h2 h3 h4 valued = absurd (h4 x cs y (v.rolls-Try x cs y))
operation_whole_at layer h0 h1 h2 h3 h4 valued = ap (λ (k : KindShape). k.inside valued) (fold-roll-ExprKind ByUse (List Finding) KindShape StmtShape (List Finding) ByUse ByUse ExprShape (List Finding) (List Finding) CaseShape branch_step condition_step kind_step stmt_step piece_step block_step catch_step expr_step lambda_step subject_step when_branch_step layer) ∙ sym (operation_at layer ∙ ap (λ (k : KindShape). k.inside true) (fold-roll-ExprKind ByUse (List Finding) KindShape StmtShape (List Finding) ByUse ByUse ExprShape (List Finding) (List Finding) CaseShape branch_step condition_step kind_step stmt_step piece_step block_step catch_step expr_step lambda_step subject_step when_branch_step layer))

-- none of the five other kinds
pub operation_whole : (j : ExprKind) → ((f : Ident) (xs : List Expr) (l : Option Lambda) → j ≢ e.Call f xs l) → ((x : Expr) (a : Access) (m : Ident) (xs : List Expr) → j ≢ e.MemberCall x a m xs) → ((q : Expr) (x : Branch) (y : Option Branch) → j ≢ e.If q x y) → ((y : Option Subject) (bs : List WhenBranch) → j ≢ e.When y bs) → ((x : Block) (cs : List Catch) (y : Option Block) → j ≢ e.Try x cs y) → (valued : Bool) → (kind_shape j).inside valued ≡ in_operation j
operation_whole j h0 h1 h2 h3 h4 valued = subst (λ i. (kind_shape i).inside valued ≡ in_operation i) (v.roll-out-ExprKind j) (operation_whole_at (v.out-ExprKind j) (λ f xs l. subst (λ i. i ≢ e.Call f xs l) (sym (v.roll-out-ExprKind j)) (h0 f xs l)) (λ x a m xs. subst (λ i. i ≢ e.MemberCall x a m xs) (sym (v.roll-out-ExprKind j)) (h1 x a m xs)) (λ q x y. subst (λ i. i ≢ e.If q x y) (sym (v.roll-out-ExprKind j)) (h2 q x y)) (λ y bs. subst (λ i. i ≢ e.When y bs) (sym (v.roll-out-ExprKind j)) (h3 y bs)) (λ x cs y. subst (λ i. i ≢ e.Try x cs y) (sym (v.roll-out-ExprKind j)) (h4 x cs y)) valued)

-- ---- calls, `if`, `when` and `try`

pub kind_call : (f : Ident) (xs : List Expr) (l : Option Lambda) (valued : Bool) → (kind_shape (e.Call f xs l)).inside valued ≡ flat_map in_part xs ++ given_if (option_map lambda_shape l)
unfolding expr_shape kind_shape stmt_shape block_shape branch_shape piece_shape condition_shape catch_shape lambda_shape subject_shape case_shape
kind_call f xs (Some l) valued = ap (λ k. (kind_shape k).inside valued) (sym (v.rolls-Call f xs (Some l))) ∙ ap (λ (k : KindShape). k.inside valued) (fold-roll-ExprKind ByUse (List Finding) KindShape StmtShape (List Finding) ByUse ByUse ExprShape (List Finding) (List Finding) CaseShape branch_step condition_step kind_step stmt_step piece_step block_step catch_step expr_step lambda_step subject_step when_branch_step (ExprKind-F.Call f xs (Some l))) ∙ ap (λ z. z ++ lambda_shape l) (each_map xs)
kind_call f xs None valued = ap (λ k. (kind_shape k).inside valued) (sym (v.rolls-Call f xs None)) ∙ ap (λ (k : KindShape). k.inside valued) (fold-roll-ExprKind ByUse (List Finding) KindShape StmtShape (List Finding) ByUse ByUse ExprShape (List Finding) (List Finding) CaseShape branch_step condition_step kind_step stmt_step piece_step block_step catch_step expr_step lambda_step subject_step when_branch_step (ExprKind-F.Call f xs None)) ∙ ap (λ z. z ++ []) (each_map xs)

pub kind_member_call : (x : Expr) (a : Access) (m : Ident) (xs : List Expr) (valued : Bool) → (kind_shape (e.MemberCall x a m xs)).inside valued ≡ in_part x ++ flat_map in_part xs
unfolding expr_shape kind_shape stmt_shape block_shape branch_shape piece_shape condition_shape catch_shape lambda_shape subject_shape case_shape
kind_member_call x a m xs valued = ap (λ k. (kind_shape k).inside valued) (sym (v.rolls-MemberCall x a m xs)) ∙ ap (λ (k : KindShape). k.inside valued) (fold-roll-ExprKind ByUse (List Finding) KindShape StmtShape (List Finding) ByUse ByUse ExprShape (List Finding) (List Finding) CaseShape branch_step condition_step kind_step stmt_step piece_step block_step catch_step expr_step lambda_step subject_step when_branch_step (ExprKind-F.MemberCall x a m xs)) ∙ ap (λ z. in_part x ++ z) (each_map xs)

pub kind_if : (q : Expr) (x : Branch) (y : Option Branch) (valued : Bool) → (kind_shape (e.If q x y)).inside valued ≡ in_part q ++ branch_shape x valued ++ whole_if (option_map branch_shape y) valued
unfolding expr_shape kind_shape stmt_shape block_shape branch_shape piece_shape condition_shape catch_shape lambda_shape subject_shape case_shape
kind_if q x (Some y) valued = ap (λ k. (kind_shape k).inside valued) (sym (v.rolls-If q x (Some y))) ∙ ap (λ (k : KindShape). k.inside valued) (fold-roll-ExprKind ByUse (List Finding) KindShape StmtShape (List Finding) ByUse ByUse ExprShape (List Finding) (List Finding) CaseShape branch_step condition_step kind_step stmt_step piece_step block_step catch_step expr_step lambda_step subject_step when_branch_step (ExprKind-F.If q x (Some y)))
kind_if q x None valued = ap (λ k. (kind_shape k).inside valued) (sym (v.rolls-If q x None)) ∙ ap (λ (k : KindShape). k.inside valued) (fold-roll-ExprKind ByUse (List Finding) KindShape StmtShape (List Finding) ByUse ByUse ExprShape (List Finding) (List Finding) CaseShape branch_step condition_step kind_step stmt_step piece_step block_step catch_step expr_step lambda_step subject_step when_branch_step (ExprKind-F.If q x None))

pub kind_when : (y : Option Subject) (bs : List WhenBranch) (valued : Bool) → (kind_shape (e.When y bs)).inside valued ≡ given_if (option_map subject_shape y) ++ flat_map (λ b. (case_shape b).whole valued) bs
unfolding expr_shape kind_shape stmt_shape block_shape branch_shape piece_shape condition_shape catch_shape lambda_shape subject_shape case_shape
kind_when (Some y) bs valued = ap (λ k. (kind_shape k).inside valued) (sym (v.rolls-When (Some y) bs)) ∙ ap (λ (k : KindShape). k.inside valued) (fold-roll-ExprKind ByUse (List Finding) KindShape StmtShape (List Finding) ByUse ByUse ExprShape (List Finding) (List Finding) CaseShape branch_step condition_step kind_step stmt_step piece_step block_step catch_step expr_step lambda_step subject_step when_branch_step (ExprKind-F.When (Some y) bs)) ∙ ap (λ z. subject_shape y ++ z) (flat_through (λ (b : CaseShape). b.whole valued) case_shape bs)
kind_when None bs valued = ap (λ k. (kind_shape k).inside valued) (sym (v.rolls-When None bs)) ∙ ap (λ (k : KindShape). k.inside valued) (fold-roll-ExprKind ByUse (List Finding) KindShape StmtShape (List Finding) ByUse ByUse ExprShape (List Finding) (List Finding) CaseShape branch_step condition_step kind_step stmt_step piece_step block_step catch_step expr_step lambda_step subject_step when_branch_step (ExprKind-F.When None bs)) ∙ ap (λ z. [] ++ z) (flat_through (λ (b : CaseShape). b.whole valued) case_shape bs)

pub kind_try : (x : Block) (cs : List Catch) (y : Option Block) (valued : Bool) → (kind_shape (e.Try x cs y)).inside valued ≡ block_shape x valued ++ flat_map (λ c. catch_shape c valued) cs ++ whole_if (option_map block_shape y) false
unfolding expr_shape kind_shape stmt_shape block_shape branch_shape piece_shape condition_shape catch_shape lambda_shape subject_shape case_shape
kind_try x cs (Some y) valued = ap (λ k. (kind_shape k).inside valued) (sym (v.rolls-Try x cs (Some y))) ∙ ap (λ (k : KindShape). k.inside valued) (fold-roll-ExprKind ByUse (List Finding) KindShape StmtShape (List Finding) ByUse ByUse ExprShape (List Finding) (List Finding) CaseShape branch_step condition_step kind_step stmt_step piece_step block_step catch_step expr_step lambda_step subject_step when_branch_step (ExprKind-F.Try x cs (Some y))) ∙ ap (λ z. block_shape x valued ++ z ++ block_shape y false) (flat_through (λ (c : ByUse). c valued) catch_shape cs)
kind_try x cs None valued = ap (λ k. (kind_shape k).inside valued) (sym (v.rolls-Try x cs None)) ∙ ap (λ (k : KindShape). k.inside valued) (fold-roll-ExprKind ByUse (List Finding) KindShape StmtShape (List Finding) ByUse ByUse ExprShape (List Finding) (List Finding) CaseShape branch_step condition_step kind_step stmt_step piece_step block_step catch_step expr_step lambda_step subject_step when_branch_step (ExprKind-F.Try x cs None)) ∙ ap (λ z. block_shape x valued ++ z ++ []) (flat_through (λ (c : ByUse). c valued) catch_shape cs)

-- ---- other trees

pub expr_of_kind : (x : Expr) → expr_shape x ≡ record { span = x.span; is_target = (kind_shape x.kind).is_target; whole = λ valued. where_ (valued && (kind_shape x.kind).lacks_else) NoElse x.span ++ (kind_shape x.kind).inside valued }
unfolding expr_shape kind_shape stmt_shape block_shape branch_shape piece_shape condition_shape catch_shape lambda_shape subject_shape case_shape
expr_of_kind x = fold-roll-Expr ByUse (List Finding) KindShape StmtShape (List Finding) ByUse ByUse ExprShape (List Finding) (List Finding) CaseShape branch_step condition_step kind_step stmt_step piece_step block_step catch_step expr_step lambda_step subject_step when_branch_step (record { number = x.number; span = x.span; kind = x.kind })

pub expr_whole : (x : Expr) (valued : Bool) → (expr_shape x).whole valued ≡ where_ (valued && (kind_shape x.kind).lacks_else) NoElse x.span ++ (kind_shape x.kind).inside valued
expr_whole x valued = ap (λ (y : ExprShape). y.whole valued) (expr_of_kind x)

pub expr_span : (x : Expr) → (expr_shape x).span ≡ x.span
expr_span x = ap (λ (y : ExprShape). y.span) (expr_of_kind x)

pub expr_target : (x : Expr) → (expr_shape x).is_target ≡ (kind_shape x.kind).is_target
expr_target x = ap (λ (y : ExprShape). y.is_target) (expr_of_kind x)

pub stmt_expr : (x : Expr) → stmt_shape (s.Expr x) ≡ record { span = (expr_shape x).span; is_value = true; whole = (expr_shape x).whole }
unfolding expr_shape kind_shape stmt_shape block_shape branch_shape piece_shape condition_shape catch_shape lambda_shape subject_shape case_shape
stmt_expr x = ap stmt_shape (sym (v.rolls-Expr x)) ∙ fold-roll-Stmt ByUse (List Finding) KindShape StmtShape (List Finding) ByUse ByUse ExprShape (List Finding) (List Finding) CaseShape branch_step condition_step kind_step stmt_step piece_step block_step catch_step expr_step lambda_step subject_step when_branch_step (Stmt-F.Expr x)

pub stmt_local : (n : ℕ) (at : Span) (m : Bool) (i : Ident) (w : Option TypeRef) (x : Option Expr) → stmt_shape (s.Local n at m i w x) ≡ record { span = at; is_value = true; whole = λ valued. taken_if (option_map expr_shape x) }
unfolding expr_shape kind_shape stmt_shape block_shape branch_shape piece_shape condition_shape catch_shape lambda_shape subject_shape case_shape
stmt_local n at m i (Some w) (Some x) = ap stmt_shape (sym (v.rolls-Local n at m i (Some w) (Some x))) ∙ fold-roll-Stmt ByUse (List Finding) KindShape StmtShape (List Finding) ByUse ByUse ExprShape (List Finding) (List Finding) CaseShape branch_step condition_step kind_step stmt_step piece_step block_step catch_step expr_step lambda_step subject_step when_branch_step (Stmt-F.Local n at m i (Some w) (Some x))
stmt_local n at m i (Some w) None = ap stmt_shape (sym (v.rolls-Local n at m i (Some w) None)) ∙ fold-roll-Stmt ByUse (List Finding) KindShape StmtShape (List Finding) ByUse ByUse ExprShape (List Finding) (List Finding) CaseShape branch_step condition_step kind_step stmt_step piece_step block_step catch_step expr_step lambda_step subject_step when_branch_step (Stmt-F.Local n at m i (Some w) None)
stmt_local n at m i None (Some x) = ap stmt_shape (sym (v.rolls-Local n at m i None (Some x))) ∙ fold-roll-Stmt ByUse (List Finding) KindShape StmtShape (List Finding) ByUse ByUse ExprShape (List Finding) (List Finding) CaseShape branch_step condition_step kind_step stmt_step piece_step block_step catch_step expr_step lambda_step subject_step when_branch_step (Stmt-F.Local n at m i None (Some x))
stmt_local n at m i None None = ap stmt_shape (sym (v.rolls-Local n at m i None None)) ∙ fold-roll-Stmt ByUse (List Finding) KindShape StmtShape (List Finding) ByUse ByUse ExprShape (List Finding) (List Finding) CaseShape branch_step condition_step kind_step stmt_step piece_step block_step catch_step expr_step lambda_step subject_step when_branch_step (Stmt-F.Local n at m i None None)

pub stmt_assign : (n : ℕ) (at : Span) (t : Expr) (a : Assignment) (x : Option Expr) → stmt_shape (s.Assign n at t a x) ≡ record { span = at; is_value = false; whole = λ valued. where_ (not (expr_shape t).is_target) AssignTarget (expr_shape t).span ++ (expr_shape t).whole false ++ taken_if (option_map expr_shape x) }
unfolding expr_shape kind_shape stmt_shape block_shape branch_shape piece_shape condition_shape catch_shape lambda_shape subject_shape case_shape
stmt_assign n at t a (Some x) = ap stmt_shape (sym (v.rolls-Assign n at t a (Some x))) ∙ fold-roll-Stmt ByUse (List Finding) KindShape StmtShape (List Finding) ByUse ByUse ExprShape (List Finding) (List Finding) CaseShape branch_step condition_step kind_step stmt_step piece_step block_step catch_step expr_step lambda_step subject_step when_branch_step (Stmt-F.Assign n at t a (Some x))
stmt_assign n at t a None = ap stmt_shape (sym (v.rolls-Assign n at t a None)) ∙ fold-roll-Stmt ByUse (List Finding) KindShape StmtShape (List Finding) ByUse ByUse ExprShape (List Finding) (List Finding) CaseShape branch_step condition_step kind_step stmt_step piece_step block_step catch_step expr_step lambda_step subject_step when_branch_step (Stmt-F.Assign n at t a None)

pub stmt_while : (n : ℕ) (at : Span) (x : Expr) (y : Branch) → stmt_shape (s.While n at x y) ≡ record { span = at; is_value = false; whole = λ valued. in_part x ++ branch_shape y false }
unfolding expr_shape kind_shape stmt_shape block_shape branch_shape piece_shape condition_shape catch_shape lambda_shape subject_shape case_shape
stmt_while n at x y = ap stmt_shape (sym (v.rolls-While n at x y)) ∙ fold-roll-Stmt ByUse (List Finding) KindShape StmtShape (List Finding) ByUse ByUse ExprShape (List Finding) (List Finding) CaseShape branch_step condition_step kind_step stmt_step piece_step block_step catch_step expr_step lambda_step subject_step when_branch_step (Stmt-F.While n at x y)

pub stmt_do_while : (n : ℕ) (at : Span) (y : Block) (x : Expr) → stmt_shape (s.DoWhile n at y x) ≡ record { span = at; is_value = false; whole = λ valued. block_shape y false ++ in_part x }
unfolding expr_shape kind_shape stmt_shape block_shape branch_shape piece_shape condition_shape catch_shape lambda_shape subject_shape case_shape
stmt_do_while n at y x = ap stmt_shape (sym (v.rolls-DoWhile n at y x)) ∙ fold-roll-Stmt ByUse (List Finding) KindShape StmtShape (List Finding) ByUse ByUse ExprShape (List Finding) (List Finding) CaseShape branch_step condition_step kind_step stmt_step piece_step block_step catch_step expr_step lambda_step subject_step when_branch_step (Stmt-F.DoWhile n at y x)

pub stmt_for : (n : ℕ) (at : Span) (i : Ident) (w : Option TypeRef) (x : Expr) (o : Progression) (y : Expr) (z : Branch) → stmt_shape (s.For n at i w x o y z) ≡ record { span = at; is_value = false; whole = λ valued. in_part x ++ in_part y ++ branch_shape z false }
unfolding expr_shape kind_shape stmt_shape block_shape branch_shape piece_shape condition_shape catch_shape lambda_shape subject_shape case_shape
stmt_for n at i (Some w) x o y z = ap stmt_shape (sym (v.rolls-For n at i (Some w) x o y z)) ∙ fold-roll-Stmt ByUse (List Finding) KindShape StmtShape (List Finding) ByUse ByUse ExprShape (List Finding) (List Finding) CaseShape branch_step condition_step kind_step stmt_step piece_step block_step catch_step expr_step lambda_step subject_step when_branch_step (Stmt-F.For n at i (Some w) x o y z)
stmt_for n at i None x o y z = ap stmt_shape (sym (v.rolls-For n at i None x o y z)) ∙ fold-roll-Stmt ByUse (List Finding) KindShape StmtShape (List Finding) ByUse ByUse ExprShape (List Finding) (List Finding) CaseShape branch_step condition_step kind_step stmt_step piece_step block_step catch_step expr_step lambda_step subject_step when_branch_step (Stmt-F.For n at i None x o y z)

pub value_expr : (x : Expr) → (stmt_shape (s.Expr x)).is_value ≡ true
value_expr x = ap (λ (g : StmtShape). g.is_value) (stmt_expr x)

pub value_local : (n : ℕ) (at : Span) (m : Bool) (i : Ident) (w : Option TypeRef) (x : Option Expr) → (stmt_shape (s.Local n at m i w x)).is_value ≡ true
value_local n at m i w x = ap (λ (g : StmtShape). g.is_value) (stmt_local n at m i w x)

pub value_assign : (n : ℕ) (at : Span) (t : Expr) (a : Assignment) (x : Option Expr) → (stmt_shape (s.Assign n at t a x)).is_value ≡ false
value_assign n at t a x = ap (λ (g : StmtShape). g.is_value) (stmt_assign n at t a x)

pub value_while : (n : ℕ) (at : Span) (x : Expr) (y : Branch) → (stmt_shape (s.While n at x y)).is_value ≡ false
value_while n at x y = ap (λ (g : StmtShape). g.is_value) (stmt_while n at x y)

pub value_do_while : (n : ℕ) (at : Span) (y : Block) (x : Expr) → (stmt_shape (s.DoWhile n at y x)).is_value ≡ false
value_do_while n at y x = ap (λ (g : StmtShape). g.is_value) (stmt_do_while n at y x)

pub value_for : (n : ℕ) (at : Span) (i : Ident) (w : Option TypeRef) (x : Expr) (o : Progression) (y : Expr) (z : Branch) → (stmt_shape (s.For n at i w x o y z)).is_value ≡ false
value_for n at i w x o y z = ap (λ (g : StmtShape). g.is_value) (stmt_for n at i w x o y z)

-- which statements can stand for a value
pub ruleset values = (value_expr, value_local, value_assign, value_while, value_do_while, value_for)

pub span_expr : (x : Expr) → (stmt_shape (s.Expr x)).span ≡ x.span
span_expr x = ap (λ (g : StmtShape). g.span) (stmt_expr x) ∙ expr_span x

pub span_local : (n : ℕ) (at : Span) (m : Bool) (i : Ident) (w : Option TypeRef) (x : Option Expr) → (stmt_shape (s.Local n at m i w x)).span ≡ at
span_local n at m i w x = ap (λ (g : StmtShape). g.span) (stmt_local n at m i w x)

pub span_assign : (n : ℕ) (at : Span) (t : Expr) (a : Assignment) (x : Option Expr) → (stmt_shape (s.Assign n at t a x)).span ≡ at
span_assign n at t a x = ap (λ (g : StmtShape). g.span) (stmt_assign n at t a x)

pub span_while : (n : ℕ) (at : Span) (x : Expr) (y : Branch) → (stmt_shape (s.While n at x y)).span ≡ at
span_while n at x y = ap (λ (g : StmtShape). g.span) (stmt_while n at x y)

pub span_do_while : (n : ℕ) (at : Span) (y : Block) (x : Expr) → (stmt_shape (s.DoWhile n at y x)).span ≡ at
span_do_while n at y x = ap (λ (g : StmtShape). g.span) (stmt_do_while n at y x)

pub span_for : (n : ℕ) (at : Span) (i : Ident) (w : Option TypeRef) (x : Expr) (o : Progression) (y : Expr) (z : Branch) → (stmt_shape (s.For n at i w x o y z)).span ≡ at
span_for n at i w x o y z = ap (λ (g : StmtShape). g.span) (stmt_for n at i w x o y z)

pub ruleset spans = (span_expr, span_local, span_assign, span_while, span_do_while, span_for)

pub branch_braced : (x : Block) → branch_shape (b.Braced x) ≡ block_shape x
unfolding expr_shape kind_shape stmt_shape block_shape branch_shape piece_shape condition_shape catch_shape lambda_shape subject_shape case_shape
branch_braced x = ap branch_shape (sym (v.rolls-Braced x)) ∙ fold-roll-Branch ByUse (List Finding) KindShape StmtShape (List Finding) ByUse ByUse ExprShape (List Finding) (List Finding) CaseShape branch_step condition_step kind_step stmt_step piece_step block_step catch_step expr_step lambda_step subject_step when_branch_step (Branch-F.Braced x)

pub branch_single : (x : Stmt) → branch_shape (b.Single x) ≡ (λ valued. where_ (valued && not (stmt_shape x).is_value) ValueExpected (stmt_shape x).span ++ (stmt_shape x).whole valued)
unfolding expr_shape kind_shape stmt_shape block_shape branch_shape piece_shape condition_shape catch_shape lambda_shape subject_shape case_shape
branch_single x = ap branch_shape (sym (v.rolls-Single x)) ∙ fold-roll-Branch ByUse (List Finding) KindShape StmtShape (List Finding) ByUse ByUse ExprShape (List Finding) (List Finding) CaseShape branch_step condition_step kind_step stmt_step piece_step block_step catch_step expr_step lambda_step subject_step when_branch_step (Branch-F.Single x)

pub piece_text : (bs : List ℕ) → piece_shape (p.Text bs) ≡ []
unfolding expr_shape kind_shape stmt_shape block_shape branch_shape piece_shape condition_shape catch_shape lambda_shape subject_shape case_shape
piece_text bs = ap piece_shape (sym (v.rolls-Text bs)) ∙ fold-roll-StringPart ByUse (List Finding) KindShape StmtShape (List Finding) ByUse ByUse ExprShape (List Finding) (List Finding) CaseShape branch_step condition_step kind_step stmt_step piece_step block_step catch_step expr_step lambda_step subject_step when_branch_step (StringPart-F.Text bs)

pub piece_inserted : (x : Expr) → piece_shape (p.Inserted x) ≡ in_part x
unfolding expr_shape kind_shape stmt_shape block_shape branch_shape piece_shape condition_shape catch_shape lambda_shape subject_shape case_shape
piece_inserted x = ap piece_shape (sym (v.rolls-Inserted x)) ∙ fold-roll-StringPart ByUse (List Finding) KindShape StmtShape (List Finding) ByUse ByUse ExprShape (List Finding) (List Finding) CaseShape branch_step condition_step kind_step stmt_step piece_step block_step catch_step expr_step lambda_step subject_step when_branch_step (StringPart-F.Inserted x)

pub condition_is : (at : Span) (w : TypeRef) → condition_shape (c.Is at w) ≡ []
unfolding expr_shape kind_shape stmt_shape block_shape branch_shape piece_shape condition_shape catch_shape lambda_shape subject_shape case_shape
condition_is at w = ap condition_shape (sym (v.«rolls-Condition::Is» at w)) ∙ fold-roll-Condition ByUse (List Finding) KindShape StmtShape (List Finding) ByUse ByUse ExprShape (List Finding) (List Finding) CaseShape branch_step condition_step kind_step stmt_step piece_step block_step catch_step expr_step lambda_step subject_step when_branch_step (Condition-F.«Condition::Is» at w)

pub condition_is_not : (at : Span) (w : TypeRef) → condition_shape (c.IsNot at w) ≡ []
unfolding expr_shape kind_shape stmt_shape block_shape branch_shape piece_shape condition_shape catch_shape lambda_shape subject_shape case_shape
condition_is_not at w = ap condition_shape (sym (v.«rolls-Condition::IsNot» at w)) ∙ fold-roll-Condition ByUse (List Finding) KindShape StmtShape (List Finding) ByUse ByUse ExprShape (List Finding) (List Finding) CaseShape branch_step condition_step kind_step stmt_step piece_step block_step catch_step expr_step lambda_step subject_step when_branch_step (Condition-F.«Condition::IsNot» at w)

pub condition_value : (x : Expr) → condition_shape (c.Value x) ≡ in_part x
unfolding expr_shape kind_shape stmt_shape block_shape branch_shape piece_shape condition_shape catch_shape lambda_shape subject_shape case_shape
condition_value x = ap condition_shape (sym (v.rolls-Value x)) ∙ fold-roll-Condition ByUse (List Finding) KindShape StmtShape (List Finding) ByUse ByUse ExprShape (List Finding) (List Finding) CaseShape branch_step condition_step kind_step stmt_step piece_step block_step catch_step expr_step lambda_step subject_step when_branch_step (Condition-F.Value x)

pub subject_parts : (x : Subject) → subject_shape x ≡ in_part x.value
unfolding expr_shape kind_shape stmt_shape block_shape branch_shape piece_shape condition_shape catch_shape lambda_shape subject_shape case_shape
subject_parts x = fold-roll-Subject ByUse (List Finding) KindShape StmtShape (List Finding) ByUse ByUse ExprShape (List Finding) (List Finding) CaseShape branch_step condition_step kind_step stmt_step piece_step block_step catch_step expr_step lambda_step subject_step when_branch_step (record { variable = x.variable; written = x.written; value = x.value })

pub block_parts : (x : Block) → block_shape x ≡ in_turn (map stmt_shape (out-Block x).statements)
unfolding expr_shape kind_shape stmt_shape block_shape branch_shape piece_shape condition_shape catch_shape lambda_shape subject_shape case_shape
block_parts x = fold_out-Block ByUse (List Finding) KindShape StmtShape (List Finding) ByUse ByUse ExprShape (List Finding) (List Finding) CaseShape branch_step condition_step kind_step stmt_step piece_step block_step catch_step expr_step lambda_step subject_step when_branch_step x

pub lambda_parts : (x : Lambda) → lambda_shape x ≡ block_shape (out-Lambda x).body false
unfolding expr_shape kind_shape stmt_shape block_shape branch_shape piece_shape condition_shape catch_shape lambda_shape subject_shape case_shape
lambda_parts x = fold_out-Lambda ByUse (List Finding) KindShape StmtShape (List Finding) ByUse ByUse ExprShape (List Finding) (List Finding) CaseShape branch_step condition_step kind_step stmt_step piece_step block_step catch_step expr_step lambda_step subject_step when_branch_step x

pub catch_parts : (x : Catch) → catch_shape x ≡ block_shape (out-Catch x).body
unfolding expr_shape kind_shape stmt_shape block_shape branch_shape piece_shape condition_shape catch_shape lambda_shape subject_shape case_shape
catch_parts x = fold_out-Catch ByUse (List Finding) KindShape StmtShape (List Finding) ByUse ByUse ExprShape (List Finding) (List Finding) CaseShape branch_step condition_step kind_step stmt_step piece_step block_step catch_step expr_step lambda_step subject_step when_branch_step x

abbrev with_conditions : WhenBranch → Option (List Condition) → WhenBranch
with_conditions x z = v.roll-WhenBranch (record { conditions = z; begins = (out-WhenBranch x).begins; body = (out-WhenBranch x).body })

pub case_tested : (x : WhenBranch) (cs : List Condition) → (out-WhenBranch x).conditions ≡ Some cs → case_shape x ≡ record { is_else = false; whole = λ valued. joined (map condition_shape cs) ++ branch_shape (out-WhenBranch x).body valued }
unfolding expr_shape kind_shape stmt_shape block_shape branch_shape piece_shape condition_shape catch_shape lambda_shape subject_shape case_shape
case_tested x cs e =
    ap case_shape (sym (v.roll-out-WhenBranch x)) ∙ ap (λ z. case_shape (with_conditions x z)) e ∙ fold-roll-WhenBranch ByUse (List Finding) KindShape StmtShape (List Finding) ByUse ByUse ExprShape (List Finding) (List Finding) CaseShape branch_step condition_step kind_step stmt_step piece_step block_step catch_step expr_step lambda_step subject_step when_branch_step (record { conditions = Some cs; begins = (out-WhenBranch x).begins; body = (out-WhenBranch x).body })

pub case_else : (x : WhenBranch) → (out-WhenBranch x).conditions ≡ None → case_shape x ≡ record { is_else = true; whole = λ valued. [] ++ branch_shape (out-WhenBranch x).body valued }
unfolding expr_shape kind_shape stmt_shape block_shape branch_shape piece_shape condition_shape catch_shape lambda_shape subject_shape case_shape
case_else x e =
    ap case_shape (sym (v.roll-out-WhenBranch x)) ∙ ap (λ z. case_shape (with_conditions x z)) e ∙ fold-roll-WhenBranch ByUse (List Finding) KindShape StmtShape (List Finding) ByUse ByUse ExprShape (List Finding) (List Finding) CaseShape branch_step condition_step kind_step stmt_step piece_step block_step catch_step expr_step lambda_step subject_step when_branch_step (record { conditions = None; begins = (out-WhenBranch x).begins; body = (out-WhenBranch x).body })

pub case_tested_whole : (x : WhenBranch) (cs : List Condition) → (out-WhenBranch x).conditions ≡ Some cs → (valued : Bool) → (case_shape x).whole valued ≡ flat_map condition_shape cs ++ branch_shape (out-WhenBranch x).body valued
case_tested_whole x cs e valued =
    ap (λ (k : CaseShape). k.whole valued) (case_tested x cs e) ∙ ap (λ z. z ++ branch_shape (out-WhenBranch x).body valued) (joined_map condition_shape cs)

pub case_else_whole : (x : WhenBranch) → (out-WhenBranch x).conditions ≡ None → (valued : Bool) → (case_shape x).whole valued ≡ branch_shape (out-WhenBranch x).body valued
case_else_whole x e valued = ap (λ (k : CaseShape). k.whole valued) (case_else x e)

-- what `is_none` tells
pub none_by : {A : Type 0} (told : Bool) (held : Option A) → is_some held ≡ not told → told ≡ is_none held
none_by true (Some x) e = absurd (true≢false e)
none_by true None e = refl
none_by false (Some x) e = refl
none_by false None e = absurd (true≢false (sym e))

-- whether there are no conditions
pub is_else_by : (x : WhenBranch) (held : Option (List Condition)) → (out-WhenBranch x).conditions ≡ held → (case_shape x).is_else ≡ is_none held
is_else_by x (Some cs) e = ap (λ (k : CaseShape). k.is_else) (case_tested x cs e)
is_else_by x None e = ap (λ (k : CaseShape). k.is_else) (case_else x e)

-- ---- statements one behind another

some_left : (n : ℕ) → (suc n == 0) ≡ false
some_left n = grind (arith, nat_tests)

turn_step : (x : StmtShape) (xs : List StmtShape) (valued : Bool) → in_turn (x ∷ xs) valued ≡ x.whole (valued && (length xs == 0)) ++ in_turn xs valued
turn_step x [] true = sym (append-nil (x.whole true))
turn_step x [] false = sym (append-nil (x.whole false))
turn_step x (y ∷ ys) true = ap (λ last. x.whole last ++ in_turn (y ∷ ys) true) (sym (some_left (length ys)))
turn_step x (y ∷ ys) false = refl

left_none : (m n : ℕ) → m ≤ n → (n - m == 0) ≡ (m == n)
left_none m n l = grind (arith, nat_tests)

none_behind : (ss : List Stmt) (i : ℕ) → i < length ss → (length (map stmt_shape (drop (i + 1) ss)) == 0) ≡ (i + 1 == length ss)
none_behind ss i l =
    ap (λ n. n == 0) (length-map (drop (i + 1) ss) stmt_shape ∙ length-drop (i + 1) ss) ∙ left_none (i + 1) (length ss) (omega arith)

-- the statement at a place, and those behind it
pub turn_at : (ss : List Stmt) (i : ℕ) (x : Stmt) (valued : Bool) → i < length ss → x ≡ get_or ss i x → in_turn (map stmt_shape (drop i ss)) valued ≡ (stmt_shape x).whole (valued && (i + 1 == length ss)) ++ in_turn (map stmt_shape (drop (i + 1) ss)) valued
turn_at ss i x valued l e =
    at_drop_more (λ rest. in_turn (map stmt_shape rest) valued) ss i x l
    ∙ turn_step (stmt_shape (get_or ss i x)) (map stmt_shape (drop (i + 1) ss)) valued
    ∙ ap (λ last. (stmt_shape (get_or ss i x)).whole (valued && last) ++ in_turn (map stmt_shape (drop (i + 1) ss)) valued) (none_behind ss i l)
    ∙ ap (λ y. (stmt_shape y).whole (valued && (i + 1 == length ss)) ++ in_turn (map stmt_shape (drop (i + 1) ss)) valued) (sym e)

-- ---- left sides, and what lacks an `else`

pub name_target : (x : ℕ) → (kind_shape (e.Name x)).is_target ≡ true
unfolding expr_shape kind_shape stmt_shape block_shape branch_shape piece_shape condition_shape catch_shape lambda_shape subject_shape case_shape
name_target x = ap (λ (k : KindShape). k.is_target) (ap kind_shape (sym (v.rolls-Name x)) ∙ fold-roll-ExprKind ByUse (List Finding) KindShape StmtShape (List Finding) ByUse ByUse ExprShape (List Finding) (List Finding) CaseShape branch_step condition_step kind_step stmt_step piece_step block_step catch_step expr_step lambda_step subject_step when_branch_step (ExprKind-F.Name x))

pub member_target : (x : Expr) (a : Access) (m : Ident) → (kind_shape (e.Member x a m)).is_target ≡ is_dot a
unfolding expr_shape kind_shape stmt_shape block_shape branch_shape piece_shape condition_shape catch_shape lambda_shape subject_shape case_shape
member_target x a m = ap (λ (k : KindShape). k.is_target) (ap kind_shape (sym (v.rolls-Member x a m)) ∙ fold-roll-ExprKind ByUse (List Finding) KindShape StmtShape (List Finding) ByUse ByUse ExprShape (List Finding) (List Finding) CaseShape branch_step condition_step kind_step stmt_step piece_step block_step catch_step expr_step lambda_step subject_step when_branch_step (ExprKind-F.Member x a m))

other_target_at : (layer : Layer) → ((x : ℕ) → v.roll-ExprKind layer ≢ e.Name x) → ((x : Expr) (a : Access) (m : Ident) → v.roll-ExprKind layer ≢ e.Member x a m) → (kind_shape (v.roll-ExprKind layer)).is_target ≡ false
unfolding expr_shape kind_shape stmt_shape block_shape branch_shape piece_shape condition_shape catch_shape lambda_shape subject_shape case_shape
other_target_at (ExprKind-F.Name x) h k = absurd (h x (v.rolls-Name x))
other_target_at (ExprKind-F.Member x a m) h k = absurd (k x a m (v.rolls-Member x a m))
other_target_at layer h k = ap (λ (g : KindShape). g.is_target) (fold-roll-ExprKind ByUse (List Finding) KindShape StmtShape (List Finding) ByUse ByUse ExprShape (List Finding) (List Finding) CaseShape branch_step condition_step kind_step stmt_step piece_step block_step catch_step expr_step lambda_step subject_step when_branch_step layer)

-- neither a name nor a member
pub other_target : (j : ExprKind) → ((x : ℕ) → j ≢ e.Name x) → ((x : Expr) (a : Access) (m : Ident) → j ≢ e.Member x a m) → (kind_shape j).is_target ≡ false
other_target j h k = subst (λ i. (kind_shape i).is_target ≡ false) (v.roll-out-ExprKind j) (other_target_at (v.out-ExprKind j) (λ x. subst (λ i. i ≢ e.Name x) (sym (v.roll-out-ExprKind j)) (h x)) (λ x a m. subst (λ i. i ≢ e.Member x a m) (sym (v.roll-out-ExprKind j)) (k x a m)))

pub if_lacks : (q : Expr) (x : Branch) (y : Option Branch) → (kind_shape (e.If q x y)).lacks_else ≡ is_none y
unfolding expr_shape kind_shape stmt_shape block_shape branch_shape piece_shape condition_shape catch_shape lambda_shape subject_shape case_shape
if_lacks q x (Some y) = ap (λ (k : KindShape). k.lacks_else) (ap kind_shape (sym (v.rolls-If q x (Some y))) ∙ fold-roll-ExprKind ByUse (List Finding) KindShape StmtShape (List Finding) ByUse ByUse ExprShape (List Finding) (List Finding) CaseShape branch_step condition_step kind_step stmt_step piece_step block_step catch_step expr_step lambda_step subject_step when_branch_step (ExprKind-F.If q x (Some y)))
if_lacks q x None = ap (λ (k : KindShape). k.lacks_else) (ap kind_shape (sym (v.rolls-If q x None)) ∙ fold-roll-ExprKind ByUse (List Finding) KindShape StmtShape (List Finding) ByUse ByUse ExprShape (List Finding) (List Finding) CaseShape branch_step condition_step kind_step stmt_step piece_step block_step catch_step expr_step lambda_step subject_step when_branch_step (ExprKind-F.If q x None))

pub when_lacks : (y : Option Subject) (bs : List WhenBranch) → (kind_shape (e.When y bs)).lacks_else ≡ not (list_any (λ b. (case_shape b).is_else) bs)
unfolding expr_shape kind_shape stmt_shape block_shape branch_shape piece_shape condition_shape catch_shape lambda_shape subject_shape case_shape
when_lacks (Some y) bs = ap (λ (k : KindShape). k.lacks_else) (ap kind_shape (sym (v.rolls-When (Some y) bs)) ∙ fold-roll-ExprKind ByUse (List Finding) KindShape StmtShape (List Finding) ByUse ByUse ExprShape (List Finding) (List Finding) CaseShape branch_step condition_step kind_step stmt_step piece_step block_step catch_step expr_step lambda_step subject_step when_branch_step (ExprKind-F.When (Some y) bs)) ∙ ap not (any_through (λ (b : CaseShape). b.is_else) case_shape bs)
when_lacks None bs = ap (λ (k : KindShape). k.lacks_else) (ap kind_shape (sym (v.rolls-When None bs)) ∙ fold-roll-ExprKind ByUse (List Finding) KindShape StmtShape (List Finding) ByUse ByUse ExprShape (List Finding) (List Finding) CaseShape branch_step condition_step kind_step stmt_step piece_step block_step catch_step expr_step lambda_step subject_step when_branch_step (ExprKind-F.When None bs)) ∙ ap not (any_through (λ (b : CaseShape). b.is_else) case_shape bs)

other_lacks_at : (layer : Layer) → ((q : Expr) (x : Branch) (y : Option Branch) → v.roll-ExprKind layer ≢ e.If q x y) → ((y : Option Subject) (bs : List WhenBranch) → v.roll-ExprKind layer ≢ e.When y bs) → (kind_shape (v.roll-ExprKind layer)).lacks_else ≡ false
unfolding expr_shape kind_shape stmt_shape block_shape branch_shape piece_shape condition_shape catch_shape lambda_shape subject_shape case_shape
other_lacks_at (ExprKind-F.If q x y) h k = absurd (h q x y (v.rolls-If q x y))
other_lacks_at (ExprKind-F.When y bs) h k = absurd (k y bs (v.rolls-When y bs))
other_lacks_at layer h k = ap (λ (g : KindShape). g.lacks_else) (fold-roll-ExprKind ByUse (List Finding) KindShape StmtShape (List Finding) ByUse ByUse ExprShape (List Finding) (List Finding) CaseShape branch_step condition_step kind_step stmt_step piece_step block_step catch_step expr_step lambda_step subject_step when_branch_step layer)

-- neither an `if` nor a `when`
pub other_lacks : (j : ExprKind) → ((q : Expr) (x : Branch) (y : Option Branch) → j ≢ e.If q x y) → ((y : Option Subject) (bs : List WhenBranch) → j ≢ e.When y bs) → (kind_shape j).lacks_else ≡ false
other_lacks j h k = subst (λ i. (kind_shape i).lacks_else ≡ false) (v.roll-out-ExprKind j) (other_lacks_at (v.out-ExprKind j) (λ q x y. subst (λ i. i ≢ e.If q x y) (sym (v.roll-out-ExprKind j)) (h q x y)) (λ y bs. subst (λ i. i ≢ e.When y bs) (sym (v.roll-out-ExprKind j)) (k y bs)))
