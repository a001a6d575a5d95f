-- What stands in each tree, by its parts.
use Rattle.std.proofs.Common.{◌≡◌, ℕ, Bool, List, [], ◌∷◌, ◌++◌, map, Option, Some, None, option_map, refl, sym, ap, ◌∙◌, append_assoc, append-nil, is_some}
use Rattle.std.specs.Prelude.{Result, Ok, Err, OnOk}
use Rattle.std.specs.List.{flat_map}
use Rattle.kt_tree.specs.declared.token.Span.{Span}
use Rattle.kt_tree.specs.declared.ast.part.Ident.{Ident}
use Rattle.kt_tree.specs.declared.ast.part.TypeRef.{TypeRef}
use Rattle.kt_tree.specs.declared.ast.part.Access.{Access}
use Rattle.kt_tree.specs.declared.ast.part.Sign.{Sign}
use Rattle.kt_tree.specs.declared.ast.part.Arithmetic.{Arithmetic}
use Rattle.kt_tree.specs.declared.ast.part.Comparison.{Comparison}
use Rattle.kt_tree.specs.declared.ast.part.Equality.{Equality}
use Rattle.kt_tree.specs.declared.ast.part.Assignment.{Assignment}
use Rattle.kt_tree.specs.declared.ast.part.Progression.{Progression}
use Rattle.kt_tree.specs.declared.ast.body.Expr.{Expr}
use Rattle.kt_tree.specs.declared.ast.body.ExprKind.TheVariants as e
use Rattle.kt_tree.specs.declared.ast.body.Stmt.{Stmt}
use Rattle.kt_tree.specs.declared.ast.body.Stmt.TheVariants as s
use Rattle.kt_tree.specs.declared.ast.body.Block.{Block, out-Block}
use Rattle.kt_tree.specs.declared.ast.body.Branch.{Branch}
use Rattle.kt_tree.specs.declared.ast.body.Branch.TheVariants as b
use Rattle.kt_tree.specs.declared.ast.body.Condition.{Condition}
use Rattle.kt_tree.specs.declared.ast.body.Condition.TheVariants as c
use Rattle.kt_tree.specs.declared.ast.body.Catch.{Catch, out-Catch}
use Rattle.kt_tree.specs.declared.ast.body.Lambda.{Lambda, out-Lambda}
use Rattle.kt_tree.specs.declared.ast.body.Subject.{Subject}
use Rattle.kt_tree.specs.declared.ast.body.WhenBranch.{WhenBranch, out-WhenBranch}
use Rattle.kt_tree.specs.declared.ast.body.StringPart.{StringPart}
use Rattle.kt_tree.specs.declared.ast.body.StringPart.TheVariants as p
use Rattle.kt_tree.specs.declared.ast.body.Branch.TheOpen.{Branch-F, Condition-F, ExprKind-F, Stmt-F, StringPart-F}
use Rattle.kt_tree.specs.declared.ast.body.Branch.TheViews as v
use Rattle.kt_tree.specs.declared.ast.body.Branch.TheFolds.{fold_out-Block, fold_out-Catch, fold_out-Lambda, fold-roll-Expr, fold-roll-Subject, fold-roll-WhenBranch, fold-roll-ExprKind, fold-roll-Stmt, fold-roll-Branch, fold-roll-Condition, fold-roll-StringPart}
use Rattle.kt_model.specs.declared.body_site.BodySite.TheVariants.{Written}
use Rattle.kt_model.specs.TreeSites.{BodySites, joined, held, written_type, local_site, branch_step, condition_step, kind_step, stmt_step, piece_step, block_step, catch_step, expr_step, lambda_step, subject_step, when_branch_step, expr_sites, kind_sites, stmt_sites, block_sites, branch_sites, piece_sites, lambda_sites, subject_sites, condition_sites, when_branch_sites, catch_sites}

-- the sites of parts, one behind another
joined_map : {A : Type 0} (f : A → BodySites) (xs : List A) → joined (map f xs) ≡ flat_map f xs
joined_map f [] = refl
joined_map f (x ∷ xs) = ap (λ rest. f x ++ rest) (joined_map f xs)

pub kind_int : (k : ℕ) → kind_sites (e.Int k) ≡ []
unfolding expr_sites kind_sites stmt_sites block_sites branch_sites piece_sites lambda_sites subject_sites condition_sites when_branch_sites catch_sites
kind_int k =
    ap kind_sites (sym (v.rolls-Int k)) ∙ fold-roll-ExprKind BodySites BodySites BodySites BodySites BodySites BodySites BodySites BodySites BodySites BodySites BodySites branch_step condition_step kind_step stmt_step piece_step block_step catch_step expr_step lambda_step subject_step when_branch_step (ExprKind-F.Int k)

pub kind_bool : (t : Bool) → kind_sites (e.Bool t) ≡ []
unfolding expr_sites kind_sites stmt_sites block_sites branch_sites piece_sites lambda_sites subject_sites condition_sites when_branch_sites catch_sites
kind_bool t =
    ap kind_sites (sym (v.rolls-Bool t)) ∙ fold-roll-ExprKind BodySites BodySites BodySites BodySites BodySites BodySites BodySites BodySites BodySites BodySites BodySites branch_step condition_step kind_step stmt_step piece_step block_step catch_step expr_step lambda_step subject_step when_branch_step (ExprKind-F.Bool t)

pub kind_null : kind_sites e.Null ≡ []
unfolding expr_sites kind_sites stmt_sites block_sites branch_sites piece_sites lambda_sites subject_sites condition_sites when_branch_sites catch_sites
kind_null =
    ap kind_sites (sym v.rolls-Null) ∙ fold-roll-ExprKind BodySites BodySites BodySites BodySites BodySites BodySites BodySites BodySites BodySites BodySites BodySites branch_step condition_step kind_step stmt_step piece_step block_step catch_step expr_step lambda_step subject_step when_branch_step ExprKind-F.Null

pub kind_this : kind_sites e.This ≡ []
unfolding expr_sites kind_sites stmt_sites block_sites branch_sites piece_sites lambda_sites subject_sites condition_sites when_branch_sites catch_sites
kind_this =
    ap kind_sites (sym v.rolls-This) ∙ fold-roll-ExprKind BodySites BodySites BodySites BodySites BodySites BodySites BodySites BodySites BodySites BodySites BodySites branch_step condition_step kind_step stmt_step piece_step block_step catch_step expr_step lambda_step subject_step when_branch_step ExprKind-F.This

pub kind_name : (x : ℕ) → kind_sites (e.Name x) ≡ []
unfolding expr_sites kind_sites stmt_sites block_sites branch_sites piece_sites lambda_sites subject_sites condition_sites when_branch_sites catch_sites
kind_name x =
    ap kind_sites (sym (v.rolls-Name x)) ∙ fold-roll-ExprKind BodySites BodySites BodySites BodySites BodySites BodySites BodySites BodySites BodySites BodySites BodySites branch_step condition_step kind_step stmt_step piece_step block_step catch_step expr_step lambda_step subject_step when_branch_step (ExprKind-F.Name x)

pub kind_template : (ps : List StringPart) → kind_sites (e.Template ps) ≡ flat_map piece_sites ps
unfolding expr_sites kind_sites stmt_sites block_sites branch_sites piece_sites lambda_sites subject_sites condition_sites when_branch_sites catch_sites
kind_template ps =
    ap kind_sites (sym (v.rolls-Template ps)) ∙ fold-roll-ExprKind BodySites BodySites BodySites BodySites BodySites BodySites BodySites BodySites BodySites BodySites BodySites branch_step condition_step kind_step stmt_step piece_step block_step catch_step expr_step lambda_step subject_step when_branch_step (ExprKind-F.Template ps) ∙ ap (λ z. z) (joined_map piece_sites ps)

pub kind_paren : (x : Expr) → kind_sites (e.Paren x) ≡ expr_sites x
unfolding expr_sites kind_sites stmt_sites block_sites branch_sites piece_sites lambda_sites subject_sites condition_sites when_branch_sites catch_sites
kind_paren x =
    ap kind_sites (sym (v.rolls-Paren x)) ∙ fold-roll-ExprKind BodySites BodySites BodySites BodySites BodySites BodySites BodySites BodySites BodySites BodySites BodySites branch_step condition_step kind_step stmt_step piece_step block_step catch_step expr_step lambda_step subject_step when_branch_step (ExprKind-F.Paren x)

pub kind_call : (f : Ident) (xs : List Expr) (l : Option Lambda) → kind_sites (e.Call f xs l) ≡ flat_map expr_sites xs ++ held (option_map lambda_sites l)
unfolding expr_sites kind_sites stmt_sites block_sites branch_sites piece_sites lambda_sites subject_sites condition_sites when_branch_sites catch_sites
kind_call f xs (Some l) =
    ap kind_sites (sym (v.rolls-Call f xs (Some l))) ∙ fold-roll-ExprKind BodySites BodySites BodySites BodySites BodySites BodySites BodySites BodySites BodySites BodySites BodySites branch_step condition_step kind_step stmt_step piece_step block_step catch_step expr_step lambda_step subject_step when_branch_step (ExprKind-F.Call f xs (Some l)) ∙ ap (λ z. z ++ held (option_map lambda_sites (Some l))) (joined_map expr_sites xs)
kind_call f xs None =
    ap kind_sites (sym (v.rolls-Call f xs None)) ∙ fold-roll-ExprKind BodySites BodySites BodySites BodySites BodySites BodySites BodySites BodySites BodySites BodySites BodySites branch_step condition_step kind_step stmt_step piece_step block_step catch_step expr_step lambda_step subject_step when_branch_step (ExprKind-F.Call f xs None) ∙ ap (λ z. z ++ held (option_map lambda_sites None)) (joined_map expr_sites xs)

pub kind_member : (x : Expr) (a : Access) (m : Ident) → kind_sites (e.Member x a m) ≡ expr_sites x
unfolding expr_sites kind_sites stmt_sites block_sites branch_sites piece_sites lambda_sites subject_sites condition_sites when_branch_sites catch_sites
kind_member x a m =
    ap kind_sites (sym (v.rolls-Member x a m)) ∙ fold-roll-ExprKind BodySites BodySites BodySites BodySites BodySites BodySites BodySites BodySites BodySites BodySites BodySites branch_step condition_step kind_step stmt_step piece_step block_step catch_step expr_step lambda_step subject_step when_branch_step (ExprKind-F.Member x a m)

pub kind_member_call : (x : Expr) (a : Access) (m : Ident) (xs : List Expr) → kind_sites (e.MemberCall x a m xs) ≡ expr_sites x ++ flat_map expr_sites xs
unfolding expr_sites kind_sites stmt_sites block_sites branch_sites piece_sites lambda_sites subject_sites condition_sites when_branch_sites catch_sites
kind_member_call x a m xs =
    ap kind_sites (sym (v.rolls-MemberCall x a m xs)) ∙ fold-roll-ExprKind BodySites BodySites BodySites BodySites BodySites BodySites BodySites BodySites BodySites BodySites BodySites branch_step condition_step kind_step stmt_step piece_step block_step catch_step expr_step lambda_step subject_step when_branch_step (ExprKind-F.MemberCall x a m xs) ∙ ap (λ z. expr_sites x ++ z) (joined_map expr_sites xs)

pub kind_not_null : (x : Expr) → kind_sites (e.NotNull x) ≡ expr_sites x
unfolding expr_sites kind_sites stmt_sites block_sites branch_sites piece_sites lambda_sites subject_sites condition_sites when_branch_sites catch_sites
kind_not_null x =
    ap kind_sites (sym (v.rolls-NotNull x)) ∙ fold-roll-ExprKind BodySites BodySites BodySites BodySites BodySites BodySites BodySites BodySites BodySites BodySites BodySites branch_step condition_step kind_step stmt_step piece_step block_step catch_step expr_step lambda_step subject_step when_branch_step (ExprKind-F.NotNull x)

pub kind_sign : (o : Sign) (x : Expr) → kind_sites (e.Sign o x) ≡ expr_sites x
unfolding expr_sites kind_sites stmt_sites block_sites branch_sites piece_sites lambda_sites subject_sites condition_sites when_branch_sites catch_sites
kind_sign o x =
    ap kind_sites (sym (v.rolls-Sign o x)) ∙ fold-roll-ExprKind BodySites BodySites BodySites BodySites BodySites BodySites BodySites BodySites BodySites BodySites BodySites branch_step condition_step kind_step stmt_step piece_step block_step catch_step expr_step lambda_step subject_step when_branch_step (ExprKind-F.Sign o x)

pub kind_not : (x : Expr) → kind_sites (e.Not x) ≡ expr_sites x
unfolding expr_sites kind_sites stmt_sites block_sites branch_sites piece_sites lambda_sites subject_sites condition_sites when_branch_sites catch_sites
kind_not x =
    ap kind_sites (sym (v.rolls-Not x)) ∙ fold-roll-ExprKind BodySites BodySites BodySites BodySites BodySites BodySites BodySites BodySites BodySites BodySites BodySites branch_step condition_step kind_step stmt_step piece_step block_step catch_step expr_step lambda_step subject_step when_branch_step (ExprKind-F.Not x)

pub kind_as : (x : Expr) (w : TypeRef) → kind_sites (e.As x w) ≡ expr_sites x ++ Written w ∷ []
unfolding expr_sites kind_sites stmt_sites block_sites branch_sites piece_sites lambda_sites subject_sites condition_sites when_branch_sites catch_sites
kind_as x w =
    ap kind_sites (sym (v.rolls-As x w)) ∙ fold-roll-ExprKind BodySites BodySites BodySites BodySites BodySites BodySites BodySites BodySites BodySites BodySites BodySites branch_step condition_step kind_step stmt_step piece_step block_step catch_step expr_step lambda_step subject_step when_branch_step (ExprKind-F.As x w)

pub kind_as_safe : (x : Expr) (w : TypeRef) → kind_sites (e.AsSafe x w) ≡ expr_sites x ++ Written w ∷ []
unfolding expr_sites kind_sites stmt_sites block_sites branch_sites piece_sites lambda_sites subject_sites condition_sites when_branch_sites catch_sites
kind_as_safe x w =
    ap kind_sites (sym (v.rolls-AsSafe x w)) ∙ fold-roll-ExprKind BodySites BodySites BodySites BodySites BodySites BodySites BodySites BodySites BodySites BodySites BodySites branch_step condition_step kind_step stmt_step piece_step block_step catch_step expr_step lambda_step subject_step when_branch_step (ExprKind-F.AsSafe x w)

pub kind_sum : (x y : Expr) → kind_sites (e.Sum x y) ≡ expr_sites x ++ expr_sites y
unfolding expr_sites kind_sites stmt_sites block_sites branch_sites piece_sites lambda_sites subject_sites condition_sites when_branch_sites catch_sites
kind_sum x y =
    ap kind_sites (sym (v.rolls-Sum x y)) ∙ fold-roll-ExprKind BodySites BodySites BodySites BodySites BodySites BodySites BodySites BodySites BodySites BodySites BodySites branch_step condition_step kind_step stmt_step piece_step block_step catch_step expr_step lambda_step subject_step when_branch_step (ExprKind-F.Sum x y)

pub kind_arithmetic : (o : Arithmetic) (x y : Expr) → kind_sites (e.Arithmetic o x y) ≡ expr_sites x ++ expr_sites y
unfolding expr_sites kind_sites stmt_sites block_sites branch_sites piece_sites lambda_sites subject_sites condition_sites when_branch_sites catch_sites
kind_arithmetic o x y =
    ap kind_sites (sym (v.rolls-Arithmetic o x y)) ∙ fold-roll-ExprKind BodySites BodySites BodySites BodySites BodySites BodySites BodySites BodySites BodySites BodySites BodySites branch_step condition_step kind_step stmt_step piece_step block_step catch_step expr_step lambda_step subject_step when_branch_step (ExprKind-F.Arithmetic o x y)

pub kind_compare : (o : Comparison) (x y : Expr) → kind_sites (e.Compare o x y) ≡ expr_sites x ++ expr_sites y
unfolding expr_sites kind_sites stmt_sites block_sites branch_sites piece_sites lambda_sites subject_sites condition_sites when_branch_sites catch_sites
kind_compare o x y =
    ap kind_sites (sym (v.rolls-Compare o x y)) ∙ fold-roll-ExprKind BodySites BodySites BodySites BodySites BodySites BodySites BodySites BodySites BodySites BodySites BodySites branch_step condition_step kind_step stmt_step piece_step block_step catch_step expr_step lambda_step subject_step when_branch_step (ExprKind-F.Compare o x y)

pub kind_equal : (o : Equality) (x y : Expr) → kind_sites (e.Equal o x y) ≡ expr_sites x ++ expr_sites y
unfolding expr_sites kind_sites stmt_sites block_sites branch_sites piece_sites lambda_sites subject_sites condition_sites when_branch_sites catch_sites
kind_equal o x y =
    ap kind_sites (sym (v.rolls-Equal o x y)) ∙ fold-roll-ExprKind BodySites BodySites BodySites BodySites BodySites BodySites BodySites BodySites BodySites BodySites BodySites branch_step condition_step kind_step stmt_step piece_step block_step catch_step expr_step lambda_step subject_step when_branch_step (ExprKind-F.Equal o x y)

pub kind_and : (x y : Expr) → kind_sites (e.And x y) ≡ expr_sites x ++ expr_sites y
unfolding expr_sites kind_sites stmt_sites block_sites branch_sites piece_sites lambda_sites subject_sites condition_sites when_branch_sites catch_sites
kind_and x y =
    ap kind_sites (sym (v.rolls-And x y)) ∙ fold-roll-ExprKind BodySites BodySites BodySites BodySites BodySites BodySites BodySites BodySites BodySites BodySites BodySites branch_step condition_step kind_step stmt_step piece_step block_step catch_step expr_step lambda_step subject_step when_branch_step (ExprKind-F.And x y)

pub kind_or : (x y : Expr) → kind_sites (e.Or x y) ≡ expr_sites x ++ expr_sites y
unfolding expr_sites kind_sites stmt_sites block_sites branch_sites piece_sites lambda_sites subject_sites condition_sites when_branch_sites catch_sites
kind_or x y =
    ap kind_sites (sym (v.rolls-Or x y)) ∙ fold-roll-ExprKind BodySites BodySites BodySites BodySites BodySites BodySites BodySites BodySites BodySites BodySites BodySites branch_step condition_step kind_step stmt_step piece_step block_step catch_step expr_step lambda_step subject_step when_branch_step (ExprKind-F.Or x y)

pub kind_elvis : (x y : Expr) → kind_sites (e.Elvis x y) ≡ expr_sites x ++ expr_sites y
unfolding expr_sites kind_sites stmt_sites block_sites branch_sites piece_sites lambda_sites subject_sites condition_sites when_branch_sites catch_sites
kind_elvis x y =
    ap kind_sites (sym (v.rolls-Elvis x y)) ∙ fold-roll-ExprKind BodySites BodySites BodySites BodySites BodySites BodySites BodySites BodySites BodySites BodySites BodySites branch_step condition_step kind_step stmt_step piece_step block_step catch_step expr_step lambda_step subject_step when_branch_step (ExprKind-F.Elvis x y)

pub kind_is : (x : Expr) (w : TypeRef) → kind_sites (e.Is x w) ≡ expr_sites x ++ Written w ∷ []
unfolding expr_sites kind_sites stmt_sites block_sites branch_sites piece_sites lambda_sites subject_sites condition_sites when_branch_sites catch_sites
kind_is x w =
    ap kind_sites (sym (v.«rolls-ExprKind::Is» x w)) ∙ fold-roll-ExprKind BodySites BodySites BodySites BodySites BodySites BodySites BodySites BodySites BodySites BodySites BodySites branch_step condition_step kind_step stmt_step piece_step block_step catch_step expr_step lambda_step subject_step when_branch_step (ExprKind-F.«ExprKind::Is» x w)

pub kind_is_not : (x : Expr) (w : TypeRef) → kind_sites (e.IsNot x w) ≡ expr_sites x ++ Written w ∷ []
unfolding expr_sites kind_sites stmt_sites block_sites branch_sites piece_sites lambda_sites subject_sites condition_sites when_branch_sites catch_sites
kind_is_not x w =
    ap kind_sites (sym (v.«rolls-ExprKind::IsNot» x w)) ∙ fold-roll-ExprKind BodySites BodySites BodySites BodySites BodySites BodySites BodySites BodySites BodySites BodySites BodySites branch_step condition_step kind_step stmt_step piece_step block_step catch_step expr_step lambda_step subject_step when_branch_step (ExprKind-F.«ExprKind::IsNot» x w)

pub kind_if : (c : Expr) (x : Branch) (y : Option Branch) → kind_sites (e.If c x y) ≡ expr_sites c ++ branch_sites x ++ held (option_map branch_sites y)
unfolding expr_sites kind_sites stmt_sites block_sites branch_sites piece_sites lambda_sites subject_sites condition_sites when_branch_sites catch_sites
kind_if c x (Some y) =
    ap kind_sites (sym (v.rolls-If c x (Some y))) ∙ fold-roll-ExprKind BodySites BodySites BodySites BodySites BodySites BodySites BodySites BodySites BodySites BodySites BodySites branch_step condition_step kind_step stmt_step piece_step block_step catch_step expr_step lambda_step subject_step when_branch_step (ExprKind-F.If c x (Some y))
kind_if c x None =
    ap kind_sites (sym (v.rolls-If c x None)) ∙ fold-roll-ExprKind BodySites BodySites BodySites BodySites BodySites BodySites BodySites BodySites BodySites BodySites BodySites branch_step condition_step kind_step stmt_step piece_step block_step catch_step expr_step lambda_step subject_step when_branch_step (ExprKind-F.If c x None)

pub kind_when : (s : Option Subject) (bs : List WhenBranch) → kind_sites (e.When s bs) ≡ held (option_map subject_sites s) ++ flat_map when_branch_sites bs
unfolding expr_sites kind_sites stmt_sites block_sites branch_sites piece_sites lambda_sites subject_sites condition_sites when_branch_sites catch_sites
kind_when (Some s) bs =
    ap kind_sites (sym (v.rolls-When (Some s) bs)) ∙ fold-roll-ExprKind BodySites BodySites BodySites BodySites BodySites BodySites BodySites BodySites BodySites BodySites BodySites branch_step condition_step kind_step stmt_step piece_step block_step catch_step expr_step lambda_step subject_step when_branch_step (ExprKind-F.When (Some s) bs) ∙ ap (λ z. held (option_map subject_sites (Some s)) ++ z) (joined_map when_branch_sites bs)
kind_when None bs =
    ap kind_sites (sym (v.rolls-When None bs)) ∙ fold-roll-ExprKind BodySites BodySites BodySites BodySites BodySites BodySites BodySites BodySites BodySites BodySites BodySites branch_step condition_step kind_step stmt_step piece_step block_step catch_step expr_step lambda_step subject_step when_branch_step (ExprKind-F.When None bs) ∙ ap (λ z. held (option_map subject_sites None) ++ z) (joined_map when_branch_sites bs)

pub kind_try : (x : Block) (cs : List Catch) (y : Option Block) → kind_sites (e.Try x cs y) ≡ block_sites x ++ flat_map catch_sites cs ++ held (option_map block_sites y)
unfolding expr_sites kind_sites stmt_sites block_sites branch_sites piece_sites lambda_sites subject_sites condition_sites when_branch_sites catch_sites
kind_try x cs (Some y) =
    ap kind_sites (sym (v.rolls-Try x cs (Some y))) ∙ fold-roll-ExprKind BodySites BodySites BodySites BodySites BodySites BodySites BodySites BodySites BodySites BodySites BodySites branch_step condition_step kind_step stmt_step piece_step block_step catch_step expr_step lambda_step subject_step when_branch_step (ExprKind-F.Try x cs (Some y)) ∙ ap (λ z. block_sites x ++ z ++ held (option_map block_sites (Some y))) (joined_map catch_sites cs)
kind_try x cs None =
    ap kind_sites (sym (v.rolls-Try x cs None)) ∙ fold-roll-ExprKind BodySites BodySites BodySites BodySites BodySites BodySites BodySites BodySites BodySites BodySites BodySites branch_step condition_step kind_step stmt_step piece_step block_step catch_step expr_step lambda_step subject_step when_branch_step (ExprKind-F.Try x cs None) ∙ ap (λ z. block_sites x ++ z ++ held (option_map block_sites None)) (joined_map catch_sites cs)

pub kind_return : (l : Option Ident) (x : Option Expr) → kind_sites (e.Return l x) ≡ held (option_map expr_sites x)
unfolding expr_sites kind_sites stmt_sites block_sites branch_sites piece_sites lambda_sites subject_sites condition_sites when_branch_sites catch_sites
kind_return l (Some x) =
    ap kind_sites (sym (v.rolls-Return l (Some x))) ∙ fold-roll-ExprKind BodySites BodySites BodySites BodySites BodySites BodySites BodySites BodySites BodySites BodySites BodySites branch_step condition_step kind_step stmt_step piece_step block_step catch_step expr_step lambda_step subject_step when_branch_step (ExprKind-F.Return l (Some x))
kind_return l None =
    ap kind_sites (sym (v.rolls-Return l None)) ∙ fold-roll-ExprKind BodySites BodySites BodySites BodySites BodySites BodySites BodySites BodySites BodySites BodySites BodySites branch_step condition_step kind_step stmt_step piece_step block_step catch_step expr_step lambda_step subject_step when_branch_step (ExprKind-F.Return l None)

pub kind_throw : (x : Expr) → kind_sites (e.Throw x) ≡ expr_sites x
unfolding expr_sites kind_sites stmt_sites block_sites branch_sites piece_sites lambda_sites subject_sites condition_sites when_branch_sites catch_sites
kind_throw x =
    ap kind_sites (sym (v.rolls-Throw x)) ∙ fold-roll-ExprKind BodySites BodySites BodySites BodySites BodySites BodySites BodySites BodySites BodySites BodySites BodySites branch_step condition_step kind_step stmt_step piece_step block_step catch_step expr_step lambda_step subject_step when_branch_step (ExprKind-F.Throw x)

pub kind_break : kind_sites e.Break ≡ []
unfolding expr_sites kind_sites stmt_sites block_sites branch_sites piece_sites lambda_sites subject_sites condition_sites when_branch_sites catch_sites
kind_break =
    ap kind_sites (sym v.rolls-Break) ∙ fold-roll-ExprKind BodySites BodySites BodySites BodySites BodySites BodySites BodySites BodySites BodySites BodySites BodySites branch_step condition_step kind_step stmt_step piece_step block_step catch_step expr_step lambda_step subject_step when_branch_step ExprKind-F.Break

pub kind_continue : kind_sites e.Continue ≡ []
unfolding expr_sites kind_sites stmt_sites block_sites branch_sites piece_sites lambda_sites subject_sites condition_sites when_branch_sites catch_sites
kind_continue =
    ap kind_sites (sym v.rolls-Continue) ∙ fold-roll-ExprKind BodySites BodySites BodySites BodySites BodySites BodySites BodySites BodySites BodySites BodySites BodySites branch_step condition_step kind_step stmt_step piece_step block_step catch_step expr_step lambda_step subject_step when_branch_step ExprKind-F.Continue

pub stmt_expr : (x : Expr) → stmt_sites (s.Expr x) ≡ expr_sites x
unfolding expr_sites kind_sites stmt_sites block_sites branch_sites piece_sites lambda_sites subject_sites condition_sites when_branch_sites catch_sites
stmt_expr x =
    ap stmt_sites (sym (v.rolls-Expr x)) ∙ fold-roll-Stmt BodySites BodySites BodySites BodySites BodySites BodySites BodySites BodySites BodySites BodySites BodySites branch_step condition_step kind_step stmt_step piece_step block_step catch_step expr_step lambda_step subject_step when_branch_step (Stmt-F.Expr x)

pub stmt_local : (n : ℕ) (at : Span) (m : Bool) (i : Ident) (w : Option TypeRef) (x : Option Expr) → stmt_sites (s.Local n at m i w x) ≡ local_site i w (option_map expr_sites x) ++ held (option_map expr_sites x)
unfolding expr_sites kind_sites stmt_sites block_sites branch_sites piece_sites lambda_sites subject_sites condition_sites when_branch_sites catch_sites
stmt_local n at m i w (Some x) =
    ap stmt_sites (sym (v.rolls-Local n at m i w (Some x))) ∙ fold-roll-Stmt BodySites BodySites BodySites BodySites BodySites BodySites BodySites BodySites BodySites BodySites BodySites branch_step condition_step kind_step stmt_step piece_step block_step catch_step expr_step lambda_step subject_step when_branch_step (Stmt-F.Local n at m i w (Some x))
stmt_local n at m i w None =
    ap stmt_sites (sym (v.rolls-Local n at m i w None)) ∙ fold-roll-Stmt BodySites BodySites BodySites BodySites BodySites BodySites BodySites BodySites BodySites BodySites BodySites branch_step condition_step kind_step stmt_step piece_step block_step catch_step expr_step lambda_step subject_step when_branch_step (Stmt-F.Local n at m i w None)

pub stmt_assign : (n : ℕ) (at : Span) (t : Expr) (a : Assignment) (x : Option Expr) → stmt_sites (s.Assign n at t a x) ≡ expr_sites t ++ held (option_map expr_sites x)
unfolding expr_sites kind_sites stmt_sites block_sites branch_sites piece_sites lambda_sites subject_sites condition_sites when_branch_sites catch_sites
stmt_assign n at t a (Some x) =
    ap stmt_sites (sym (v.rolls-Assign n at t a (Some x))) ∙ fold-roll-Stmt BodySites BodySites BodySites BodySites BodySites BodySites BodySites BodySites BodySites BodySites BodySites branch_step condition_step kind_step stmt_step piece_step block_step catch_step expr_step lambda_step subject_step when_branch_step (Stmt-F.Assign n at t a (Some x))
stmt_assign n at t a None =
    ap stmt_sites (sym (v.rolls-Assign n at t a None)) ∙ fold-roll-Stmt BodySites BodySites BodySites BodySites BodySites BodySites BodySites BodySites BodySites BodySites BodySites branch_step condition_step kind_step stmt_step piece_step block_step catch_step expr_step lambda_step subject_step when_branch_step (Stmt-F.Assign n at t a None)

pub stmt_while : (n : ℕ) (at : Span) (c : Expr) (x : Branch) → stmt_sites (s.While n at c x) ≡ expr_sites c ++ branch_sites x
unfolding expr_sites kind_sites stmt_sites block_sites branch_sites piece_sites lambda_sites subject_sites condition_sites when_branch_sites catch_sites
stmt_while n at c x =
    ap stmt_sites (sym (v.rolls-While n at c x)) ∙ fold-roll-Stmt BodySites BodySites BodySites BodySites BodySites BodySites BodySites BodySites BodySites BodySites BodySites branch_step condition_step kind_step stmt_step piece_step block_step catch_step expr_step lambda_step subject_step when_branch_step (Stmt-F.While n at c x)

pub stmt_do_while : (n : ℕ) (at : Span) (x : Block) (c : Expr) → stmt_sites (s.DoWhile n at x c) ≡ block_sites x ++ expr_sites c
unfolding expr_sites kind_sites stmt_sites block_sites branch_sites piece_sites lambda_sites subject_sites condition_sites when_branch_sites catch_sites
stmt_do_while n at x c =
    ap stmt_sites (sym (v.rolls-DoWhile n at x c)) ∙ fold-roll-Stmt BodySites BodySites BodySites BodySites BodySites BodySites BodySites BodySites BodySites BodySites BodySites branch_step condition_step kind_step stmt_step piece_step block_step catch_step expr_step lambda_step subject_step when_branch_step (Stmt-F.DoWhile n at x c)

pub stmt_for : (n : ℕ) (at : Span) (i : Ident) (w : Option TypeRef) (l : Expr) (p : Progression) (h : Expr) (x : Branch) → stmt_sites (s.For n at i w l p h x) ≡ written_type w ++ expr_sites l ++ expr_sites h ++ branch_sites x
unfolding expr_sites kind_sites stmt_sites block_sites branch_sites piece_sites lambda_sites subject_sites condition_sites when_branch_sites catch_sites
stmt_for n at i w l p h x =
    ap stmt_sites (sym (v.rolls-For n at i w l p h x)) ∙ fold-roll-Stmt BodySites BodySites BodySites BodySites BodySites BodySites BodySites BodySites BodySites BodySites BodySites branch_step condition_step kind_step stmt_step piece_step block_step catch_step expr_step lambda_step subject_step when_branch_step (Stmt-F.For n at i w l p h x)

pub branch_braced : (x : Block) → branch_sites (b.Braced x) ≡ block_sites x
unfolding expr_sites kind_sites stmt_sites block_sites branch_sites piece_sites lambda_sites subject_sites condition_sites when_branch_sites catch_sites
branch_braced x =
    ap branch_sites (sym (v.rolls-Braced x)) ∙ fold-roll-Branch BodySites BodySites BodySites BodySites BodySites BodySites BodySites BodySites BodySites BodySites BodySites branch_step condition_step kind_step stmt_step piece_step block_step catch_step expr_step lambda_step subject_step when_branch_step (Branch-F.Braced x)

pub branch_single : (x : Stmt) → branch_sites (b.Single x) ≡ stmt_sites x
unfolding expr_sites kind_sites stmt_sites block_sites branch_sites piece_sites lambda_sites subject_sites condition_sites when_branch_sites catch_sites
branch_single x =
    ap branch_sites (sym (v.rolls-Single x)) ∙ fold-roll-Branch BodySites BodySites BodySites BodySites BodySites BodySites BodySites BodySites BodySites BodySites BodySites branch_step condition_step kind_step stmt_step piece_step block_step catch_step expr_step lambda_step subject_step when_branch_step (Branch-F.Single x)

pub piece_text : (bs : List ℕ) → piece_sites (p.Text bs) ≡ []
unfolding expr_sites kind_sites stmt_sites block_sites branch_sites piece_sites lambda_sites subject_sites condition_sites when_branch_sites catch_sites
piece_text bs =
    ap piece_sites (sym (v.rolls-Text bs)) ∙ fold-roll-StringPart BodySites BodySites BodySites BodySites BodySites BodySites BodySites BodySites BodySites BodySites BodySites branch_step condition_step kind_step stmt_step piece_step block_step catch_step expr_step lambda_step subject_step when_branch_step (StringPart-F.Text bs)

pub piece_inserted : (x : Expr) → piece_sites (p.Inserted x) ≡ expr_sites x
unfolding expr_sites kind_sites stmt_sites block_sites branch_sites piece_sites lambda_sites subject_sites condition_sites when_branch_sites catch_sites
piece_inserted x =
    ap piece_sites (sym (v.rolls-Inserted x)) ∙ fold-roll-StringPart BodySites BodySites BodySites BodySites BodySites BodySites BodySites BodySites BodySites BodySites BodySites branch_step condition_step kind_step stmt_step piece_step block_step catch_step expr_step lambda_step subject_step when_branch_step (StringPart-F.Inserted x)

pub condition_is : (at : Span) (w : TypeRef) → condition_sites (c.Is at w) ≡ Written w ∷ []
unfolding expr_sites kind_sites stmt_sites block_sites branch_sites piece_sites lambda_sites subject_sites condition_sites when_branch_sites catch_sites
condition_is at w =
    ap condition_sites (sym (v.«rolls-Condition::Is» at w)) ∙ fold-roll-Condition BodySites BodySites BodySites BodySites BodySites BodySites BodySites BodySites BodySites BodySites BodySites branch_step condition_step kind_step stmt_step piece_step block_step catch_step expr_step lambda_step subject_step when_branch_step (Condition-F.«Condition::Is» at w)

pub condition_is_not : (at : Span) (w : TypeRef) → condition_sites (c.IsNot at w) ≡ Written w ∷ []
unfolding expr_sites kind_sites stmt_sites block_sites branch_sites piece_sites lambda_sites subject_sites condition_sites when_branch_sites catch_sites
condition_is_not at w =
    ap condition_sites (sym (v.«rolls-Condition::IsNot» at w)) ∙ fold-roll-Condition BodySites BodySites BodySites BodySites BodySites BodySites BodySites BodySites BodySites BodySites BodySites branch_step condition_step kind_step stmt_step piece_step block_step catch_step expr_step lambda_step subject_step when_branch_step (Condition-F.«Condition::IsNot» at w)

pub condition_value : (x : Expr) → condition_sites (c.Value x) ≡ expr_sites x
unfolding expr_sites kind_sites stmt_sites block_sites branch_sites piece_sites lambda_sites subject_sites condition_sites when_branch_sites catch_sites
condition_value x =
    ap condition_sites (sym (v.rolls-Value x)) ∙ fold-roll-Condition BodySites BodySites BodySites BodySites BodySites BodySites BodySites BodySites BodySites BodySites BodySites branch_step condition_step kind_step stmt_step piece_step block_step catch_step expr_step lambda_step subject_step when_branch_step (Condition-F.Value x)

-- ---- structs

pub expr_of_kind : (x : Expr) → expr_sites x ≡ kind_sites x.kind
unfolding expr_sites kind_sites stmt_sites block_sites branch_sites piece_sites lambda_sites subject_sites condition_sites when_branch_sites catch_sites
expr_of_kind x =
    fold-roll-Expr BodySites BodySites BodySites BodySites BodySites BodySites BodySites BodySites BodySites BodySites BodySites branch_step condition_step kind_step stmt_step piece_step block_step catch_step expr_step lambda_step subject_step when_branch_step (record { number = x.number; span = x.span; kind = x.kind })

pub subject_parts : (x : Subject) → subject_sites x ≡ written_type x.written ++ expr_sites x.value
unfolding expr_sites kind_sites stmt_sites block_sites branch_sites piece_sites lambda_sites subject_sites condition_sites when_branch_sites catch_sites
subject_parts x =
    fold-roll-Subject BodySites BodySites BodySites BodySites BodySites BodySites BodySites BodySites BodySites BodySites BodySites branch_step condition_step kind_step stmt_step piece_step block_step catch_step expr_step lambda_step subject_step when_branch_step (record { variable = x.variable; written = x.written; value = x.value })

pub block_parts : (x : Block) → block_sites x ≡ flat_map stmt_sites (out-Block x).statements
unfolding expr_sites kind_sites stmt_sites block_sites branch_sites piece_sites lambda_sites subject_sites condition_sites when_branch_sites catch_sites
block_parts x =
    fold_out-Block BodySites BodySites BodySites BodySites BodySites BodySites BodySites BodySites BodySites BodySites BodySites branch_step condition_step kind_step stmt_step piece_step block_step catch_step expr_step lambda_step subject_step when_branch_step x ∙ joined_map stmt_sites (out-Block x).statements

pub lambda_parts : (x : Lambda) → lambda_sites x ≡ flat_map (λ p. written_type p.written) (out-Lambda x).parameters ++ block_sites (out-Lambda x).body
unfolding expr_sites kind_sites stmt_sites block_sites branch_sites piece_sites lambda_sites subject_sites condition_sites when_branch_sites catch_sites
lambda_parts x = fold_out-Lambda BodySites BodySites BodySites BodySites BodySites BodySites BodySites BodySites BodySites BodySites BodySites branch_step condition_step kind_step stmt_step piece_step block_step catch_step expr_step lambda_step subject_step when_branch_step x

pub catch_parts : (x : Catch) → catch_sites x ≡ Written (out-Catch x).caught ∷ block_sites (out-Catch x).body
unfolding expr_sites kind_sites stmt_sites block_sites branch_sites piece_sites lambda_sites subject_sites condition_sites when_branch_sites catch_sites
catch_parts x = fold_out-Catch BodySites BodySites BodySites BodySites BodySites BodySites BodySites BodySites BodySites BodySites BodySites branch_step condition_step kind_step stmt_step piece_step block_step catch_step expr_step lambda_step subject_step when_branch_step x

-- a branch of a `when` with conditions
pub conditions_parts : (x : WhenBranch) (cs : List Condition) → (out-WhenBranch x).conditions ≡ Some cs → when_branch_sites x ≡ flat_map condition_sites cs ++ branch_sites (out-WhenBranch x).body
unfolding expr_sites kind_sites stmt_sites block_sites branch_sites piece_sites lambda_sites subject_sites condition_sites when_branch_sites catch_sites
conditions_parts x cs e =
    ap when_branch_sites (sym (v.roll-out-WhenBranch x)) ∙ ap (λ z. when_branch_sites (v.roll-WhenBranch (record { conditions = z; begins = (out-WhenBranch x).begins; body = (out-WhenBranch x).body }))) e ∙ fold-roll-WhenBranch BodySites BodySites BodySites BodySites BodySites BodySites BodySites BodySites BodySites BodySites BodySites branch_step condition_step kind_step stmt_step piece_step block_step catch_step expr_step lambda_step subject_step when_branch_step (record { conditions = Some cs; begins = (out-WhenBranch x).begins; body = (out-WhenBranch x).body }) ∙ ap (λ z. z ++ branch_sites (out-WhenBranch x).body) (joined_map condition_sites cs)

-- and one behind `else`
pub else_parts : (x : WhenBranch) → (out-WhenBranch x).conditions ≡ None → when_branch_sites x ≡ branch_sites (out-WhenBranch x).body
unfolding expr_sites kind_sites stmt_sites block_sites branch_sites piece_sites lambda_sites subject_sites condition_sites when_branch_sites catch_sites
else_parts x e =
    ap when_branch_sites (sym (v.roll-out-WhenBranch x)) ∙ ap (λ z. when_branch_sites (v.roll-WhenBranch (record { conditions = z; begins = (out-WhenBranch x).begins; body = (out-WhenBranch x).body }))) e ∙ fold-roll-WhenBranch BodySites BodySites BodySites BodySites BodySites BodySites BodySites BodySites BodySites BodySites BodySites branch_step condition_step kind_step stmt_step piece_step block_step catch_step expr_step lambda_step subject_step when_branch_step (record { conditions = None; begins = (out-WhenBranch x).begins; body = (out-WhenBranch x).body })

-- ---- what a walk has put in

-- under another name
pub put_in : {A E : Type 0} (r : Result A E) (new old : BodySites) {xs ys : BodySites} → ys ≡ xs → OnOk r (new ≡ old ++ xs) → OnOk r (new ≡ old ++ ys)
put_in (Ok a) new old e h = h ∙ ap (λ z. old ++ z) (sym e)
put_in (Err x) new old e h = tt

-- two parts
pub two : (old mid new xs ys : BodySites) → mid ≡ old ++ xs → new ≡ mid ++ ys → new ≡ old ++ (xs ++ ys)
two old mid new xs ys m n = n ∙ ap (λ z. z ++ ys) m ∙ append_assoc old xs ys

pub put_both : {A E : Type 0} (r : Result A E) (new old mid xs ys : BodySites) {zs : BodySites} → zs ≡ xs ++ ys → mid ≡ old ++ xs → OnOk r (new ≡ mid ++ ys) → OnOk r (new ≡ old ++ zs)
put_both (Ok a) new old mid xs ys e m h = two old mid new xs ys m h ∙ ap (λ z. old ++ z) (sym e)
put_both (Err x) new old mid xs ys e m h = tt

-- whether a part is there
pub is_some_map : {A B : Type 0} (f : A → B) (x : Option A) → is_some (option_map f x) ≡ is_some x
is_some_map f (Some x) = refl
is_some_map f None = refl

-- nothing
pub put_nothing : (old : BodySites) {xs : BodySites} → xs ≡ [] → old ≡ old ++ xs
put_nothing old e = sym (ap (λ z. old ++ z) e ∙ append-nil old)
