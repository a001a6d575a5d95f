-- What is told of the dead trees in each written tree.
use Rattle.std.proofs.Common.{◌≡◌, ℕ, Bool, true, false, List, [], ◌∷◌, ◌++◌, map, Option, Some, None, option_map, refl, sym, ap, ◌∙◌, subst, append-nil}
use Rattle.kt_tree.specs.declared.token.Span.{Span}
use Rattle.kt_tree.specs.declared.ast.part.Ident.{Ident}
use Rattle.kt_tree.specs.declared.ast.part.TypeRef.{TypeRef}
use Rattle.kt_tree.specs.declared.ast.part.Sign.{Sign}
use Rattle.kt_tree.specs.declared.ast.part.Arithmetic.{Arithmetic}
use Rattle.kt_tree.specs.declared.ast.part.Comparison.{Comparison}
use Rattle.kt_tree.specs.declared.ast.part.Equality.{Equality}
use Rattle.kt_tree.specs.declared.ast.part.Assignment.{Assignment}
use Rattle.kt_tree.specs.declared.ast.part.Progression.{Progression}
use Rattle.kt_tree.specs.declared.ast.part.Access.{Access}
use Rattle.kt_tree.specs.declared.ast.body.Expr.{Expr}
use Rattle.kt_tree.specs.declared.ast.body.Condition.{Condition}
use Rattle.kt_tree.specs.declared.ast.body.Lambda.{Lambda}
use Rattle.kt_tree.specs.declared.ast.body.Subject.{Subject}
use Rattle.kt_tree.specs.declared.ast.body.WhenBranch.{WhenBranch}
use Rattle.kt_tree.specs.declared.ast.body.Branch.{Branch}
use Rattle.kt_tree.specs.declared.ast.body.StringPart.{StringPart}
use Rattle.kt_tree.specs.declared.ast.body.Stmt.{Stmt}
use Rattle.kt_tree.specs.declared.ast.body.ExprKind.{ExprKind}
use Rattle.kt_tree.specs.declared.ast.body.Block.{Block, out-Block}
use Rattle.kt_tree.specs.declared.ast.body.Catch.{Catch, out-Catch}
use Rattle.kt_tree.specs.declared.ast.body.ExprKind.TheVariants as e
use Rattle.kt_tree.specs.declared.ast.body.Stmt.TheVariants as s
use Rattle.kt_tree.specs.declared.ast.body.Branch.TheVariants as b
use Rattle.kt_tree.specs.declared.ast.body.StringPart.TheVariants as p
use Rattle.kt_tree.specs.declared.ast.body.Condition.TheVariants as q
use Rattle.kt_tree.specs.declared.ast.body.Branch.TheOpen.{Branch-F, Condition-F, ExprKind-F, Stmt-F, StringPart-F}
use Rattle.kt_tree.specs.declared.ast.body.Branch.TheViews as v
use Rattle.kt_tree.specs.declared.ast.body.Branch.TheFolds.{fold_out-Block, fold_out-Catch, fold-roll-Branch, fold-roll-Condition, fold-roll-Expr, fold-roll-ExprKind, fold-roll-Stmt, fold-roll-StringPart, fold-roll-Lambda, fold-roll-Subject, fold-roll-WhenBranch}
use Rattle.kt_model.specs.DeadTrees.{Told, outermost, joined, optional, all_optional, branch_step, condition_step, kind_step, stmt_step, piece_step, block_step, catch_step, expr_step, lambda_step, subject_step, when_step, expr_dead, kind_dead, stmt_dead, block_dead, branch_dead, piece_dead, condition_dead, catch_dead, lambda_dead, subject_dead, when_dead}

pub kind_int : (dead : ℕ → Bool) (k : ℕ) → kind_dead dead (e.Int k) ≡ []
unfolding expr_dead kind_dead stmt_dead block_dead branch_dead piece_dead condition_dead catch_dead lambda_dead subject_dead when_dead
kind_int dead k = ap (kind_dead dead) (sym (v.rolls-Int k)) ∙ fold-roll-ExprKind Told Told Told Told Told Told Told Told Told Told Told branch_step condition_step kind_step (stmt_step dead) piece_step block_step catch_step (expr_step dead) (lambda_step dead) subject_step when_step (ExprKind-F.Int k)

pub kind_bool : (dead : ℕ → Bool) (t : Bool) → kind_dead dead (e.Bool t) ≡ []
unfolding expr_dead kind_dead stmt_dead block_dead branch_dead piece_dead condition_dead catch_dead lambda_dead subject_dead when_dead
kind_bool dead t = ap (kind_dead dead) (sym (v.rolls-Bool t)) ∙ fold-roll-ExprKind Told Told Told Told Told Told Told Told Told Told Told branch_step condition_step kind_step (stmt_step dead) piece_step block_step catch_step (expr_step dead) (lambda_step dead) subject_step when_step (ExprKind-F.Bool t)

pub kind_null : (dead : ℕ → Bool) → kind_dead dead e.Null ≡ []
unfolding expr_dead kind_dead stmt_dead block_dead branch_dead piece_dead condition_dead catch_dead lambda_dead subject_dead when_dead
kind_null dead = ap (kind_dead dead) (sym v.rolls-Null) ∙ fold-roll-ExprKind Told Told Told Told Told Told Told Told Told Told Told branch_step condition_step kind_step (stmt_step dead) piece_step block_step catch_step (expr_step dead) (lambda_step dead) subject_step when_step ExprKind-F.Null

pub kind_this : (dead : ℕ → Bool) → kind_dead dead e.This ≡ []
unfolding expr_dead kind_dead stmt_dead block_dead branch_dead piece_dead condition_dead catch_dead lambda_dead subject_dead when_dead
kind_this dead = ap (kind_dead dead) (sym v.rolls-This) ∙ fold-roll-ExprKind Told Told Told Told Told Told Told Told Told Told Told branch_step condition_step kind_step (stmt_step dead) piece_step block_step catch_step (expr_step dead) (lambda_step dead) subject_step when_step ExprKind-F.This

pub kind_name : (dead : ℕ → Bool) (n : ℕ) → kind_dead dead (e.Name n) ≡ []
unfolding expr_dead kind_dead stmt_dead block_dead branch_dead piece_dead condition_dead catch_dead lambda_dead subject_dead when_dead
kind_name dead n = ap (kind_dead dead) (sym (v.rolls-Name n)) ∙ fold-roll-ExprKind Told Told Told Told Told Told Told Told Told Told Told branch_step condition_step kind_step (stmt_step dead) piece_step block_step catch_step (expr_step dead) (lambda_step dead) subject_step when_step (ExprKind-F.Name n)

pub kind_break : (dead : ℕ → Bool) → kind_dead dead e.Break ≡ []
unfolding expr_dead kind_dead stmt_dead block_dead branch_dead piece_dead condition_dead catch_dead lambda_dead subject_dead when_dead
kind_break dead = ap (kind_dead dead) (sym v.rolls-Break) ∙ fold-roll-ExprKind Told Told Told Told Told Told Told Told Told Told Told branch_step condition_step kind_step (stmt_step dead) piece_step block_step catch_step (expr_step dead) (lambda_step dead) subject_step when_step ExprKind-F.Break

pub kind_continue : (dead : ℕ → Bool) → kind_dead dead e.Continue ≡ []
unfolding expr_dead kind_dead stmt_dead block_dead branch_dead piece_dead condition_dead catch_dead lambda_dead subject_dead when_dead
kind_continue dead = ap (kind_dead dead) (sym v.rolls-Continue) ∙ fold-roll-ExprKind Told Told Told Told Told Told Told Told Told Told Told branch_step condition_step kind_step (stmt_step dead) piece_step block_step catch_step (expr_step dead) (lambda_step dead) subject_step when_step ExprKind-F.Continue

pub kind_template : (dead : ℕ → Bool) (ps : List StringPart) → kind_dead dead (e.Template ps) ≡ joined (map (piece_dead dead) ps)
unfolding expr_dead kind_dead stmt_dead block_dead branch_dead piece_dead condition_dead catch_dead lambda_dead subject_dead when_dead
kind_template dead ps = ap (kind_dead dead) (sym (v.rolls-Template ps)) ∙ fold-roll-ExprKind Told Told Told Told Told Told Told Told Told Told Told branch_step condition_step kind_step (stmt_step dead) piece_step block_step catch_step (expr_step dead) (lambda_step dead) subject_step when_step (ExprKind-F.Template ps)

pub kind_paren : (dead : ℕ → Bool) (x : Expr) → kind_dead dead (e.Paren x) ≡ expr_dead dead x
unfolding expr_dead kind_dead stmt_dead block_dead branch_dead piece_dead condition_dead catch_dead lambda_dead subject_dead when_dead
kind_paren dead x = ap (kind_dead dead) (sym (v.rolls-Paren x)) ∙ fold-roll-ExprKind Told Told Told Told Told Told Told Told Told Told Told branch_step condition_step kind_step (stmt_step dead) piece_step block_step catch_step (expr_step dead) (lambda_step dead) subject_step when_step (ExprKind-F.Paren x)

pub kind_call : (dead : ℕ → Bool) (f : Ident) (xs : List Expr) (l : Lambda) → kind_dead dead (e.Call f xs (Some l)) ≡ joined (map (expr_dead dead) xs) ++ optional (Some (lambda_dead dead l))
unfolding expr_dead kind_dead stmt_dead block_dead branch_dead piece_dead condition_dead catch_dead lambda_dead subject_dead when_dead
kind_call dead f xs l = ap (kind_dead dead) (sym (v.rolls-Call f xs (Some l))) ∙ fold-roll-ExprKind Told Told Told Told Told Told Told Told Told Told Told branch_step condition_step kind_step (stmt_step dead) piece_step block_step catch_step (expr_step dead) (lambda_step dead) subject_step when_step (ExprKind-F.Call f xs (Some l))

pub kind_call_alone : (dead : ℕ → Bool) (f : Ident) (xs : List Expr) → kind_dead dead (e.Call f xs None) ≡ joined (map (expr_dead dead) xs) ++ optional None
unfolding expr_dead kind_dead stmt_dead block_dead branch_dead piece_dead condition_dead catch_dead lambda_dead subject_dead when_dead
kind_call_alone dead f xs = ap (kind_dead dead) (sym (v.rolls-Call f xs None)) ∙ fold-roll-ExprKind Told Told Told Told Told Told Told Told Told Told Told branch_step condition_step kind_step (stmt_step dead) piece_step block_step catch_step (expr_step dead) (lambda_step dead) subject_step when_step (ExprKind-F.Call f xs None)

pub kind_member : (dead : ℕ → Bool) (x : Expr) (a : Access) (n : Ident) → kind_dead dead (e.Member x a n) ≡ expr_dead dead x
unfolding expr_dead kind_dead stmt_dead block_dead branch_dead piece_dead condition_dead catch_dead lambda_dead subject_dead when_dead
kind_member dead x a n = ap (kind_dead dead) (sym (v.rolls-Member x a n)) ∙ fold-roll-ExprKind Told Told Told Told Told Told Told Told Told Told Told branch_step condition_step kind_step (stmt_step dead) piece_step block_step catch_step (expr_step dead) (lambda_step dead) subject_step when_step (ExprKind-F.Member x a n)

pub kind_member_call : (dead : ℕ → Bool) (x : Expr) (a : Access) (n : Ident) (xs : List Expr) → kind_dead dead (e.MemberCall x a n xs) ≡ expr_dead dead x ++ joined (map (expr_dead dead) xs)
unfolding expr_dead kind_dead stmt_dead block_dead branch_dead piece_dead condition_dead catch_dead lambda_dead subject_dead when_dead
kind_member_call dead x a n xs = ap (kind_dead dead) (sym (v.rolls-MemberCall x a n xs)) ∙ fold-roll-ExprKind Told Told Told Told Told Told Told Told Told Told Told branch_step condition_step kind_step (stmt_step dead) piece_step block_step catch_step (expr_step dead) (lambda_step dead) subject_step when_step (ExprKind-F.MemberCall x a n xs)

pub kind_not_null : (dead : ℕ → Bool) (x : Expr) → kind_dead dead (e.NotNull x) ≡ expr_dead dead x
unfolding expr_dead kind_dead stmt_dead block_dead branch_dead piece_dead condition_dead catch_dead lambda_dead subject_dead when_dead
kind_not_null dead x = ap (kind_dead dead) (sym (v.rolls-NotNull x)) ∙ fold-roll-ExprKind Told Told Told Told Told Told Told Told Told Told Told branch_step condition_step kind_step (stmt_step dead) piece_step block_step catch_step (expr_step dead) (lambda_step dead) subject_step when_step (ExprKind-F.NotNull x)

pub kind_sign : (dead : ℕ → Bool) (o : Sign) (x : Expr) → kind_dead dead (e.Sign o x) ≡ expr_dead dead x
unfolding expr_dead kind_dead stmt_dead block_dead branch_dead piece_dead condition_dead catch_dead lambda_dead subject_dead when_dead
kind_sign dead o x = ap (kind_dead dead) (sym (v.rolls-Sign o x)) ∙ fold-roll-ExprKind Told Told Told Told Told Told Told Told Told Told Told branch_step condition_step kind_step (stmt_step dead) piece_step block_step catch_step (expr_step dead) (lambda_step dead) subject_step when_step (ExprKind-F.Sign o x)

pub kind_not : (dead : ℕ → Bool) (x : Expr) → kind_dead dead (e.Not x) ≡ expr_dead dead x
unfolding expr_dead kind_dead stmt_dead block_dead branch_dead piece_dead condition_dead catch_dead lambda_dead subject_dead when_dead
kind_not dead x = ap (kind_dead dead) (sym (v.rolls-Not x)) ∙ fold-roll-ExprKind Told Told Told Told Told Told Told Told Told Told Told branch_step condition_step kind_step (stmt_step dead) piece_step block_step catch_step (expr_step dead) (lambda_step dead) subject_step when_step (ExprKind-F.Not x)

pub kind_as : (dead : ℕ → Bool) (x : Expr) (t : TypeRef) → kind_dead dead (e.As x t) ≡ expr_dead dead x
unfolding expr_dead kind_dead stmt_dead block_dead branch_dead piece_dead condition_dead catch_dead lambda_dead subject_dead when_dead
kind_as dead x t = ap (kind_dead dead) (sym (v.rolls-As x t)) ∙ fold-roll-ExprKind Told Told Told Told Told Told Told Told Told Told Told branch_step condition_step kind_step (stmt_step dead) piece_step block_step catch_step (expr_step dead) (lambda_step dead) subject_step when_step (ExprKind-F.As x t)

pub kind_as_safe : (dead : ℕ → Bool) (x : Expr) (t : TypeRef) → kind_dead dead (e.AsSafe x t) ≡ expr_dead dead x
unfolding expr_dead kind_dead stmt_dead block_dead branch_dead piece_dead condition_dead catch_dead lambda_dead subject_dead when_dead
kind_as_safe dead x t = ap (kind_dead dead) (sym (v.rolls-AsSafe x t)) ∙ fold-roll-ExprKind Told Told Told Told Told Told Told Told Told Told Told branch_step condition_step kind_step (stmt_step dead) piece_step block_step catch_step (expr_step dead) (lambda_step dead) subject_step when_step (ExprKind-F.AsSafe x t)

pub kind_sum : (dead : ℕ → Bool) (x : Expr) (y : Expr) → kind_dead dead (e.Sum x y) ≡ expr_dead dead x ++ expr_dead dead y
unfolding expr_dead kind_dead stmt_dead block_dead branch_dead piece_dead condition_dead catch_dead lambda_dead subject_dead when_dead
kind_sum dead x y = ap (kind_dead dead) (sym (v.rolls-Sum x y)) ∙ fold-roll-ExprKind Told Told Told Told Told Told Told Told Told Told Told branch_step condition_step kind_step (stmt_step dead) piece_step block_step catch_step (expr_step dead) (lambda_step dead) subject_step when_step (ExprKind-F.Sum x y)

pub kind_arithmetic : (dead : ℕ → Bool) (o : Arithmetic) (x : Expr) (y : Expr) → kind_dead dead (e.Arithmetic o x y) ≡ expr_dead dead x ++ expr_dead dead y
unfolding expr_dead kind_dead stmt_dead block_dead branch_dead piece_dead condition_dead catch_dead lambda_dead subject_dead when_dead
kind_arithmetic dead o x y = ap (kind_dead dead) (sym (v.rolls-Arithmetic o x y)) ∙ fold-roll-ExprKind Told Told Told Told Told Told Told Told Told Told Told branch_step condition_step kind_step (stmt_step dead) piece_step block_step catch_step (expr_step dead) (lambda_step dead) subject_step when_step (ExprKind-F.Arithmetic o x y)

pub kind_compare : (dead : ℕ → Bool) (o : Comparison) (x : Expr) (y : Expr) → kind_dead dead (e.Compare o x y) ≡ expr_dead dead x ++ expr_dead dead y
unfolding expr_dead kind_dead stmt_dead block_dead branch_dead piece_dead condition_dead catch_dead lambda_dead subject_dead when_dead
kind_compare dead o x y = ap (kind_dead dead) (sym (v.rolls-Compare o x y)) ∙ fold-roll-ExprKind Told Told Told Told Told Told Told Told Told Told Told branch_step condition_step kind_step (stmt_step dead) piece_step block_step catch_step (expr_step dead) (lambda_step dead) subject_step when_step (ExprKind-F.Compare o x y)

pub kind_equal : (dead : ℕ → Bool) (o : Equality) (x : Expr) (y : Expr) → kind_dead dead (e.Equal o x y) ≡ expr_dead dead x ++ expr_dead dead y
unfolding expr_dead kind_dead stmt_dead block_dead branch_dead piece_dead condition_dead catch_dead lambda_dead subject_dead when_dead
kind_equal dead o x y = ap (kind_dead dead) (sym (v.rolls-Equal o x y)) ∙ fold-roll-ExprKind Told Told Told Told Told Told Told Told Told Told Told branch_step condition_step kind_step (stmt_step dead) piece_step block_step catch_step (expr_step dead) (lambda_step dead) subject_step when_step (ExprKind-F.Equal o x y)

pub kind_and : (dead : ℕ → Bool) (x : Expr) (y : Expr) → kind_dead dead (e.And x y) ≡ expr_dead dead x ++ expr_dead dead y
unfolding expr_dead kind_dead stmt_dead block_dead branch_dead piece_dead condition_dead catch_dead lambda_dead subject_dead when_dead
kind_and dead x y = ap (kind_dead dead) (sym (v.rolls-And x y)) ∙ fold-roll-ExprKind Told Told Told Told Told Told Told Told Told Told Told branch_step condition_step kind_step (stmt_step dead) piece_step block_step catch_step (expr_step dead) (lambda_step dead) subject_step when_step (ExprKind-F.And x y)

pub kind_or : (dead : ℕ → Bool) (x : Expr) (y : Expr) → kind_dead dead (e.Or x y) ≡ expr_dead dead x ++ expr_dead dead y
unfolding expr_dead kind_dead stmt_dead block_dead branch_dead piece_dead condition_dead catch_dead lambda_dead subject_dead when_dead
kind_or dead x y = ap (kind_dead dead) (sym (v.rolls-Or x y)) ∙ fold-roll-ExprKind Told Told Told Told Told Told Told Told Told Told Told branch_step condition_step kind_step (stmt_step dead) piece_step block_step catch_step (expr_step dead) (lambda_step dead) subject_step when_step (ExprKind-F.Or x y)

pub kind_elvis : (dead : ℕ → Bool) (x : Expr) (y : Expr) → kind_dead dead (e.Elvis x y) ≡ expr_dead dead x ++ expr_dead dead y
unfolding expr_dead kind_dead stmt_dead block_dead branch_dead piece_dead condition_dead catch_dead lambda_dead subject_dead when_dead
kind_elvis dead x y = ap (kind_dead dead) (sym (v.rolls-Elvis x y)) ∙ fold-roll-ExprKind Told Told Told Told Told Told Told Told Told Told Told branch_step condition_step kind_step (stmt_step dead) piece_step block_step catch_step (expr_step dead) (lambda_step dead) subject_step when_step (ExprKind-F.Elvis x y)

pub kind_is : (dead : ℕ → Bool) (x : Expr) (t : TypeRef) → kind_dead dead (e.Is x t) ≡ expr_dead dead x
unfolding expr_dead kind_dead stmt_dead block_dead branch_dead piece_dead condition_dead catch_dead lambda_dead subject_dead when_dead
kind_is dead x t = ap (kind_dead dead) (sym (v.rolls-ExprKind::Is x t)) ∙ fold-roll-ExprKind Told Told Told Told Told Told Told Told Told Told Told branch_step condition_step kind_step (stmt_step dead) piece_step block_step catch_step (expr_step dead) (lambda_step dead) subject_step when_step (ExprKind-F.ExprKind::Is x t)

pub kind_is_not : (dead : ℕ → Bool) (x : Expr) (t : TypeRef) → kind_dead dead (e.IsNot x t) ≡ expr_dead dead x
unfolding expr_dead kind_dead stmt_dead block_dead branch_dead piece_dead condition_dead catch_dead lambda_dead subject_dead when_dead
kind_is_not dead x t = ap (kind_dead dead) (sym (v.rolls-ExprKind::IsNot x t)) ∙ fold-roll-ExprKind Told Told Told Told Told Told Told Told Told Told Told branch_step condition_step kind_step (stmt_step dead) piece_step block_step catch_step (expr_step dead) (lambda_step dead) subject_step when_step (ExprKind-F.ExprKind::IsNot x t)

pub kind_if : (dead : ℕ → Bool) (c : Expr) (x : Branch) (y : Branch) → kind_dead dead (e.If c x (Some y)) ≡ expr_dead dead c ++ (branch_dead dead x ++ optional (Some (branch_dead dead y)))
unfolding expr_dead kind_dead stmt_dead block_dead branch_dead piece_dead condition_dead catch_dead lambda_dead subject_dead when_dead
kind_if dead c x y = ap (kind_dead dead) (sym (v.rolls-If c x (Some y))) ∙ fold-roll-ExprKind Told Told Told Told Told Told Told Told Told Told Told branch_step condition_step kind_step (stmt_step dead) piece_step block_step catch_step (expr_step dead) (lambda_step dead) subject_step when_step (ExprKind-F.If c x (Some y))

pub kind_if_alone : (dead : ℕ → Bool) (c : Expr) (x : Branch) → kind_dead dead (e.If c x None) ≡ expr_dead dead c ++ (branch_dead dead x ++ optional None)
unfolding expr_dead kind_dead stmt_dead block_dead branch_dead piece_dead condition_dead catch_dead lambda_dead subject_dead when_dead
kind_if_alone dead c x = ap (kind_dead dead) (sym (v.rolls-If c x None)) ∙ fold-roll-ExprKind Told Told Told Told Told Told Told Told Told Told Told branch_step condition_step kind_step (stmt_step dead) piece_step block_step catch_step (expr_step dead) (lambda_step dead) subject_step when_step (ExprKind-F.If c x None)

pub kind_when : (dead : ℕ → Bool) (s : Subject) (bs : List WhenBranch) → kind_dead dead (e.When (Some s) bs) ≡ optional (Some (subject_dead dead s)) ++ joined (map (when_dead dead) bs)
unfolding expr_dead kind_dead stmt_dead block_dead branch_dead piece_dead condition_dead catch_dead lambda_dead subject_dead when_dead
kind_when dead s bs = ap (kind_dead dead) (sym (v.rolls-When (Some s) bs)) ∙ fold-roll-ExprKind Told Told Told Told Told Told Told Told Told Told Told branch_step condition_step kind_step (stmt_step dead) piece_step block_step catch_step (expr_step dead) (lambda_step dead) subject_step when_step (ExprKind-F.When (Some s) bs)

pub kind_when_alone : (dead : ℕ → Bool) (bs : List WhenBranch) → kind_dead dead (e.When None bs) ≡ optional None ++ joined (map (when_dead dead) bs)
unfolding expr_dead kind_dead stmt_dead block_dead branch_dead piece_dead condition_dead catch_dead lambda_dead subject_dead when_dead
kind_when_alone dead bs = ap (kind_dead dead) (sym (v.rolls-When None bs)) ∙ fold-roll-ExprKind Told Told Told Told Told Told Told Told Told Told Told branch_step condition_step kind_step (stmt_step dead) piece_step block_step catch_step (expr_step dead) (lambda_step dead) subject_step when_step (ExprKind-F.When None bs)

pub kind_try : (dead : ℕ → Bool) (b : Block) (cs : List Catch) (f : Block) → kind_dead dead (e.Try b cs (Some f)) ≡ block_dead dead b ++ (joined (map (catch_dead dead) cs) ++ optional (Some (block_dead dead f)))
unfolding expr_dead kind_dead stmt_dead block_dead branch_dead piece_dead condition_dead catch_dead lambda_dead subject_dead when_dead
kind_try dead b cs f = ap (kind_dead dead) (sym (v.rolls-Try b cs (Some f))) ∙ fold-roll-ExprKind Told Told Told Told Told Told Told Told Told Told Told branch_step condition_step kind_step (stmt_step dead) piece_step block_step catch_step (expr_step dead) (lambda_step dead) subject_step when_step (ExprKind-F.Try b cs (Some f))

pub kind_try_alone : (dead : ℕ → Bool) (b : Block) (cs : List Catch) → kind_dead dead (e.Try b cs None) ≡ block_dead dead b ++ (joined (map (catch_dead dead) cs) ++ optional None)
unfolding expr_dead kind_dead stmt_dead block_dead branch_dead piece_dead condition_dead catch_dead lambda_dead subject_dead when_dead
kind_try_alone dead b cs = ap (kind_dead dead) (sym (v.rolls-Try b cs None)) ∙ fold-roll-ExprKind Told Told Told Told Told Told Told Told Told Told Told branch_step condition_step kind_step (stmt_step dead) piece_step block_step catch_step (expr_step dead) (lambda_step dead) subject_step when_step (ExprKind-F.Try b cs None)

pub kind_return : (dead : ℕ → Bool) (l : Ident) (x : Expr) → kind_dead dead (e.Return (Some l) (Some x)) ≡ optional (Some (expr_dead dead x))
unfolding expr_dead kind_dead stmt_dead block_dead branch_dead piece_dead condition_dead catch_dead lambda_dead subject_dead when_dead
kind_return dead l x = ap (kind_dead dead) (sym (v.rolls-Return (Some l) (Some x))) ∙ fold-roll-ExprKind Told Told Told Told Told Told Told Told Told Told Told branch_step condition_step kind_step (stmt_step dead) piece_step block_step catch_step (expr_step dead) (lambda_step dead) subject_step when_step (ExprKind-F.Return (Some l) (Some x))

pub kind_return_plain : (dead : ℕ → Bool) (x : Expr) → kind_dead dead (e.Return None (Some x)) ≡ optional (Some (expr_dead dead x))
unfolding expr_dead kind_dead stmt_dead block_dead branch_dead piece_dead condition_dead catch_dead lambda_dead subject_dead when_dead
kind_return_plain dead x = ap (kind_dead dead) (sym (v.rolls-Return None (Some x))) ∙ fold-roll-ExprKind Told Told Told Told Told Told Told Told Told Told Told branch_step condition_step kind_step (stmt_step dead) piece_step block_step catch_step (expr_step dead) (lambda_step dead) subject_step when_step (ExprKind-F.Return None (Some x))

pub kind_return_alone : (dead : ℕ → Bool) (l : Ident) → kind_dead dead (e.Return (Some l) None) ≡ optional None
unfolding expr_dead kind_dead stmt_dead block_dead branch_dead piece_dead condition_dead catch_dead lambda_dead subject_dead when_dead
kind_return_alone dead l = ap (kind_dead dead) (sym (v.rolls-Return (Some l) None)) ∙ fold-roll-ExprKind Told Told Told Told Told Told Told Told Told Told Told branch_step condition_step kind_step (stmt_step dead) piece_step block_step catch_step (expr_step dead) (lambda_step dead) subject_step when_step (ExprKind-F.Return (Some l) None)

pub kind_return_bare : (dead : ℕ → Bool) → kind_dead dead (e.Return None None) ≡ optional None
unfolding expr_dead kind_dead stmt_dead block_dead branch_dead piece_dead condition_dead catch_dead lambda_dead subject_dead when_dead
kind_return_bare dead = ap (kind_dead dead) (sym (v.rolls-Return None None)) ∙ fold-roll-ExprKind Told Told Told Told Told Told Told Told Told Told Told branch_step condition_step kind_step (stmt_step dead) piece_step block_step catch_step (expr_step dead) (lambda_step dead) subject_step when_step (ExprKind-F.Return None None)

pub kind_throw : (dead : ℕ → Bool) (x : Expr) → kind_dead dead (e.Throw x) ≡ expr_dead dead x
unfolding expr_dead kind_dead stmt_dead block_dead branch_dead piece_dead condition_dead catch_dead lambda_dead subject_dead when_dead
kind_throw dead x = ap (kind_dead dead) (sym (v.rolls-Throw x)) ∙ fold-roll-ExprKind Told Told Told Told Told Told Told Told Told Told Told branch_step condition_step kind_step (stmt_step dead) piece_step block_step catch_step (expr_step dead) (lambda_step dead) subject_step when_step (ExprKind-F.Throw x)

pub stmt_expr : (dead : ℕ → Bool) (x : Expr) → stmt_dead dead (s.Expr x) ≡ expr_dead dead x
unfolding expr_dead kind_dead stmt_dead block_dead branch_dead piece_dead condition_dead catch_dead lambda_dead subject_dead when_dead
stmt_expr dead x = ap (stmt_dead dead) (sym (v.rolls-Expr x)) ∙ fold-roll-Stmt Told Told Told Told Told Told Told Told Told Told Told branch_step condition_step kind_step (stmt_step dead) piece_step block_step catch_step (expr_step dead) (lambda_step dead) subject_step when_step (Stmt-F.Expr x)

pub stmt_local : (dead : ℕ → Bool) (n : ℕ) (at : Span) (m : Bool) (i : Ident) (w : Option TypeRef) (x : Expr) → stmt_dead dead (s.Local n at m i w (Some x)) ≡ outermost dead n at (optional (Some (expr_dead dead x)))
unfolding expr_dead kind_dead stmt_dead block_dead branch_dead piece_dead condition_dead catch_dead lambda_dead subject_dead when_dead
stmt_local dead n at m i w x = ap (stmt_dead dead) (sym (v.rolls-Local n at m i w (Some x))) ∙ fold-roll-Stmt Told Told Told Told Told Told Told Told Told Told Told branch_step condition_step kind_step (stmt_step dead) piece_step block_step catch_step (expr_step dead) (lambda_step dead) subject_step when_step (Stmt-F.Local n at m i w (Some x))

pub stmt_local_alone : (dead : ℕ → Bool) (n : ℕ) (at : Span) (m : Bool) (i : Ident) (w : Option TypeRef) → stmt_dead dead (s.Local n at m i w None) ≡ outermost dead n at (optional None)
unfolding expr_dead kind_dead stmt_dead block_dead branch_dead piece_dead condition_dead catch_dead lambda_dead subject_dead when_dead
stmt_local_alone dead n at m i w = ap (stmt_dead dead) (sym (v.rolls-Local n at m i w None)) ∙ fold-roll-Stmt Told Told Told Told Told Told Told Told Told Told Told branch_step condition_step kind_step (stmt_step dead) piece_step block_step catch_step (expr_step dead) (lambda_step dead) subject_step when_step (Stmt-F.Local n at m i w None)

pub stmt_assign : (dead : ℕ → Bool) (n : ℕ) (at : Span) (t : Expr) (a : Assignment) (x : Expr) → stmt_dead dead (s.Assign n at t a (Some x)) ≡ outermost dead n at (expr_dead dead t ++ optional (Some (expr_dead dead x)))
unfolding expr_dead kind_dead stmt_dead block_dead branch_dead piece_dead condition_dead catch_dead lambda_dead subject_dead when_dead
stmt_assign dead n at t a x = ap (stmt_dead dead) (sym (v.rolls-Assign n at t a (Some x))) ∙ fold-roll-Stmt Told Told Told Told Told Told Told Told Told Told Told branch_step condition_step kind_step (stmt_step dead) piece_step block_step catch_step (expr_step dead) (lambda_step dead) subject_step when_step (Stmt-F.Assign n at t a (Some x))

pub stmt_assign_alone : (dead : ℕ → Bool) (n : ℕ) (at : Span) (t : Expr) (a : Assignment) → stmt_dead dead (s.Assign n at t a None) ≡ outermost dead n at (expr_dead dead t ++ optional None)
unfolding expr_dead kind_dead stmt_dead block_dead branch_dead piece_dead condition_dead catch_dead lambda_dead subject_dead when_dead
stmt_assign_alone dead n at t a = ap (stmt_dead dead) (sym (v.rolls-Assign n at t a None)) ∙ fold-roll-Stmt Told Told Told Told Told Told Told Told Told Told Told branch_step condition_step kind_step (stmt_step dead) piece_step block_step catch_step (expr_step dead) (lambda_step dead) subject_step when_step (Stmt-F.Assign n at t a None)

pub stmt_while : (dead : ℕ → Bool) (n : ℕ) (at : Span) (c : Expr) (x : Branch) → stmt_dead dead (s.While n at c x) ≡ outermost dead n at (expr_dead dead c ++ branch_dead dead x)
unfolding expr_dead kind_dead stmt_dead block_dead branch_dead piece_dead condition_dead catch_dead lambda_dead subject_dead when_dead
stmt_while dead n at c x = ap (stmt_dead dead) (sym (v.rolls-While n at c x)) ∙ fold-roll-Stmt Told Told Told Told Told Told Told Told Told Told Told branch_step condition_step kind_step (stmt_step dead) piece_step block_step catch_step (expr_step dead) (lambda_step dead) subject_step when_step (Stmt-F.While n at c x)

pub stmt_do_while : (dead : ℕ → Bool) (n : ℕ) (at : Span) (x : Block) (c : Expr) → stmt_dead dead (s.DoWhile n at x c) ≡ outermost dead n at (block_dead dead x ++ expr_dead dead c)
unfolding expr_dead kind_dead stmt_dead block_dead branch_dead piece_dead condition_dead catch_dead lambda_dead subject_dead when_dead
stmt_do_while dead n at x c = ap (stmt_dead dead) (sym (v.rolls-DoWhile n at x c)) ∙ fold-roll-Stmt Told Told Told Told Told Told Told Told Told Told Told branch_step condition_step kind_step (stmt_step dead) piece_step block_step catch_step (expr_step dead) (lambda_step dead) subject_step when_step (Stmt-F.DoWhile n at x c)

pub stmt_for : (dead : ℕ → Bool) (n : ℕ) (at : Span) (i : Ident) (w : Option TypeRef) (l : Expr) (o : Progression) (h : Expr) (x : Branch) → stmt_dead dead (s.For n at i w l o h x) ≡ outermost dead n at (expr_dead dead l ++ (expr_dead dead h ++ branch_dead dead x))
unfolding expr_dead kind_dead stmt_dead block_dead branch_dead piece_dead condition_dead catch_dead lambda_dead subject_dead when_dead
stmt_for dead n at i w l o h x = ap (stmt_dead dead) (sym (v.rolls-For n at i w l o h x)) ∙ fold-roll-Stmt Told Told Told Told Told Told Told Told Told Told Told branch_step condition_step kind_step (stmt_step dead) piece_step block_step catch_step (expr_step dead) (lambda_step dead) subject_step when_step (Stmt-F.For n at i w l o h x)

pub branch_braced : (dead : ℕ → Bool) (x : Block) → branch_dead dead (b.Braced x) ≡ block_dead dead x
unfolding expr_dead kind_dead stmt_dead block_dead branch_dead piece_dead condition_dead catch_dead lambda_dead subject_dead when_dead
branch_braced dead x = ap (branch_dead dead) (sym (v.rolls-Braced x)) ∙ fold-roll-Branch Told Told Told Told Told Told Told Told Told Told Told branch_step condition_step kind_step (stmt_step dead) piece_step block_step catch_step (expr_step dead) (lambda_step dead) subject_step when_step (Branch-F.Braced x)

pub branch_single : (dead : ℕ → Bool) (x : Stmt) → branch_dead dead (b.Single x) ≡ stmt_dead dead x
unfolding expr_dead kind_dead stmt_dead block_dead branch_dead piece_dead condition_dead catch_dead lambda_dead subject_dead when_dead
branch_single dead x = ap (branch_dead dead) (sym (v.rolls-Single x)) ∙ fold-roll-Branch Told Told Told Told Told Told Told Told Told Told Told branch_step condition_step kind_step (stmt_step dead) piece_step block_step catch_step (expr_step dead) (lambda_step dead) subject_step when_step (Branch-F.Single x)

pub piece_text : (dead : ℕ → Bool) (bs : List ℕ) → piece_dead dead (p.Text bs) ≡ []
unfolding expr_dead kind_dead stmt_dead block_dead branch_dead piece_dead condition_dead catch_dead lambda_dead subject_dead when_dead
piece_text dead bs = ap (piece_dead dead) (sym (v.rolls-Text bs)) ∙ fold-roll-StringPart Told Told Told Told Told Told Told Told Told Told Told branch_step condition_step kind_step (stmt_step dead) piece_step block_step catch_step (expr_step dead) (lambda_step dead) subject_step when_step (StringPart-F.Text bs)

pub piece_inserted : (dead : ℕ → Bool) (x : Expr) → piece_dead dead (p.Inserted x) ≡ expr_dead dead x
unfolding expr_dead kind_dead stmt_dead block_dead branch_dead piece_dead condition_dead catch_dead lambda_dead subject_dead when_dead
piece_inserted dead x = ap (piece_dead dead) (sym (v.rolls-Inserted x)) ∙ fold-roll-StringPart Told Told Told Told Told Told Told Told Told Told Told branch_step condition_step kind_step (stmt_step dead) piece_step block_step catch_step (expr_step dead) (lambda_step dead) subject_step when_step (StringPart-F.Inserted x)

pub condition_is : (dead : ℕ → Bool) (at : Span) (t : TypeRef) → condition_dead dead (q.Is at t) ≡ []
unfolding expr_dead kind_dead stmt_dead block_dead branch_dead piece_dead condition_dead catch_dead lambda_dead subject_dead when_dead
condition_is dead at t = ap (condition_dead dead) (sym (v.rolls-Condition::Is at t)) ∙ fold-roll-Condition Told Told Told Told Told Told Told Told Told Told Told branch_step condition_step kind_step (stmt_step dead) piece_step block_step catch_step (expr_step dead) (lambda_step dead) subject_step when_step (Condition-F.Condition::Is at t)

pub condition_is_not : (dead : ℕ → Bool) (at : Span) (t : TypeRef) → condition_dead dead (q.IsNot at t) ≡ []
unfolding expr_dead kind_dead stmt_dead block_dead branch_dead piece_dead condition_dead catch_dead lambda_dead subject_dead when_dead
condition_is_not dead at t = ap (condition_dead dead) (sym (v.rolls-Condition::IsNot at t)) ∙ fold-roll-Condition Told Told Told Told Told Told Told Told Told Told Told branch_step condition_step kind_step (stmt_step dead) piece_step block_step catch_step (expr_step dead) (lambda_step dead) subject_step when_step (Condition-F.Condition::IsNot at t)

pub condition_value : (dead : ℕ → Bool) (x : Expr) → condition_dead dead (q.Value x) ≡ expr_dead dead x
unfolding expr_dead kind_dead stmt_dead block_dead branch_dead piece_dead condition_dead catch_dead lambda_dead subject_dead when_dead
condition_value dead x = ap (condition_dead dead) (sym (v.rolls-Value x)) ∙ fold-roll-Condition Told Told Told Told Told Told Told Told Told Told Told branch_step condition_step kind_step (stmt_step dead) piece_step block_step catch_step (expr_step dead) (lambda_step dead) subject_step when_step (Condition-F.Value x)

pub expr_is : (dead : ℕ → Bool) (x : Expr) → expr_dead dead x ≡ outermost dead x.number x.span (kind_dead dead x.kind)
unfolding expr_dead kind_dead stmt_dead block_dead branch_dead piece_dead condition_dead catch_dead lambda_dead subject_dead when_dead
expr_is dead x = fold-roll-Expr Told Told Told Told Told Told Told Told Told Told Told branch_step condition_step kind_step (stmt_step dead) piece_step block_step catch_step (expr_step dead) (lambda_step dead) subject_step when_step (record { number = x.number; span = x.span; kind = x.kind })

pub block_is : (dead : ℕ → Bool) (x : Block) → block_dead dead x ≡ joined (map (stmt_dead dead) (out-Block x).statements)
unfolding expr_dead kind_dead stmt_dead block_dead branch_dead piece_dead condition_dead catch_dead lambda_dead subject_dead when_dead
block_is dead x = fold_out-Block Told Told Told Told Told Told Told Told Told Told Told branch_step condition_step kind_step (stmt_step dead) piece_step block_step catch_step (expr_step dead) (lambda_step dead) subject_step when_step x

pub catch_is : (dead : ℕ → Bool) (x : Catch) → catch_dead dead x ≡ block_dead dead (out-Catch x).body
unfolding expr_dead kind_dead stmt_dead block_dead branch_dead piece_dead condition_dead catch_dead lambda_dead subject_dead when_dead
catch_is dead x = fold_out-Catch Told Told Told Told Told Told Told Told Told Told Told branch_step condition_step kind_step (stmt_step dead) piece_step block_step catch_step (expr_step dead) (lambda_step dead) subject_step when_step x

pub lambda_is : (dead : ℕ → Bool) (x : Lambda) → lambda_dead dead x ≡ outermost dead x.number x.span (block_dead dead x.body)
unfolding expr_dead kind_dead stmt_dead block_dead branch_dead piece_dead condition_dead catch_dead lambda_dead subject_dead when_dead
lambda_is dead x = fold-roll-Lambda Told Told Told Told Told Told Told Told Told Told Told branch_step condition_step kind_step (stmt_step dead) piece_step block_step catch_step (expr_step dead) (lambda_step dead) subject_step when_step (record { number = x.number; span = x.span; parameters = x.parameters; body = x.body })

pub subject_is : (dead : ℕ → Bool) (x : Subject) → subject_dead dead x ≡ expr_dead dead x.value
unfolding expr_dead kind_dead stmt_dead block_dead branch_dead piece_dead condition_dead catch_dead lambda_dead subject_dead when_dead
subject_is dead x = fold-roll-Subject Told Told Told Told Told Told Told Told Told Told Told branch_step condition_step kind_step (stmt_step dead) piece_step block_step catch_step (expr_step dead) (lambda_step dead) subject_step when_step (record { variable = x.variable; written = x.written; value = x.value })

when_at : (dead : ℕ → Bool) (cs : Option (List Condition)) (at : Span) (x : Branch) → when_dead dead (record { conditions = cs; begins = at; body = x }) ≡ all_optional (option_map (map (condition_dead dead)) cs) ++ branch_dead dead x
unfolding expr_dead kind_dead stmt_dead block_dead branch_dead piece_dead condition_dead catch_dead lambda_dead subject_dead when_dead
when_at dead (Some cs) at x = fold-roll-WhenBranch Told Told Told Told Told Told Told Told Told Told Told branch_step condition_step kind_step (stmt_step dead) piece_step block_step catch_step (expr_step dead) (lambda_step dead) subject_step when_step (record { conditions = Some cs; begins = at; body = x })
when_at dead None at x = fold-roll-WhenBranch Told Told Told Told Told Told Told Told Told Told Told branch_step condition_step kind_step (stmt_step dead) piece_step block_step catch_step (expr_step dead) (lambda_step dead) subject_step when_step (record { conditions = None; begins = at; body = x })

pub when_is : (dead : ℕ → Bool) (x : WhenBranch) → when_dead dead x ≡ all_optional (option_map (map (condition_dead dead)) x.conditions) ++ branch_dead dead x.body
when_is dead x = when_at dead x.conditions x.begins x.body

pub kind_call_any : (dead : ℕ → Bool) (f : Ident) (xs : List Expr) (l : Option Lambda) → kind_dead dead (e.Call f xs l) ≡ joined (map (expr_dead dead) xs) ++ optional (option_map (lambda_dead dead) l)
kind_call_any dead f xs (Some l) = kind_call dead f xs l
kind_call_any dead f xs None = kind_call_alone dead f xs

pub kind_if_any : (dead : ℕ → Bool) (c : Expr) (x : Branch) (y : Option Branch) → kind_dead dead (e.If c x y) ≡ expr_dead dead c ++ (branch_dead dead x ++ optional (option_map (branch_dead dead) y))
kind_if_any dead c x (Some y) = kind_if dead c x y
kind_if_any dead c x None = kind_if_alone dead c x

pub kind_when_any : (dead : ℕ → Bool) (w : Option Subject) (bs : List WhenBranch) → kind_dead dead (e.When w bs) ≡ optional (option_map (subject_dead dead) w) ++ joined (map (when_dead dead) bs)
kind_when_any dead (Some w) bs = kind_when dead w bs
kind_when_any dead None bs = kind_when_alone dead bs

pub kind_try_any : (dead : ℕ → Bool) (x : Block) (cs : List Catch) (f : Option Block) → kind_dead dead (e.Try x cs f) ≡ block_dead dead x ++ (joined (map (catch_dead dead) cs) ++ optional (option_map (block_dead dead) f))
kind_try_any dead x cs (Some f) = kind_try dead x cs f
kind_try_any dead x cs None = kind_try_alone dead x cs

pub kind_return_any : (dead : ℕ → Bool) (l : Option Ident) (x : Option Expr) → kind_dead dead (e.Return l x) ≡ optional (option_map (expr_dead dead) x)
kind_return_any dead (Some l) (Some x) = kind_return dead l x
kind_return_any dead None (Some x) = kind_return_plain dead x
kind_return_any dead (Some l) None = kind_return_alone dead l
kind_return_any dead None None = kind_return_bare dead

pub stmt_local_any : (dead : ℕ → Bool) (n : ℕ) (at : Span) (m : Bool) (i : Ident) (w : Option TypeRef) (x : Option Expr) → stmt_dead dead (s.Local n at m i w x) ≡ outermost dead n at (optional (option_map (expr_dead dead) x))
stmt_local_any dead n at m i w (Some x) = stmt_local dead n at m i w x
stmt_local_any dead n at m i w None = stmt_local_alone dead n at m i w

pub stmt_assign_any : (dead : ℕ → Bool) (n : ℕ) (at : Span) (t : Expr) (a : Assignment) (x : Option Expr) → stmt_dead dead (s.Assign n at t a x) ≡ outermost dead n at (expr_dead dead t ++ optional (option_map (expr_dead dead) x))
stmt_assign_any dead n at t a (Some x) = stmt_assign dead n at t a x
stmt_assign_any dead n at t a None = stmt_assign_alone dead n at t a

-- a kind without parts tells nothing
pub ruleset leaves = (append-nil, kind_int, kind_bool, kind_null, kind_this, kind_name, kind_break, kind_continue)

-- a kind with one part, or with two
pub ruleset operations = (kind_paren, kind_not_null, kind_not, kind_throw, kind_sign, kind_as, kind_as_safe, kind_is, kind_is_not, kind_member, kind_sum, kind_and, kind_or, kind_elvis, kind_arithmetic, kind_compare, kind_equal)
