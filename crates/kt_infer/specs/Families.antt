-- The kinds of expressions by families, as the pass goes over them: what an expression is not, if it is of none of the kinds of a family.
use Rattle.std.specs.Prelude.{◌≢◌, ℕ, Bool, List, Option}
use Rattle.kt_tree.specs.declared.ast.part.Ident.{Ident}
use Rattle.kt_tree.specs.declared.ast.part.Sign.{Sign}
use Rattle.kt_tree.specs.declared.ast.part.Arithmetic.{Arithmetic}
use Rattle.kt_tree.specs.declared.ast.part.Comparison.{Comparison}
use Rattle.kt_tree.specs.declared.ast.part.Equality.{Equality}
use Rattle.kt_tree.specs.declared.ast.body.Expr.{Expr}
use Rattle.kt_tree.specs.declared.ast.body.ExprKind.{ExprKind}
use Rattle.kt_tree.specs.declared.ast.body.ExprKind.TheVariants as e
use Rattle.kt_tree.specs.declared.ast.body.Lambda.{Lambda}
use Rattle.kt_tree.specs.declared.ast.body.StringPart.{StringPart}

-- no literal, name, string, parentheses or call
pub record IsNoOperand (k : ExprKind) : Type 0 where
  pub no_int : (n : ℕ) → k ≢ e.Int n
  pub no_bool : (b : Bool) → k ≢ e.Bool b
  pub no_null : k ≢ e.Null
  pub no_name : (n : ℕ) → k ≢ e.Name n
  pub no_template : (ps : List StringPart) → k ≢ e.Template ps
  pub no_paren : (x : Expr) → k ≢ e.Paren x
  pub no_call : (f : Ident) (xs : List Expr) (l : Option Lambda) → k ≢ e.Call f xs l

-- no sign, sum, product, comparison or equality
pub record IsNoOperation (k : ExprKind) : Type 0 where
  pub no_sign : (o : Sign) (x : Expr) → k ≢ e.Sign o x
  pub no_sum : (x y : Expr) → k ≢ e.Sum x y
  pub no_arithmetic : (o : Arithmetic) (x y : Expr) → k ≢ e.Arithmetic o x y
  pub no_compare : (o : Comparison) (x y : Expr) → k ≢ e.Compare o x y
  pub no_equal : (o : Equality) (x y : Expr) → k ≢ e.Equal o x y

-- no `!`, `&&` or `||`
pub record IsNoLogic (k : ExprKind) : Type 0 where
  pub no_not : (x : Expr) → k ≢ e.Not x
  pub no_and : (x y : Expr) → k ≢ e.And x y
  pub no_or : (x y : Expr) → k ≢ e.Or x y
