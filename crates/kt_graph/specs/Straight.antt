-- Expressions that neither branch nor jump.
use Rattle.std.specs.Prelude.{◌≢◌, Option}
use Rattle.kt_tree.specs.declared.ast.part.Ident.{Ident}
use Rattle.kt_tree.specs.declared.ast.body.Branch.{Branch}
use Rattle.kt_tree.specs.declared.ast.body.Expr.{Expr}
use Rattle.kt_tree.specs.declared.ast.body.ExprKind.{ExprKind}
use Rattle.kt_tree.specs.declared.ast.body.ExprKind.TheVariants as e

-- A kind of which all parts are evaluated, one behind another, whatever their values, and which does not leave what is around it. The kinds that are not
-- open, of which nothing is evaluated, count as such.
pub record IsStraight (k : ExprKind) : Type 0 where
  pub no_negation : (x : Expr) → k ≢ e.Not x
  pub no_conjunction : (x y : Expr) → k ≢ e.And x y
  pub no_disjunction : (x y : Expr) → k ≢ e.Or x y
  pub no_choice : (c : Expr) (x : Branch) (y : Option Branch) → k ≢ e.If c x y
  pub no_return : (label : Option Ident) (value : Option Expr) → k ≢ e.Return label value
  pub no_throw : (x : Expr) → k ≢ e.Throw x
