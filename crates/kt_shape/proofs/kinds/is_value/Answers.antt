use Rattle.std.proofs.Common.{◌≡◌, arith}
use Rattle.kt_shape.proofs.ShapeFolds as fold
use Rattle.kt_shape.proofs.kinds.is_value.Goals as goal

pub returns-in-Expr : goal.returns-in-Expr
returns-in-Expr c = grind (arith, fold.values)

pub returns-in-Expr-2 : goal.returns-in-Expr-2
returns-in-Expr-2 c = grind (arith, fold.values)

pub returns-in-Assign : goal.returns-in-Assign
returns-in-Assign c = grind (arith, fold.values)

pub returns-in-Assign-2 : goal.returns-in-Assign-2
returns-in-Assign-2 c = grind (arith, fold.values)

pub returns-in-Assign-3 : goal.returns-in-Assign-3
returns-in-Assign-3 c = grind (arith, fold.values)

pub returns-in-Assign-4 : goal.returns-in-Assign-4
returns-in-Assign-4 c = grind (arith, fold.values)
