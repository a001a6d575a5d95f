use Rattle.std.proofs.Common.{◌≡◌, arith}
use Rattle.kt_shape.proofs.ShapeFolds as fold
use Rattle.kt_shape.proofs.kinds.span_of.Goals as goal

pub returns-in-Expr : goal.returns-in-Expr
returns-in-Expr c = grind (arith, fold.spans)

pub returns-in-Local : goal.returns-in-Local
returns-in-Local c = grind (arith, fold.spans)
