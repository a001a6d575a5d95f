use Rattle.std.proofs.Common.{Ok}
use Rattle.kt_parse.proofs.EngineLaws.{finished}
use Rattle.kt_parse.proofs.engine.settle.Goals as goal

pub returns-clause-settles : goal.returns-clause-settles
returns-clause-settles c = c.symbols.invariant.0 (Ok c.symbols.state) (finished _ _ _ c.in_default.ensures.0)
