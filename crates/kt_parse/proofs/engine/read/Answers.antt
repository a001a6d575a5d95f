use Rattle.kt_parse.proofs.EngineLaws.{only}
use Rattle.kt_parse.proofs.engine.read.Goals as goal

pub returns-clause-only : goal.returns-clause-only
returns-clause-only c = only _ _ c.phrase_of.ensures
