use Rattle.kt_parse.proofs.EngineLaws.{goes_by, place_silent}
use Rattle.kt_parse.proofs.engine.silent.Goals as goal

pub returns-clause-goes : goal.returns-clause-goes
returns-clause-goes c = goes_by _ _ _ _ _ _ c.do_step.ensures

pub returns-clause-place : goal.returns-clause-place
returns-clause-place c = place_silent _ _ _ _ _ c.requires.silent c.do_step.ensures
