use Rattle.kt_parse.proofs.EngineLaws.{goes_by, place_takes}
use Rattle.kt_parse.proofs.engine.taking.Goals as goal

pub returns-clause-goes : goal.returns-clause-goes
returns-clause-goes c = goes_by _ _ _ _ _ _ c.do_step.ensures

pub returns-clause-place : goal.returns-clause-place
returns-clause-place c = place_takes _ _ _ _ _ c.requires.takes c.do_step.ensures
