use Rattle.kt_parse.proofs.EngineLaws.{open_goes, open_less, open_stops}
use Rattle.kt_parse.proofs.engine.open.Goals as goal

pub returns-in_ok-push_all-in-Some-clause-goes : goal.returns-in_ok-push_all-in-Some-clause-goes
returns-in_ok-push_all-in-Some-clause-goes c = open_goes _ _ _ _ _ _ _ c.requires c.in-Some.ensures c.in_ok-push_all-in-Some.ensures

pub returns-in_ok-push_all-in-Some-clause-less : goal.returns-in_ok-push_all-in-Some-clause-less
returns-in_ok-push_all-in-Some-clause-less c = open_less _ _ _ _ _ c.in-Some.ensures c.in_ok-push_all-in-Some.ensures

pub returns-in-None-clause-goes : goal.returns-in-None-clause-goes
returns-in-None-clause-goes c = open_stops _ _ _ _ _ _ c.requires c.in-None.ensures c.misfit.ensures
