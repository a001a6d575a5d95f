use Rattle.ktflow.proofs.FromInvocation.{program_from, statuses_from, order_from}
use Rattle.ktflow.proofs.Fronts.{fronts_from}
use Rattle.ktflow.proofs.Completeness.{complete_from}
use Rattle.ktflow.proofs.Headlines.{headline_from}
use Rattle.ktflow.proofs.program.ktflow.Goals as goal

pub returns-clause-invocation : goal.returns-clause-invocation
returns-clause-invocation g c = record { stop = c.perform-stop.result; performs = c.perform-stop.ensures _ _; reports = c.report.ensures }

pub returns-clause-program : goal.returns-clause-program
returns-clause-program g c = program_from _ _ _ _ (returns-clause-invocation g c)

pub returns-clause-statuses : goal.returns-clause-statuses
returns-clause-statuses g c = statuses_from _ _ _ _ (returns-clause-invocation g c)

pub returns-clause-order : goal.returns-clause-order
returns-clause-order g c = order_from _ _ _ _ (returns-clause-invocation g c)

pub returns-clause-fronts : goal.returns-clause-fronts
returns-clause-fronts g c = fronts_from _ _ _ _ (returns-clause-invocation g c)

pub returns-clause-complete : goal.returns-clause-complete
returns-clause-complete g c = complete_from _ _ _ _ (returns-clause-invocation g c)

pub returns-clause-headline : goal.returns-clause-headline
returns-clause-headline g c = headline_from _ _ _ _ (returns-clause-program g c)
