use Rattle.kt_mean.proofs.Worked.{worked}
use Rattle.kt_mean.proofs.evaluation_laws.worked_runs.Goals as goal

pub returns : goal.returns
returns c = worked
