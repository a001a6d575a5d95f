use Rattle.kt_mean.proofs.EvaluationDepth.{meaning-entered}
use Rattle.kt_mean.proofs.evaluation_laws.meaning_unfolds.Goals as goal

pub returns : goal.returns
returns c = meaning-entered
