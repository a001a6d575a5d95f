use Rattle.kt_mean.proofs.EvaluationDepth.{whole-meaning}
use Rattle.kt_mean.proofs.evaluation_laws.whole_is_meaning.Goals as goal

pub returns : goal.returns
returns c = whole-meaning
