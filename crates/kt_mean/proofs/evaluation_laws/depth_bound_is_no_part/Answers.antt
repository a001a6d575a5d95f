use Rattle.kt_mean.proofs.EvaluationDepth.{same_depth}
use Rattle.kt_mean.proofs.evaluation_laws.depth_bound_is_no_part.Goals as goal

pub returns : goal.returns
returns c = same_depth
