use Rattle.kt_mean.proofs.Wrapping.{wrap}
use Rattle.kt_mean.proofs.evaluation_laws.numbers_wrap.Goals as goal

pub returns : goal.returns
returns c = wrap
