use Rattle.kt_check.proofs.OneVerdict as verdict
use Rattle.kt_check.proofs.laws.never_both.Goals as goal

pub returns : goal.returns
returns c = λ source f file uses h k. verdict.never_both source f file uses h k
