use Rattle.kt_check.proofs.OneVerdict as verdict
use Rattle.kt_check.proofs.laws.one_finding.Goals as goal

pub returns : goal.returns
returns c = λ source f g h k. verdict.one_first source f g h k
