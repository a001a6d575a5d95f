use Rattle.kt_mean.proofs.OneProgram.{one}
use Rattle.kt_mean.proofs.evaluation_laws.one_run_of_file.Goals as goal

pub returns : goal.returns
returns c = one
