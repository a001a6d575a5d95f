use Rattle.kt_sound.proofs.DeadOfFile.{have_program}
use Rattle.kt_sound.proofs.files.files_have_programs.Goals as goal

pub returns : goal.returns
returns c = have_program
