use Rattle.kt_sound.proofs.OneFile.{one}
use Rattle.kt_sound.proofs.files.one_program_of_a_file.Goals as goal

pub returns : goal.returns
returns c = one
