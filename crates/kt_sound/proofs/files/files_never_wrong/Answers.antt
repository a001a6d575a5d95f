use Rattle.kt_sound.proofs.AcceptedFile.{files_never}
use Rattle.kt_sound.proofs.files.files_never_wrong.Goals as goal

pub returns : goal.returns
returns c = files_never
