use Rattle.kt_sound.proofs.BodyJoined.{bodies_never}
use Rattle.kt_sound.proofs.bodies_never_wrong.Goals as goal

pub returns : goal.returns
returns c = bodies_never
