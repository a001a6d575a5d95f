use Rattle.ktflow.proofs.OneCourse.{has_one_course}
use Rattle.ktflow.proofs.program.one_course.Goals as goal

pub returns : goal.returns
returns c = has_one_course
