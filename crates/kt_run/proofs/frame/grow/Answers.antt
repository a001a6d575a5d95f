use Rattle.std.proofs.Common.{ap, ◌∙◌}
use Rattle.kt_run.specs.Slots.{held}
use Rattle.kt_run.proofs.FrameLemmas.{held_push}
use Rattle.kt_run.proofs.frame.grow.Goals as goal

pub loop-slots-preserved : goal.loop-slots-preserved
loop-slots-preserved c = ap held c.in_ok-push.ensures.ok ∙ held_push c.loop-slots.slots ∙ c.loop-slots.invariant
