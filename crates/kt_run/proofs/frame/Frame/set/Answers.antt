use Rattle.std.proofs.Common.{◌≡◌, ap, ◌∙◌}
use Rattle.kt_mean.specs.Frames.{with_local}
use Rattle.kt_run.specs.Slots.{held}
use Rattle.kt_run.proofs.FrameLemmas.{held_set}
use Rattle.kt_run.proofs.frame.Frame.set.Goals as goal

pub returns : goal.returns
returns c =
    let same : held c.grow.new.slots ≡ held c.args.self.now = cc (c.in_ok-grow.ensures.same, c.self.view_is) in
    ap held c.set.ensures ∙ held_set c.grow.new.slots c.args.local c.args.value c.in_ok-grow.ensures.within ∙ ap (λ l. with_local l c.args.local c.args.value) same
