use Rattle.std.proofs.Common.{◌≡◌, Option, Some, None, IfOk, subst}
use Rattle.kt_mean.specs.declared.states.Value.{Value}
use Rattle.kt_run.specs.Slots.{held}
use Rattle.kt_run.proofs.FrameLemmas.{held_at}
use Rattle.kt_run.proofs.frame.Frame.get.Goals as goal

pub returns-in-Some : goal.returns-in-Some
returns-in-Some c =
    let there : c.in-Some.slot.now ≡ held c.self.inside.slots c.args.local = held_at c.self.inside.slots c.args.local (Some c.in-Some.slot.now) c.in-Some.ensures.value in
    let same : c.in-Some.slot.now ≡ held c.args.self.now c.args.local = cc (there, c.self.view_is) in
    subst (λ (v : Option Value). IfOk c.copied.result (λ o. o ≡ v)) same c.copied.ensures

pub returns-in-None : goal.returns-in-None
returns-in-None c =
    let there : None ≡ held c.self.inside.slots c.args.local = held_at c.self.inside.slots c.args.local None c.in-None.ensures.value in
    cc (there, c.self.view_is)
