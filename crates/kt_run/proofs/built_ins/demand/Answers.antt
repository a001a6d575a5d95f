use Rattle.std.proofs.Common.{Bool, true, false, Some, Ok, ap, ◌∙◌}
use Rattle.kt_mean.specs.declared.states.Value.TheVariants as value
use Rattle.kt_mean.specs.Frames.{pure}
use Rattle.kt_mean.specs.Evaluation.{choose, truth_of, throws}
use Rattle.kt_run.proofs.Chain.{first_right, pure_quiet}
use Rattle.kt_run.proofs.Steps.{truth_some, demanded_by}
use Rattle.kt_run.proofs.built_ins.demand.Goals as goal

pub truth-requires : goal.truth-requires
truth-requires c =
    let v = c.args.value.now in
    truth_some v c.args.state.now (first_right (truth_of v) (λ (holds : Bool). choose holds (pure value.Unit) (throws c.args.exception)) c.args.state.now c.requires.right)

pub returns-then-truth : goal.returns-then-truth
returns-then-truth c =
    let state = c.args.state.now in
    demanded_by c.args.exception c.args.value.now true state (Ok value.Unit) state (c.truth.ensures ∙ ap (λ (b : Bool). Some b) c.if-truth.true) (pure_quiet value.Unit state)

pub returns : goal.returns
returns c =
    demanded_by c.args.exception c.args.value.now false c.args.state.now c.throw.result c.throw.new.state (c.truth.ensures ∙ ap (λ (b : Bool). Some b) c.if-truth.false) c.throw.ensures
