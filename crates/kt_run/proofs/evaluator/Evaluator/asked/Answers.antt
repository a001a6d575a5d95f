use Rattle.std.proofs.Common.{Ok, Bool}
use Rattle.kt_mean.specs.declared.states.Value.{Value}
use Rattle.kt_mean.specs.Evaluation.{truth_of}
use Rattle.kt_run.specs.Scene.{scene}
use Rattle.kt_run.proofs.Chain.{first_right, next_right, then_runs, exit_by, quiet_runs}
use Rattle.kt_run.proofs.Steps.{truth_some, truth_quiet}
use Rattle.kt_run.proofs.evaluator.Evaluator.asked.Goals as goal

pub boxed-requires-clause-right : goal.boxed-requires-clause-right
boxed-requires-clause-right g c =
    first_right _ truth_of _ c.requires.right

pub returns-in_err-value : goal.returns-in_err-value
returns-in_err-value g c =
    exit_by {A = Value} {B = Bool} _ truth_of _ _ _ c.from_residual.result c.from_residual.ensures.1 c.in_err-value.ensures

pub truth-requires : goal.truth-requires
truth-requires g c =
    truth_some c.in_ok-value.value c.boxed.new.state (next_right _ truth_of _ _ _ c.requires.right c.in_ok-value.ensures)

pub returns : goal.returns
returns g c =
    let here = scene c.boxed.new.state (g.O.Output.state c.boxed.new.out) in
    then_runs {A = Value} {B = Bool} _ truth_of _ _ here (Ok c.truth.result) here c.in_ok-value.ensures (quiet_runs (truth_of c.in_ok-value.value) here.state (Ok c.truth.result) here.state here.out (truth_quiet c.in_ok-value.value c.truth.result here.state c.truth.ensures))
