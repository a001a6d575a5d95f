use Rattle.std.proofs.Common.{Ok, Bool}
use Rattle.kt_mean.specs.declared.states.Value.{Value}
use Rattle.kt_mean.specs.declared.states.Value.TheVariants as value
use Rattle.kt_mean.specs.Frames.{pure}
use Rattle.kt_run.specs.Scene.{scene}
use Rattle.kt_run.proofs.Chain.{first_right, then_runs, exit_by, pure_runs}
use Rattle.kt_run.proofs.evaluator.Evaluator.truth_value.Goals as goal

pub asked-requires-clause-right : goal.asked-requires-clause-right
asked-requires-clause-right g c =
    first_right _ (λ (holds : Bool). pure (value.Bool holds)) _ c.requires.right

pub returns-in_err-holds : goal.returns-in_err-holds
returns-in_err-holds g c =
    exit_by {A = Bool} {B = Value} _ (λ (holds : Bool). pure (value.Bool holds)) _ _ _ c.from_residual.result c.from_residual.ensures.1 c.in_err-holds.ensures

pub returns : goal.returns
returns g c =
    let here = scene c.asked.new.state (g.O.Output.state c.asked.new.out) in
    let holds = c.in_ok-holds.holds in
    then_runs {A = Bool} {B = Value} _ (λ (holds : Bool). pure (value.Bool holds)) _ _ here (Ok (value.Bool holds)) here c.in_ok-holds.ensures (pure_runs (value.Bool holds) here)
