use Rattle.kt_mean.specs.declared.states.Value.{Value}
use Rattle.kt_mean.specs.declared.states.Way.TheVariants as way
use Rattle.kt_mean.specs.Frames.{leave}
use Rattle.kt_mean.specs.Evaluation.{take_cells}
use Rattle.kt_run.proofs.Chain.{quiet_exit_by}
use Rattle.kt_run.proofs.Steps.{thrown}
use Rattle.kt_run.proofs.single_steps.throw.Goals as goal

pub returns-in_err-take_cells : goal.returns-in_err-take_cells
returns-in_err-take_cells c =
    quiet_exit_by {B = Value} (take_cells 2) (λ u. leave (way.Throw c.args.exception)) c.args.state.now c.take_cells.new.state c.in_err-take_cells.field-0.0 c.from_residual.result c.from_residual.ensures.1 c.in_err-take_cells.ensures

pub returns : goal.returns
returns c = thrown c.args.exception c.args.state.now c.take_cells.new.state c.in_ok-take_cells.ensures
