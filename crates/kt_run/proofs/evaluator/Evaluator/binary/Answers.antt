use Rattle.kt_mean.specs.declared.states.Value.{Value}
use Rattle.kt_run.proofs.Chain.{first_right, next_right, then_runs, exit_by, quiet_runs}
use Rattle.kt_run.specs.Scene.{scene}
use Rattle.kt_run.proofs.evaluator.Evaluator.binary.Goals as goal

pub boxed-requires : goal.boxed-requires
boxed-requires g c = record { nests = c.requires.nests; right = first_right _ _ _ c.requires.right }

pub returns-in_err-left : goal.returns-in_err-left
returns-in_err-left g c = exit_by {B = Value} _ _ _ _ _ _ c.from_residual.ensures.1 c.in_err-left.ensures

pub boxed-requires-2 : goal.boxed-requires-2
boxed-requires-2 g c = record { nests = c.requires.nests; right = first_right _ _ _ (next_right _ _ _ _ _ c.requires.right c.in_ok-left.ensures) }

pub returns-in_err-right : goal.returns-in_err-right
returns-in_err-right g c =
    then_runs {B = Value} _ _ _ _ _ _ _ c.in_ok-left.ensures (exit_by {B = Value} _ _ _ _ _ _ c.from_residual-in_err-right.ensures.1 c.in_err-right.ensures)

pub combine-requires : goal.combine-requires
combine-requires g c = record { right = next_right _ _ _ _ _ (next_right _ _ _ _ _ c.requires.right c.in_ok-left.ensures) c.in_ok-right.ensures }

pub returns : goal.returns
returns g c =
    let here = scene c.boxed-2.new.state (g.O.Output.state c.boxed-2.new.out) in
    let end = scene c.combine.new.state here.out in
    then_runs {B = Value} _ _ _ _ _ c.combine.result end c.in_ok-left.ensures
    (then_runs {B = Value} _ _ _ _ here c.combine.result end c.in_ok-right.ensures
    (quiet_runs _ c.boxed-2.new.state c.combine.result c.combine.new.state here.out c.combine.ensures))
