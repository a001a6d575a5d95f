use Rattle.kt_mean.specs.declared.states.Value.{Value}
use Rattle.kt_run.proofs.Chain.{first_right, next_right, then_runs, exit_by, quiet_runs}
use Rattle.kt_run.specs.Scene.{scene}
use Rattle.kt_run.proofs.evaluator.Evaluator.assign_plain.Goals as goal

pub part-requires : goal.part-requires
part-requires g c = record { nests = c.requires.nests; right = first_right _ _ _ c.requires.right }

pub returns-in_err-value : goal.returns-in_err-value
returns-in_err-value g c = exit_by {B = Value} _ _ _ _ _ _ c.from_residual.ensures.1 c.in_err-value.ensures

pub write-requires : goal.write-requires
write-requires g c = record { right = next_right _ _ _ _ _ c.requires.right c.in_ok-value.ensures }

pub returns : goal.returns
returns g c =
    let here = scene c.part.new.state (g.O.Output.state c.part.new.out) in
    let end = scene c.write.new.state here.out in
    then_runs {B = Value} _ _ _ _ here c.write.result end c.in_ok-value.ensures (quiet_runs _ c.part.new.state c.write.result c.write.new.state here.out c.write.ensures)
