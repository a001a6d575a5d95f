use Rattle.std.proofs.Common.{Ok, Err}
use Rattle.kt_mean.specs.declared.states.Value.{Value}
use Rattle.kt_run.proofs.Chain.{first_right, next_right, quiet_right, then_runs, exit_by, quiet_runs}
use Rattle.kt_run.specs.Scene.{scene}
use Rattle.kt_run.proofs.evaluator.Evaluator.compound.Goals as goal

pub read-requires : goal.read-requires
read-requires g c = record { right = first_right _ _ _ c.requires.right }

pub returns-in_err-old : goal.returns-in_err-old
returns-in_err-old g c =
    let out = g.O.Output.state c.args.out.now in
    exit_by {A = Value} {B = Value} _ _ _ _ _ _ c.from_residual.ensures.1 (quiet_runs _ _ (Err c.in_err-old.field-0.0) _ out c.in_err-old.ensures)

pub operand-requires : goal.operand-requires
operand-requires g c = record { nests = c.requires.nests; right = first_right _ _ _ (quiet_right _ _ _ _ _ c.requires.right c.in_ok-old.ensures) }

pub returns-in_err-operand : goal.returns-in_err-operand
returns-in_err-operand g c =
    let out = g.O.Output.state c.args.out.now in
    then_runs {B = Value} _ _ _ _ _ _ _ (quiet_runs _ _ (Ok c.in_ok-old.old) _ out c.in_ok-old.ensures) (exit_by {B = Value} _ _ _ _ _ _ c.from_residual-in_err-operand.ensures.1 c.in_err-operand.ensures)

pub combine-requires : goal.combine-requires
combine-requires g c = record { right = first_right _ _ _ (next_right _ _ _ _ _ (quiet_right _ _ _ _ _ c.requires.right c.in_ok-old.ensures) c.in_ok-operand.ensures) }

pub returns-in_err-value : goal.returns-in_err-value
returns-in_err-value g c =
    let out = g.O.Output.state c.args.out.now in
    let here = scene c.operand.new.state (g.O.Output.state c.operand.new.out) in
    let end = scene c.combine.new.state here.out in
    then_runs {B = Value} _ _ _ _ _ _ end (quiet_runs _ _ (Ok c.in_ok-old.old) _ out c.in_ok-old.ensures)
    (then_runs {B = Value} _ _ _ _ here _ end c.in_ok-operand.ensures
    (exit_by {A = Value} {B = Value} _ _ here end _ _ c.from_residual-in_err-value.ensures.1 (quiet_runs _ _ (Err c.in_err-value.field-0.0) _ here.out c.in_err-value.ensures)))

pub write-requires : goal.write-requires
write-requires g c =
    record { right = quiet_right _ _ _ _ _ (next_right _ _ _ _ _ (quiet_right _ _ _ _ _ c.requires.right c.in_ok-old.ensures) c.in_ok-operand.ensures) c.in_ok-value.ensures }

pub returns : goal.returns
returns g c =
    let out = g.O.Output.state c.args.out.now in
    let here = scene c.operand.new.state (g.O.Output.state c.operand.new.out) in
    let next = scene c.combine.new.state here.out in
    let end = scene c.write.new.state here.out in
    then_runs {B = Value} _ _ _ _ _ c.write.result end (quiet_runs _ _ (Ok c.in_ok-old.old) _ out c.in_ok-old.ensures)
    (then_runs {B = Value} _ _ _ _ here c.write.result end c.in_ok-operand.ensures
    (then_runs {B = Value} _ _ _ here next c.write.result end (quiet_runs _ _ (Ok c.in_ok-value.value) _ here.out c.in_ok-value.ensures)
    (quiet_runs _ c.combine.new.state c.write.result c.write.new.state here.out c.write.ensures)))
