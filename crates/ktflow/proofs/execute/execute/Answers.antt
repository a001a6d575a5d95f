use Rattle.std.proofs.Common.{sym, subst}
use Rattle.kt_check.specs.Verdicts.{IsAcceptedFile}
use Rattle.kt_run.specs.Running.{NeverWrong}
use Rattle.ktflow.specs.Executing.{Executes}
use Rattle.ktflow.specs.declared.ending.Stop.{Stop}
use Rattle.ktflow.proofs.Executions.{program, dead_trees, never_wrong, is_never_wrong, executes_run}
use Rattle.ktflow.proofs.execute.execute.Goals as goal

pub run_file-end-requires : goal.run_file-end-requires
run_file-end-requires g c =
    let it = c.in-Ok-Accepted.accepted in
    let a : IsAcceptedFile c.args.source.now it.file it.uses it.main = rw c.in-Ok-Accepted.field-0-is at c.in-Ok-Accepted.ensures in
    record { right = is_never_wrong c.args.source.now it.file it.uses it.main a c.files_have_programs.ensures c.files_never_wrong.ensures c.args.steps }

pub returns-in-Ok-Accepted : goal.returns-in-Ok-Accepted
returns-in-Ok-Accepted g c = λ input.
    let it = c.in-Ok-Accepted.accepted in
    let source = c.args.source.now in
    let a : IsAcceptedFile source it.file it.uses it.main = rw c.in-Ok-Accepted.field-0-is at c.in-Ok-Accepted.ensures in
    let have = c.files_have_programs.ensures in
    let never = c.files_never_wrong.ensures in
    let old = g.O.Output.state c.args.out.now in
    let new = g.O.Output.state c.run_file-end.new.out in
    let p = program source it.file it.uses it.main a have in
    let dead = dead_trees source it.file it.uses it.main a have in
    let wrong : NeverWrong p c.args.steps = never_wrong source it.file it.uses it.main a have never c.args.steps in
    let Q : Stop → Type 0 = λ s. Executes source c.args.steps input old new s in
    subst Q (sym c.stop_of.ensures) (executes_run source it.file it.uses it.main a have never c.args.steps input old new c.run_file-end.result (c.run_file-end.ensures dead wrong input))
