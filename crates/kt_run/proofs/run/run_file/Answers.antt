use Rattle.std.proofs.Common.{List, sym, subst}
use Rattle.kt_mean.specs.declared.states.Value.{Value}
use Rattle.kt_run.specs.Scene.{scene, Right, Runs}
use Rattle.kt_run.specs.Running.{RunsOn}
use Rattle.kt_run.specs.declared.run.End.{End}
use Rattle.kt_mean.specs.Programs.{program_of}
use Rattle.kt_run.proofs.Wholes.{first_state, main_call, main_right, runs_on}
use Rattle.kt_run.proofs.run.run_file.Goals as goal

pub apply-requires-clause-right : goal.apply-requires-clause-right
apply-requires-clause-right g c =
    let h = c.requires.right in
    let p = program_of c.args.file.now c.args.uses.now h.dead c.args.main in
    let start = first_state c.new.result c.args.steps in
    subst (λ (vs : List Value). Right (main_call p c.args.steps vs) start) (sym c.new-2.ensures) (main_right p c.new.result c.args.steps c.new.ensures h.never_wrong)

pub returns : goal.returns
returns g c = λ dead never input.
    let p = program_of c.args.file.now c.args.uses.now dead c.args.main in
    let old = g.O.Output.state c.args.out.now in
    let after = scene c.apply.new.state (g.O.Output.state c.apply.new.out) in
    let Q : End → Type 0 = λ e. RunsOn p c.args.steps input old after.out e in
    let start = scene (first_state c.new.result c.args.steps) old in
    let run = subst (λ (vs : List Value). Runs (main_call p c.args.steps vs) start c.apply.result after) c.new-2.ensures c.apply.ensures in
    subst Q (sym c.end_of.ensures) (runs_on p c.new.result c.args.steps old c.apply.result after c.new.ensures never run input)
