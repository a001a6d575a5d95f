use Rattle.std.proofs.Common.{sym, subst, List}
use Rattle.kt_mean.specs.declared.states.Value.{Value}
use Rattle.kt_mean.specs.Evaluation as spec
use Rattle.kt_run.specs.Scene.{scene, Right, Runs}
use Rattle.kt_run.specs.Running.{program_seen, part}
use Rattle.kt_run.proofs.Chain.{first_right, next_right, then_runs, exit_by, same_right, same_runs}
use Rattle.kt_run.proofs.FormSteps.{values_same}
use Rattle.kt_run.proofs.evaluator.Evaluator.call_built_in.Goals as goal

pub arguments-requires : goal.arguments-requires
arguments-requires g c =
    let resolved = c.args.self.now.resolved.now in
    let depth = c.args.self.now.depth in
    let state = c.args.state.now in
    let out = g.O.Output.state c.args.out.now in
    let p = program_seen resolved in
    let go = part resolved depth in
    record { nests = c.requires.nests; right = first_right _ _ _ (same_right _ _ state (values_same p go _ (spec.built_in c.args.name)) c.requires.right) }

pub returns-in_err-values : goal.returns-in_err-values
returns-in_err-values g c =
    let resolved = c.args.self.now.resolved.now in
    let depth = c.args.self.now.depth in
    let state = c.args.state.now in
    let out = g.O.Output.state c.args.out.now in
    let p = program_seen resolved in
    let go = part resolved depth in
    same_runs _ _ (scene state out) _ _ (values_same p go _ (spec.built_in c.args.name)) (exit_by {B = Value} _ _ _ _ _ _ c.from_residual.ensures.1 c.in_err-values.ensures)

pub built_in-requires : goal.built_in-requires
built_in-requires g c =
    let resolved = c.args.self.now.resolved.now in
    let depth = c.args.self.now.depth in
    let state = c.args.state.now in
    let out = g.O.Output.state c.args.out.now in
    let p = program_seen resolved in
    let go = part resolved depth in
    let right = next_right _ (spec.built_in c.args.name) _ _ _ (same_right _ _ state (values_same p go _ (spec.built_in c.args.name)) c.requires.right) c.in_ok-values.ensures in
    record { right = subst (λ (vs : List Value). Right (spec.built_in c.args.name vs) c.arguments.new.state) (sym c.as_slice.ensures) right }

pub returns : goal.returns
returns g c =
    let resolved = c.args.self.now.resolved.now in
    let depth = c.args.self.now.depth in
    let state = c.args.state.now in
    let out = g.O.Output.state c.args.out.now in
    let p = program_seen resolved in
    let go = part resolved depth in
    let after = scene c.arguments.new.state (g.O.Output.state c.arguments.new.out) in
    let end = scene c.built_in.new.state (g.O.Output.state c.built_in.new.out) in
    same_runs _ _ (scene state out) c.built_in.result end (values_same p go _ (spec.built_in c.args.name))
    (then_runs {B = Value} _ (spec.built_in c.args.name) _ _ after c.built_in.result end c.in_ok-values.ensures
    (subst (λ (vs : List Value). Runs (spec.built_in c.args.name vs) after c.built_in.result end) c.as_slice.ensures c.built_in.ensures))
