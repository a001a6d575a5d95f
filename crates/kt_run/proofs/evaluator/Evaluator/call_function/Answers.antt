use Rattle.kt_mean.specs.declared.states.Value.{Value}
use Rattle.kt_mean.specs.Evaluation.{called}
use Rattle.kt_mean.specs.Programs.{function_at}
use Rattle.kt_run.specs.Scene.{scene}
use Rattle.kt_run.specs.Running.{program_seen, part}
use Rattle.kt_run.proofs.Chain.{first_right, next_right, then_runs, exit_by, same_right, same_runs}
use Rattle.kt_run.proofs.FormSteps.{values_same}
use Rattle.kt_run.proofs.evaluator.Evaluator.call_function.Goals as goal

pub arguments-requires : goal.arguments-requires
arguments-requires g c =
    let resolved = c.args.self.now.resolved.now in
    let depth = c.args.self.now.depth in
    let state = c.args.state.now in
    let out = g.O.Output.state c.args.out.now in
    let p = program_seen resolved in
    let go = part resolved depth in
    let uses = resolved.uses.now in
    let f = called p go (function_at resolved.file.now uses c.args.place) in
    record { nests = c.requires.nests; right = first_right _ _ _ (same_right _ _ state (values_same p go _ f) c.requires.right) }

pub returns-in_err-values : goal.returns-in_err-values
returns-in_err-values g c =
    let resolved = c.args.self.now.resolved.now in
    let depth = c.args.self.now.depth in
    let state = c.args.state.now in
    let out = g.O.Output.state c.args.out.now in
    let p = program_seen resolved in
    let go = part resolved depth in
    let uses = resolved.uses.now in
    let f = called p go (function_at resolved.file.now uses c.args.place) in
    same_runs _ _ (scene state out) _ _ (values_same p go _ f) (exit_by {B = Value} _ _ _ _ _ _ c.from_residual.ensures.1 c.in_err-values.ensures)

pub apply-requires : goal.apply-requires
apply-requires g c =
    let resolved = c.args.self.now.resolved.now in
    let depth = c.args.self.now.depth in
    let state = c.args.state.now in
    let out = g.O.Output.state c.args.out.now in
    let p = program_seen resolved in
    let go = part resolved depth in
    let uses = resolved.uses.now in
    let f = called p go (function_at resolved.file.now uses c.args.place) in
    let right = next_right _ f _ _ _ (same_right _ _ state (values_same p go _ f) c.requires.right) c.in_ok-values.ensures in
    record { nests = c.requires.nests; right = right }

pub returns : goal.returns
returns g c =
    let resolved = c.args.self.now.resolved.now in
    let depth = c.args.self.now.depth in
    let state = c.args.state.now in
    let out = g.O.Output.state c.args.out.now in
    let p = program_seen resolved in
    let go = part resolved depth in
    let uses = resolved.uses.now in
    let f = called p go (function_at resolved.file.now uses c.args.place) in
    let after = scene c.arguments.new.state (g.O.Output.state c.arguments.new.out) in
    let end = scene c.apply.new.state (g.O.Output.state c.apply.new.out) in
    same_runs _ _ (scene state out) c.apply.result end (values_same p go _ f)
    (then_runs {B = Value} _ f _ _ after c.apply.result end c.in_ok-values.ensures c.apply.ensures)
