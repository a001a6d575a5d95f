use Rattle.std.proofs.Common.{◌≤◌, ◌<◌, ◌+◌, ℕ, List, Result, arith, sym, ap, subst, ◌∙◌}
use Rattle.kt_mean.specs.declared.states.Value.{Value}
use Rattle.kt_run.specs.declared.state.Halt.{Halt}
use Rattle.kt_run.specs.declared.frame.Frame.{Frame}
use Rattle.kt_run.specs.declared.state.State.{State as Kept}
use Rattle.kt_run.specs.Slots.{held}
use Rattle.kt_run.specs.Scene.{scene, Runs}
use Rattle.kt_mean.specs.Evaluation.{most_calls, new_locals, limited}
use Rattle.kt_mean.specs.Evaluation as spec
use Rattle.kt_mean.specs.Programs.{function_of}
use Rattle.kt_run.specs.Running.{program_seen, part}
use Rattle.kt_run.proofs.FormSteps.{too_many, begun_with, body_right, invoke_runs}
use Rattle.kt_run.proofs.evaluator.Evaluator.invoke.Goals as goal

pub returns-then-state-ge-MOST_CALLS : goal.returns-then-state-ge-MOST_CALLS
returns-then-state-ge-MOST_CALLS g c =
    let resolved = c.args.self.now.resolved.now in
    let depth = c.args.self.now.depth in
    let state = c.args.state.now in
    let out = g.O.Output.state c.args.out.now in
    let p = program_seen resolved in
    let go = part resolved depth in
    let f = function_of resolved.uses.now c.args.place c.args.function.now in
    let full : most_calls ≤ state.calls = omega arith in
    too_many p go (spec.invoke p go f c.args.values) state out full

pub body-answer-requires-clause-right : goal.body-answer-requires-clause-right
body-answer-requires-clause-right g c =
    let resolved = c.args.self.now.resolved.now in
    let depth = c.args.self.now.depth in
    let state = c.args.state.now in
    let out = g.O.Output.state c.args.out.now in
    let p = program_seen resolved in
    let go = part resolved depth in
    let f = function_of resolved.uses.now c.args.place c.args.function.now in
    let body : Kept = record state { frame = c.replace-caller.new.dest; calls = state.calls + 1 } in
    let begins = λ (input : List ℕ). ap (begun_with p go state input) (ap held c.replace-caller.ensures.after ∙ c.in_ok-frame.ensures ∙ ap (λ xs. new_locals xs c.args.values) c.parameters-parameters.ensures) in
    let within : state.calls < most_calls = omega arith in
    body_right p go f c.args.values state body begins within c.requires.right

pub returns : goal.returns
returns g c =
    let resolved = c.args.self.now.resolved.now in
    let depth = c.args.self.now.depth in
    let state = c.args.state.now in
    let out = g.O.Output.state c.args.out.now in
    let p = program_seen resolved in
    let go = part resolved depth in
    let f = function_of resolved.uses.now c.args.place c.args.function.now in
    let body : Kept = record state { frame = c.replace-caller.new.dest; calls = state.calls + 1 } in
    let begins = λ (input : List ℕ). ap (begun_with p go state input) (ap held c.replace-caller.ensures.after ∙ c.in_ok-frame.ensures ∙ ap (λ xs. new_locals xs c.args.values) c.parameters-parameters.ensures) in
    let within : state.calls < most_calls = omega arith in
    let whole = limited (spec.invoke p go f c.args.values) in
    let start = scene state out in
    let after = scene c.body-answer.new.state (g.O.Output.state c.body-answer.new.out) in
    subst (λ (fr : Frame). Runs whole start c.call_end.result (scene (record after.state { frame = fr; calls = state.calls }) after.out)) (sym c.replace-caller.ensures.value)
    (subst (λ (r : Result Value Halt). Runs whole start r (scene (record after.state { frame = state.frame; calls = state.calls }) after.out)) (sym c.call_end.ensures)
    (invoke_runs p go f c.args.values state body out c.body-answer.result after begins within c.requires.right c.body-answer.ensures))
