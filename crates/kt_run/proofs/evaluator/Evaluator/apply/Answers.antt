use Rattle.std.proofs.Common.{sym, subst, None, Some, option_map, option_copied, slice_get, ◌≡◌, ap, ◌∙◌}
use Rattle.kt_mean.specs.Evaluation.{called}
use Rattle.kt_mean.specs.Programs.{function_of}
use Rattle.kt_run.specs.Scene.{scene, Right, Runs}
use Rattle.kt_run.specs.Running.{program_seen, part}
use Rattle.kt_run.proofs.Chain.{same_right, same_runs}
use Rattle.kt_run.proofs.Steps.{wrong_comes}
use Rattle.kt_run.proofs.FormSteps.{called_length, called_same}
use Rattle.kt_run.proofs.evaluator.Evaluator.apply.Goals as goal

pub unreachable-requires : goal.unreachable-requires
unreachable-requires g c =
    let resolved = c.args.self.now.resolved.now in
    let depth = c.args.self.now.depth in
    let state = c.args.state.now in
    let out = g.O.Output.state c.args.out.now in
    let p = program_seen resolved in
    let go = part resolved depth in
    let uses = resolved.uses.now in
    let found : slice_get resolved.file.now.functions c.args.place ≡ None = sym c.get.ensures.value ∙ ap option_copied c.in-None.is in
    wrong_comes state (subst (λ f. Right (called p go (option_map (function_of uses c.args.place) f) c.args.values) state) found c.requires.right)

pub invoke-requires : goal.invoke-requires
invoke-requires g c =
    let resolved = c.args.self.now.resolved.now in
    let depth = c.args.self.now.depth in
    let state = c.args.state.now in
    let out = g.O.Output.state c.args.out.now in
    let p = program_seen resolved in
    let go = part resolved depth in
    let uses = resolved.uses.now in
    let f = function_of uses c.args.place c.in-Some.function.now in
    let right : Right (called p go (Some f) c.args.values) state = subst (λ x. Right (called p go (option_map (function_of uses c.args.place) x) c.args.values) state) (sym c.in-Some.ensures.value) c.requires.right in
    record { nests = c.requires.nests; fits = called_length p go f c.args.values state right; right = same_right _ _ state (called_same p go f c.args.values state right) right }

pub returns : goal.returns
returns g c =
    let resolved = c.args.self.now.resolved.now in
    let depth = c.args.self.now.depth in
    let state = c.args.state.now in
    let out = g.O.Output.state c.args.out.now in
    let p = program_seen resolved in
    let go = part resolved depth in
    let uses = resolved.uses.now in
    let f = function_of uses c.args.place c.in-Some.function.now in
    let after = scene c.invoke.new.state (g.O.Output.state c.invoke.new.out) in
    let right : Right (called p go (Some f) c.args.values) state = subst (λ x. Right (called p go (option_map (function_of uses c.args.place) x) c.args.values) state) (sym c.in-Some.ensures.value) c.requires.right in
    subst (λ x. Runs (called p go (option_map (function_of uses c.args.place) x) c.args.values) (scene state out) c.invoke.result after) c.in-Some.ensures.value
    (same_runs _ _ (scene state out) c.invoke.result after (called_same p go f c.args.values state right) c.invoke.ensures)
