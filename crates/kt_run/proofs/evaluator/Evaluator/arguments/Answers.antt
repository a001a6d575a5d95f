use Rattle.std.proofs.Common.{sym, ap, subst, ◌+◌, [], map, drop, length, Ok, arith, ◌≤◌}
use Rattle.std.proofs.lemmas.List.{drop_all}
use Rattle.kt_model.specs.BodyTrees.{seen as seen_in, seen_trees}
use Rattle.kt_run.specs.Scene.{scene, Runs}
use Rattle.kt_run.specs.Running.{part, names, collected}
use Rattle.kt_run.proofs.Chain.{rest_begins, rest_same, rest_next, first_right, exit_by, memory_by, pure_runs}
use Rattle.kt_run.proofs.FormSteps.{arguments_next}
use Rattle.kt_run.proofs.evaluator.Evaluator.arguments.Goals as goal

pub loop-argument-init : goal.loop-argument-init
loop-argument-init g c =
    let resolved = c.args.self.now.resolved.now in
    let depth = c.args.self.now.depth in
    let state = c.args.state.now in
    let out = g.O.Output.state c.args.out.now in
    let go = part resolved depth in
    let uses = names resolved in
    let xs = c.args.arguments.now in
    let whole = collected go [] (seen_trees (map (seen_in uses) xs)) in
    let start = scene state out in
    rest_same whole _ _ start start (ap (λ vs. collected go vs (seen_trees (map (seen_in uses) xs))) (sym c.new-values.ensures)) (rest_begins whole start c.requires.right)

pub part-requires : goal.part-requires
part-requires g c =
    let resolved = c.args.self.now.resolved.now in
    let depth = c.args.self.now.depth in
    let state = c.args.state.now in
    let out = g.O.Output.state c.args.out.now in
    let go = part resolved depth in
    let uses = names resolved in
    let xs = c.args.arguments.now in
    let whole = collected go [] (seen_trees (map (seen_in uses) xs)) in
    let start = scene state out in
    let here = scene c.loop-argument.state (g.O.Output.state c.loop-argument.out) in
    let i = c.loop-argument.argument-index in
    let e = c.argument-item.result in
    let rest = rest_same whole _ _ start here (arguments_next go uses c.loop-argument.values xs i e c.loop-argument-test.true c.argument-item.is) c.loop-argument.invariant in
    record { nests = c.requires.nests; right = first_right _ _ _ rest.right }

pub returns-in_err-value : goal.returns-in_err-value
returns-in_err-value g c =
    let resolved = c.args.self.now.resolved.now in
    let depth = c.args.self.now.depth in
    let state = c.args.state.now in
    let out = g.O.Output.state c.args.out.now in
    let go = part resolved depth in
    let uses = names resolved in
    let xs = c.args.arguments.now in
    let whole = collected go [] (seen_trees (map (seen_in uses) xs)) in
    let start = scene state out in
    let here = scene c.loop-argument.state (g.O.Output.state c.loop-argument.out) in
    let i = c.loop-argument.argument-index in
    let e = c.argument-item.result in
    let rest = rest_same whole _ _ start here (arguments_next go uses c.loop-argument.values xs i e c.loop-argument-test.true c.argument-item.is) c.loop-argument.invariant in
    rest.on _ _ (exit_by _ _ here _ _ _ c.from_residual.ensures.1 c.in_err-value.ensures)

pub returns-in_err-push : goal.returns-in_err-push
returns-in_err-push g c =
    let resolved = c.args.self.now.resolved.now in
    let depth = c.args.self.now.depth in
    let state = c.args.state.now in
    let out = g.O.Output.state c.args.out.now in
    let go = part resolved depth in
    let uses = names resolved in
    let xs = c.args.arguments.now in
    let whole = collected go [] (seen_trees (map (seen_in uses) xs)) in
    let start = scene state out in
    let here = scene c.loop-argument.state (g.O.Output.state c.loop-argument.out) in
    let i = c.loop-argument.argument-index in
    let e = c.argument-item.result in
    let rest = rest_same whole _ _ start here (arguments_next go uses c.loop-argument.values xs i e c.loop-argument-test.true c.argument-item.is) c.loop-argument.invariant in
    let after = scene c.part.new.state (g.O.Output.state c.part.new.out) in
    let next = rest_next whole _ _ c.in_ok-value.value start here after rest c.in_ok-value.ensures in
    next.on _ _ (memory_by _ c.part.new.state c.part.new.state (g.O.Output.state c.part.new.out) _ c.from_residual-in_err-push.ensures.1)

pub loop-argument-preserved : goal.loop-argument-preserved
loop-argument-preserved g c =
    let resolved = c.args.self.now.resolved.now in
    let depth = c.args.self.now.depth in
    let state = c.args.state.now in
    let out = g.O.Output.state c.args.out.now in
    let go = part resolved depth in
    let uses = names resolved in
    let xs = c.args.arguments.now in
    let whole = collected go [] (seen_trees (map (seen_in uses) xs)) in
    let start = scene state out in
    let here = scene c.loop-argument.state (g.O.Output.state c.loop-argument.out) in
    let i = c.loop-argument.argument-index in
    let e = c.argument-item.result in
    let rest = rest_same whole _ _ start here (arguments_next go uses c.loop-argument.values xs i e c.loop-argument-test.true c.argument-item.is) c.loop-argument.invariant in
    let after = scene c.part.new.state (g.O.Output.state c.part.new.out) in
    let next = rest_next whole _ _ c.in_ok-value.value start here after rest c.in_ok-value.ensures in
    rest_same whole _ _ start after (ap (λ vs. collected go vs (seen_trees (map (seen_in uses) (drop (i + 1) xs)))) (sym c.in_ok-push.ensures.ok)) next

pub returns : goal.returns
returns g c =
    let resolved = c.args.self.now.resolved.now in
    let depth = c.args.self.now.depth in
    let state = c.args.state.now in
    let out = g.O.Output.state c.args.out.now in
    let go = part resolved depth in
    let uses = names resolved in
    let xs = c.args.arguments.now in
    let whole = collected go [] (seen_trees (map (seen_in uses) xs)) in
    let start = scene state out in
    let here = scene c.loop-argument.state (g.O.Output.state c.loop-argument.out) in
    let i = c.loop-argument.argument-index in
    let past : length xs ≤ i = omega arith in
    c.loop-argument.invariant.on (Ok c.loop-argument.values) here
    (subst (λ l. Runs (collected go c.loop-argument.values (seen_trees (map (seen_in uses) l))) here (Ok c.loop-argument.values) here) (sym (drop_all i xs past)) (pure_runs c.loop-argument.values here))
