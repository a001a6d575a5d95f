use Rattle.std.proofs.Common.{drop, map, []}
use Rattle.kt_model.specs.BodyTrees.{seen as seen_in, seen_trees}
use Rattle.kt_run.specs.Scene.{scene}
use Rattle.kt_run.specs.Running.{part, names, collected}
use Rattle.kt_run.proofs.Chain.{Rest}
use Rattle.kt_run.proofs.evaluator.Evaluator.arguments.Given as goal

-- Whatever the values of the arguments from here on are, behind those that are there, they complete the whole.
abbrev pub invariant-loop-argument : goal.invariant-loop-argument
invariant-loop-argument g l =
    let resolved = l.self.resolved.now in
    let go = part resolved l.self.depth in
    Rest (collected go [] (seen_trees (map (seen_in (names resolved)) l.arguments)))
    (collected go l.values (seen_trees (map (seen_in (names resolved)) (drop l.argument-index l.arguments))))
    (scene l.fn.state (g.O.Output.state l.fn.out)) (scene l.state (g.O.Output.state l.out))
