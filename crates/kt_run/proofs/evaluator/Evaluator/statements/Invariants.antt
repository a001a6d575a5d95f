use Rattle.std.proofs.Common.{drop, map}
use Rattle.kt_model.specs.BodyTrees.{stmt_tree, listed}
use Rattle.kt_mean.specs.Evaluation.{block, block_from}
use Rattle.kt_run.specs.Scene.{scene}
use Rattle.kt_run.specs.Running.{program_seen, part, names}
use Rattle.kt_run.proofs.Chain.{Rest}
use Rattle.kt_run.proofs.evaluator.Evaluator.statements.Given as goal

-- Whatever the statements from here on do completes the whole.
abbrev pub invariant-loop-s : goal.invariant-loop-s
invariant-loop-s g l =
    let resolved = l.self.resolved.now in
    let go = part resolved l.self.depth in
    Rest (block (program_seen resolved) go (listed (map (stmt_tree (names resolved)) l.statements)))
    (block_from (program_seen resolved) go l.last (listed (map (stmt_tree (names resolved)) (drop l.s-index l.statements))))
    (scene l.fn.state (g.O.Output.state l.fn.out)) (scene l.state (g.O.Output.state l.out))
