use Rattle.std.proofs.Common.{drop, map}
use Rattle.kt_model.specs.BodyTrees.{Template', piece, inserted_of, texts_of}
use Rattle.kt_mean.specs.Evaluation.{with_values, operated}
use Rattle.kt_run.specs.Scene.{scene}
use Rattle.kt_run.specs.Running.{program_seen, part, names}
use Rattle.kt_run.proofs.Chain.{Rest}
use Rattle.kt_run.proofs.StringSteps.{string_rest}
use Rattle.kt_run.proofs.evaluator.Evaluator.template.Given as goal

-- Whatever the parts from here on do, behind the bytes that are there, completes the whole.
abbrev pub invariant-loop-piece : goal.invariant-loop-piece
invariant-loop-piece g l =
    let resolved = l.self.resolved.now in
    let p = program_seen resolved in
    let go = part resolved l.self.depth in
    let pieces = map (piece (names resolved)) l.parts in
    Rest (with_values p go (inserted_of pieces) (operated (Template' (texts_of pieces))))
    (string_rest p go l.has_parts l.bytes.items (map (piece (names resolved)) (drop l.piece-index l.parts)))
    (scene l.fn.state (g.O.Output.state l.fn.out)) (scene l.state (g.O.Output.state l.out))
