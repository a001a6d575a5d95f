use Rattle.std.proofs.Common.{◌≤◌, length, map, drop}
use Rattle.kt_model.specs.NameUses.{named_at}
use Rattle.kt_model.specs.BodyTrees.{stmt_tree, listed, seen, seen_trees, piece, inserted_of}
use Rattle.kt_graph.specs.Building.{WalksTrees}
use Rattle.kt_graph.proofs.building.Builder.+walk.Given as goal

abbrev pub invariant-statements-loop-i : goal.invariant-statements-loop-i
invariant-statements-loop-i l = record {
  in_range : l.i ≤ length l.statements;
  walked : WalksTrees l.fn.self l.self (listed (map (stmt_tree (named_at l.uses)) (drop l.i l.statements))) l.context l.fn.next l.place;
}

abbrev pub decreases-statements-loop-i : goal.decreases-statements-loop-i
decreases-statements-loop-i l = l.i

abbrev pub invariant-arguments-loop-i : goal.invariant-arguments-loop-i
invariant-arguments-loop-i l = record {
  in_range : l.i ≤ length l.arguments;
  walked : WalksTrees l.fn.self l.self (seen_trees (map (seen (named_at l.uses)) (drop l.i l.arguments))) l.context l.fn.next l.place;
}

abbrev pub decreases-arguments-loop-i : goal.decreases-arguments-loop-i
decreases-arguments-loop-i l = l.i

abbrev pub invariant-pieces-loop-i : goal.invariant-pieces-loop-i
invariant-pieces-loop-i l = record {
  in_range : l.i ≤ length l.parts;
  walked : WalksTrees l.fn.self l.self (inserted_of (map (piece (named_at l.uses)) (drop l.i l.parts))) l.context l.fn.next l.place;
}

abbrev pub decreases-pieces-loop-i : goal.decreases-pieces-loop-i
decreases-pieces-loop-i l = l.i
