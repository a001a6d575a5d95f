use Rattle.std.proofs.Common.{◌≡◌, ◌≤◌, length, map, drop}
use Rattle.kt_model.specs.NameUses.{named_at}
use Rattle.kt_model.specs.BodyTrees.{stmt_tree, listed, seen, seen_trees, piece, inserted_of}
use Rattle.kt_graph.specs.Sizes.{all_size, capped}
use Rattle.kt_graph.proofs.count.+count.Given as goal

abbrev pub invariant-statements-loop-i : goal.invariant-statements-loop-i
invariant-statements-loop-i l = record {
  in_range : l.i ≤ length l.statements;
  counted : l.total ≡ capped (all_size (listed (map (stmt_tree (named_at l.uses)) (drop l.i l.statements))));
}

abbrev pub decreases-statements-loop-i : goal.decreases-statements-loop-i
decreases-statements-loop-i l = l.i

abbrev pub invariant-arguments-loop-i : goal.invariant-arguments-loop-i
invariant-arguments-loop-i l = record {
  in_range : l.i ≤ length l.arguments;
  counted : l.total ≡ capped (all_size (seen_trees (map (seen (named_at l.uses)) (drop l.i l.arguments))));
}

abbrev pub decreases-arguments-loop-i : goal.decreases-arguments-loop-i
decreases-arguments-loop-i l = l.i

abbrev pub invariant-pieces-loop-i : goal.invariant-pieces-loop-i
invariant-pieces-loop-i l = record {
  in_range : l.i ≤ length l.parts;
  counted : l.total ≡ capped (all_size (inserted_of (map (piece (named_at l.uses)) (drop l.i l.parts))));
}

abbrev pub decreases-pieces-loop-i : goal.decreases-pieces-loop-i
decreases-pieces-loop-i l = l.i
