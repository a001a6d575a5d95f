use Rattle.std.proofs.Common.{ℕ, ◌↔◌, Contains}
use Rattle.kt_flow.specs.Ends.{IsLeftBefore}
use Rattle.kt_flow.proofs.left.left_trees.Given as goal

abbrev pub invariant-loop-node : goal.invariant-loop-node
invariant-loop-node l = (tree : ℕ) → Contains l.left.items tree ↔ IsLeftBefore l.graph tree l.node
