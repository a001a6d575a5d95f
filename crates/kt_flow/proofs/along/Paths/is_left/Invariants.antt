use Rattle.std.proofs.Common.{ℕ, ◌<◌}
use Rattle.kt_flow.specs.Ends.{IsLeftAt}
use Rattle.kt_flow.proofs.along.Paths.is_left.Given as goal

abbrev pub invariant-loop-node : goal.invariant-loop-node
invariant-loop-node l = (k : ℕ) → k < l.node → IsLeftAt l.self.graph.now l.tree k → ⊥
