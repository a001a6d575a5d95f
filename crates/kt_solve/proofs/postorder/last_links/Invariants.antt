use Rattle.std.proofs.Common.{◌≡◌, ℕ, ◌≤◌, length}
use Rattle.std.specs.List.{All}
use Rattle.kt_solve.proofs.postorder.last_links.Given as goal

abbrev pub invariant-loop-node : goal.invariant-loop-node
invariant-loop-node l = record {
  len : length l.links.items ≡ l.node;
  within : All (λ (link : ℕ). link ≤ length l.p.edges) l.links.items;
}
