use Rattle.std.proofs.Common.{ℕ, ◌<◌, ◌≤◌, get_or}
use Rattle.kt_solve.specs.Chains.{edge_at}
use Rattle.kt_solve.proofs.order.is_closed.Given as goal

abbrev pub invariant-loop-k : goal.invariant-loop-k
invariant-loop-k g l = (j : ℕ) → j < l.k → get_or l.places (edge_at l.p.edges j).from 0 < l.head → l.head < get_or l.places (edge_at l.p.edges j).to 0 → get_or l.places (edge_at l.p.edges j).to 0 ≤ l.last → ⊥
