use Rattle.std.proofs.Common.{ℕ, ◌<◌, ◌≤◌, get_or}
use Rattle.kt_solve.specs.Chains.{edge_at}
use Rattle.kt_solve.specs.Orders.{place_of, IsLoop}
use Rattle.kt_solve.proofs.order.has_loops.Given as goal

abbrev pub invariant-loop-k : goal.invariant-loop-k
invariant-loop-k g l = (j : ℕ) → j < l.k → get_or l.places (edge_at l.p.edges j).to 0 ≤ get_or l.places (edge_at l.p.edges j).from 0 → IsLoop l.p (place_of l.order) (edge_at l.p.edges j).from (edge_at l.p.edges j).to
