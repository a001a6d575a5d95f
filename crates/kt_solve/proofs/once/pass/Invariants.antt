use Rattle.std.proofs.Common.{◌≡◌, ◌+◌, ◌-◌, ◌<◌, ◌≤◌, length, drop, get_or}
use Rattle.kt_solve.specs.Chains.{edge_at}
use Rattle.kt_solve.specs.Sweeps.{IsPassing, edges_from}
use Rattle.kt_solve.specs.Words.{word_bit, row_bit}
use Rattle.kt_solve.proofs.once.pass.Given as goal

abbrev pub invariant-loop-link : goal.invariant-loop-link
invariant-loop-link g l = record {
  within : l.link ≤ length l.p.edges;
  lands : 0 < l.link → (edge_at l.p.edges (l.link - 1)).from ≡ l.node;
  passing : IsPassing l.p (λ n. get_or l.places n 0) l.node (row_bit l.initial.words (length l.out) l.node) (word_bit l.out) l.link l.is_reached l.marks (row_bit l.words (length l.out));
  steps : l.steps ≡ l.initial.steps + edges_from (drop l.link l.p.edges) l.node;
}

abbrev pub decreases-loop-link : goal.decreases-loop-link
decreases-loop-link g l = l.link
