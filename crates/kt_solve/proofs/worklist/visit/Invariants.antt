use Rattle.std.proofs.Common.{◌≡◌, ℕ, ◌-◌, ◌<◌, ◌≤◌, false, cond, length}
use Rattle.kt_solve.specs.Chains.{edge_at}
use Rattle.kt_solve.specs.Marks.{weight}
use Rattle.kt_solve.specs.Search.{IsVisit, IsAfter, MissesAfter}
use Rattle.kt_solve.specs.Words.{word_bit, row_bit}
use Rattle.kt_solve.proofs.worklist.visit.Given as goal

abbrev pub invariant-loop-link : goal.invariant-loop-link
invariant-loop-link g l = record {
  within : l.link ≤ length l.p.edges;
  lands : 0 < l.link → (edge_at l.p.edges (l.link - 1)).from ≡ l.node;
  visit : IsVisit l.p l.node (row_bit l.initial.words (length l.out) l.node) (word_bit l.out) l.link l.marks (row_bit l.words (length l.out));
  after : IsAfter l.p l.node (row_bit l.initial.words (length l.out) l.node) (word_bit l.out);
  misses : (q : ℕ) → q < l.p.pairs → word_bit l.out q ≡ false → MissesAfter l.p l.node q;
  progress : cond l.changed (weight l.marks l.words < weight l.initial.marks l.initial.words) ((l.marks ≡ l.initial.marks) × (l.words ≡ l.initial.words));
}

abbrev pub decreases-loop-link : goal.decreases-loop-link
decreases-loop-link g l = l.link
