use Rattle.std.proofs.Common.{◌≡◌, ℕ, ◌<◌, false, length, get_or}
use Rattle.kt_solve.specs.Marks.{is_waiting, mark_at}
use Rattle.kt_solve.specs.Search.{IsSearch, Advances}
use Rattle.kt_solve.specs.Words.{row_bit}
use Rattle.kt_solve.proofs.worklist.sweep.Given as goal

abbrev pub invariant-loop-node : goal.invariant-loop-node
invariant-loop-node g l = record {
  search : IsSearch l.p l.marks (row_bit l.words (length l.out));
  advances : Advances l.changed l.initial.marks l.marks l.initial.words l.words;
  done : l.changed ≡ false → (k : ℕ) → k < l.node-index → is_waiting (mark_at l.marks (get_or l.order k 0)) ≡ false;
}
