use Rattle.std.proofs.Common.{◌≡◌, ℕ, ◌<◌, ◌≤◌, length}
use Rattle.kt_solve.specs.Search.{IsAfter}
use Rattle.kt_solve.specs.Words.{row_bit}
use Rattle.kt_solve.proofs.worklist.finish.Given as goal

abbrev pub invariant-loop-node : goal.invariant-loop-node
invariant-loop-node l = record {
  below : (n : ℕ) → n < l.node → IsAfter l.p n (row_bit l.initial.words (length l.out) n) (row_bit l.words (length l.out) n);
  above : (n q : ℕ) → l.node ≤ n → q < l.p.pairs → row_bit l.words (length l.out) n q ≡ row_bit l.initial.words (length l.out) n q;
}
