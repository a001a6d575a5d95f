use Rattle.std.proofs.Common.{◌≡◌, ◌+◌, ◌*◌, false, cond, length}
use Rattle.kt_solve.specs.Marks.{weight}
use Rattle.kt_solve.specs.Search.{IsSearch, IsDone}
use Rattle.kt_solve.specs.Words.{row_bit}
use Rattle.kt_solve.proofs.worklist.run.Given as goal

abbrev pub invariant-loop-again : goal.invariant-loop-again
invariant-loop-again g l = record {
  search : IsSearch l.p l.marks (row_bit l.words (length l.out));
  done : l.again ≡ false → IsDone l.marks;
}

abbrev pub decreases-loop-again : goal.decreases-loop-again
decreases-loop-again g l = 2 * weight l.marks l.words + cond l.again 1 0
