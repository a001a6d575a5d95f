use Rattle.std.proofs.Common.{◌≡◌, ℕ, ◌<◌, ◌↔◌, true, get_or, bit_and}
use Rattle.kt_solve.proofs.lanes.is_within.Given as goal

abbrev pub invariant-loop-k : goal.invariant-loop-k
invariant-loop-k l = (l.within ≡ true) ↔ ((k : ℕ) → k < l.k → bit_and (get_or l.row k 0) (get_or l.other k 0) ≡ get_or l.row k 0)
