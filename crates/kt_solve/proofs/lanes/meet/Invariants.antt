use Rattle.std.proofs.Common.{◌≡◌, ℕ, ◌-◌, ◌<◌, ◌≤◌, get_or, length, bit_and}
use Rattle.kt_solve.proofs.lanes.meet.Given as goal

abbrev pub invariant-lanes : goal.invariant-lanes
invariant-lanes l = record {
  within : l.at ≤ length l.into;
  below : (k : ℕ) → k < l.at → get_or l.into k 0 ≡ bit_and (get_or l.initial.into k 0) (get_or l.from k 0);
  above : (k : ℕ) → l.at ≤ k → get_or l.into k 0 ≡ get_or l.initial.into k 0;
}

abbrev pub decreases-lanes : goal.decreases-lanes
decreases-lanes l = length l.initial.into - l.at

abbrev pub invariant-loop-k : goal.invariant-loop-k
invariant-loop-k l = record {
  below : (k : ℕ) → k < l.k → get_or l.into k 0 ≡ bit_and (get_or l.fn.into k 0) (get_or l.from k 0);
  above : (k : ℕ) → l.k ≤ k → get_or l.into k 0 ≡ get_or l.fn.into k 0;
}
