use Rattle.std.proofs.Common.{◌≤◌, ◌<◌, ◌^◌, ℕ, get_or}
use Rattle.kt_decl.proofs.aboves.past_all.Given as goal

abbrev pub invariant-loop-n : goal.invariant-loop-n
invariant-loop-n l = record {
  all : (k : ℕ) → k < l.n-index → get_or l.counts k 0 < l.past;
  small : l.past ≤ 2 ^ 32;
}
