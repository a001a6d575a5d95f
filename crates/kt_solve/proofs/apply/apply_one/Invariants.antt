use Rattle.std.proofs.Common.{◌≡◌, ℕ, ◌+◌, ◌-◌, ◌≤◌, ◌&&◌, cond, leb, ltb}
use Rattle.kt_solve.specs.Flow.{moved, outcome}
use Rattle.kt_solve.specs.Words.{word_bit}
use Rattle.kt_solve.proofs.apply.apply_one.Given as goal

abbrev pub invariant-loop-pair : goal.invariant-loop-pair
invariant-loop-pair l = record {
  from : l.effect.first ≤ l.pair;
  to : l.pair ≤ l.effect.first + l.effect.count;
  bits : (q : ℕ) → word_bit l.out q ≡ cond (leb l.effect.first q && ltb q l.pair) (outcome (moved l.effect.transfer (q - l.effect.first)) (word_bit l.before) q) (word_bit l.initial.out q);
}

abbrev pub decreases-loop-pair : goal.decreases-loop-pair
decreases-loop-pair l = l.effect.first + l.effect.count - l.pair
