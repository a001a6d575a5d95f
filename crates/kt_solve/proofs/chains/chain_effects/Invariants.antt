use Rattle.std.proofs.Common.{◌≡◌, ℕ, ◌+◌, ◌<◌, ◌≤◌, length, get_or}
use Rattle.kt_solve.specs.Chains.{IsNext, effect_at}
use Rattle.kt_solve.proofs.chains.chain_effects.Given as goal

abbrev pub invariant-loop-at : goal.invariant-loop-at
invariant-loop-at l = record {
  within : l.at ≤ length l.effects;
  firsts : length l.first.items ≡ l.nodes;
  nexts : length l.next.items ≡ length l.effects;
  first_is : (n : ℕ) → n < l.nodes → IsNext l.effects l.at n (get_or l.first.items n 0);
  next_is : (k : ℕ) → l.at ≤ k → k < length l.effects → IsNext l.effects (k + 1) (effect_at l.effects k).node (get_or l.next.items k 0);
}

abbrev pub decreases-loop-at : goal.decreases-loop-at
decreases-loop-at l = l.at
