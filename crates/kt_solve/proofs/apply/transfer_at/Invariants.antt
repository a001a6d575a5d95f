use Rattle.std.proofs.Common.{◌≡◌, ◌<◌, ◌-◌, ◌≤◌, length, take}
use Rattle.kt_solve.specs.declared.effect.Transfer.TheVariants.{Keep}
use Rattle.kt_solve.specs.Chains.{effect_at}
use Rattle.kt_solve.specs.Flow.{transfer_after}
use Rattle.kt_solve.proofs.apply.transfer_at.Given as goal

abbrev pub invariant-loop-at : goal.invariant-loop-at
invariant-loop-at l = record {
  within : l.at ≤ length l.effects;
  lands : l.at < length l.effects → (effect_at l.effects l.at).node ≡ l.node;
  transfer : l.transfer ≡ transfer_after (take l.at l.effects) l.node l.pair Keep;
}

abbrev pub decreases-loop-at : goal.decreases-loop-at
decreases-loop-at l = length l.effects - l.at
