use Rattle.std.proofs.Common.{◌≡◌, ◌-◌, ◌+◌, length}
use Rattle.kt_run.specs.Slots.{held}
use Rattle.kt_run.proofs.frame.grow.Given as goal

-- More slots hold no more.
abbrev pub invariant-loop-slots : goal.invariant-loop-slots
invariant-loop-slots l = held l.slots ≡ held l.fn.slots

abbrev pub decreases-loop-slots : goal.decreases-loop-slots
decreases-loop-slots l = l.local + 1 - length l.slots
