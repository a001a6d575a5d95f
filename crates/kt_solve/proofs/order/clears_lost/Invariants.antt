use Rattle.std.proofs.Common.{ℕ, ◌≡◌, ◌<◌}
use Rattle.kt_solve.specs.declared.effect.Transfer.TheVariants.{Clear}
use Rattle.kt_solve.specs.Flow.{transfer_of}
use Rattle.kt_solve.specs.Orders.{CanLose}
use Rattle.kt_solve.proofs.order.clears_lost.Given as goal

abbrev pub invariant-loop-pair : goal.invariant-loop-pair
invariant-loop-pair l = (q : ℕ) → q < l.pair → CanLose (transfer_of l.p l.node q) → transfer_of l.p l.head q ≡ Clear
