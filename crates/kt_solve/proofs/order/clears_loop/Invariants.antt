use Rattle.std.proofs.Common.{◌≡◌, ℕ, ◌<◌, ◌≤◌, get_or}
use Rattle.kt_solve.specs.declared.effect.Transfer.TheVariants.{Clear}
use Rattle.kt_solve.specs.Flow.{transfer_of}
use Rattle.kt_solve.specs.Orders.{CanLose}
use Rattle.kt_solve.proofs.order.clears_loop.Given as goal

abbrev pub invariant-loop-at : goal.invariant-loop-at
invariant-loop-at l = (i pair : ℕ) → l.head ≤ i → i < l.at → pair < l.p.pairs → CanLose (transfer_of l.p (get_or l.order i 0) pair) → transfer_of l.p (get_or l.order l.head 0) pair ≡ Clear
