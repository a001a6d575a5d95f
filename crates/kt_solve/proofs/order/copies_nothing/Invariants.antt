use Rattle.std.proofs.Common.{ℕ, ◌<◌}
use Rattle.kt_solve.specs.Flow.{transfer_of}
use Rattle.kt_solve.specs.Orders.{CopiesNothing}
use Rattle.kt_solve.proofs.order.copies_nothing.Given as goal

abbrev pub invariant-loop-pair : goal.invariant-loop-pair
invariant-loop-pair l = (q : ℕ) → q < l.pair → CopiesNothing (transfer_of l.p l.node q)
