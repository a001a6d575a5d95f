use Rattle.std.proofs.Common.{◌+◌, ◌*◌, length}
use Rattle.std.specs.List.{sum}
use Rattle.kt_solve.specs.Walks.{IsWalk}
use Rattle.kt_solve.proofs.postorder.walk.Given as goal

abbrev pub invariant-loop-node : goal.invariant-loop-node
invariant-loop-node g l = IsWalk l.p l.links l.progress l.stack.items l.order.items

abbrev pub decreases-loop-node : goal.decreases-loop-node
decreases-loop-node g l = 2 * sum l.links + length l.stack.items
