use Rattle.std.proofs.Common.{◌≡◌, ◌≤◌, length, reverse, take}
use Rattle.kt_scope.specs.Stack.{closed}
use Rattle.kt_scope.proofs.scopes.innermost.Given as goal

abbrev pub invariant-loop-i : goal.invariant-loop-i
invariant-loop-i l = record { in_range : l.i ≤ length l.stack; same : closed (reverse (take l.i l.stack)) ≡ closed (reverse l.stack) }

abbrev pub decreases-loop-i : goal.decreases-loop-i
decreases-loop-i l = l.i
