use Rattle.std.proofs.Common.{◌≡◌, ◌≤◌, length, reverse, take}
use Rattle.kt_scope.specs.Stack.{is_declared_in}
use Rattle.kt_scope.proofs.scopes.is_declared.Given as goal

abbrev pub invariant-loop-i : goal.invariant-loop-i
invariant-loop-i l = record { in_range : l.i ≤ length l.stack; same : is_declared_in l.name (reverse (take l.i l.stack)) ≡ is_declared_in l.name (reverse l.stack) }

abbrev pub decreases-loop-i : goal.decreases-loop-i
decreases-loop-i l = l.i
