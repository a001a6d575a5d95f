use Rattle.std.proofs.Common.{◌≡◌, ◌≤◌, length, reverse, take}
use Rattle.kt_scope.specs.Stack.{variable_in}
use Rattle.kt_scope.proofs.scopes.variable.Given as goal

abbrev pub invariant-loop-i : goal.invariant-loop-i
invariant-loop-i l = record { in_range : l.i ≤ length l.stack; same : variable_in l.name (reverse (take l.i l.stack)) ≡ variable_in l.name (reverse l.stack) }

abbrev pub decreases-loop-i : goal.decreases-loop-i
decreases-loop-i l = l.i
