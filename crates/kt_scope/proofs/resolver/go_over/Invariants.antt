use Rattle.std.proofs.Common.{reverse, take}
use Rattle.kt_scope.specs.Stack.{Reaches}
use Rattle.kt_scope.proofs.resolver.go_over.Given as goal

abbrev pub invariant-loop-event : goal.invariant-loop-event
invariant-loop-event l = Reaches l.tops l.fn.declared.items (reverse (take l.event-index l.events)) l.resolver
