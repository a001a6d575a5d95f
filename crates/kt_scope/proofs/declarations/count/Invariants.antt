use Rattle.std.proofs.Common.{◌≡◌, ◌+◌, ◌≤◌, drop}
use Rattle.kt_model.specs.Scopes.{declared_count}
use Rattle.kt_scope.proofs.declarations.count.Given as goal

abbrev pub invariant-loop-event : goal.invariant-loop-event
invariant-loop-event l = record {
  few : l.n ≤ l.event-index;
  left : l.n + declared_count (drop l.event-index l.events) ≡ declared_count l.events;
}
