use Rattle.std.proofs.Common.{◌≡◌, take}
use Rattle.std.specs.List.{flat_map}
use Rattle.kt_model.specs.NameEvents.{function_events}
use Rattle.kt_scope.proofs.events.of_functions.Given as goal

abbrev pub invariant-loop-f : goal.invariant-loop-f
invariant-loop-f l = l.out.items ≡ flat_map function_events (take l.f-index l.functions)
