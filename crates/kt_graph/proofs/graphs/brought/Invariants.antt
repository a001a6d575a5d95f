use Rattle.std.proofs.Common.{◌≡◌, take}
use Rattle.std.specs.List.{flat_map}
use Rattle.kt_model.specs.ControlFlow.{bring}
use Rattle.kt_graph.proofs.graphs.brought.Given as goal

abbrev pub invariant-loop-x : goal.invariant-loop-x
invariant-loop-x l = l.effects ≡ flat_map bring (take l.x-index l.parameters)
