use Rattle.std.proofs.Common.{◌≡◌, ◌++◌, take}
use Rattle.kt_model.specs.Bodies.{declared_by}
use Rattle.kt_graph.proofs.graphs.declare_all.Given as goal

abbrev pub invariant-loop-effect : goal.invariant-loop-effect
invariant-loop-effect l = l.variables ≡ l.fn.variables ++ declared_by (take l.effect-index l.effects)
