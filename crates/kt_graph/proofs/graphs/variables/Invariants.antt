use Rattle.std.proofs.Common.{◌≡◌, take}
use Rattle.kt_model.specs.Bodies.{variables_of}
use Rattle.kt_graph.proofs.graphs.variables.Given as goal

abbrev pub invariant-loop-node : goal.invariant-loop-node
invariant-loop-node l = l.variables ≡ variables_of (take l.node-index l.nodes)
