use Rattle.kt_init.specs.Transfers.{SameFrame, AddsNodes}
use Rattle.kt_init.proofs.problem.add_nodes.Given as goal

abbrev pub invariant-loop-node : goal.invariant-loop-node
invariant-loop-node l = record {
  frame : SameFrame l.initial.problem l.problem;
  nodes : AddsNodes l.g l.node l.initial.problem l.problem;
}
