use Rattle.kt_init.specs.Transfers.{SameFrame, AddsCopies}
use Rattle.kt_init.proofs.problem.add_copies.Given as goal

abbrev pub invariant-loop-node : goal.invariant-loop-node
invariant-loop-node l = record {
  frame : SameFrame l.initial.problem l.problem;
  copies : AddsCopies l.node l.half l.initial.problem l.problem;
}
