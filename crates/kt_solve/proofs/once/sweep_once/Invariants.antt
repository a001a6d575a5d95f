use Rattle.std.proofs.Common.{◌≡◌, ◌+◌, length, get_or, take}
use Rattle.kt_solve.specs.Sweeps.{IsSweep, IsSettledBelow, edges_of}
use Rattle.kt_solve.specs.Words.{row_bit}
use Rattle.kt_solve.proofs.once.sweep_once.Given as goal

abbrev pub invariant-loop-node : goal.invariant-loop-node
invariant-loop-node g l = record {
  sweep : IsSweep l.p (λ n. get_or l.places n 0) l.node-index l.marks (row_bit l.words (length l.out));
  settled : IsSettledBelow l.p (λ n. get_or l.places n 0) l.node-index l.marks (row_bit l.words (length l.out));
  steps : l.steps ≡ l.initial.steps + edges_of l.p.edges (take l.node-index l.order);
}
