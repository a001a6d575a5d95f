use Rattle.std.proofs.Common.{◌≡◌, ◌++◌, map, take}
use Rattle.kt_init.specs.Transfers.{edge_of}
use Rattle.kt_init.proofs.problem.add_edges.Given as goal

abbrev pub invariant-loop-edge : goal.invariant-loop-edge
invariant-loop-edge l = l.problem ≡ record l.initial.problem { edges = l.initial.problem.edges ++ map edge_of (take l.edge-index l.edges) }
