use Rattle.kt_model.specs.Findings.{Adds}
use Rattle.kt_flow.specs.Against.{IsAgainstBefore}
use Rattle.kt_flow.proofs.along.Paths.add_nodes.Given as goal

abbrev pub invariant-loop-node : goal.invariant-loop-node
invariant-loop-node l = Adds (IsAgainstBefore l.self.notes.now l.self.graph.now l.node) l.fn.found.items l.found.items
