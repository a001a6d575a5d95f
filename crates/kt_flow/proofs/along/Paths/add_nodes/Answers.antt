use Rattle.std.proofs.Common.{◌≡◌, subst, arith}
use Rattle.kt_model.specs.Findings.{Adds}
use Rattle.kt_flow.specs.Against.{IsAgainstBefore}
use Rattle.kt_flow.proofs.Adding.{adds_none, no_nodes, nodes_more}
use Rattle.kt_flow.proofs.along.Paths.add_nodes.Goals as goal

pub loop-node-init : goal.loop-node-init
loop-node-init c = adds_none _ _ (no_nodes c.args.self.now.notes.now c.args.self.now.graph.now)

pub loop-node-preserved : goal.loop-node-preserved
loop-node-preserved c =
    nodes_more c.args.self.now.notes.now c.args.self.now.graph.now c.loop-node.node _ c.loop-node.found.items _ c.loop-node.invariant c.in_ok-add_node.ensures

pub returns : goal.returns
returns c =
    let e : c.loop-node.node ≡ c.args.end = omega arith in
    subst (λ k. Adds (IsAgainstBefore c.args.self.now.notes.now c.args.self.now.graph.now k) c.args.found.now.items c.loop-node.found.items) e c.loop-node.invariant
