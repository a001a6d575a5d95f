use Rattle.std.proofs.Common.{ap, get_or, sym, ◌∙◌}
use Rattle.std.proofs.lemmas.Bool.{false≢true}
use Rattle.kt_flow.proofs.Leaving.{tree_left, tree_kept}
use Rattle.kt_flow.proofs.left.add_left.Goals as goal

pub returns-in_ok-push : goal.returns-in_ok-push
returns-in_ok-push c =
    let row = c.index-nodes-node.result in
    tree_left c.args.graph.now c.args.node c.requires.within row (c.index-nodes-node.is ∙ ap (λ l. get_or l c.args.node row) c.as_slice-nodes.ensures) c.args.left.now.items c.push.new.self.items
    (c.leaves.ensures.0 c.if-leaves.true) c.in_ok-push.ensures.items

pub returns-else-leaves : goal.returns-else-leaves
returns-else-leaves c =
    let row = c.index-nodes-node.result in
    tree_kept c.args.graph.now c.args.node c.requires.within row (c.index-nodes-node.is ∙ ap (λ l. get_or l c.args.node row) c.as_slice-nodes.ensures) c.args.left.now.items
    (λ h. false≢true (sym c.if-leaves.false ∙ c.leaves.ensures.1 h))
