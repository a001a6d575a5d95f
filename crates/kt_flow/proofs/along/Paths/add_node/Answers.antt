use Rattle.std.proofs.Common.{ap, subst, get_or, ◌∙◌}
use Rattle.std.specs.Prelude.{OnOk}
use Rattle.kt_model.specs.Findings.{Adds}
use Rattle.kt_flow.specs.Against.{IsAgainstOne}
use Rattle.kt_flow.proofs.AtNode.{with_note, without_note}
use Rattle.kt_flow.proofs.along.Paths.add_node.Goals as goal

pub returns-in-Some : goal.returns-in-Some
returns-in-Some c =
    let g = c.args.self.now.graph.now in
    let row = c.index-nodes-node.result in
    with_note c.args.self.now.notes.now c.requires.rising g c.args.node c.requires.within row (c.index-nodes-node.is ∙ ap (λ l. get_or l c.args.node row) c.as_slice-nodes.ensures)
    c.add_effects.result c.in-Some.note _ _ c.in-Some.ensures.0 c.in-Some.ensures.1
    (subst (λ es. OnOk c.add_effects.result (Adds (IsAgainstOne g c.args.node c.in-Some.note es) c.args.found.now.items c.add_effects.new.found.items)) c.as_slice.ensures c.add_effects.ensures)

pub returns-in-None : goal.returns-in-None
returns-in-None c =
    let row = c.index-nodes-node.result in
    without_note c.args.self.now.notes.now c.requires.rising c.args.self.now.graph.now c.args.node c.requires.within row (c.index-nodes-node.is ∙ ap (λ l. get_or l c.args.node row) c.as_slice-nodes.ensures) _ c.in-None.ensures
