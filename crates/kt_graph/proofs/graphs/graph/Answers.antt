use Rattle.std.proofs.Common.{ap, sym, ◌∙◌, refl, length, ◌≤◌, ◌≡◌, ℕ, subst}
use Rattle.kt_model.specs.ControlFlow.{body_nodes}
use Rattle.kt_model.specs.Bodies.{owner_trees, owner_parameters, IsTooLarge}
use Rattle.kt_model.specs.NodeKeys.{AreDistinct}
use Rattle.kt_model.proofs.NodeKeyLaws.{distinct_nodes}
use Rattle.kt_model.proofs.PlaceLaws.{edges_are_onward, edges_are_within}
use Rattle.kt_graph.proofs.Counts.{exact, large, fits}
use Rattle.kt_graph.proofs.graphs.graph.Goals as goal

pub numbered-requires : goal.numbered-requires
numbered-requires c = exact _ _ c.node_count-nodes.ensures c.if-nodes-gt65536.false

pub returns-then-nodes-gt65536-clause-too_large : goal.returns-then-nodes-gt65536-clause-too_large
returns-then-nodes-gt65536-clause-too_large c = (λ e. large _ _ _ c.node_count-nodes.ensures c.if-nodes-gt65536.true, λ h. refl)

pub returns-in-Ok-clause-too_large : goal.returns-in-Ok-clause-too_large
returns-in-Ok-clause-too_large c = (λ e. cc, λ h. absurd (fits _ _ _ c.node_count-nodes.ensures c.if-nodes-gt65536.false h))

pub returns-in-Err-clause-too_large : goal.returns-in-Err-clause-too_large
returns-in-Err-clause-too_large c = (λ e. cc, λ h. absurd (fits _ _ _ c.node_count-nodes.ensures c.if-nodes-gt65536.false h))

pub returns-in-Ok-clause-within : goal.returns-in-Ok-clause-within
returns-in-Ok-clause-within c =
    let body = c.args.body.now in
    edges_are_within (owner_parameters body.uses.now body.owner) (owner_trees body.file.now body.uses.now body.owner) (length body.table.now) c.in-Ok.graph c.in-Ok.ensures

pub returns-in-Ok-clause-distinct : goal.returns-in-Ok-clause-distinct
returns-in-Ok-clause-distinct c =
    let body = c.args.body.now in
    λ numbered. subst AreDistinct (sym c.in-Ok.ensures.same_nodes) (distinct_nodes (owner_parameters body.uses.now body.owner) (owner_trees body.file.now body.uses.now body.owner) numbered)

pub returns-in-Ok-clause-onward : goal.returns-in-Ok-clause-onward
returns-in-Ok-clause-onward c =
    let body = c.args.body.now in
    λ numbered. edges_are_onward (owner_parameters body.uses.now body.owner) (owner_trees body.file.now body.uses.now body.owner) (length body.table.now) c.in-Ok.graph numbered c.in-Ok.ensures
