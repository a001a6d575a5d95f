use Rattle.std.proofs.Common.{ap, sym, ◌∙◌, refl}
use Rattle.kt_model.specs.Bodies.{owner_trees, owner_parameters}
use Rattle.kt_graph.proofs.Counts.{all_counted, nodes_counted}
use Rattle.kt_graph.proofs.graphs.node_count.Goals as goal

pub returns : goal.returns
returns c =
    let body = c.args.body.now in
    nodes_counted (owner_parameters body.uses.now body.owner) (owner_trees body.file.now body.uses.now body.owner) _ _ (all_counted c.written.ensures c.body_count-count.ensures) c.add.ensures
