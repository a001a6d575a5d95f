use Rattle.kt_graph.proofs.Walks.{walk_leaf}
use Rattle.kt_graph.proofs.building.Builder.leaf.Goals as goal

pub returns : goal.returns
returns c at word = walk_leaf c.in_ok-out.ensures c.in_ok-n.ensures
