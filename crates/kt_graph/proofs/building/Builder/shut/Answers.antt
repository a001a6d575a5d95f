use Rattle.kt_graph.proofs.Walks.{walk_shut}
use Rattle.kt_graph.proofs.building.Builder.shut.Goals as goal

pub returns : goal.returns
returns c at word = walk_shut c.in_ok-n.ensures
