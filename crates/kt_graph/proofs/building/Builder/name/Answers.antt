use Rattle.std.proofs.Common.{ap, sym}
use Rattle.kt_model.specs.BodyTrees.{name_tree}
use Rattle.kt_model.specs.ControlFlow.{reads}
use Rattle.kt_graph.proofs.Walks.{same_tree, walk_name, leaves_effects}
use Rattle.kt_graph.proofs.building.Builder.name.Goals as goal

pub returns-in_ok-n-in-Variable : goal.returns-in_ok-n-in-Variable
returns-in_ok-n-in-Variable c at =
    same_tree (ap (λ m. name_tree m c.args.tree at) (sym c.in-Variable.ensures))
    (walk_name at c.in-Variable.local (leaves_effects _ _ _ _ _ _ c.args.context c.args.exits c.in_ok-effects-in-Variable.ensures c.in_ok-out-in-Variable.ensures) c.in_ok-n-in-Variable.ensures)
