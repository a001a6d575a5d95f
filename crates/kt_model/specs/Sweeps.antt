-- The order of a graph's nodes is that of a sweep along the flow.
--
-- The order is this project's own: with it, one pass over the nodes can join what holds along every path. Of nodes as values and of places; the code that
-- builds a graph numbers what follows a node before the node.
use Rattle.std.specs.Prelude.{◌≡◌, ◌⊎◌, ◌≤◌, Bool, true, false, List, [], ◌∷◌}
use Rattle.std.specs.List.{Contains}
use Rattle.kt_model.specs.declared.graph.EdgeRow.{EdgeRow}
use Rattle.kt_model.specs.declared.graph.Graph.{Graph}
use Rattle.kt_model.specs.declared.graph.Tag.{Tag}
use Rattle.kt_model.specs.declared.graph.Tag.TheVariants as tag
use Rattle.kt_model.specs.ControlFlow.{Node}
use Rattle.kt_model.specs.Bodies.{node_at}

-- One node stands in a list, and the other somewhere behind it.
unfoldable pub IsBehind : List Node → (first later : Node) → Type 0
IsBehind [] first later = ⊥
IsBehind (n ∷ ns) first later = ((n ≡ first) × Contains ns later) ⊎ IsBehind ns first later

-- where a flow may lead back to: the head of a loop, the hub of a call with a lambda
abbrev pub is_turn : Tag → Bool
is_turn tag.Head = true
is_turn tag.Hub = true
is_turn _ = false

-- The edge leads to a later node, or back to one where a flow may turn.
pub record IsOnward (g : Graph) (e : EdgeRow) : Type 0 where
  pub onward : e.to ≤ e.from → is_turn (node_at g.nodes e.to).tag ≡ true
