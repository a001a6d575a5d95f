-- Paths of a body's graph by its nodes. A graph is the list of its edges, each a pair of nodes.
use Rattle.std.specs.Prelude.{◌≡◌, List, [], ◌∷◌, Contains}
use Rattle.kt_model.specs.ControlFlow.{Node, Edge, entry_node}

-- A path, written from its end: its last node is the entry.
abbrev pub IsNodePath : List Edge → List Node → Type 0
IsNodePath edges [] = ⊥
IsNodePath edges (n ∷ []) = n ≡ entry_node
IsNodePath edges (m ∷ n ∷ path) = Contains edges (n, m) × IsNodePath edges (n ∷ path)
