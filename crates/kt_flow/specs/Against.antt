-- What is violated along the paths of a graph, by the notes of its trees.
use Rattle.std.specs.Prelude.{◌≡◌, ℕ, ◌<◌, true, false, List, Contains, Some}
use Rattle.kt_model.specs.declared.graph.Graph.{Graph}
use Rattle.kt_model.specs.declared.graph.Known.{Known}
use Rattle.kt_model.specs.declared.graph.Variable.TheVariants.{Local}
use Rattle.kt_model.specs.declared.graph.FlowEffect.{FlowEffect}
use Rattle.kt_model.specs.declared.finding.Finding.{Finding}
use Rattle.kt_model.specs.declared.finding.Rule.TheVariants.{Unassigned, ValTwice}
use Rattle.kt_model.specs.ControlFlow.{assigns, reads}
use Rattle.kt_model.specs.Bodies.{node_at}
use Rattle.kt_model.specs.NodePaths.{IsReached, IsAlongAll, effects_of}
use Rattle.kt_flow.specs.declared.notes.TreeNote.{TreeNote}

-- by an effect of a node, whose tree has that note
pub data IsAgainst (g : Graph) (node : ℕ) (n : TreeNote) : FlowEffect → Finding → Type 0 where
  early : (x : ℕ) → n.read ≡ Some x → IsReached g node → ¬ IsAlongAll g node (Local x) true
      → IsAgainst g node n (reads x) (record { rule = Unassigned; span = n.word })
  late : (x : ℕ) (k : Known) → n.fixed ≡ Some x → IsReached g node → ¬ IsAlongAll g node (Local x) false
      → IsAgainst g node n (assigns x k) (record { rule = ValTwice; span = n.word })

-- by one of a node's effects
pub record IsAgainstOne (g : Graph) (node : ℕ) (n : TreeNote) (effects : List FlowEffect) (f : Finding) : Type 0 where
  pub effect : FlowEffect
  pub among : Contains effects effect
  pub against : IsAgainst g node n effect f

-- by a node
pub record IsAgainstAt (notes : List TreeNote) (g : Graph) (node : ℕ) (f : Finding) : Type 0 where
  pub noted : TreeNote
  pub is_noted : Contains notes noted
  pub same_tree : noted.tree ≡ (node_at g.nodes node).tree
  pub at_node : IsAgainstOne g node noted (effects_of g node) f

-- by a node before a place
pub record IsAgainstBefore (notes : List TreeNote) (g : Graph) (place : ℕ) (f : Finding) : Type 0 where
  pub node : ℕ
  pub before : node < place
  pub there : IsAgainstAt notes g node f
