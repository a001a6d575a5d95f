-- What the rules along paths ask of a body.
--
-- From the Kotlin specification, "Variable initialization analysis": a local is assigned along every path to where it is read, and a `val` or parameter
-- along none to where it is assigned. All paths, one at a time.
use Rattle.std.specs.Prelude.{◌≡◌, ℕ, true, false, List, ◌∷◌, Some, Contains}
use Rattle.kt_model.specs.BodyTrees.{Tree, Trees, number}
use Rattle.kt_model.specs.ControlFlow.{Node, Edge, assigns, reads}
use Rattle.kt_model.specs.declared.graph.Known.{Known}
use Rattle.kt_model.specs.declared.graph.Variable.TheVariants.{Local}
use Rattle.kt_model.specs.BodyPaths.{IsNodePath}
use Rattle.kt_paths.specs.FlowRules.{assigned_on}
use Rattle.kt_model.specs.TreesWithin.{all_trees_in, read_by, fixed_by}

-- Along every path to a node that a tree of the body has for it: a local that is read is assigned, a `val` or parameter that is assigned is not.
pub record IsFine (edges : List Edge) (body : Trees) : Type 0 where
  pub reads : (t : Tree) (x : ℕ) (n : Node) (path : List Node) → Contains (all_trees_in body) t → read_by t ≡ Some x → n.tree ≡ number t
      → Contains n.effects (reads x) → IsNodePath edges (n ∷ path) → assigned_on path (Local x) ≡ true
  pub assigns : (t : Tree) (x : ℕ) (k : Known) (n : Node) (path : List Node) → Contains (all_trees_in body) t → fixed_by t ≡ Some x → n.tree ≡ number t
      → Contains n.effects (assigns x k) → IsNodePath edges (n ∷ path) → assigned_on path (Local x) ≡ false
