-- The rules along the paths of a body, and the limits on its graph.
--
-- From the Kotlin specification, "Variable initialization analysis": a local is read only where it is assigned along every path to there, and a `val` or
-- parameter is assigned only where it is assigned along none. The codes, the spans and the limits are this project's own. Paths go by nodes; all of them,
-- one at a time. The code numbers the nodes and solves equations over their edges. "Function declaration": a function whose result isn't `Unit` gives a value
-- wherever it ends, so no path leads to the end of its block.
use Rattle.std.specs.Prelude.{◌≡◌, ◌≢◌, ◌⊎◌, ℕ, ◌<◌, Bool, true, false, List, [], ◌∷◌, length, Option, Some, None, Contains, slice_get, IsTrue, ◌↔◌}
use Rattle.kt_tree.specs.declared.ast.body.Block.{Block}
use Rattle.kt_tree.specs.declared.ast.declaration.Contract.{Contract}
use Rattle.kt_tree.specs.declared.ast.declaration.File.{File}
use Rattle.kt_tree.specs.declared.ast.declaration.FunctionBody.TheVariants as written
use Rattle.kt_tree.specs.declared.ast.declaration.FunctionDecl.{FunctionDecl}
use Rattle.kt_model.specs.BuiltIns.{unit_type}
use Rattle.kt_model.specs.NameUses.{Resolved, declaration_type, function_place}
use Rattle.kt_model.specs.Bodies.{owner_trees, owner_parameters, variables_of, IsTooLarge}
use Rattle.kt_model.specs.BodyTrees.{Tree, Trees, Empty', First', Return', Throw', number}
use Rattle.kt_model.specs.ControlFlow.{Node, Edge, assigns, reads, body_nodes, body_edges}
use Rattle.kt_model.specs.BodyPaths.{IsNodePath}
use Rattle.kt_model.specs.NodePaths.{assigned_after}
use Rattle.kt_model.specs.TreesWithin.{all_trees_in, word_of, read_by, fixed_by}
use Rattle.kt_model.specs.declared.graph.Known.{Known}
use Rattle.kt_model.specs.declared.graph.Tag.TheVariants.{In, Out}
use Rattle.kt_model.specs.declared.graph.Variable.{Variable}
use Rattle.kt_model.specs.declared.graph.Variable.TheVariants.{Local}
use Rattle.kt_model.specs.declared.uses.Owner.{Owner}
use Rattle.kt_model.specs.declared.uses.Owner.TheVariants as owner
use Rattle.kt_model.specs.declared.finding.Finding.{Finding}
use Rattle.kt_model.specs.declared.finding.Rule.TheVariants.{Unassigned, ValTwice, NoReturn, TooManyLocals, FlowTooLarge}

-- whether a variable is assigned after a path; at first none is
abbrev pub assigned_on : List Node → Variable → Bool
assigned_on [] x = false
assigned_on (n ∷ path) x = assigned_after n.effects x (assigned_on path x)

-- Along every path to the node, before the node's own effects, the variable is assigned (b is true) or unassigned.
abbrev pub IsOnAll : List Edge → Node → Variable → Bool → Type 0
IsOnAll edges n x b = (path : List Node) → IsNodePath edges (n ∷ path) → assigned_on path x ≡ b

-- Some path ends at the node.
abbrev pub IsReachedNode : List Edge → Node → Type 0
IsReachedNode edges n = (path : List Node) × IsNodePath edges (n ∷ path)

-- A rule along the paths of a body with these parameters is violated. A node that no path reaches violates none.
pub data IsFlowViolated (parameters : List ℕ) (body : Trees) : Finding → Type 0 where
  -- UNASSIGNED: a tree reads a local that is not assigned along every path to the node where it does so.
  unassigned : (t : Tree) (x : ℕ) (n : Node) → Contains (all_trees_in body) t → read_by t ≡ Some x → n.tree ≡ number t → Contains n.effects (reads x)
      → IsReachedNode (body_edges parameters body) n → ¬ IsOnAll (body_edges parameters body) n (Local x) true
      → IsFlowViolated parameters body (record { rule = Unassigned; span = word_of t })
  -- VAL_TWICE: a tree assigns a `val` or a parameter that is not unassigned along every path to the node where it does so.
  val_twice : (t : Tree) (x : ℕ) (k : Known) (n : Node) → Contains (all_trees_in body) t → fixed_by t ≡ Some x → n.tree ≡ number t → Contains n.effects (assigns x k)
      → IsReachedNode (body_edges parameters body) n → ¬ IsOnAll (body_edges parameters body) n (Local x) false
      → IsFlowViolated parameters body (record { rule = ValTwice; span = word_of t })

-- ---- the end of a body

-- the last of trees that stand one behind another
abbrev pub last_tree : Trees → Option Tree
last_tree Empty' = None
last_tree (First' t Empty') = Some t
last_tree (First' t (First' u rest)) = last_tree (First' u rest)

-- whether what is behind a tree can follow it: not behind a `return` or a `throw`
abbrev pub can_be_followed : Tree → Bool
can_be_followed (Return' n value) = false
can_be_followed (Throw' n e) = false
can_be_followed t = true

-- The end of the trees of a body is reached: there are none, or some path ends at the `out` of the last one, which can be followed.
pub data IsEndReached (parameters : List ℕ) (body : Trees) : Type 0 where
  no_tree : body ≡ Empty' → IsEndReached parameters body
  behind_last : (t : Tree) (n : Node) → last_tree body ≡ Some t → can_be_followed t ≡ true → n.tree ≡ number t → n.tag ≡ Out
      → IsReachedNode (body_edges parameters body) n → IsEndReached parameters body

-- NO_RETURN: the end of a block is reached, and the function's result isn't `Unit`. The finding stands at the function's name.
pub data IsEndViolated (file : File) (uses : Resolved) : Owner → Finding → Type 0 where
  no_return : (place : ℕ) (f : FunctionDecl) (contract : Option Contract) (block : Block) → slice_get file.functions place ≡ Some f
      → f.body ≡ Some (written.Block contract block) → declaration_type uses (function_place place) ≢ Some unit_type
      → IsEndReached (owner_parameters uses (owner.Function place)) (owner_trees file uses (owner.Function place))
      → IsEndViolated file uses (owner.Function place) (record { rule = NoReturn; span = f.name.span })

-- A rule along the paths of an owner's body is violated.
abbrev pub IsPathViolated : File → Resolved → Owner → Finding → Type 0
IsPathViolated file uses o f = IsFlowViolated (owner_parameters uses o) (owner_trees file uses o) f ⊎ IsEndViolated file uses o f

-- ---- which trees are entered

-- Some path ends at the tree's `in`.
pub record IsEntered (parameters : List ℕ) (body : Trees) (tree : ℕ) : Type 0 where
  pub node : Node
  pub same_tree : node.tree ≡ tree
  pub enters : node.tag ≡ In
  pub reached : IsReachedNode (body_edges parameters body) node

-- For every tree number it is settled whether such a tree is entered.
pub record SettlesEntered (parameters : List ℕ) (body : Trees) : Type 0 where
  pub entered : ℕ → Bool
  pub is_entered : (tree : ℕ) → IsTrue (entered tree) ↔ IsEntered parameters body tree

-- ---- the limits on a body's graph

-- the most locals of one body, parameters among them
abbrev pub most_locals : ℕ
most_locals = 250

-- how many locals the nodes of a body declare
abbrev pub locals_of : List ℕ → Trees → ℕ
locals_of parameters body = length (variables_of (body_nodes parameters body))

-- A limit is passed by the body of the function at this place, among so many classes; the finding stands at the function's name.
pub data IsSizeViolated (file : File) (uses : Resolved) (classes : ℕ) : Finding → Type 0 where
  -- TOO_MANY_LOCALS: there are more locals than a body may have.
  too_many : (place : ℕ) (f : FunctionDecl) → slice_get file.functions place ≡ Some f
      → most_locals < locals_of (owner_parameters uses (owner.Function place)) (owner_trees file uses (owner.Function place))
      → IsSizeViolated file uses classes (record { rule = TooManyLocals; span = f.name.span })
  -- FLOW_TOO_LARGE: the graph passes one of its two numbers; no targets of facts are counted yet.
  too_large : (place : ℕ) (f : FunctionDecl) → slice_get file.functions place ≡ Some f
      → IsTooLarge (length (body_nodes (owner_parameters uses (owner.Function place)) (owner_trees file uses (owner.Function place)))) 0 classes
      → IsSizeViolated file uses classes (record { rule = FlowTooLarge; span = f.name.span })
