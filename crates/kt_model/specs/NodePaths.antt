-- Paths of a graph by the numbers of its nodes, and the status of a variable along them.
--
-- From the Kotlin specification, "Variable initialization analysis". Of a graph that is a value (`kt_model::graph::Graph`): its nodes and edges are
-- lists, and a node is its place there. All paths, one at a time; the code has no paths, and joins two bits for each variable over the edges.
use Rattle.std.specs.Prelude.{◌≡◌, ℕ, ◌<◌, Bool, true, false, List, [], ◌∷◌, length, slice_index_or, nat_eq, if◌then◌else◌}
use Rattle.std.specs.List.{All, Contains}
use Rattle.kt_model.specs.declared.graph.Variable.{Variable}
use Rattle.kt_model.specs.declared.graph.Variable.TheVariants.{Local, Field}
use Rattle.kt_model.specs.declared.graph.FlowEffect.{FlowEffect}
use Rattle.kt_model.specs.declared.graph.FlowEffect.TheVariants.{Read, Declare, Assign, Assume, Kill}
use Rattle.kt_model.specs.declared.graph.Tag.TheVariants.{Entry}
use Rattle.kt_model.specs.declared.graph.EdgeRow.{EdgeRow}
use Rattle.kt_model.specs.declared.graph.Graph.{Graph}
use Rattle.kt_model.specs.declared.status.Status.{Status}
use Rattle.kt_model.specs.declared.status.Status.TheVariants.{Unassigned, Assigned, Either, Unreached}

-- The entry is the first node of the order.
abbrev pub entry_of : Graph → ℕ
entry_of g = slice_index_or g.order 0 0

abbrev pub HasEdge : Graph → ℕ → ℕ → Type 0
HasEdge g n m = Contains g.edges (record { from = n; to = m })

-- A path, written from its end: its last node is the entry.
abbrev pub IsPath : Graph → List ℕ → Type 0
IsPath g [] = ⊥
IsPath g (n ∷ []) = n ≡ entry_of g
IsPath g (m ∷ n ∷ path) = HasEdge g n m × IsPath g (n ∷ path)

-- Some path ends at the node.
abbrev pub IsReached : Graph → ℕ → Type 0
IsReached g n = (path : List ℕ) × IsPath g (n ∷ path)

abbrev pub effects_of : Graph → ℕ → List FlowEffect
effects_of g n = (slice_index_or g.nodes n (record { tree = 0; tag = Entry; copy = 0; effects = [] })).effects

-- whether two variables are one
abbrev pub variable_is : Variable → Variable → Bool
variable_is (Local a) (Local b) = nat_eq a b
variable_is (Local a) (Field b) = false
variable_is (Field a) (Local b) = false
variable_is (Field a) (Field b) = nat_eq a b

-- Whether a variable is assigned after an effect, by whether it was before: a declaration makes it unassigned, an assignment assigned.
abbrev pub assigned_by : FlowEffect → Variable → Bool → Bool
assigned_by (Read y) x before = before
assigned_by (Declare y) x before = if variable_is y x then false else before
assigned_by (Assign y known) x before = if variable_is y x then true else before
assigned_by (Assume facts) x before = before
assigned_by (Kill root) x before = before

-- Whether it is after effects, in their order.
abbrev pub assigned_after : List FlowEffect → Variable → Bool → Bool
assigned_after [] x before = before
assigned_after (e ∷ rest) x before = assigned_after rest x (assigned_by e x before)

-- Whether it is assigned after a path. At first no variable is.
abbrev pub assigned_along : Graph → List ℕ → Variable → Bool
assigned_along g [] x = false
assigned_along g (n ∷ path) x = assigned_after (effects_of g n) x (assigned_along g path x)

-- Along every path to the node, before the node's own effects, the variable is assigned (b is true) or unassigned.
abbrev pub IsAlongAll : Graph → ℕ → Variable → Bool → Type 0
IsAlongAll g n x b = (path : List ℕ) → IsPath g (n ∷ path) → assigned_along g path x ≡ b

-- What the status of a variable at a node says. It is the one before the node's own effects.
abbrev pub HasStatus : Graph → ℕ → Variable → Status → Type 0
HasStatus g n x Unassigned = IsReached g n × IsAlongAll g n x false
HasStatus g n x Assigned = IsReached g n × IsAlongAll g n x true
HasStatus g n x Either = IsReached g n × (¬ IsAlongAll g n x false) × (¬ IsAlongAll g n x true)
HasStatus g n x Unreached = ¬ IsReached g n

-- the variable of a number
abbrev pub variable_at : Graph → ℕ → Variable
variable_at g k = slice_index_or g.variables k (Local 0)

pub record IsEdgeWithin (nodes : ℕ) (e : EdgeRow) : Type 0 where
  pub from : e.from < nodes
  pub to : e.to < nodes

-- A graph whose numbers are in range: there is an entry, edges join its nodes, and each variable is listed once.
pub record IsGraph (g : Graph) : Type 0 where
  pub has_order : 0 < length g.order
  pub entry : entry_of g < length g.nodes
  pub edges : All (IsEdgeWithin (length g.nodes)) g.edges
  pub once : (i j : ℕ) → i < length g.variables → j < length g.variables → variable_at g i ≡ variable_at g j → i ≡ j
