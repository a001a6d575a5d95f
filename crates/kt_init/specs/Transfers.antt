use Rattle.std.specs.Prelude.{◌≡◌, ℕ, ◌+◌, ◌-◌, ◌*◌, ◌<◌, ◌≤◌, Bool, true, false, not, ◌&&◌, List, [], ◌∷◌, ◌++◌, Option, Some, None, length, map, nat_eq, nat_le, nat_lt, slice_index_or, if◌then◌else◌}
use Rattle.kt_model.specs.declared.graph.EdgeRow.{EdgeRow}
use Rattle.kt_model.specs.declared.graph.FlowEffect.{FlowEffect}
use Rattle.kt_model.specs.declared.graph.FlowEffect.TheVariants.{Read, Declare, Assign, Assume, Kill}
use Rattle.kt_model.specs.declared.graph.Graph.{Graph}
use Rattle.kt_model.specs.declared.graph.Variable.{Variable}
use Rattle.kt_model.specs.declared.graph.Variable.TheVariants.{Local}
use Rattle.kt_model.specs.NodePaths.{effects_of, entry_of, variable_at, variable_is}
use Rattle.kt_solve.specs.declared.effect.Edge.{Edge}
use Rattle.kt_solve.specs.declared.effect.Transfer.{Transfer}
use Rattle.kt_solve.specs.declared.effect.Transfer.TheVariants.{Keep, Set, Clear, CopyFrom}
use Rattle.kt_solve.specs.Flow.{Flow, transfer_of}

abbrev pub edge_of : EdgeRow → Edge
edge_of e = record { from = e.from; to = e.to }

abbrev pub transfer_to : Bool → Transfer
transfer_to true = Set
transfer_to false = Clear

-- what "has a value" (side is true) or "has none" becomes where a variable is assigned, or declared (assigns is false)
abbrev pub side_of : Bool → Bool → Bool
side_of true assigns = assigns
side_of false assigns = not assigns

abbrev pub marked : Bool → Bool → Bool → Transfer → Transfer
marked side assigns here t = if here then transfer_to (side_of side assigns) else t

-- the variable that an effect speaks of, and whether it is assigned there
abbrev pub change_in : FlowEffect → Option (Variable × Bool)
change_in (Read y) = None
change_in (Declare y) = Some (y, false)
change_in (Assign y known) = Some (y, true)
change_in (Assume facts) = None
change_in (Kill root) = None

-- the transfer of a side of a variable after one effect, and after several in their order
abbrev pub change_transfer : Bool → Option (Variable × Bool) → Variable → Transfer → Transfer
change_transfer side None x t = t
change_transfer side (Some change) x t = marked side change.1 (variable_is change.0 x) t

abbrev pub effect_transfer : Bool → FlowEffect → Variable → Transfer → Transfer
effect_transfer side e x t = change_transfer side (change_in e) x t

abbrev pub side_transfer : Bool → List FlowEffect → Variable → Transfer → Transfer
side_transfer side [] x t = t
side_transfer side (e ∷ rest) x t = side_transfer side rest x (effect_transfer side e x t)

-- the numbers of a problem stay, and its edges
pub record SameFrame (p q : Flow) : Type 0 where
  pub nodes : q.nodes ≡ p.nodes
  pub pairs : q.pairs ≡ p.pairs
  pub entry : q.entry ≡ p.entry
  pub edges : q.edges ≡ p.edges

-- each node below n copies the first half of the pairs to the second
abbrev pub AddsCopies : ℕ → ℕ → Flow → Flow → Type 0
AddsCopies n half p q =
    (node pair : ℕ) → transfer_of q node pair ≡ (if nat_lt node n && (nat_le half pair && nat_lt pair (half + half)) then CopyFrom (pair - half) else transfer_of p node pair)

abbrev pub var_at : List Variable → ℕ → Variable
var_at vars v = slice_index_or vars v (Local 0)

-- each variable is listed once
abbrev pub IsOnce : List Variable → Type 0
IsOnce vars = (i j : ℕ) → i < length vars → j < length vars → var_at vars i ≡ var_at vars j → i ≡ j

-- a variable is marked at a node
pub record AddsMark (vars : List Variable) (node : ℕ) (x : Variable) (assigns : Bool) (p q : Flow) : Type 0 where
  pub has : (n v : ℕ) → v < length vars → transfer_of q n v ≡ marked true assigns (nat_eq node n && variable_is x (var_at vars v)) (transfer_of p n v)
  pub lacks : (n v : ℕ) → v < length vars → transfer_of q n (length vars + v) ≡ marked false assigns (nat_eq node n && variable_is x (var_at vars v)) (transfer_of p n (length vars + v))
  pub above : (n pair : ℕ) → length vars + length vars ≤ pair → transfer_of q n pair ≡ transfer_of p n pair

-- the effects of a node are marked there
pub record AddsEffects (vars : List Variable) (node : ℕ) (effects : List FlowEffect) (p q : Flow) : Type 0 where
  pub has : (v : ℕ) → v < length vars → transfer_of q node v ≡ side_transfer true effects (var_at vars v) (transfer_of p node v)
  pub lacks : (v : ℕ) → v < length vars → transfer_of q node (length vars + v) ≡ side_transfer false effects (var_at vars v) (transfer_of p node (length vars + v))
  pub above : (pair : ℕ) → length vars + length vars ≤ pair → transfer_of q node pair ≡ transfer_of p node pair
  pub others : (n pair : ℕ) → (node ≡ n → ⊥) → transfer_of q n pair ≡ transfer_of p n pair

-- and those of each node below n
pub record AddsNodes (g : Graph) (n : ℕ) (p q : Flow) : Type 0 where
  pub has : (m v : ℕ) → m < n → v < length g.variables → transfer_of q m v ≡ side_transfer true (effects_of g m) (variable_at g v) (transfer_of p m v)
  pub lacks : (m v : ℕ) → m < n → v < length g.variables → transfer_of q m (length g.variables + v) ≡ side_transfer false (effects_of g m) (variable_at g v) (transfer_of p m (length g.variables + v))
  pub above : (m pair : ℕ) → length g.variables + length g.variables ≤ pair → transfer_of q m pair ≡ transfer_of p m pair
  pub others : (m pair : ℕ) → n ≤ m → transfer_of q m pair ≡ transfer_of p m pair

-- The problem of a graph: a node before the entry, where no variable has a value; two pairs for each variable, and
-- behind them two that keep the state before the node's effects.
pub record IsProblemOf (g : Graph) (p : Flow) : Type 0 where
  pub nodes : p.nodes ≡ length g.nodes + 1
  pub pairs : p.pairs ≡ 4 * length g.variables
  pub entry : p.entry ≡ length g.nodes
  pub edges : p.edges ≡ map edge_of g.edges ++ record { from = length g.nodes; to = entry_of g } ∷ []
  pub has : (n v : ℕ) → n < length g.nodes → v < length g.variables → transfer_of p n v ≡ side_transfer true (effects_of g n) (variable_at g v) Keep
  pub lacks : (n v : ℕ) → n < length g.nodes → v < length g.variables → transfer_of p n (length g.variables + v) ≡ side_transfer false (effects_of g n) (variable_at g v) Keep
  pub copies : (n q : ℕ) → n < length g.nodes → q < 2 * length g.variables → transfer_of p n (2 * length g.variables + q) ≡ CopyFrom q
  pub start_has : (v : ℕ) → v < length g.variables → transfer_of p (length g.nodes) v ≡ Keep
  pub start_lacks : (v : ℕ) → v < length g.variables → transfer_of p (length g.nodes) (length g.variables + v) ≡ Set
