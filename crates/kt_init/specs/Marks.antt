-- Which trees have a node that begins them, and which of these is reached, as lists of numbers.
use Rattle.std.specs.Prelude.{◌≡◌, ℕ, ◌<◌, ◌↔◌, Bool, true, false, not, ◌&&◌, IsTrue, List, [], ◌∷◌, ◌++◌, nat_eq, if◌then◌else◌}
use Rattle.std.specs.List.{list_any}
use Rattle.kt_model.specs.declared.graph.Graph.{Graph}
use Rattle.kt_model.specs.declared.graph.NodeRow.{NodeRow}
use Rattle.kt_tree.specs.declared.token.Span.{Span}
use Rattle.kt_model.specs.declared.dead.Dead.{Dead}
use Rattle.kt_init.specs.declared.marks.Marks.{Marks}
use Rattle.kt_model.specs.DeadTrees.{Begins, is_begin}
use Rattle.kt_init.specs.Statuses.{Statuses, reached_at}

abbrev pub is_among : List ℕ → ℕ → Bool
is_among keys n = list_any (nat_eq n) keys

abbrev pub dead_in : (begun entered : List ℕ) → ℕ → Bool
dead_in begun entered tree = is_among begun tree && not (is_among entered tree)

-- the tree, where it is dead
abbrev pub told_if : Bool → ℕ → Span → List Dead
told_if true tree at = record { tree = tree; span = at } ∷ []
told_if false tree at = []

abbrev pub dead_by : Marks → ℕ → Bool
dead_by m = dead_in m.begun.keys m.entered.keys

-- the trees that are marked, after a node
abbrev pub marked : Bool → NodeRow → List ℕ → List ℕ
marked here row keys = if is_begin row.tag && here then (if is_among keys row.tree then keys else keys ++ row.tree ∷ []) else keys

-- what the nodes below n have marked
pub record AreMarked (g : Graph) (s : Statuses) (n : ℕ) (begun entered : List ℕ) : Type 0 where
  pub has_begun : (tree : ℕ) → IsTrue (is_among begun tree) ↔ ((place : ℕ) × (place < n) × Begins g tree place)
  pub has_entered : (tree : ℕ) → IsTrue (is_among entered tree) ↔ ((place : ℕ) × (place < n) × (Begins g tree place × IsTrue (reached_at s place)))
