use Rattle.std.specs.Prelude.{◌≡◌, ℕ, suc, ◌<◌, ◌≤◌, if◌then◌else◌, nat_eq, List, [], ◌∷◌, length, slice_index_or}
use Rattle.std.specs.List.{All}
use Rattle.kt_solve.specs.declared.effect.Transfer.{Transfer}
use Rattle.kt_solve.specs.declared.effect.Transfer.TheVariants.{Keep, Set, Clear, CopyFrom}
use Rattle.kt_solve.specs.Flow.{Flow, HasEdge, transfer_of}

-- Orders in which one sweep over the edges is enough. All of this is this project's own.

-- Where a node stands in an order; the length where it doesn't.
abbrev pub place_of : List ℕ → ℕ → ℕ
place_of [] node = 0
place_of (x ∷ rest) node = if nat_eq x node then 0 else suc (place_of rest node)

-- The order lists each node once, the entry first.
pub record IsOrder (p : Flow) (order : List ℕ) : Type 0 where
  pub len : length order ≡ p.nodes
  pub within : All (λ (n : ℕ). n < p.nodes) order
  pub listed : (n : ℕ) → n < p.nodes → place_of order n < length order
  pub once : (i : ℕ) → i < length order → place_of order (slice_index_or order i 0) ≡ i
  pub first : place_of order p.entry ≡ 0

-- A transfer that can take a pair away: it clears the pair or copies into it.
abbrev pub CanLose : Transfer → Type 0
CanLose Keep = ⊥
CanLose Set = ⊥
CanLose Clear = Unit {0}
CanLose (CopyFrom source) = Unit {0}

abbrev pub CopiesNothing : Transfer → Type 0
CopiesNothing Keep = Unit {0}
CopiesNothing Set = Unit {0}
CopiesNothing Clear = Unit {0}
CopiesNothing (CopyFrom source) = ⊥

-- What an edge from u back to v asks: no edge leads from a place before v to a place after v and up to u, v copies
-- nothing, and every pair that a node from v up to u, both included, can lose is cleared at v.
pub record IsLoop (p : Flow) (place : ℕ → ℕ) (u v : ℕ) : Type 0 where
  pub entered : (a b : ℕ) → HasEdge p a b → place a < place v → place v < place b → place b ≤ place u → ⊥
  pub no_copy : (pair : ℕ) → pair < p.pairs → CopiesNothing (transfer_of p v pair)
  pub cleared : (x pair : ℕ) → x < p.nodes → pair < p.pairs → place v ≤ place x → place x ≤ place u → CanLose (transfer_of p x pair) → transfer_of p v pair ≡ Clear

-- Each edge from a node to one at an earlier or the same place is such an edge back.
abbrev pub HasLoops : Flow → (ℕ → ℕ) → Type 0
HasLoops p place = (u v : ℕ) → HasEdge p u v → place v ≤ place u → IsLoop p place u v

-- What `solve_once` needs of an order.
pub record CanSolveOnce (p : Flow) (order : List ℕ) : Type 0 where
  pub order_is : IsOrder p order
  pub loops : HasLoops p (place_of order)
