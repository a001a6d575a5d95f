use Rattle.std.specs.Prelude.{◌≡◌, ℕ, ◌+◌, ◌<◌, ◌≤◌, ◌⊎◌, Bool, true, false, nat_eq, List, length, slice_index_or}
use Rattle.std.specs.List.{count_by, sum_by}
use Rattle.kt_solve.specs.declared.effect.Edge.{Edge}
use Rattle.kt_solve.specs.declared.mark.Mark.{Mark}
use Rattle.kt_solve.specs.Chains.{edge_at}
use Rattle.kt_solve.specs.Flow.{Flow, HasEdge, IsWithin, after}
use Rattle.kt_solve.specs.Marks.{is_reached, mark_at}
use Rattle.kt_solve.specs.Orders.{place_of}
use Rattle.kt_solve.specs.Search.{HasTaken, IsAfter}

-- Where a mark or a missing pair came from: the entry, or an edge onwards from a reached node whose edges have been
-- read, those at places below `done`.
abbrev pub IsBehind : Flow → (ℕ → ℕ) → ℕ → List Mark → ℕ → ℕ → Type 0
IsBehind p place done marks x a = HasEdge p a x × (place a < place x) × (place a < done) × (is_reached (mark_at marks a) ≡ true)

-- A sweep in which the edges of the nodes at places below `done` have been read.
pub record IsSweep (p : Flow) (place : ℕ → ℕ) (done : ℕ) (marks : List Mark) (has : ℕ → ℕ → Bool) : Type 0 where
  pub marks_len : length marks ≡ p.nodes
  pub entry : is_reached (mark_at marks p.entry) ≡ true
  pub entry_row : (pair : ℕ) → pair < p.pairs → has p.entry pair ≡ false
  pub reach : (x : ℕ) → is_reached (mark_at marks x) ≡ true → (x ≡ p.entry) ⊎ ((a : ℕ) × IsBehind p place done marks x a)
  pub unset : (x pair : ℕ) → x < p.nodes → pair < p.pairs → has x pair ≡ false
      → (x ≡ p.entry) ⊎ ((a : ℕ) × IsBehind p place done marks x a × (after p a (has a) pair ≡ false))

-- The edges onwards of the nodes at places below `done` have been taken over.
pub record IsSettledBelow (p : Flow) (place : ℕ → ℕ) (done : ℕ) (marks : List Mark) (has : ℕ → ℕ → Bool) : Type 0 where
  pub settled : (a b : ℕ) → HasEdge p a b → place a < done → place a < place b → is_reached (mark_at marks a) ≡ true → HasTaken p.pairs marks has (after p a (has a)) b

-- What reading the edges of a node needs.
pub record CanPass (p : Flow) (place : ℕ → ℕ) (n : ℕ) (marks : List Mark) (has : ℕ → ℕ → Bool) (out : ℕ → Bool) : Type 0 where
  pub within : IsWithin p
  pub node : n < p.nodes
  pub alone : (x : ℕ) → x < p.nodes → place x ≡ place n → x ≡ n
  pub sweep : IsSweep p place (place n) marks has
  pub settled : IsSettledBelow p place (place n) marks has
  pub after : IsAfter p n (has n) out

-- While they are read: those from number `from` on have been taken over where the node was reached.
pub record IsPassing (p : Flow) (place : ℕ → ℕ) (n : ℕ) (row out : ℕ → Bool) (from : ℕ) (was : Bool) (marks : List Mark) (has : ℕ → ℕ → Bool) : Type 0 where
  pub sweep : IsSweep p place (place n + 1) marks has
  pub settled : IsSettledBelow p place (place n) marks has
  pub taken : (k : ℕ) → from ≤ k → k < length p.edges → (edge_at p.edges k).from ≡ n → was ≡ true → place n < place (edge_at p.edges k).to → HasTaken p.pairs marks has out (edge_at p.edges k).to
  pub kept : (pair : ℕ) → pair < p.pairs → has n pair ≡ row pair
  pub same : is_reached (mark_at marks n) ≡ was

-- the places of the nodes, by node
pub record ArePlaces (order places : List ℕ) (nodes : ℕ) : Type 0 where
  pub len : length places ≡ nodes
  pub at : (n : ℕ) → n < nodes → slice_index_or places n 0 ≡ place_of order n

-- how many of some edges a node has
abbrev pub edges_from : List Edge → ℕ → ℕ
edges_from es node = count_by (λ (e : Edge). nat_eq e.from node) es

-- how many of some edges the nodes of a list have
abbrev pub edges_of : List Edge → List ℕ → ℕ
edges_of es nodes = sum_by (edges_from es) nodes
