use Rattle.std.specs.Prelude.{◌≡◌, ◌≢◌, ℕ, ◌*◌, ◌<◌, ◌≤◌, Bool, true, false, if◌then◌else◌, ◌&&◌, List, [], ◌∷◌, ◌++◌, length, set}
use Rattle.kt_solve.specs.declared.mark.Mark.{Mark}
use Rattle.kt_solve.specs.declared.mark.Mark.TheVariants.{Waiting}
use Rattle.kt_solve.specs.Chains.{IsChained, edge_at}
use Rattle.kt_solve.specs.Flow.{Flow, HasEdge, IsPath, IsReached, IsWithin, along, after, nothing_set}
use Rattle.kt_solve.specs.Marks.{is_reached, is_read, is_waiting, mark_at, weight}

-- Below, `has node pair` tells the row of a node while the rows are searched: the state before the node's effects.

-- Some path ends at the node, before whose effects the pair is not set.
abbrev pub Misses : Flow → ℕ → ℕ → Type 0
Misses p node pair =
    (front : List ℕ) × IsPath p (front ++ node ∷ []) × (along p front nothing_set pair ≡ false)

-- Some path ends at the node, after whose effects the pair is not set.
abbrev pub MissesAfter : Flow → ℕ → ℕ → Type 0
MissesAfter p node pair =
    (front : List ℕ) × IsPath p (front ++ node ∷ []) × (along p (front ++ node ∷ []) nothing_set pair ≡ false)

-- Each mark and each pair that went from a row has its path.
pub record IsWitnessed (p : Flow) (marks : List Mark) (has : ℕ → ℕ → Bool) : Type 0 where
  pub marks_len : length marks ≡ p.nodes
  pub path : (node : ℕ) → is_reached (mark_at marks node) ≡ true → IsReached p node
  pub unset : (node pair : ℕ) → node < p.nodes → pair < p.pairs → has node pair ≡ false → Misses p node pair
  pub entry : is_reached (mark_at marks p.entry) ≡ true
  pub entry_row : (pair : ℕ) → pair < p.pairs → has p.entry pair ≡ false

-- The node has taken in a state: it is reached, and its row has no pair that the state lacks.
pub record HasTaken (pairs : ℕ) (marks : List Mark) (has : ℕ → ℕ → Bool) (state : ℕ → Bool) (node : ℕ) : Type 0 where
  pub reached : is_reached (mark_at marks node) ≡ true
  pub row : (pair : ℕ) → pair < pairs → has node pair ≡ true → state pair ≡ true

-- What the search keeps: every edge of a node that is marked as read has been taken over.
pub record IsSearch (p : Flow) (marks : List Mark) (has : ℕ → ℕ → Bool) : Type 0 where
  pub witnessed : IsWitnessed p marks has
  pub settled : (a b : ℕ) → HasEdge p a b → is_read (mark_at marks a) ≡ true → HasTaken p.pairs marks has (after p a (has a)) b

-- A row is the state after a node's effects, where `before` is the one before them.
abbrev pub IsAfter : Flow → ℕ → (ℕ → Bool) → (ℕ → Bool) → Type 0
IsAfter p node before out = (pair : ℕ) → pair < p.pairs → out pair ≡ after p node before pair

-- A state goes over one edge into the row of its end.
pub record Spreads (pairs : ℕ) (out : ℕ → Bool) (to : ℕ) (marks marks' : List Mark) (has has' : ℕ → ℕ → Bool) (changed : Bool) : Type 0 where
  pub others : (node pair : ℕ) → node ≢ to → pair < pairs → has' node pair ≡ has node pair
  pub row : (pair : ℕ) → pair < pairs → has' to pair ≡ (has to pair && out pair)
  pub marks_are : marks' ≡ (if changed then set marks to Waiting else marks)
  pub reached : is_reached (mark_at marks' to) ≡ true
  pub same : changed ≡ false → (pair : ℕ) → pair < pairs → has' to pair ≡ has to pair

-- A step lessens the weight where it changed a row or reached a node, and leaves it where it did not.
abbrev pub Advances : Bool → List Mark → List Mark → List ℕ → List ℕ → Type 0
Advances true marks marks' words words' = weight marks' words' < weight marks words
Advances false marks marks' words words' = weight marks' words' ≡ weight marks words

-- While the edges of a node are read: the edges of the other nodes are settled, and those of its own from number `from` on
-- have been taken over. `row` is the row with which the reading began, `out` the state after the effects.
pub record IsVisit (p : Flow) (node : ℕ) (row out : ℕ → Bool) (from : ℕ) (marks : List Mark) (has : ℕ → ℕ → Bool) : Type 0 where
  pub witnessed : IsWitnessed p marks has
  pub others : (a b : ℕ) → a ≢ node → HasEdge p a b → is_read (mark_at marks a) ≡ true → HasTaken p.pairs marks has (after p a (has a)) b
  pub taken : (k : ℕ) → from ≤ k → k < length p.edges → (edge_at p.edges k).from ≡ node → HasTaken p.pairs marks has out (edge_at p.edges k).to
  pub kept : is_read (mark_at marks node) ≡ true → (pair : ℕ) → pair < p.pairs → has node pair ≡ row pair
  pub source : is_reached (mark_at marks node) ≡ true

-- What a search is over: rows one behind another, a buffer for one row, and the effects by node.
pub record IsOver (p : Flow) (first next words out : List ℕ) : Type 0 where
  pub within : IsWithin p
  pub chains : IsChained p.nodes p.effects first next
  pub rows : p.nodes * length out ≤ length words
  pub wide : p.pairs ≤ 64 * length out

abbrev pub IsDone : List Mark → Type 0
IsDone marks = (n : ℕ) → is_waiting (mark_at marks n) ≡ false
