use Rattle.std.specs.Prelude.{◌≡◌, ℕ, ◌*◌, ◌<◌, ◌≤◌, Bool, false, ◌&&◌, ◌↔◌, List, [], length, slice_index_or, map, IsTrue}
use Rattle.std.specs.List.{range_with_len}
use Rattle.kt_solve.specs.declared.mark.Mark.{Mark}
use Rattle.kt_solve.specs.Flow.{Flow, IsReached, Holds}
use Rattle.kt_solve.specs.Marks.{is_reached}
use Rattle.kt_solve.specs.Words.{row_bit}

-- What rows tell: for each node whether it is reached, and for each node and pair whether the pair is set after the
-- node's effects.
pub record Table : Type 0 where
  pub pairs : ℕ
  pub reached : List Bool
  pub rows : List (List Bool)

abbrev pub reached_at : Table → ℕ → Bool
reached_at t node = slice_index_or t.reached node false

abbrev pub set_at : Table → ℕ → ℕ → Bool
set_at t node pair = slice_index_or (slice_index_or t.rows node []) pair false

abbrev pub holds_at : Table → ℕ → ℕ → Bool
holds_at t node pair = reached_at t node && set_at t node pair

-- The rows answer exactly what holds along every path of the problem, both ways.
pub record Solves (p : Flow) (t : Table) : Type 0 where
  pub nodes : length t.reached ≡ p.nodes
  pub pairs : t.pairs ≡ p.pairs
  pub reached : (node : ℕ) → node < p.nodes → IsTrue (reached_at t node) ↔ IsReached p node
  pub holds : (node pair : ℕ) → node < p.nodes → pair < p.pairs → IsTrue (holds_at t node pair) ↔ Holds p node pair

-- what marks and rows of words tell
abbrev pub row_of : ℕ → ℕ → List ℕ → ℕ → List Bool
row_of pairs width words node = map (row_bit words width node) (range_with_len 0 pairs)

abbrev pub table_of : ℕ → ℕ → List Mark → List ℕ → Table
table_of pairs width marks words = record {
  pairs = pairs;
  reached = map is_reached marks;
  rows = map (row_of pairs width words) (range_with_len 0 (length marks));
}

-- a mark for each node, and words for a row of each
pub record AreRows (pairs width : ℕ) (marks : List Mark) (words : List ℕ) : Type 0 where
  pub wide : pairs ≤ 64 * width
  pub rows : length marks * width ≤ length words
