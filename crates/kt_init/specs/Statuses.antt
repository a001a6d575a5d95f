use Rattle.std.specs.Prelude.{◌≡◌, ℕ, ◌+◌, ◌*◌, ◌<◌, ◌≤◌, ◌↔◌, Bool, true, false, IsTrue, List, [], length, map, slice_index_or}
use Rattle.std.specs.List.{range_with_len}
use Rattle.kt_solve.specs.Table.{Table, reached_at as node_reached, holds_at}
use Rattle.kt_model.specs.declared.graph.Graph.{Graph}
use Rattle.kt_model.specs.declared.status.Status.{Status}
use Rattle.kt_model.specs.declared.status.Status.TheVariants.{Unassigned, Assigned, Either, Unreached}
use Rattle.kt_model.specs.NodePaths.{HasStatus, IsReached, variable_at}

-- What an analysis tells: for each node whether it is reached, and for each node and variable its status.
pub record Statuses : Type 0 where
  pub variables : ℕ
  pub reached : List Bool
  pub rows : List (List Status)

abbrev pub reached_at : Statuses → ℕ → Bool
reached_at s node = slice_index_or s.reached node false

abbrev pub status_at : Statuses → ℕ → ℕ → Status
status_at s node variable = slice_index_or (slice_index_or s.rows node []) variable Unreached

-- Each answer is the one that all paths of the graph give, one at a time.
pub record Analyses (g : Graph) (s : Statuses) : Type 0 where
  pub nodes : length s.reached ≡ length g.nodes
  pub variables : s.variables ≡ length g.variables
  pub reached : (node : ℕ) → node < length g.nodes → IsTrue (reached_at s node) ↔ IsReached g node
  pub statuses : (node variable : ℕ) → node < length g.nodes → variable < length g.variables → HasStatus g node (variable_at g variable) (status_at s node variable)

-- The status by what holds before the node's effects: whether the variable has a value, and whether it has none.
abbrev pub status_by : Bool → Bool → Bool → Status
status_by false has lacks = Unreached
status_by true true lacks = Assigned
status_by true false true = Unassigned
status_by true false false = Either

-- The rows that were solved have four pairs for each variable; the last two keep the state before the node's effects.
abbrev pub status_of : ℕ → Table → ℕ → ℕ → Status
status_of variables t node variable =
    status_by (node_reached t node) (holds_at t node (2 * variables + variable)) (holds_at t node (3 * variables + variable))

abbrev pub status_row : ℕ → Table → ℕ → List Status
status_row variables t node = map (status_of variables t node) (range_with_len 0 variables)

abbrev pub statuses_of : ℕ → ℕ → Table → Statuses
statuses_of nodes variables t = record {
  variables = variables;
  reached = map (node_reached t) (range_with_len 0 nodes);
  rows = map (status_row variables t) (range_with_len 0 nodes);
}

pub record HasStatuses (nodes variables : ℕ) (t : Table) : Type 0 where
  pub nodes_within : nodes ≤ length t.reached
  pub pairs : t.pairs ≡ 4 * variables
  pub few : 4 * variables < 4294967296
