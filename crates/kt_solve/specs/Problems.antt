use Rattle.std.specs.Prelude.{◌≡◌, ℕ, ◌<◌, List, length, slice_index_or, map}
use Rattle.kt_solve.specs.declared.effect.Edge.{Edge}
use Rattle.kt_solve.specs.declared.effect.Effect.{Effect}
use Rattle.kt_solve.specs.declared.problem.LinkedEdge.{LinkedEdge}
use Rattle.kt_solve.specs.Chains.{IsLink}
use Rattle.kt_solve.specs.Flow.{Flow, IsWithin}

abbrev pub edges_in : List LinkedEdge → List Edge
edges_in linked = map (λ (l : LinkedEdge). l.edge) linked

-- the link to the edge that was given before edge k from the same node
abbrev pub before_at : List LinkedEdge → ℕ → ℕ
before_at linked k = (slice_index_or linked k (record { edge = record { from = 0; to = 0 }; before = 0 })).before

abbrev pub flow_of : ℕ → ℕ → ℕ → List LinkedEdge → List Effect → Flow
flow_of nodes pairs entry linked effects = record { nodes = nodes; pairs = pairs; entry = entry; edges = edges_in linked; effects = effects }

-- All numbers are below the counts, and the edges of each node hang together by their links.
pub record IsProblem (nodes pairs entry : ℕ) (linked : List LinkedEdge) (last : List ℕ) (effects : List Effect) : Type 0 where
  pub within : IsWithin (flow_of nodes pairs entry linked effects)
  pub lasts : length last ≡ nodes
  pub last_is : (node : ℕ) → node < nodes → IsLink (edges_in linked) (length (edges_in linked)) node (slice_index_or last node 0)
  pub before_is : (k : ℕ) → k < length (edges_in linked) → IsLink (edges_in linked) k (slice_index_or (edges_in linked) k (record { from = 0; to = 0 })).from (before_at linked k)
