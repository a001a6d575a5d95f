use Rattle.std.specs.Prelude.{◌≡◌, ◌≢◌, ℕ, ◌+◌, ◌-◌, ◌<◌, ◌≤◌, List, length, slice_index_or}
use Rattle.kt_solve.specs.declared.effect.Transfer.TheVariants.{Keep}
use Rattle.kt_solve.specs.declared.effect.Edge.{Edge}
use Rattle.kt_solve.specs.declared.effect.Effect.{Effect}

-- The edge of a number; past the end one from node 0 to node 0.
abbrev pub edge_at : List Edge → ℕ → Edge
edge_at es k = slice_index_or es k (record { from = 0; to = 0 })

-- The last edge of the node among the first k edges: its number and one, or 0 where there is none.
pub record IsLink (es : List Edge) (k node link : ℕ) : Type 0 where
  pub within : link ≤ k
  pub lands : 0 < link → (edge_at es (link - 1)).from ≡ node
  pub gap : (j : ℕ) → link ≤ j → j < k → (edge_at es j).from ≢ node

-- The effect of a number; past the end one that says nothing.
abbrev pub effect_at : List Effect → ℕ → Effect
effect_at es k = slice_index_or es k (record { node = 0; first = 0; count = 0; transfer = Keep })

-- The first effect of the node from number k on: its number, or the length where there is none.
pub record IsNext (es : List Effect) (k node at : ℕ) : Type 0 where
  pub beyond : k ≤ at
  pub within : at ≤ length es
  pub lands : at < length es → (effect_at es at).node ≡ node
  pub gap : (j : ℕ) → k ≤ j → j < at → (effect_at es j).node ≢ node

-- The first effect of each node, and for each effect the next one of its node.
pub record IsChained (nodes : ℕ) (es : List Effect) (first next : List ℕ) : Type 0 where
  pub firsts : length first ≡ nodes
  pub nexts : length next ≡ length es
  pub first_is : (node : ℕ) → node < nodes → IsNext es 0 node (slice_index_or first node 0)
  pub next_is : (k : ℕ) → k < length es → IsNext es (k + 1) (effect_at es k).node (slice_index_or next k 0)
