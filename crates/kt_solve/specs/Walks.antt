use Rattle.std.specs.Prelude.{◌≡◌, ℕ, ◌<◌, ◌≤◌, Bool, true, false, List, length, slice_index_or}
use Rattle.std.specs.List.{All, Contains}
use Rattle.kt_solve.specs.declared.postorder.Progress.{Progress}
use Rattle.kt_solve.specs.declared.postorder.Progress.TheVariants.{Unseen, Open, Left}
use Rattle.kt_solve.specs.Flow.{Flow}

abbrev pub is_left : Progress → Bool
is_left Unseen = false
is_left Open = false
is_left Left = true

-- Every node of the problem stands in the list, and nothing else does.
pub record IsListing (nodes : ℕ) (order : List ℕ) : Type 0 where
  pub within : All (λ (n : ℕ). n < nodes) order
  pub listed : (n : ℕ) → n < nodes → Contains order n

-- A depth-first walk under way: the links of the edges that are still to be read, the open nodes on a stack, and the
-- nodes that were left, in order.
pub record IsWalk (p : Flow) (links : List ℕ) (progress : List Progress) (stack order : List ℕ) : Type 0 where
  pub links_len : length links ≡ p.nodes
  pub links_within : All (λ (link : ℕ). link ≤ length p.edges) links
  pub progress_len : length progress ≡ p.nodes
  pub stack_within : All (λ (n : ℕ). n < p.nodes) stack
  pub order_within : All (λ (n : ℕ). n < p.nodes) order
  pub listed : (n : ℕ) → is_left (slice_index_or progress n Unseen) ≡ true → Contains order n
