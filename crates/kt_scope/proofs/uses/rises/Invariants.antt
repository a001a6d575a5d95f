use Rattle.std.proofs.Common.{ℕ, ◌+◌, ◌<◌, map, slice_index}
use Rattle.kt_scope.proofs.uses.rises.Given as goal

abbrev pub invariant-loop-i : goal.invariant-loop-i
invariant-loop-i l = (k : ℕ) → k + 1 < l.i → slice_index (map (λ row. row.tree) l.rows) k < slice_index (map (λ row. row.tree) l.rows) (k + 1)
