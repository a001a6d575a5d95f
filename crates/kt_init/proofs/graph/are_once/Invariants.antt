use Rattle.std.proofs.Common.{ℕ, ◌<◌, ◌≢◌}
use Rattle.kt_init.specs.Transfers.{var_at}
use Rattle.kt_init.proofs.graph.are_once.Given as goal

abbrev pub invariant-loop-place : goal.invariant-loop-place
invariant-loop-place l = (j k : ℕ) → j < k → k < l.place → var_at l.variables j ≢ var_at l.variables k
