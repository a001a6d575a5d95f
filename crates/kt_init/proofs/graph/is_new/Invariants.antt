use Rattle.std.proofs.Common.{ℕ, ◌<◌, ◌≢◌}
use Rattle.kt_init.specs.Transfers.{var_at}
use Rattle.kt_init.proofs.graph.is_new.Given as goal

abbrev pub invariant-loop-k : goal.invariant-loop-k
invariant-loop-k l = (j : ℕ) → j < l.k → var_at l.variables j ≢ l.variable
