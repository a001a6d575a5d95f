use Rattle.std.proofs.Common.{◌≡◌, vec_len}
use Rattle.kt_decl.proofs.aboves.nothing_above.Given as goal

abbrev pub invariant-loop : goal.invariant-loop
invariant-loop l = vec_len l.aboves ≡ l.counter
