use Rattle.std.proofs.Common.{◌≡◌, ◌++◌, length}
use Rattle.kt_parse.proofs.pending.push_all.Given as goal

abbrev pub invariant-symbols : goal.invariant-symbols
invariant-symbols l = l.rest ++ l.pending ≡ l.symbols ++ l.fn.pending

abbrev pub decreases-symbols : goal.decreases-symbols
decreases-symbols l = length l.rest
