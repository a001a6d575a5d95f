use Rattle.std.proofs.Common.{◌≡◌, ◌++◌, length}
use Rattle.kt_parse.proofs.release.spread.Given as goal

abbrev pub invariant-parts : goal.invariant-parts
invariant-parts l = l.parts ++ l.values ≡ l.fn.parts ++ l.fn.values

abbrev pub decreases-parts : goal.decreases-parts
decreases-parts l = length l.parts
