use Rattle.std.proofs.Common.{◌≡◌, take}
use Rattle.kt_init.proofs.numbers.number_variables.Given as goal

abbrev pub invariant-loop-variable : goal.invariant-loop-variable
invariant-loop-variable l = l.set.keys ≡ take l.variable-index l.variables
