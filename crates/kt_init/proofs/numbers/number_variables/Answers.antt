use Rattle.std.proofs.Common.{◌∙◌, refl}
use Rattle.kt_init.proofs.Variables.{numbered_more}
use Rattle.kt_init.proofs.numbers.number_variables.Goals as goal

pub loop-variable-preserved : goal.loop-variable-preserved
loop-variable-preserved c = rw c.loop-variable.invariant at c.in_ok-insert_full.ensures.keys ∙ numbered_more c.args.variables.now c.loop-variable.variable-index _ c.loop-variable-test.true refl c.requires
