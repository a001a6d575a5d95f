use Rattle.kt_solve.proofs.Bits.{between}
use Rattle.kt_solve.proofs.words.bits_between.Goals as goal

pub returns : goal.returns
returns c = λ i h. between c.args.low c.args.high i c.requires.low c.requires.high h
