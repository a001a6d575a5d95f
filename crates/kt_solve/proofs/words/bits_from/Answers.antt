use Rattle.std.proofs.Common.{◌/◌}
use Rattle.kt_solve.proofs.WordBits.{joined}
use Rattle.kt_solve.proofs.words.bits_from.Goals as goal

pub returns-else-skipped-eq0 : goal.returns-else-skipped-eq0
returns-else-skipped-eq0 c = λ i h. rw (c.word_at.ensures, c.word_at-else-skipped-eq0.ensures) (joined c.args.words.now c.args.pair i (c.type_inv.words (c.args.pair / 64)).fits h)
