use Rattle.std.proofs.Common.{length, arith, ◌∙◌}
use Rattle.kt_solve.specs.Words.{row_bit}
use Rattle.kt_solve.proofs.Paths.{after_same}
use Rattle.kt_solve.proofs.RowWords.{row_part}
use Rattle.kt_solve.proofs.matrix.apply_row.Goals as goal

pub returns : goal.returns
returns c = λ q h.
    c.apply.ensures q ∙ after_same c.args.p.now c.requires.within c.args.node _ (row_bit c.args.words.now (length c.args.out.now) c.args.node) q h
    (λ r l. row_part c.args.words.now c.args.node (length c.args.out.now) _ r (omega arith) (omega (arith, l, c.requires.wide)))
