use Rattle.std.proofs.Common.{◌/◌, ◌&&◌, length, arith, ap, ◌∙◌}
use Rattle.std.proofs.lemmas.List.{length-take, length-drop}
use Rattle.kt_solve.specs.Words.{word_bit}
use Rattle.kt_solve.proofs.RowWords.{rows_others, rows_row, rows_sum, row_part}
use Rattle.kt_solve.proofs.WordBits.{met}
use Rattle.kt_solve.proofs.matrix.meet_row.Goals as goal

pub returns-clause-others : goal.returns-clause-others
returns-clause-others c = λ n q ne h. rows_others c.args.words.now c.meet_changes.new.into c.args.node (length c.args.state.now) _ (omega arith) (c.meet_changes.auto.into ∙ simp (length-take, length-drop) (omega arith)) c.requires n q ne h

pub returns-clause-row : goal.returns-clause-row
returns-clause-row c = λ q h.
    rows_row c.args.words.now c.meet_changes.new.into c.args.node (length c.args.state.now) _ (omega arith) (c.meet_changes.auto.into ∙ simp (length-take, length-drop) (omega arith)) c.requires q h
    ∙ met _ c.args.state.now c.meet_changes.new.into q (c.meet_changes.ensures.words (q / 64))
    ∙ ap (λ b. b && word_bit c.args.state.now q) (row_part c.args.words.now c.args.node (length c.args.state.now) _ q (omega arith) h)

pub returns-clause-fell : goal.returns-clause-fell
returns-clause-fell c = λ t. rows_sum c.args.words.now c.meet_changes.new.into c.args.node (length c.args.state.now) _ (omega arith) (c.meet_changes.auto.into ∙ simp (length-take, length-drop) (omega arith)) c.requires (c.meet_changes.ensures.fell t)
