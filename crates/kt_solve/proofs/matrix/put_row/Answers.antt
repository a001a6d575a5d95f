use Rattle.std.proofs.Common.{length, arith, ap}
use Rattle.kt_solve.proofs.RowWords.{rows_others}
use Rattle.kt_solve.proofs.matrix.put_row.Goals as goal

pub returns-clause-others : goal.returns-clause-others
returns-clause-others c = λ n q ne h. rows_others c.args.words.now c.copy_from_slice.new.self c.args.node (length c.args.state.now) _ (omega arith) (ap length c.copy_from_slice.ensures.after) c.requires n q ne h
