use Rattle.std.proofs.lemmas.Bool.{iff_false}
use Rattle.kt_solve.proofs.Sums.{meet_falls}
use Rattle.kt_solve.proofs.lanes.meet_changes.Goals as goal

pub returns-clause-fell : goal.returns-clause-fell
returns-clause-fell c = λ _. meet_falls c.args.into.now c.args.from.now c.meet.new.into c.meet.auto.into c.meet.ensures (iff_false c.is_within.ensures c.if-is_within.false)
