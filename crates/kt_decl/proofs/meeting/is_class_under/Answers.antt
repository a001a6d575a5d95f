use Rattle.kt_decl.proofs.RowLemmas.{under_past_same, under_past_other}
use Rattle.kt_decl.proofs.meeting.is_class_under.Goals as goal

pub returns-then-low-high : goal.returns-then-low-high
returns-then-low-high c =
    under_past_same c.args.rows.now c.args.low c.args.high c.in-None.ensures.lookup.0 c.if-low-high.true

pub returns-else-low-high : goal.returns-else-low-high
returns-else-low-high c =
    under_past_other c.args.rows.now c.args.low c.args.high c.in-None.ensures.lookup.0 c.if-low-high.false
