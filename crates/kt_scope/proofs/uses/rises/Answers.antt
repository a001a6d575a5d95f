use Rattle.kt_scope.proofs.Whole.{rise_more}
use Rattle.kt_scope.proofs.uses.rises.Goals as goal

pub loop-i-preserved : goal.loop-i-preserved
loop-i-preserved c k h = rise_more c.args.rows.now c.loop-i.i c.loop-i-test.true c.loop-i.auto.i c.loop-i.invariant c.if-rows-i.false k h
