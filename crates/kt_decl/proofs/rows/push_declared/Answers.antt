use Rattle.kt_model.specs.Outlines.{member_row}
use Rattle.kt_decl.proofs.ListSteps.{push_step}
use Rattle.kt_decl.proofs.rows.push_declared.Goals as goal

pub loop-m-preserved : goal.loop-m-preserved
loop-m-preserved c =
    let around = c.args.around.now in
    push_step (member_row (record { file = around.file.now; above = around.above.now; parameters = around.parameters.now }) c.args.in_interface) _ _ c.m-item.result _ _ _ _ c.loop-m-test.true c.m-item.is c.in_ok-member_row.ensures c.loop-m.invariant c.in_ok-push_row.ensures
