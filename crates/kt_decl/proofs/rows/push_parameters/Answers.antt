use Rattle.kt_model.specs.Outlines.{parameter_row}
use Rattle.kt_decl.proofs.ListSteps.{push_step}
use Rattle.kt_decl.proofs.rows.push_parameters.Goals as goal

pub loop-p-preserved : goal.loop-p-preserved
loop-p-preserved c =
    push_step (parameter_row c.args.tops.now) _ _ c.p-item.result _ _ _ _ c.loop-p-test.true c.p-item.is c.parameter_row.ensures c.loop-p.invariant c.in_ok-push_row.ensures
