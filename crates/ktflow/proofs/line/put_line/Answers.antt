use Rattle.kt_run.proofs.Chain.{front_behind}
use Rattle.ktflow.proofs.LineSteps.{all_behind, front_more}
use Rattle.ktflow.proofs.line.put_line.Goals as goal

pub returns-in-Ok-put_all : goal.returns-in-Ok-put_all
returns-in-Ok-put_all g c =
    all_behind _ _ _ c.args.line.head.now _ c.put_all-in-Ok-put_all.result c.in-Ok.ensures
    (all_behind _ _ _ c.args.line.message.now c.args.line.end.now c.put_all-in-Ok-put_all.result c.in-Ok-put_all.ensures c.put_all-in-Ok-put_all.ensures)

pub returns-in-Err-put_all : goal.returns-in-Err-put_all
returns-in-Err-put_all g c =
    front_behind _ _ _ c.args.line.head.now _ c.in-Ok.ensures (front_more _ _ c.args.line.message.now c.args.line.end.now c.in-Err-put_all.ensures)
