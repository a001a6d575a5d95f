use Rattle.std.proofs.Common.{refl}
use Rattle.kt_run.proofs.Chain.{front_behind}
use Rattle.kt_run.proofs.built_ins.print_line.Goals as goal

pub returns-in-Err-put_all : goal.returns-in-Err-put_all
returns-in-Err-put_all g c = (refl, front_behind _ _ _ _ _ c.in-Ok.ensures c.in-Err-put_all.ensures)
