use Rattle.kt_init.proofs.Analysed.{analysed}
use Rattle.kt_init.proofs.init.analyse.Goals as goal

pub returns : goal.returns
returns c = rw (c.in-Some.ensures.nodes, c.in-Some.ensures.variables) (analysed c.args.g.now c.in-Ok.problem c.in-Ok-solve.rows c.requires c.in-Ok.ensures c.in-Ok-solve.ensures)
