use Rattle.kt_solve.proofs.Visiting.{done_all}
use Rattle.kt_solve.proofs.worklist.run.Goals as goal

pub loop-again-preserved : goal.loop-again-preserved
loop-again-preserved g c =
    rw c.sweep-again.auto.out (record {
      search = c.sweep-again.ensures.search;
      done = λ f. done_all c.args.p.now c.args.order.now c.sweep-again.new.marks c.requires.order c.sweep-again.ensures.search.witnessed.marks_len (c.sweep-again.ensures.done f);
    })
