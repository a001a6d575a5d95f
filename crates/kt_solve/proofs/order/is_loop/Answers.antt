use Rattle.kt_solve.proofs.LoopTests.{loop_from, loop_clears}
use Rattle.kt_solve.proofs.order.is_loop.Goals as goal

pub returns : goal.returns
returns g c =
    let q = c.requires in (
      λ t. loop_from c.args.p.now c.args.order.now c.args.places.now q.within q.order q.places c.args.last c.args.head q.last q.head (c.is_closed.ensures.0 c.if-not-is_closed.false) (c.copies_nothing.ensures.0 c.if-not-copies_nothing.false) (c.clears_loop.ensures.0 t),
      λ l. c.clears_loop.ensures.1 (loop_clears c.args.p.now c.args.order.now c.args.places.now q.within q.order q.places c.args.last c.args.head q.last q.head l),
    )
