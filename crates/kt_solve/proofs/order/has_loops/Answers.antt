use Rattle.std.proofs.Common.{arith, refl, sym, ◌∙◌, ◌<◌, length}
use Rattle.kt_solve.proofs.LoopTests.{loops_all, loops_fail, loops_more}
use Rattle.kt_solve.proofs.Marking.{true_not_false}
use Rattle.kt_solve.proofs.order.has_loops.Goals as goal
use Rattle.kt_solve.proofs.order.has_loops.Goals.{else-head-last-via-then-head-last+else-not-is_loop, else-head-last-via-else-head-last}

pub returns-then-not-is_loop : goal.returns-then-not-is_loop
returns-then-not-is_loop g c =
    let q = c.requires in
    let h : c.loop-k.k < length c.args.p.now.edges = omega (arith, c.edge_count-k-end.ensures, c.loop-k-test.true) in (
      λ t. true_not_false _ t refl,
      λ all. sym c.if-not-is_loop.true ∙ c.is_loop.ensures.1 (loops_fail c.args.p.now c.args.order.now c.args.places.now q.within q.order q.places c.loop-k.k c.read.result.edge c.read.ensures.edge h c.if-head-last.true all),
    )

pub loop-k-preserved : goal.loop-k-preserved
loop-k-preserved g c =
    let q = c.requires in
    let h : c.loop-k.k < length c.args.p.now.edges = omega (arith, c.edge_count-k-end.ensures, c.loop-k-test.true) in
    loops_more c.args.p.now c.args.order.now c.args.places.now q.within q.order q.places c.loop-k.k c.read.result.edge c.read.ensures.edge h
    (elim c.else-head-last.branch [
      | else-head-last-via-then-head-last+else-not-is_loop w ↦ λ _. w.is_loop.ensures.0 w.if-not-is_loop.false
      | else-head-last-via-else-head-last w ↦ λ back. (let f = w.if-head-last.false in absurd (omega (arith, f, back)))
    ])
    c.loop-k.invariant

pub returns : goal.returns
returns g c =
    let q = c.requires in (
      λ _. loops_all c.args.p.now c.args.order.now c.args.places.now q.within q.order q.places c.loop-k.k (omega (arith, c.edge_count-k-end.ensures, c.loop-k-test.false)) c.loop-k.invariant,
      λ _. refl,
    )
