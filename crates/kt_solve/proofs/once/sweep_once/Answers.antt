use Rattle.std.proofs.Common.{◌<◌, length, arith}
use Rattle.kt_solve.specs.Words.{word_bit, row_bit}
use Rattle.kt_solve.proofs.Ordered.{at_node, can_pass, edges_more}
use Rattle.kt_solve.proofs.once.sweep_once.Goals as goal

pub pass-requires-clause-pass : goal.pass-requires-clause-pass
pass-requires-clause-pass g c =
    let q = c.requires in
    let i = c.loop-node.invariant in
    let hk : c.loop-node.node-index < c.args.p.now.nodes = omega (arith, q.order.len, c.loop-node-test.true) in
    rw c.apply_row.auto.out (can_pass c.args.p.now c.args.order.now c.args.places.now c.loop-node.node-index c.loop-node.marks (row_bit c.loop-node.words (length c.loop-node.out)) (word_bit c.apply_row.new.out)
    q.over.within q.order q.places hk i.sweep i.settled c.apply_row.ensures)

pub loop-node-preserved : goal.loop-node-preserved
loop-node-preserved g c =
    let q = c.requires in
    let i = c.loop-node.invariant in
    let hk : c.loop-node.node-index < c.args.p.now.nodes = omega (arith, q.order.len, c.loop-node-test.true) in
    let at = at_node c.args.p.now c.args.order.now c.args.places.now c.loop-node.node-index q.order q.places hk in
    let m = edges_more c.args.p.now.edges c.args.order.now c.loop-node.node-index (omega (arith, q.order.len, hk)) in
    record {
      sweep = rw at at c.pass.ensures.sweep;
      settled = rw at at c.pass.ensures.settled;
      steps = omega (arith, c.pass.ensures.steps, i.steps, m);
    }
