use Rattle.std.proofs.Common.{◌≡◌, ◌≢◌, ℕ, ◌*◌, ◌<◌, ◌≤◌, length, arith, ◌∙◌}
use borrow.Author.Count.{below_more}
use Rattle.kt_solve.specs.Search.{IsAfter}
use Rattle.kt_solve.specs.Words.{row_bit}
use Rattle.kt_solve.proofs.Paths.{after_same}
use Rattle.kt_solve.proofs.worklist.finish.Goals as goal

pub loop-node-preserved : goal.loop-node-preserved
loop-node-preserved c =
    let i = c.loop-node.invariant in
    let node : ℕ = c.loop-node.node in
    let hn : c.loop-node.node < c.args.p.now.nodes = omega (arith, c.nodes-node-end.ensures, c.loop-node-test.true) in
    let w : length c.apply_row.new.out ≡ length c.loop-node.out = c.apply_row.auto.out in
    let wide : c.args.p.now.pairs ≤ 64 * length c.loop-node.out = omega (arith, c.requires.wide, c.loop-node.auto.out) in
    let others = rw w at c.put_row.ensures.others in
    let row = rw w at c.put_row.ensures.row in
    rw w (record {
      below = below_more (λ n. IsAfter c.args.p.now n (row_bit c.args.words.now (length c.loop-node.out) n) (row_bit c.put_row.new.words (length c.loop-node.out) n)) c.loop-node.node
          (λ n l q h. let ne : n ≢ c.loop-node.node = omega arith in others n q ne (omega (arith, wide, h)) ∙ i.below n l q h)
          (λ q h. row q (omega (arith, wide, h)) ∙ c.apply_row.ensures q h
          ∙ after_same c.args.p.now c.requires.within node (row_bit c.loop-node.words (length c.loop-node.out) node) (row_bit c.args.words.now (length c.loop-node.out) node) q h (λ r l. i.above node r (omega arith) l));
      above = λ n q l h. let ne : n ≢ c.loop-node.node = omega arith in others n q ne (omega (arith, wide, h)) ∙ i.above n q (omega arith) h;
    })
