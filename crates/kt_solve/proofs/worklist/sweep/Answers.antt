use Rattle.std.proofs.Common.{◌≡◌, ◌<◌, true, false, length, get_or, arith, refl, sym, ◌∙◌}
use borrow.Author.Count.{below_more}
use Rattle.kt_solve.specs.Marks.{is_waiting, mark_at}
use Rattle.kt_solve.proofs.Marking.{advances_then, advances_else, true_not_false}
use Rattle.kt_solve.proofs.Visiting.{done_read}
use Rattle.kt_solve.proofs.worklist.sweep.Goals as goal
use Rattle.kt_solve.proofs.worklist.sweep.Goals.{then-is_waiting+then-visit, else-is_waiting, else-is_waiting-via-then-is_waiting+else-visit, else-is_waiting-via-else-is_waiting}

pub loop-node-preserved : goal.loop-node-preserved
loop-node-preserved g c =
    let i = c.loop-node.invariant in
    let at : get_or c.args.order.now c.loop-node.node-index 0 < c.args.p.now.nodes = c.requires.order c.loop-node.node-index 0 c.loop-node-test.true in
    let hn : get_or c.args.order.now c.loop-node.node-index 0 < length c.loop-node.marks = omega (arith, i.search.witnessed.marks_len, at) in
    elim c.if-is_waiting.branch [
      | then-is_waiting+then-visit w ↦ rw (w.marks-is, w.words-is, w.out-is, w.changed-is) (record {
        search = rw w.visit.auto.out w.visit.ensures.search;
        advances = advances_then c.loop-node.changed c.args.marks.now c.loop-node.marks w.visit.new.marks c.args.words.now c.loop-node.words w.visit.new.words i.advances (rw w.if-visit.true at w.visit.ensures.advances);
        done = λ f. true_not_false true refl f;
      })
      | else-is_waiting w ↦ rw (w.marks-is, w.words-is, w.out-is, w.changed-is) (elim w.else-is_waiting.branch [
        | else-is_waiting-via-then-is_waiting+else-visit w' ↦ rw (w'.marks-is, w'.words-is, w'.out-is) (record {
          search = rw w'.visit.auto.out w'.visit.ensures.search;
          advances = advances_else c.loop-node.changed c.args.marks.now c.loop-node.marks w'.visit.new.marks c.args.words.now c.loop-node.words w'.visit.new.words i.advances (rw w'.if-visit.false at w'.visit.ensures.advances);
          done = λ f. rw (w'.visit.ensures.marks w'.if-visit.false) (done_read c.args.order.now c.loop-node.marks c.loop-node.node-index hn (i.done f));
        })
        | else-is_waiting-via-else-is_waiting w' ↦ rw (w'.marks-is, w'.words-is, w'.out-is) (record {
          search = i.search;
          advances = i.advances;
          done = λ f. below_more (λ k. is_waiting (mark_at c.loop-node.marks (get_or c.args.order.now k 0)) ≡ false) c.loop-node.node-index (i.done f) (sym c.is_waiting.ensures ∙ w'.if-is_waiting.false);
        })
      ])
    ]
