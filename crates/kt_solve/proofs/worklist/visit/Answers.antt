use Rattle.std.proofs.Common.{◌≡◌, ◌-◌, ◌*◌, ◌<◌, ◌≤◌, length, set, arith, refl, sym, ◌∙◌}
use Rattle.kt_solve.specs.declared.mark.Mark.TheVariants.{Read}
use Rattle.kt_solve.specs.Chains.{edge_at}
use Rattle.kt_solve.specs.Search.{IsAfter}
use Rattle.kt_solve.specs.Words.{word_bit, row_bit}
use Rattle.kt_solve.proofs.Marking.{progress_more, progress_same, progress_visit}
use Rattle.kt_solve.proofs.Visiting.{after_misses, edge_within, next_link, row_fits, visit_begins, visit_ends, visit_reads}
use Rattle.kt_solve.proofs.worklist.visit.Goals as goal

pub loop-link-init : goal.loop-link-init
loop-link-init g c =
    let q = c.requires in
    let w : length c.apply_row.new.out ≡ length c.args.out.now = c.apply_row.auto.out in
    let a : IsAfter c.args.p.now c.args.node (row_bit c.args.words.now (length c.args.out.now) c.args.node) (word_bit c.apply_row.new.out) = c.apply_row.ensures in
    let lk = c.last_link-link.ensures in
    rw w (record {
      within = lk.within;
      lands = lk.lands;
      visit = visit_begins c.args.p.now c.args.node c.last_link-link.result (word_bit c.apply_row.new.out) c.args.marks.now (row_bit c.args.words.now (length c.args.out.now)) q.search q.node q.reached lk;
      after = a;
      misses = λ k h b. after_misses c.args.p.now c.args.marks.now (row_bit c.args.words.now (length c.args.out.now)) c.args.node k q.over.within q.search.witnessed q.node h q.reached (sym (a k h) ∙ b);
      progress = (refl, refl);
    })

pub spread-requires-clause-row : goal.spread-requires-clause-row
spread-requires-clause-row g c =
    let q = c.requires.over in
    let i = c.loop-link.invariant in
    let t : (edge_at c.args.p.now.edges (c.loop-link.link - 1)).to < c.args.p.now.nodes = edge_within c.args.p.now (c.loop-link.link - 1) q.within (omega arith) in
    let to : c.read-next.result.edge.to < c.args.p.now.nodes = rw c.read-next.ensures.edge t in
    row_fits c.read-next.result.edge.to c.args.p.now.nodes (length c.apply_row.new.out) (length c.loop-link.words) to (rw c.apply_row.auto.out (omega (arith, c.loop-link.auto.words, q.rows)))

pub loop-link-preserved-then-spread : goal.loop-link-preserved-then-spread
loop-link-preserved-then-spread g c =
    let q = c.requires.over in
    let i = c.loop-link.invariant in
    let h : 0 < c.loop-link.link = c.loop-link-test.true in
    let lk = c.read-next.ensures.before in
    let from = i.lands h in
    let is : c.read-next.result.edge ≡ edge_at c.args.p.now.edges (c.loop-link.link - 1) = c.read-next.ensures.edge in
    let wide : c.args.p.now.pairs ≤ 64 * length c.apply_row.new.out = rw c.apply_row.auto.out q.wide in
    let s = c.spread.ensures.spreads c.args.p.now.pairs wide in
    let next = next_link c.args.p.now c.args.node c.loop-link.link c.read-next.result.edge c.read-next.result.before i.within from is lk in
    record {
      within = next.0;
      lands = next.2;
      visit = visit_reads c.args.p.now c.args.node (row_bit c.args.words.now (length c.apply_row.new.out) c.args.node) (word_bit c.apply_row.new.out) c.loop-link.link c.read-next.result.edge c.read-next.result.before
          c.loop-link.marks c.spread.new.marks (row_bit c.loop-link.words (length c.apply_row.new.out)) (row_bit c.spread.new.words (length c.apply_row.new.out)) c.spread.result
          q.within i.visit h i.within from is lk i.misses s;
      after = i.after;
      misses = i.misses;
      progress = progress_more c.loop-link.changed (set c.args.marks.now c.args.node Read) c.loop-link.marks c.spread.new.marks c.args.words.now c.loop-link.words c.spread.new.words i.progress (rw c.if-spread.true at c.spread.ensures.advances);
    }

pub loop-link-preserved : goal.loop-link-preserved
loop-link-preserved g c =
    let q = c.requires.over in
    let i = c.loop-link.invariant in
    let h : 0 < c.loop-link.link = c.loop-link-test.true in
    let lk = c.read-next.ensures.before in
    let from = i.lands h in
    let is : c.read-next.result.edge ≡ edge_at c.args.p.now.edges (c.loop-link.link - 1) = c.read-next.ensures.edge in
    let wide : c.args.p.now.pairs ≤ 64 * length c.apply_row.new.out = rw c.apply_row.auto.out q.wide in
    let s = c.spread.ensures.spreads c.args.p.now.pairs wide in
    let next = next_link c.args.p.now c.args.node c.loop-link.link c.read-next.result.edge c.read-next.result.before i.within from is lk in
    record {
      within = next.0;
      lands = next.2;
      visit = visit_reads c.args.p.now c.args.node (row_bit c.args.words.now (length c.apply_row.new.out) c.args.node) (word_bit c.apply_row.new.out) c.loop-link.link c.read-next.result.edge c.read-next.result.before
          c.loop-link.marks c.spread.new.marks (row_bit c.loop-link.words (length c.apply_row.new.out)) (row_bit c.spread.new.words (length c.apply_row.new.out)) c.spread.result
          q.within i.visit h i.within from is lk i.misses s;
      after = i.after;
      misses = i.misses;
      progress = progress_same c.loop-link.changed (set c.args.marks.now c.args.node Read) c.loop-link.marks c.spread.new.marks c.args.words.now c.loop-link.words c.spread.new.words i.progress (rw c.if-spread.false at s.marks_are) (c.spread.ensures.same c.if-spread.false);
    }

pub returns-clause-search : goal.returns-clause-search
returns-clause-search g c =
    let i = c.loop-link.invariant in
    let z : c.loop-link.link ≡ 0 = omega (arith, c.loop-link-test.false) in
    let v = rw z at i.visit in
    rw (← c.apply_row.auto.out) (visit_ends c.args.p.now c.args.node (row_bit c.args.words.now (length c.apply_row.new.out) c.args.node) (word_bit c.apply_row.new.out) c.loop-link.marks (row_bit c.loop-link.words (length c.apply_row.new.out)) c.requires.over.within v i.after)

pub returns-clause-advances : goal.returns-clause-advances
returns-clause-advances g c =
    progress_visit c.loop-link.changed c.args.marks.now c.loop-link.marks c.args.words.now c.loop-link.words c.args.node (omega (arith, c.requires.search.witnessed.marks_len, c.requires.node)) c.requires.reached c.loop-link.invariant.progress
