use Rattle.std.proofs.Common.{◌≡◌, ◌-◌, ◌<◌, length, get_or, arith, ap, subst, ◌∙◌}
use Rattle.kt_solve.specs.declared.effect.Edge.{Edge}
use Rattle.kt_solve.specs.Chains.{IsLink, edge_at}
use Rattle.kt_solve.specs.Words.{word_bit, row_bit}
use Rattle.kt_solve.proofs.Marking.{true_not_false}
use Rattle.kt_solve.proofs.Ordered.{edges_last, edges_link}
use Rattle.kt_solve.proofs.Passing.{passing_begins, passing_ends, passing_skips, passing_takes}
use Rattle.kt_solve.proofs.Visiting.{edge_within, next_link, row_fits}
use Rattle.kt_solve.proofs.once.pass.Goals as goal
use Rattle.kt_solve.proofs.once.pass.Goals.{else-is_reached-via-then-is_reached+else-places-to, else-is_reached-via-else-is_reached}

pub loop-link-init : goal.loop-link-init
loop-link-init g c =
    let q = c.requires in
    let lk = c.last_link-link.ensures in
    let none = edges_last c.args.p.now.edges c.args.node c.last_link-link.result lk in
    record {
      within = lk.within;
      lands = lk.lands;
      passing = rw c.is_reached-is_reached.ensures (passing_begins c.args.p.now (λ n. get_or c.args.places.now n 0) c.args.node c.last_link-link.result c.args.marks.now (row_bit c.args.words.now (length c.args.out.now)) (word_bit c.args.out.now) q.pass lk);
      steps = omega (arith, none);
    }

pub spread-changed-requires-clause-row : goal.spread-changed-requires-clause-row
spread-changed-requires-clause-row g c =
    let q = c.requires in
    let t : (edge_at c.args.p.now.edges (c.loop-link.link - 1)).to < c.args.p.now.nodes = edge_within c.args.p.now (c.loop-link.link - 1) q.pass.within (omega arith) in
    let to : c.read-next.result.edge.to < c.args.p.now.nodes = rw c.read-next.ensures.edge t in
    row_fits c.read-next.result.edge.to c.args.p.now.nodes (length c.args.out.now) (length c.loop-link.words) to (omega (arith, c.loop-link.auto.words, q.rows))

pub loop-link-preserved-then-places-to : goal.loop-link-preserved-then-places-to
loop-link-preserved-then-places-to g c =
    let q = c.requires in
    let i = c.loop-link.invariant in
    let h : 0 < c.loop-link.link = c.loop-link-test.true in
    let lk = c.read-next.ensures.before in
    let from = i.lands h in
    let is : c.read-next.result.edge ≡ edge_at c.args.p.now.edges (c.loop-link.link - 1) = c.read-next.ensures.edge in
    let next = next_link c.args.p.now c.args.node c.loop-link.link c.read-next.result.edge c.read-next.result.before i.within from is lk in
    let from_is : c.read-next.result.edge.from ≡ c.args.node = ap (λ (e : Edge). e.from) is ∙ from in
    let more = edges_link c.args.p.now.edges c.args.node c.loop-link.link c.read-next.result.before h i.within from (subst (λ n. IsLink c.args.p.now.edges (c.loop-link.link - 1) n c.read-next.result.before) from_is lk) in
    record {
      within = next.0;
      lands = next.2;
      passing = passing_takes c.args.p.now (λ n. get_or c.args.places.now n 0) c.args.node (row_bit c.args.words.now (length c.args.out.now) c.args.node) (word_bit c.args.out.now) c.loop-link.link c.read-next.result.edge c.read-next.result.before c.is_reached-is_reached.result
          c.loop-link.marks c.spread-changed.new.marks (row_bit c.loop-link.words (length c.args.out.now)) (row_bit c.spread-changed.new.words (length c.args.out.now)) c.spread-changed.result
          q.pass.within i.passing c.if-is_reached.true h i.within from is lk c.if-places-to.true q.pass.after (c.spread-changed.ensures.spreads c.args.p.now.pairs q.wide);
      steps = omega (arith, c.read-next.ensures.steps, i.steps, more);
    }

pub loop-link-preserved : goal.loop-link-preserved
loop-link-preserved g c =
    let q = c.requires in
    let i = c.loop-link.invariant in
    let h : 0 < c.loop-link.link = c.loop-link-test.true in
    let lk = c.read-next.ensures.before in
    let from = i.lands h in
    let is : c.read-next.result.edge ≡ edge_at c.args.p.now.edges (c.loop-link.link - 1) = c.read-next.ensures.edge in
    let next = next_link c.args.p.now c.args.node c.loop-link.link c.read-next.result.edge c.read-next.result.before i.within from is lk in
    let from_is : c.read-next.result.edge.from ≡ c.args.node = ap (λ (e : Edge). e.from) is ∙ from in
    let more = edges_link c.args.p.now.edges c.args.node c.loop-link.link c.read-next.result.before h i.within from (subst (λ n. IsLink c.args.p.now.edges (c.loop-link.link - 1) n c.read-next.result.before) from_is lk) in
    record {
      within = next.0;
      lands = next.2;
      passing = passing_skips c.args.p.now (λ n. get_or c.args.places.now n 0) c.args.node (row_bit c.args.words.now (length c.args.out.now) c.args.node) (word_bit c.args.out.now) c.loop-link.link c.read-next.result.edge c.read-next.result.before c.is_reached-is_reached.result
          c.loop-link.marks (row_bit c.loop-link.words (length c.args.out.now)) i.passing from is lk
          (elim c.else-is_reached.branch [
            | else-is_reached-via-then-is_reached+else-places-to w ↦ λ t on. (let l = w.if-places-to.false in omega (arith, l, on))
            | else-is_reached-via-else-is_reached w ↦ λ t on. true_not_false c.is_reached-is_reached.result t w.if-is_reached.false
          ]);
      steps = omega (arith, c.read-next.ensures.steps, i.steps, more);
    }

pub returns-clause-settled : goal.returns-clause-settled
returns-clause-settled g c =
    let q = c.requires.pass in
    let z : c.loop-link.link ≡ 0 = omega (arith, c.loop-link-test.false) in
    let v = rw z at c.loop-link.invariant.passing in
    passing_ends c.args.p.now (λ n. get_or c.args.places.now n 0) c.args.node (row_bit c.args.words.now (length c.args.out.now) c.args.node) (word_bit c.args.out.now) c.is_reached-is_reached.result c.loop-link.marks (row_bit c.loop-link.words (length c.args.out.now)) q.within v q.alone q.after
