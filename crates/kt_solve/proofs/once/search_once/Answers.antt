use Rattle.std.proofs.Common.{◌≡◌, ◌≢◌, ℕ, ◌<◌, true, false, length, get_or, set, replicate, arith, ap, ◌∙◌, inl, inr}
use Rattle.std.proofs.lemmas.Bool.{cases_eq}
use Rattle.std.proofs.lemmas.List.{length-set, length-replicate}
use Rattle.kt_solve.specs.declared.mark.Mark.TheVariants.{Unreached, Waiting}
use Rattle.kt_solve.specs.Marks.{is_reached}
use Rattle.kt_solve.specs.Words.{word_bit, row_bit}
use Rattle.kt_solve.proofs.Marking.{mark_at-set_same, true_not_false}
use Rattle.kt_solve.proofs.Ordered.{all_edges, apart, loops_by_table, places_below, sweep_begins}
use Rattle.kt_solve.proofs.Solved.{told}
use Rattle.kt_solve.proofs.Starting.{only_entry, row_bit-ones, word_bit-zeros}
use Rattle.kt_solve.proofs.Swept.{once_searched}
use Rattle.kt_solve.proofs.once.search_once.Goals as goal

pub sweep_once-requires-clause-sweep : goal.sweep_once-requires-clause-sweep
sweep_once-requires-clause-sweep g c =
    let p = c.args.p.now in
    let q = c.requires in
    let le : c.args.p.now.entry < length (replicate c.args.p.now.nodes Unreached) = omega (arith, length-replicate c.args.p.now.nodes Unreached, q.over.within.entry) in
    let ones : (n k : ℕ) → n < c.args.p.now.nodes → k < c.args.p.now.pairs → row_bit c.args.words.now (length c.args.out.now) n k ≡ true =
    λ n k h l. rw q.words (row_bit-ones c.args.p.now.nodes (length c.args.out.now) n k h (omega (arith, l, q.over.wide))) in
    let zeros : (k : ℕ) → word_bit c.args.out.now k ≡ false = λ k. rw q.out (word_bit-zeros (length c.args.out.now) k) in
    let others : (n k : ℕ) → n ≢ c.args.p.now.entry → k < c.args.p.now.pairs → row_bit c.start.new.words (length c.args.out.now) n k ≡ row_bit c.args.words.now (length c.args.out.now) n k =
    λ n k ne h. c.start.ensures.others n k (rw c.entry.ensures ne) (omega (arith, h, q.over.wide)) in
    let row : (k : ℕ) → k < c.args.p.now.pairs → row_bit c.start.new.words (length c.args.out.now) c.args.p.now.entry k ≡ word_bit c.args.out.now k =
    λ k h. rw (← c.entry.ensures) (c.start.ensures.row k (omega (arith, h, q.over.wide))) in
    rw (c.start.ensures.marks, c.entry.ensures, q.marks)
    (sweep_begins c.args.p.now (λ n. get_or c.args.places.now n 0) (row_bit c.start.new.words (length c.args.out.now))
    (λ n k hn hq f. elim (cases_eq n c.args.p.now.entry) [
      | inl is ↦ is
      | inr other ↦ true_not_false (row_bit c.start.new.words (length c.args.out.now) n k) (others n k other hq ∙ ones n k hn hq) f
    ])
    (λ k hq. row k hq ∙ zeros k)
    (set (replicate c.args.p.now.nodes Unreached) c.args.p.now.entry Waiting)
    (length-set (replicate c.args.p.now.nodes Unreached) c.args.p.now.entry Waiting ∙ length-replicate c.args.p.now.nodes Unreached)
    (ap is_reached (mark_at-set_same (replicate c.args.p.now.nodes Unreached) c.args.p.now.entry Waiting le))
    (only_entry c.args.p.now))

pub returns-clause-solves : goal.returns-clause-solves
returns-clause-solves g c =
    let q = c.requires in
    let s = c.sweep_once.ensures in
    rw (← c.sweep_once.auto.out) (told c.args.p.now (length c.sweep_once.new.out) c.sweep_once.new.marks c.finish.new.words
    (once_searched c.args.p.now (λ n. get_or c.args.places.now n 0) c.args.p.now.nodes c.sweep_once.new.marks (row_bit c.sweep_once.new.words (length c.sweep_once.new.out)) q.over.within
    (rw c.sweep_once.auto.out s.sweep) (rw c.sweep_once.auto.out s.settled) (places_below c.args.p.now c.args.order.now c.args.places.now q.order q.places)
    (apart c.args.p.now c.args.order.now c.args.places.now q.order q.places) (q.places.at c.args.p.now.entry q.over.within.entry ∙ q.order.first)
    (loops_by_table c.args.p.now c.args.order.now c.args.places.now q.over.within q.places q.loops)
    (row_bit c.finish.new.words (length c.sweep_once.new.out)) c.finish.ensures))

pub returns-clause-steps : goal.returns-clause-steps
returns-clause-steps g c =
    let e = all_edges c.args.p.now c.args.order.now c.requires.over.within c.requires.order in
    omega (arith, e, c.sweep_once.ensures.steps)
