use Rattle.std.proofs.Common.{◌≡◌, false, arith, ap, sym, ◌∙◌}
use Rattle.std.proofs.lemmas.Bool.{not-true}
use Rattle.std.specs.List.{sum}
use Rattle.kt_solve.specs.Marks.{is_reached, mark_at}
use Rattle.kt_solve.proofs.Marking.{weight_falls, weight_reaches}
use Rattle.kt_solve.proofs.worklist.spread.Goals as goal
use Rattle.kt_solve.proofs.worklist.spread.Goals.{then-fell, else-fell}

pub returns-then-not-is_reached-clause-advances : goal.returns-then-not-is_reached-clause-advances
returns-then-not-is_reached-clause-advances c = elim c.if-fell.branch [
  | then-fell w ↦ weight_falls c.args.marks.now c.args.words.now c.meet_row-fell.new.words c.args.to c.requires.node (c.meet_row-fell.ensures.fell w.if-fell.true)
  | else-fell w ↦
      (let same = c.meet_row-fell.ensures.same w.if-fell.false in
      let new : is_reached (mark_at c.args.marks.now c.args.to) ≡ false = sym w.is_reached.ensures ∙ not-true w.is_reached.result (sym w.value-is ∙ c.if-not-is_reached.true) in
      weight_reaches c.args.marks.now c.args.words.now c.meet_row-fell.new.words c.args.to c.requires.node new (omega (arith, ap sum same)))
]
