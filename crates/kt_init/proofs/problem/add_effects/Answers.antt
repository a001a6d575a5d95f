use Rattle.std.proofs.Common.{◌≡◌, get_or, ap, sym, ◌∙◌}
use Rattle.kt_init.specs.Transfers.{change_in}
use Rattle.kt_init.proofs.Push.{effects_mark, effects_skip, frame_then}
use Rattle.kt_init.proofs.problem.add_effects.Goals as goal
use Rattle.kt_init.proofs.problem.add_effects.Goals.{in-Some+in_ok-add_mark, in_default}

pub loop-effect-preserved : goal.loop-effect-preserved
loop-effect-preserved c =
    let i = c.loop-effect.invariant in
    let change : change_in (get_or c.args.effects.now c.loop-effect.effect-index c.effect-item.result) ≡ c.change_of.result = ap change_in (sym c.effect-item.is) ∙ sym c.change_of.ensures in
    elim c.match-change_of.branch [
      | in-Some+in_ok-add_mark w ↦ rw w.problem-is (record {
        frame = frame_then c.args.problem.now c.loop-effect.problem w.add_mark.new.problem i.frame w.in_ok-add_mark.ensures.frame;
        effects = effects_mark c.args.numbers.now.variables.keys c.args.node c.loop-effect.effect-index c.args.effects.now c.effect-item.result w.in-Some.variable w.in-Some.assigns c.args.problem.now c.loop-effect.problem w.add_mark.new.problem
            c.loop-effect-test.true (change ∙ w.in-Some.is) i.effects w.in_ok-add_mark.ensures.mark;
      })
      | in_default w ↦ rw w.problem-is (record {
        frame = i.frame;
        effects = effects_skip c.args.numbers.now.variables.keys c.args.node c.loop-effect.effect-index c.args.effects.now c.effect-item.result c.args.problem.now c.loop-effect.problem c.loop-effect-test.true (change ∙ w.in_default.is) i.effects;
      })
    ]
