use Rattle.std.proofs.Common.{subst, arith}
use Rattle.std.proofs.lemmas.List.{take_all}
use Rattle.kt_model.specs.Findings.{Adds}
use Rattle.kt_flow.specs.Against.{IsAgainstOne}
use Rattle.kt_flow.proofs.Adding.{adds_none, no_effects, effects_more}
use Rattle.kt_flow.proofs.along.Paths.add_effects.Goals as goal

pub loop-effect-init : goal.loop-effect-init
loop-effect-init c = adds_none _ _ (no_effects c.args.self.now.graph.now c.args.node c.args.note.now)

pub loop-effect-preserved : goal.loop-effect-preserved
loop-effect-preserved c =
    effects_more c.args.self.now.graph.now c.args.node c.args.note.now c.args.effects.now c.loop-effect.effect-index c.effect-item.result _ c.loop-effect.found.items _ (omega arith) c.effect-item.is c.loop-effect.invariant c.in_ok-add_effect.ensures

pub returns : goal.returns
returns c =
    subst (λ l. Adds (IsAgainstOne c.args.self.now.graph.now c.args.node c.args.note.now l) c.args.found.now.items c.loop-effect.found.items) (take_all c.loop-effect.effect-index c.args.effects.now (omega arith)) c.loop-effect.invariant
