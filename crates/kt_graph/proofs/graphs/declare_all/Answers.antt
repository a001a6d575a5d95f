use Rattle.std.proofs.Common.{◌∷◌, [], ◌++◌, ap, sym, ◌∙◌, take, append_assoc, arith}
use Rattle.std.proofs.lemmas.List.{take_more}
use Rattle.kt_model.specs.Bodies.{declared_by}
use Rattle.kt_graph.proofs.Declarations.{declared_by-append}
use Rattle.kt_graph.proofs.graphs.declare_all.Goals as goal

pub loop-effect-preserved : goal.loop-effect-preserved
loop-effect-preserved c =
    let x = c.effect-item.result in
    let before = take c.loop-effect.effect-index c.args.effects.now in
    c.in_ok-declare.ensures
    ∙ ap (λ l. l ++ declared_by (x ∷ [])) c.loop-effect.invariant
    ∙ append_assoc c.args.variables.now (declared_by before) (declared_by (x ∷ []))
    ∙ ap (λ l. c.args.variables.now ++ l) (sym (declared_by-append before (x ∷ [])))
    ∙ ap (λ l. c.args.variables.now ++ declared_by l) (ap (λ y. before ++ y ∷ []) c.effect-item.is ∙ sym (take_more c.args.effects.now c.loop-effect.effect-index x (omega arith)))
