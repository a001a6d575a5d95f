use Rattle.std.proofs.Common.{[], ◌∷◌, ap, refl, None, Some, Option, ℕ}
use Rattle.kt_model.specs.declared.graph.Tag.TheVariants as tag
use Rattle.kt_model.specs.ControlFlow.{in_body}
use Rattle.kt_graph.specs.declared.building.FlowContext.{FlowContext}
use Rattle.kt_graph.proofs.Walks.{walk_body, steps_effects}
use Rattle.kt_graph.proofs.graphs.built.Goals as goal

pub returns : goal.returns
returns c =
    let outside : FlowContext = record { returns = None; always = record { ref_ptr = c.args.parameters.ref_ptr; now = [] }; copy = 0 } in
    walk_body {ps = c.args.parameters.now} outside c.new.ensures.items c.new-2.ensures.items c.requires c.in_ok-end.ensures
    (λ ns e. ap (λ m. record in_body { jumps = record { returns = m ∷ [] } }) e) refl (λ ns. refl) c.in_ok-first.ensures
    (steps_effects _ _ _ _ tag.Params _ _ outside c.in_ok-first.first c.in_ok-effects.ensures c.in_ok-params.ensures) c.in_ok-bare.ensures
