use Rattle.std.proofs.Common.{[], ◌∷◌, refl, sym, ap, ◌∙◌, ◌++◌, map, append-nil}
use Rattle.kt_model.specs.ControlFlow.{on, lead}
use Rattle.kt_model.specs.Bodies.{node_at}
use Rattle.kt_graph.specs.Building.{out_at, context_at}
use Rattle.kt_graph.proofs.Growing.{then, told, back}
use Rattle.kt_graph.proofs.building.Builder.fork.Goals as goal

pub returns : goal.returns
unfolding on
returns c =
    let x = out_at c.args.tree c.args.context.copy c.args.effects in
    let more = c.in_ok-lead.ensures in
    let both = c.in_ok-lead-2.ensures in
    record {
      grows = told (then c.in_ok-n.ensures.grows (then more both)) refl
          (λ ns h.
          append-nil _ ∙ ap (λ m. lead m (node_at ns c.args.if_true ∷ node_at ns c.args.if_false ∷ []) ++ lead m (map (node_at ns) c.args.context.always.now)) (c.in_ok-n.ensures.is_found ns (back more ns (back both ns h))));
      is_found = λ ns h. c.in_ok-n.ensures.is_found ns (back more ns (back both ns h));
    }
