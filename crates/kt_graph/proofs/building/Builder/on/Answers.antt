use Rattle.std.proofs.Common.{[], refl, sym, ap}
use Rattle.kt_model.specs.ControlFlow.{on}
use Rattle.kt_model.specs.Bodies.{node_at}
use Rattle.kt_graph.specs.Building.{place_at, context_at}
use Rattle.kt_graph.proofs.Growing.{then, told, edge_added}
use Rattle.kt_graph.proofs.building.Builder.on.Goals as goal

pub returns-in_ok-push-in-Some : goal.returns-in_ok-push-in-Some
unfolding on
returns-in_ok-push-in-Some c =
    told (then c.in_ok-lead.ensures (edge_added refl refl c.in_ok-push-in-Some.ensures.items)) refl
    (λ ns h. ap (λ t. on (context_at ns c.args.context) (node_at ns c.args.from) (place_at ns t)) (sym c.in-Some.is))

pub returns-in-None : goal.returns-in-None
unfolding on
returns-in-None c =
    told c.in_ok-lead.ensures refl
    (λ ns h. ap (λ t. on (context_at ns c.args.context) (node_at ns c.args.from) (place_at ns t)) (sym c.in-None.is))
