use Rattle.std.proofs.Common.{◌≡◌, ℕ, suc, ◌+◌, ◌-◌, ◌<◌, ◌≤◌, ◌++◌, ◌∷◌, [], map, drop, length, List, refl, arith, get_or, ap, ◌∙◌, sym, subst, drop-cons}
use Rattle.std.proofs.lemmas.List.{drop_all}
use Rattle.kt_model.specs.ControlFlow.{Node, Edge, lead}
use Rattle.kt_model.specs.Bodies.{node_at, edge_at}
use Rattle.kt_graph.specs.Building.{Grows}
use Rattle.kt_graph.proofs.Growing.{then, told, still, edge_added}
use Rattle.kt_graph.proofs.building.Builder.lead.Goals as goal

-- an edge more in front
lead_more : (ns : List Node) (from i j : ℕ) (to : List ℕ) → j < length to → i ≡ suc j → edge_at ns (record { from = from; to = get_or to j 0 }) ∷ lead (node_at ns from) (map (node_at ns) (drop i to)) ≡ lead (node_at ns from) (map (node_at ns) (drop j to))
lead_more ns from i j to h e =
    ap (λ k. edge_at ns (record { from = from; to = get_or to j 0 }) ∷ lead (node_at ns from) (map (node_at ns) (drop k to))) e
    ∙ sym (ap (λ l. lead (node_at ns from) (map (node_at ns) l)) (drop-cons to j 0 h))

pub loop-i-preserved : goal.loop-i-preserved
loop-i-preserved c = record {
  in_range = omega arith;
  led = told (then c.loop-i.invariant.led (edge_added refl refl c.in_ok-push.ensures.items)) refl (λ ns h. lead_more ns c.args.from c.loop-i.i (c.loop-i.i - 1) c.args.to.now (omega arith) (omega arith));
}

pub loop-i-init : goal.loop-i-init
loop-i-init c = record {
  in_range = omega arith;
  led = told (still c.args.self.now) refl (λ ns h. sym (ap (λ l. lead (node_at ns c.args.from) (map (node_at ns) l)) (drop_all (length c.args.to.now) c.args.to.now (omega arith))));
}
