use Rattle.std.proofs.Common.{◌≤◌, [], map, drop, length}
use Rattle.kt_model.specs.ControlFlow.{lead}
use Rattle.kt_model.specs.Bodies.{node_at}
use Rattle.kt_graph.specs.Building.{Grows}
use Rattle.kt_graph.proofs.building.Builder.lead.Given as goal

abbrev pub invariant-loop-i : goal.invariant-loop-i
invariant-loop-i l = record {
  in_range : l.i ≤ length l.to;
  led : Grows l.fn.self l.self [] (λ ns. lead (node_at ns l.from) (map (node_at ns) (drop l.i l.to)));
}

abbrev pub decreases-loop-i : goal.decreases-loop-i
decreases-loop-i l = l.i
