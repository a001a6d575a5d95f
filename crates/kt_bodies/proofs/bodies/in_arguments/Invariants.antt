use Rattle.std.proofs.Common.{◌≡◌, ◌++◌, take}
use Rattle.std.specs.List.{flat_map}
use Rattle.kt_model.specs.TreeSites.{expr_sites}
use Rattle.kt_bodies.proofs.bodies.in_arguments.Given as goal

abbrev pub invariant-loop-e : goal.invariant-loop-e
invariant-loop-e l = l.out.items ≡ l.fn.out.items ++ flat_map expr_sites (take l.e-index l.arguments)
