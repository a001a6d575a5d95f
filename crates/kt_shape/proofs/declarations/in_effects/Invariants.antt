use Rattle.std.proofs.Common.{◌≡◌, ◌++◌, take}
use Rattle.std.specs.List.{flat_map}
use Rattle.kt_shape.specs.ShapeRules.{in_effect}
use Rattle.kt_shape.proofs.declarations.in_effects.Given as goal

abbrev pub invariant-loop-e : goal.invariant-loop-e
invariant-loop-e l = l.out.items ≡ l.fn.out.items ++ flat_map in_effect (take l.e-index l.effects)
