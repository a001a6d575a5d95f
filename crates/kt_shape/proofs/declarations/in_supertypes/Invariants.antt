use Rattle.std.proofs.Common.{◌≡◌, ◌++◌, take}
use Rattle.std.specs.List.{flat_map}
use Rattle.kt_shape.specs.ShapeRules.{in_values}
use Rattle.kt_shape.proofs.declarations.in_supertypes.Given as goal

abbrev pub invariant-loop-s : goal.invariant-loop-s
invariant-loop-s l = l.out.items ≡ l.fn.out.items ++ flat_map (λ s. in_values s.arguments) (take l.s-index l.supertypes)
