use Rattle.std.proofs.Common.{◌≡◌, ◌∷◌, take}
use Rattle.std.specs.List.{flat_map}
use Rattle.kt_model.specs.Classes.{supers_of}
use Rattle.kt_decl.proofs.aboves.climb_from.Given as goal

abbrev pub invariant-loop-s : goal.invariant-loop-s
invariant-loop-s l = l.climb.items ≡ l.class ∷ flat_map (supers_of l.aboves) (take l.s-index l.supers)
