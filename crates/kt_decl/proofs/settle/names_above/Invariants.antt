use Rattle.std.proofs.Common.{◌≡◌, map, take}
use Rattle.std.specs.List.{flat_map}
use Rattle.kt_model.specs.Classes.{outlines}
use Rattle.kt_model.specs.Members.{members_of}
use Rattle.kt_decl.proofs.settle.names_above.Given as goal

abbrev pub invariant-loop-d : goal.invariant-loop-d
invariant-loop-d l =
    l.names.items ≡ flat_map (λ d. map (λ m. m.name) (members_of (outlines l.rows) d)) (take l.d-index l.d-items)
