use Rattle.std.proofs.Common.{◌≡◌, take}
use Rattle.std.specs.List.{filter_map}
use Rattle.kt_model.specs.Classes.{outlines}
use Rattle.kt_model.specs.Members.{candidate_in}
use Rattle.kt_decl.proofs.settle.candidates_in.Given as goal

abbrev pub invariant-loop-d : goal.invariant-loop-d
invariant-loop-d l = l.members.items ≡ filter_map (candidate_in (outlines l.rows) l.c l.name) (take l.d-index l.d-items)
