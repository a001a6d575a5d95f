use Rattle.std.proofs.Common.{◌≡◌, map, take}
use Rattle.kt_model.specs.Classes.{outlines}
use Rattle.kt_model.specs.Members.{settled_at}
use Rattle.kt_decl.proofs.settle.settle_class.Given as goal

abbrev pub invariant-loop-name : goal.invariant-loop-name
invariant-loop-name l = l.settled ≡ map (settled_at (outlines l.rows) l.c) (take l.name-index l.name-items)
