use Rattle.std.proofs.Common.{◌≡◌, [], take}
use Rattle.kt_model.specs.Classes.{each_once}
use Rattle.kt_decl.proofs.settle.each_name_once.Given as goal

abbrev pub invariant-loop-name : goal.invariant-loop-name
invariant-loop-name l = l.once.items ≡ each_once [] (take l.name-index l.names)
