use Rattle.std.proofs.Common.{◌≡◌, ◌++◌, map, take}
use Rattle.kt_model.specs.DeclarationRules.{built_in_kinds, class_kind}
use Rattle.kt_decl.proofs.supertypes.class_kinds.Given as goal

abbrev pub invariant-loop-c : goal.invariant-loop-c
invariant-loop-c l = l.kinds.items ≡ built_in_kinds ++ map class_kind (take l.c-index l.c-items)
