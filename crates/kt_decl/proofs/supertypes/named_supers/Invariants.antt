use Rattle.std.proofs.Common.{◌≡◌, take}
use Rattle.kt_model.specs.DeclarationRules.{supers_named}
use Rattle.kt_decl.proofs.supertypes.named_supers.Given as goal

abbrev pub invariant-loop-s : goal.invariant-loop-s
invariant-loop-s l = l.supers ≡ supers_named l.tops (take l.s-index l.supertypes)
