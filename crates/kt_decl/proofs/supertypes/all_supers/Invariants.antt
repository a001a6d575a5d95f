use Rattle.std.proofs.Common.{◌≡◌, ◌++◌, map, take}
use Rattle.kt_model.specs.DeclarationRules.{built_in_supers, supers_named}
use Rattle.kt_decl.proofs.supertypes.all_supers.Given as goal

abbrev pub invariant-loop-c : goal.invariant-loop-c
invariant-loop-c l = l.supers.items ≡ built_in_supers ++ map (λ c. supers_named l.tops c.supertypes) (take l.c-index l.c-items)
