use Rattle.std.proofs.Common.{◌≡◌, map, take, []}
use Rattle.std.specs.List.{cons_option}
use Rattle.kt_model.specs.DeclarationRules.{built_in_above}
use Rattle.kt_decl.proofs.supertypes.supers_built_in.Given as goal

abbrev pub invariant-loop-above : goal.invariant-loop-above
invariant-loop-above l = l.supers.items ≡ map (λ above. cons_option above []) (take l.above-index built_in_above)
