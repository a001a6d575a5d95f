use Rattle.std.proofs.Common.{◌≡◌, false, take}
use Rattle.std.specs.List.{list_any}
use Rattle.kt_model.specs.DeclarationRules.{is_main}
use Rattle.kt_decl.proofs.sites.has_main.Given as goal

abbrev pub invariant-loop-f : goal.invariant-loop-f
invariant-loop-f l = list_any (is_main l.tops) (take l.f-index l.functions) ≡ false
