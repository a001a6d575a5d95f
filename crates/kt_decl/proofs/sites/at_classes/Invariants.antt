use Rattle.std.proofs.Common.{◌≡◌, ◌++◌, take}
use Rattle.std.specs.List.{flat_map}
use Rattle.kt_model.specs.Sites.{class_sites}
use Rattle.kt_model.specs.DeclarationRules.{declaration_rules}
use Rattle.kt_decl.proofs.sites.at_classes.Given as goal

abbrev pub invariant-loop-c : goal.invariant-loop-c
invariant-loop-c l = l.out.items ≡ l.fn.out.items ++ flat_map (declaration_rules l.tops) (flat_map class_sites (take l.c-index l.classes))
