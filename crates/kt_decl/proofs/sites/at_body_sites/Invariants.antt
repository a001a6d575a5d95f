use Rattle.std.proofs.Common.{◌≡◌, ◌++◌, map, take}
use Rattle.std.specs.List.{flat_map}
use Rattle.kt_model.specs.Sites.{OfBody}
use Rattle.kt_model.specs.DeclarationRules.{declaration_rules}
use Rattle.kt_decl.proofs.sites.at_body_sites.Given as goal

abbrev pub invariant-loop-s : goal.invariant-loop-s
invariant-loop-s l = l.out.items ≡ l.fn.out.items ++ flat_map (declaration_rules l.tops) (map OfBody (take l.s-index l.sites))
