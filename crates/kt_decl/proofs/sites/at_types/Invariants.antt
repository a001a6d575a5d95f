use Rattle.std.proofs.Common.{◌≡◌, ◌++◌, take, map}
use Rattle.std.specs.List.{flat_map}
use Rattle.kt_model.specs.Sites.{OfType}
use Rattle.kt_model.specs.DeclarationRules.{declaration_rules}
use Rattle.kt_decl.proofs.sites.at_types.Given as goal

abbrev pub invariant-loop-w : goal.invariant-loop-w
invariant-loop-w l = l.out.items ≡ l.fn.out.items ++ flat_map (declaration_rules l.tops) (map OfType (take l.w-index l.types))
