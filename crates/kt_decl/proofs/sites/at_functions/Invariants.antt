use Rattle.std.proofs.Common.{◌≡◌, ◌++◌, take}
use Rattle.std.specs.List.{flat_map}
use Rattle.kt_model.specs.Sites.{function_sites}
use Rattle.kt_model.specs.DeclarationRules.{declaration_rules}
use Rattle.kt_decl.proofs.sites.at_functions.Given as goal

abbrev pub invariant-loop-f : goal.invariant-loop-f
invariant-loop-f l = l.out.items ≡ l.fn.out.items ++ flat_map (declaration_rules l.tops) (flat_map function_sites (take l.f-index l.functions))
