use Rattle.std.proofs.Common.{◌≡◌, ◌++◌, take}
use Rattle.std.specs.List.{flat_map}
use Rattle.kt_model.specs.Sites.{member_sites}
use Rattle.kt_model.specs.DeclarationRules.{declaration_rules}
use Rattle.kt_decl.proofs.sites.at_members.Given as goal

abbrev pub invariant-loop-m : goal.invariant-loop-m
invariant-loop-m l = l.out.items ≡ l.fn.out.items ++ flat_map (declaration_rules l.tops) (flat_map member_sites (take l.m-index l.members))
