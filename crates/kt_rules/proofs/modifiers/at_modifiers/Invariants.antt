use Rattle.std.proofs.Common.{◌≡◌, ◌++◌, take}
use Rattle.std.specs.List.{flat_map}
use Rattle.kt_model.specs.declared.finding.Rule.TheVariants as rule
use Rattle.kt_model.specs.DeclarationRules.{where_}
use Rattle.kt_model.specs.MemberRules.{is_misplaced}
use Rattle.kt_rules.proofs.modifiers.at_modifiers.Given as goal

abbrev pub invariant-loop-m : goal.invariant-loop-m
invariant-loop-m l = l.out.items ≡ l.fn.out.items ++ flat_map (λ m. where_ (is_misplaced l.form l.modifiers m) rule.Modifier m.span) (take l.m-index l.modifiers)
