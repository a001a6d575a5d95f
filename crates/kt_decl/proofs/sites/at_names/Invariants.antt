use Rattle.std.proofs.Common.{◌≡◌, ◌++◌, take}
use Rattle.std.specs.List.{flat_map}
use Rattle.kt_model.specs.DeclarationRules.{where_, has_earlier}
use Rattle.kt_model.specs.declared.finding.Rule.TheVariants.{Duplicate}
use Rattle.kt_decl.proofs.sites.at_names.Given as goal

abbrev pub invariant-loop-w : goal.invariant-loop-w
invariant-loop-w l = l.out.items ≡ l.fn.out.items ++ flat_map (λ w. where_ (has_earlier l.words w) Duplicate w.span) (take l.w-index l.words)
