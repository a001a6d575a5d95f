use Rattle.std.proofs.Common.{◌≡◌, ◌++◌, take}
use Rattle.std.specs.List.{flat_map}
use Rattle.kt_model.specs.Classes.{outlines}
use Rattle.kt_model.specs.MemberRules.{parameter_rules}
use Rattle.kt_rules.proofs.rules.at_parameters.Given as goal

abbrev pub invariant-loop-p : goal.invariant-loop-p
invariant-loop-p l = l.out.items ≡ l.fn.out.items ++ flat_map (parameter_rules (outlines l.t) l.n) (take l.p-index l.parameters)
