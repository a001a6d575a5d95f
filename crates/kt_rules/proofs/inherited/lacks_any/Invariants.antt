use Rattle.std.proofs.Common.{◌≡◌, false, take}
use Rattle.std.specs.List.{list_any}
use Rattle.kt_model.specs.Classes.{outlines}
use Rattle.kt_model.specs.MemberRules.{lacks}
use Rattle.kt_rules.proofs.inherited.lacks_any.Given as goal

abbrev pub invariant-loop-name : goal.invariant-loop-name
invariant-loop-name l = list_any (lacks (outlines l.t) l.c) (take l.name-index l.names) ≡ false
