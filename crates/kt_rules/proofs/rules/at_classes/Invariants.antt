use Rattle.std.proofs.Common.{◌≡◌, ◌++◌, ◌+◌, drop}
use Rattle.kt_model.specs.Classes.{outlines}
use Rattle.kt_model.specs.TopNames.{built_in_classes}
use Rattle.kt_model.specs.MemberRules.{rules_from}
use Rattle.kt_rules.proofs.rules.at_classes.Given as goal

abbrev pub invariant-loop-c : goal.invariant-loop-c
invariant-loop-c l = record {
  walked : l.out.items ++ rules_from l.tables.file.now (outlines l.tables.table.now) l.number (drop l.c-index l.classes) ≡ l.fn.out.items ++ rules_from l.tables.file.now (outlines l.tables.table.now) built_in_classes l.classes;
  number : l.number ≡ built_in_classes + l.c-index;
}
