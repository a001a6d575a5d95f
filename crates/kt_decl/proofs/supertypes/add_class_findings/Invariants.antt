use Rattle.std.proofs.Common.{◌≡◌, ◌+◌}
use Rattle.kt_model.specs.TopNames.{built_in_classes}
use Rattle.kt_model.specs.Findings.{Adds}
use Rattle.kt_decl.specs.Marks.{IsOfClassBefore}
use Rattle.kt_decl.proofs.supertypes.add_class_findings.Given as goal

abbrev pub invariant-loop-c : goal.invariant-loop-c
invariant-loop-c l = record {
  number : l.number ≡ built_in_classes + l.c-index;
  adds : Adds (IsOfClassBefore l.file l.c-index) l.fn.out.items l.out.items;
}
