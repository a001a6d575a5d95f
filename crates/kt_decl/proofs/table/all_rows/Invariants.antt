use Rattle.std.proofs.Common.{◌≡◌, ◌+◌, ◌++◌, drop, vec_len}
use Rattle.kt_model.specs.Classes.{outlines}
use Rattle.kt_model.specs.TopNames.{built_in_classes}
use Rattle.kt_model.specs.Outlines.{outlines_from, outlines_of}
use Rattle.kt_decl.specs.Marks.{AreRowsOf}
use Rattle.kt_decl.proofs.table.all_rows.Given as goal

abbrev pub invariant-loop-c : goal.invariant-loop-c
invariant-loop-c l = record {
  rows : AreRowsOf l.aboves l.rows.items;
  outlines : outlines l.rows.items ++ outlines_from l.file l.class (drop l.c-index l.c-items) ≡ outlines_of l.file;
  len : vec_len l.rows ≡ l.class;
  class : l.class ≡ built_in_classes + l.c-index;
}
