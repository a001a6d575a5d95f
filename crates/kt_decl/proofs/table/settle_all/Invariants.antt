use Rattle.std.proofs.Common.{◌≡◌, vec_len}
use Rattle.kt_model.specs.Classes.{outlines}
use Rattle.kt_decl.specs.Marks.{IsRowed, AreSettled}
use Rattle.kt_decl.proofs.table.settle_all.Given as goal

abbrev pub invariant-loop-i : goal.invariant-loop-i
invariant-loop-i l = record {
  outlines : outlines l.rows.items ≡ outlines l.fn.rows.items;
  rowed : IsRowed l.rows.items;
  settled : AreSettled l.i l.rows.items;
  len : vec_len l.rows ≡ vec_len l.fn.rows;
}
