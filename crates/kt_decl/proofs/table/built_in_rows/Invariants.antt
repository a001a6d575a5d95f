use Rattle.std.proofs.Common.{◌≡◌, vec_len}
use Rattle.kt_decl.specs.Marks.{AreRowsOf, AreBuiltIn}
use Rattle.kt_decl.proofs.table.built_in_rows.Given as goal

abbrev pub invariant-loop-class : goal.invariant-loop-class
invariant-loop-class l = record {
  rows : AreRowsOf l.aboves l.rows.items;
  outlines : AreBuiltIn l.class l.rows.items;
  len : vec_len l.rows ≡ l.class;
}
