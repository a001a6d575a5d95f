use Rattle.std.proofs.Common.{◌∙◌, arith}
use Rattle.kt_decl.proofs.TableLemmas.{rows_more, built_in_more}
use Rattle.kt_decl.proofs.table.built_in_rows.Goals as goal

pub loop-class-preserved : goal.loop-class-preserved
loop-class-preserved c =
    let i = c.loop-class.invariant in
    let row = c.in_ok-built_in_row.field-0 in
    let e = c.in_ok-built_in_row.ensures in
    let rows = c.loop-class.rows in
    record {
      rows = rows_more c.args.aboves.now rows.items _ row c.loop-class.class (omega (arith, rows.ok.0, i.len)) c.in_ok-push.ensures.items i.rows (e.above ∙ c.supers_at.ensures) e.few;
      outlines = built_in_more rows.items _ row c.loop-class.class c.loop-class-test.true c.in_ok-push.ensures.items e.outline i.outlines;
      len = omega (arith, c.in_ok-push.ensures.len, i.len);
    }
