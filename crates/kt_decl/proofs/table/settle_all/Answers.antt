use Rattle.std.proofs.Common.{◌≡◌, ◌<◌, ◌∙◌, arith, refl, ap, length}
use Rattle.std.proofs.Math.ListN.{length-set}
use Rattle.kt_model.specs.declared.class_table.ClassRow.{ClassRow}
use Rattle.kt_model.specs.Classes.{outlines}
use Rattle.kt_model.specs.Members.{settled_of}
use Rattle.kt_decl.proofs.TableLemmas.{outlines_kept, rowed_kept, settled_more, row_there}
use Rattle.kt_decl.proofs.table.settle_all.Goals as goal

pub loop-i-preserved : goal.loop-i-preserved
loop-i-preserved c =
    let i = c.loop-i.invariant in
    let rows = c.loop-i.rows in
    let new = c.put.new.rows in
    let n = c.loop-i.i in
    let within : n < length rows.items = omega (arith, rows.ok.0, i.len) in
    let there = row_there rows.items n within in
    let row = there.0 in
    let put : ClassRow = record row { settled = c.in_ok-settled.settled } in
    let grown = c.put.ensures row there.1 in
    let settled = c.in_ok-settled.ensures ∙ ap (λ z. settled_of (outlines z) n) c.deref.ensures.value in
    let kept = outlines_kept rows.items new.items n row put there.1 grown refl in
    let same : length new.items ≡ length rows.items = ap length grown ∙ length-set rows.items n put in
    record {
      outlines = kept ∙ i.outlines;
      rowed = rowed_kept rows.items new.items n row put there.1 grown refl refl refl i.rowed;
      settled = settled_more rows.items new.items n row put there.1 grown refl settled i.settled;
      len = omega (arith, same, new.ok.0, rows.ok.0, i.len);
    }
