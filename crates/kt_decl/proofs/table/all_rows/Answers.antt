use Rattle.std.proofs.Common.{◌≡◌, ◌<◌, ◌+◌, ◌++◌, ◌∙◌, ap, sym, arith, length, drop, subst, append-nil}
use Rattle.kt_model.specs.Classes.{outlines}
use Rattle.kt_model.specs.TopNames.{built_in_classes}
use Rattle.kt_model.specs.Outlines.{outlines_from, outlines_of, class_outline}
use Rattle.kt_decl.proofs.ListSteps.{drop_more, drop_end}
use Rattle.kt_decl.proofs.TableLemmas.{rows_more, outlines_more, rowed_of}
use Rattle.kt_decl.proofs.table.all_rows.Goals as goal

pub loop-c-init : goal.loop-c-init
unfolding outlines_of
loop-c-init c = record {
  rows = c.in_ok-rows.ensures.rows;
  outlines = λ k. c.in_ok-rows.ensures.outlines k ++ outlines_from c.args.file.now built_in_classes (c.as_slice-c-items.ensures k);
  len = c.in_ok-rows.ensures.len;
  class = omega arith;
}

pub loop-c-preserved : goal.loop-c-preserved
loop-c-preserved c =
    let i = c.loop-c.invariant in
    let file = c.args.file.now in
    let aboves = c.args.aboves.now in
    let rows = c.loop-c.rows in
    let items = c.as_slice-c-items.result.now in
    let row = c.in_ok-class_row.field-0 in
    let e = c.in_ok-class_row.ensures in
    let same : length items ≡ length file.classes = ap length c.as_slice-c-items.ensures in
    let known : c.loop-c.class < length aboves = omega (arith, i.class, c.requires.long) in
    let above = c.supers_at.ensures ∙ c.requires.above c.loop-c.class known in
    let left = drop_more items c.loop-c.c-index c.c-item.result c.loop-c-test.true c.c-item.is in
    let so_far = subst (λ z. outlines rows.items ++ outlines_from file c.loop-c.class z ≡ outlines_of file) left i.outlines in
    record {
      rows = rows_more aboves rows.items _ row c.loop-c.class (omega (arith, rows.ok.0, i.len)) c.in_ok-push.ensures.items i.rows (e.above ∙ c.supers_at.ensures) e.few;
      outlines = outlines_more file rows.items _ row c.loop-c.class c.c-item.result (drop (c.loop-c.c-index + 1) items) (outlines_of file) c.in_ok-push.ensures.items (e.outline ∙ ap (λ z. class_outline file z c.c-item.result) above) so_far;
      len = omega (arith, c.in_ok-push.ensures.len, i.len);
      class = omega (arith, i.class);
    }

pub returns-clause-rowed : goal.returns-clause-rowed
returns-clause-rowed c =
    let i = c.loop-c.invariant in
    let file = c.args.file.now in
    let rows = c.loop-c.rows in
    let items = c.as_slice-c-items.result.now in
    let same : length items ≡ length file.classes = ap length c.as_slice-c-items.ensures in
    let whole = sym (append-nil (outlines rows.items)) ∙ ap (λ z. outlines rows.items ++ outlines_from file c.loop-c.class z) (sym (drop_end items c.loop-c.c-index c.loop-c-test.false)) ∙ i.outlines in
    rowed_of file c.args.aboves.now rows.items c.requires.long c.requires.above whole i.rows (omega (arith, rows.ok.0, i.len, i.class, c.requires.long))
