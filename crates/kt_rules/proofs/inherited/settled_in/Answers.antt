use Rattle.std.proofs.Common.{◌≡◌, Some, slice_get, refl, ap, sym, ◌∙◌}
use Rattle.std.proofs.lemmas.Option.{slice_get_read}
use Rattle.kt_model.specs.declared.class_table.ClassRow.{ClassRow}
use Rattle.kt_rules.proofs.inherited.settled_in.Goals as goal
use Rattle.kt_rules.proofs.inherited.settled_in.Goals.{After-as_slice}

row_is : (c : After-as_slice) → slice_get c.args.rows.now c.args.c ≡ Some c.index-rows-c.result
row_is c = slice_get_read c.args.rows.now _ c.args.c c.index-rows-c.result refl c.requires.known c.index-rows-c.is

pub returns : goal.returns
returns c =
    c.as_slice.ensures ∙ ap (λ (r : ClassRow). r.settled) (sym c.index-rows-c.is) ∙ (c.requires.settled.row c.args.c _ (row_is c)).settled
