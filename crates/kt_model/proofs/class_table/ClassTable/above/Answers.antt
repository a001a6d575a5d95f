use Rattle.std.proofs.Common.{◌≡◌, Some, slice_get, refl, ◌∙◌}
use Rattle.std.proofs.lemmas.Option.{slice_get_read}
use Rattle.kt_model.proofs.class_table.ClassTable.above.Goals as goal
use Rattle.kt_model.proofs.class_table.ClassTable.above.Goals.{After-as_slice-2}

row_is : (c : After-as_slice-2) → slice_get c.self.inside.classes c.args.class ≡ Some c.index-as_slice-class.result
row_is c =
    let e = c.as_slice.ensures in
    rw e at (slice_get_read c.as_slice.result.now _ c.args.class c.index-as_slice-class.result refl (rw (e, c.self.view_is) c.requires) c.index-as_slice-class.is)

pub returns : goal.returns
returns c = rw (← c.self.view_is) (c.as_slice-2.ensures ∙ (c.self.invariant.row c.args.class _ (row_is c)).above)
