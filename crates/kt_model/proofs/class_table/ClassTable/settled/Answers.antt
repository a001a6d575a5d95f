use Rattle.std.proofs.Common.{◌≡◌, Some, slice_get, refl}
use Rattle.std.proofs.lemmas.Option.{slice_get_read}
use Rattle.kt_model.specs.Classes.{outlines}
use Rattle.kt_model.proofs.MemberLemmas.{found_settled}
use Rattle.kt_model.proofs.class_table.ClassTable.settled.Goals as goal
use Rattle.kt_model.proofs.class_table.ClassTable.settled.Goals.{After-named}

row_is : (c : After-named) → slice_get c.self.inside.classes c.args.class ≡ Some c.index-as_slice-class.result
row_is c =
    let e = c.as_slice.ensures in
    rw e at (slice_get_read c.as_slice.result.now _ c.args.class c.index-as_slice-class.result refl (rw (e, c.self.view_is) c.requires) c.index-as_slice-class.is)

pub returns-clause-member : goal.returns-clause-member
returns-clause-member c =
    let row = c.self.invariant.row c.args.class _ (row_is c) in
    rw (← c.self.view_is, c.named.ensures, c.as_slice-2.ensures, row.settled) (found_settled (outlines c.self.inside.classes) c.args.class c.args.name).0

pub returns-clause-implementation : goal.returns-clause-implementation
returns-clause-implementation c =
    let row = c.self.invariant.row c.args.class _ (row_is c) in
    rw (← c.self.view_is, c.named.ensures, c.as_slice-2.ensures, row.settled) (found_settled (outlines c.self.inside.classes) c.args.class c.args.name).1
