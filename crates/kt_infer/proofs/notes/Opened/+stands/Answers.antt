use Rattle.std.proofs.Common.{sym, ap, ◌∙◌}
use Rattle.kt_model.specs.Classes.{outlines, written}
use Rattle.kt_infer.specs.Opening.{outcome_of}
use Rattle.kt_infer.proofs.Ends.{end_same, joined_stands}
use Rattle.kt_infer.proofs.notes.Opened.+stands.Goals as goal

pub returns-in-Joined : goal.returns-in-Joined
unfolding Rattle.kt_infer.specs.declared.notes.Opened.TheBlock.shape-the_row-Opened-0 Rattle.kt_infer.specs.declared.notes.Opened.TheBlock.hidden-the_row-Opened-0 denote.Hole.Carrier.hidden
returns-in-Joined t c =
    let classes = written (outlines c.args.table.now) in
    joined_stands classes c.args.way c.in-Joined.stem c.in-Joined.first c.in-Joined.second c.in-Joined.field-2 c.end.result c.end-in-Joined.result c.joined.ensures
    (end_same classes c.args.way _ c.branch_way-inner.ensures c.get.ensures c.stands-a.ensures c.get-in-Joined-2.ensures c.end.ensures)
    (end_same classes c.args.way _ c.branch_way-inner.ensures c.get-in-Joined.ensures c.stands-b.ensures c.get-in-Joined-3.ensures c.end-in-Joined.ensures)
    ∙ sym (ap (outcome_of classes c.args.way) c.in-Joined.is)
