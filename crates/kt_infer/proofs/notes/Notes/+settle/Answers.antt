use Rattle.std.proofs.Common.{refl, sym, ap, ◌∙◌, subst}
use Rattle.kt_model.specs.Classes.{outlines, written}
use Rattle.kt_infer.specs.Noting.{Adds}
use Rattle.kt_infer.specs.Opening.{outcome_of, rows_behind, findings_behind}
use Rattle.kt_infer.proofs.Ends.{end_same, joined_stands, joined_adds}
use Rattle.kt_infer.proofs.notes.Notes.+settle.Goals as goal

pub returns-in_ok-note-in-Joined-clause-outcome : goal.returns-in_ok-note-in-Joined-clause-outcome
unfolding Rattle.kt_infer.specs.declared.notes.Opened.TheBlock.shape-the_row-Opened-0 Rattle.kt_infer.specs.declared.notes.Opened.TheBlock.hidden-the_row-Opened-0 denote.Hole.Carrier.hidden
returns-in_ok-note-in-Joined-clause-outcome t c =
    let classes = written (outlines c.args.table.now) in
    joined_stands classes c.args.way c.in-Joined.stem c.in-Joined.first c.in-Joined.second c.in-Joined.between c.end.result c.end-in-Joined.result c.joined-outcome.ensures
    (end_same classes c.args.way _ c.branch_way-inner.ensures c.get.ensures c.in_ok-a-in-Joined.ensures.outcome c.get-in-Joined-2.ensures c.end.ensures)
    (end_same classes c.args.way _ c.branch_way-inner.ensures c.get-in-Joined.ensures c.in_ok-b-in-Joined.ensures.outcome c.get-in-Joined-3.ensures c.end-in-Joined.ensures)
    ∙ sym (ap (outcome_of classes c.args.way) c.in-Joined.is)

pub returns-in_ok-note-in-Joined-clause-notes : goal.returns-in_ok-note-in-Joined-clause-notes
unfolding Rattle.kt_infer.specs.declared.notes.Opened.TheBlock.shape-the_row-Opened-0 Rattle.kt_infer.specs.declared.notes.Opened.TheBlock.hidden-the_row-Opened-0 denote.Hole.Carrier.hidden
returns-in_ok-note-in-Joined-clause-notes t c =
    let classes = written (outlines c.args.table.now) in
    subst (λ o. Adds c.args.self.now c.note-in-Joined.new.self (rows_behind classes c.args.way o) (findings_behind classes c.args.way o)) (sym c.in-Joined.is)
    (joined_adds classes c.args.way c.in-Joined.stem c.in-Joined.first c.in-Joined.second c.in-Joined.between c.branch_way-inner.ensures c.get.ensures c.get-in-Joined.ensures refl
    c.in_ok-a-in-Joined.ensures.notes c.in_ok-bring_back-in-Joined.ensures c.in_ok-b-in-Joined.ensures.notes
    (joined_stands classes c.args.way c.in-Joined.stem c.in-Joined.first c.in-Joined.second c.in-Joined.between c.end.result c.end-in-Joined.result c.joined-outcome.ensures
    (end_same classes c.args.way _ c.branch_way-inner.ensures c.get.ensures c.in_ok-a-in-Joined.ensures.outcome c.get-in-Joined-2.ensures c.end.ensures)
    (end_same classes c.args.way _ c.branch_way-inner.ensures c.get-in-Joined.ensures c.in_ok-b-in-Joined.ensures.outcome c.get-in-Joined-3.ensures c.end-in-Joined.ensures))
    c.in_ok-note-in-Joined.ensures)
