use Rattle.std.proofs.Common.{length, sym, subst, ◌∙◌}
use Rattle.kt_flow.specs.Notes.{AreRising, RiseFromZero}
use Rattle.kt_flow.proofs.Ordered.{rest_rises, found_in_body, left_in_body, settled_in_body}
use Rattle.kt_flow.proofs.rules.flow.Goals as goal

pub found_in_order-requires-clause-rising : goal.found_in_order-requires-clause-rising
found_in_order-requires-clause-rising c =
    subst AreRising (c.as_slice.ensures.value ∙ sym c.as_slice-2.ensures.value) (rest_rises c.as_slice.result.now (c.are_numbered.ensures.0 c.if-not-are_numbered.false))

pub returns-clause-findings : goal.returns-clause-findings
returns-clause-findings c =
    let body = c.args.body.now in
    found_in_body body.file.now body.uses.now body.owner (length body.table.now) c.in-Ok.graph c.as_slice-2.result.now (c.as_slice-2.ensures.value ∙ c.in_ok-notes.ensures)
    (subst RiseFromZero (c.as_slice.ensures.value ∙ sym c.as_slice-2.ensures.value) (c.are_numbered.ensures.0 c.if-not-are_numbered.false)) c.in-Ok.ensures.graph c.in-Ok.ensures.within c.in_ok-findings.findings c.in_ok-findings.ensures

pub returns-clause-entered : goal.returns-clause-entered
returns-clause-entered c =
    let body = c.args.body.now in
    settled_in_body body.file.now body.uses.now body.owner (length body.table.now) c.in-Ok.graph c.as_slice-2.result.now (c.as_slice-2.ensures.value ∙ c.in_ok-notes.ensures)
    (subst RiseFromZero (c.as_slice.ensures.value ∙ sym c.as_slice-2.ensures.value) (c.are_numbered.ensures.0 c.if-not-are_numbered.false)) c.in-Ok.ensures.graph c.in-Ok.ensures.within c.in_ok-init.init c.in_ok-init.ensures

pub returns-clause-left : goal.returns-clause-left
returns-clause-left c =
    let body = c.args.body.now in
    left_in_body body.file.now body.uses.now body.owner (length body.table.now) c.in-Ok.graph c.as_slice-2.result.now (c.as_slice-2.ensures.value ∙ c.in_ok-notes.ensures)
    (subst RiseFromZero (c.as_slice.ensures.value ∙ sym c.as_slice-2.ensures.value) (c.are_numbered.ensures.0 c.if-not-are_numbered.false)) c.in-Ok.ensures.graph c.in-Ok.ensures.within c.in_ok-left.left.items c.in_ok-left.ensures
