use Rattle.std.proofs.Common.{ap, ◌∙◌}
use Rattle.kt_report.specs.Report.{place_text}
use Rattle.kt_report.proofs.Pieces.{pieces}
use Rattle.kt_report.proofs.report.Goals as goal

pub returns : goal.returns
returns c =
    pieces c.args.source.now c.args.finding.now _ _ _ _ _ _ _ _ _ _ _ _ _ c.new-text.ensures.items c.in_ok-push_place.ensures c.in_ok-extend_from_slice.ensures.items c.in_ok-push_place-2.ensures
    c.in_ok-extend_from_slice-2.ensures.items c.in_ok-extend_from_slice-3.ensures.items c.in_ok-extend_from_slice-4.ensures.items c.in_ok-extend_from_slice-5.ensures.items
    c.in_ok-extend_from_slice-6.ensures.items (ap place_text c.line_col-start.ensures) (ap place_text c.line_col-end.ensures) (c.as_bytes.ensures.value ∙ c.code.ensures) (c.as_bytes-2.ensures.value ∙ c.text.ensures)
