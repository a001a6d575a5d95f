use Rattle.std.proofs.Common.{sym, subst}
use Rattle.kt_model.specs.declared.finding.Finding.{Finding}
use Rattle.kt_source.specs.SourceRules.{IsSourceFinding}
use Rattle.kt_check.specs.Violations.{IsFirstFinding}
use Rattle.kt_check.proofs.OneVerdict.{first_in_text}
use Rattle.kt_check.proofs.checking.check.Goals as goal

pub returns-in-Ok : goal.returns-in-Ok
returns-in-Ok c = c.judge.ensures c.args.source.now c.in-Ok.ensures.answer

pub returns-in-Err-Refused : goal.returns-in-Err-Refused
returns-in-Err-Refused c =
    let laws = c.files_are_determined.ensures in
    let h : IsSourceFinding c.args.source.now c.in-Err-Refused.finding = rw c.in-Err-Refused.field-0-is at c.in-Err-Refused.ensures.answer in
    subst (λ (f : Finding). IsFirstFinding c.args.source.now f) (sym c.in-Err-Refused.finding-is) (first_in_text laws.one_file laws.one_finding laws.not_both c.args.source.now c.in-Err-Refused.finding h)
