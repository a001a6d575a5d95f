use Rattle.std.proofs.Common.{List, sym, subst}
use Rattle.kt_model.specs.declared.finding.Finding.{Finding}
use Rattle.kt_check.specs.Phases.{AreFirst, Stops}
use Rattle.kt_check.proofs.OneVerdict.{first_told}
use Rattle.kt_check.proofs.checking.refused.Goals as goal

pub returns-in-len1-up : goal.returns-in-len1-up
returns-in-len1-up c = λ source has.
    let laws = c.files_are_determined.ensures in
    let first = subst (Stops c.args.file.now) c.in-Findings.is c.requires in
    first_told laws.one_file laws.one_finding laws.not_both source c.args.file.now c.as_slice.result.now _ has
    (subst (λ (xs : List Finding). AreFirst c.args.file.now xs) (sym c.as_slice.ensures) first)
