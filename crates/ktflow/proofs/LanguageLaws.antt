-- What the top needs of the language: a source has at most one report and one run, and never both.
use Rattle.std.proofs.Common.{◌≡◌, ℕ, List, Some, sym, ap, subst, ◌∙◌}
use Rattle.kt_tree.specs.declared.ast.declaration.File.{File}
use Rattle.kt_model.specs.NameUses.{Resolved}
use Rattle.kt_model.specs.Scopes.{IsResolved}
use Rattle.kt_model.specs.declared.finding.Finding.{Finding}
use Rattle.kt_mean.specs.Evaluation.{Program}
use Rattle.kt_mean.specs.Events.{RunCourse}
use Rattle.kt_mean.specs.FileRuns.{IsProgram}
use Rattle.kt_mean.specs.WholeRun.{whole, run_ending}
use Rattle.kt_mean.specs.declared.states.RunEnding.{RunEnding}
use Rattle.kt_source.proofs.OneReading.{one_file_of}
use Rattle.kt_sound.proofs.OneFile as programs
use Rattle.kt_check.specs.Violations.{IsAccepted}
use Rattle.kt_check.proofs.OneVerdict as verdict
use Rattle.kt_report.specs.Report.{report_of}
use Rattle.ktflow.specs.Language.{IsRefused, IsRun}

-- a refused source has one report
pub one_report : (source report other : List ℕ) → IsRefused source report → IsRefused source other → report ≡ other
one_report source report other r s = r.report_is ∙ ap (λ (f : Finding). report_of source f) (verdict.one_first source r.finding s.finding r.first s.first) ∙ sym s.report_is

-- A source is accepted as one file, with one value that its names stand for; so the program of a run is that of this file.
pub program_of_run : (source : List ℕ) (file : File) (uses : Resolved) (steps : ℕ) (input : List ℕ) (run : RunCourse) → IsAccepted source file uses → (r : IsRun source steps input run) → IsProgram file uses r.program
program_of_run source file uses steps input run a r =
    let same_file : r.file ≡ file = one_file_of source r.file file r.accepted.has_file a.has_file in
    let resolved : IsResolved file r.uses = subst (λ (f : File). IsResolved f r.uses) same_file r.accepted.resolved in
    let same_uses : r.uses ≡ uses = programs.one_resolved file r.uses uses resolved a.resolved in
    subst (λ (u : Resolved). IsProgram file u r.program) same_uses (subst (λ (f : File). IsProgram f r.uses r.program) same_file r.is_program)

-- a source has one program
one_program : (source : List ℕ) (steps : ℕ) (input : List ℕ) (run other : RunCourse) → (r : IsRun source steps input run) → (s : IsRun source steps input other) → r.program ≡ s.program
one_program source steps input run other r s =
    programs.one r.file r.uses r.uses r.program s.program r.accepted.resolved r.accepted.resolved r.is_program
    (program_of_run source r.file r.uses steps input other r.accepted s)

same_course : (run other : RunCourse) → run.events ≡ other.events → run.ending ≡ other.ending → run ≡ other
same_course run other a b = λ i. record { events = a i; ending = b i }

same_ending : (a b : RunEnding) → Some a ≡ Some b → a ≡ b
same_ending a b e = cc

-- a run is determined
pub one_run : (source : List ℕ) (steps : ℕ) (input : List ℕ) (run other : RunCourse) → IsRun source steps input run → IsRun source steps input other → run ≡ other
one_run source steps input run other r s =
    let same = one_program source steps input run other r s in
    same_course run other (r.events ∙ ap (λ (p : Program). (whole p steps input).events) same ∙ sym s.events)
    (same_ending run.ending other.ending (sym r.ending ∙ ap (λ (p : Program). run_ending (whole p steps input).ending) same ∙ s.ending))

-- a refused source has no run
pub never_both : (source report : List ℕ) (steps : ℕ) (input : List ℕ) (run : RunCourse) → IsRefused source report → IsRun source steps input run → ⊥
never_both source report steps input run r s = verdict.never_both source r.finding s.file s.uses r.first s.accepted
