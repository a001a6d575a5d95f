-- What the program must know of the language: which sources the written rules refuse, with which report, and what a run of another one is.
use Rattle.std.specs.Prelude.{◌≡◌, ℕ, List, Some}
use Rattle.kt_tree.specs.declared.ast.declaration.File.{File}
use Rattle.kt_model.specs.NameUses.{Resolved}
use Rattle.kt_model.specs.declared.finding.Finding.{Finding}
use Rattle.kt_mean.specs.Evaluation.{Program}
use Rattle.kt_mean.specs.Events.{RunCourse}
use Rattle.kt_mean.specs.FileRuns.{IsProgram}
use Rattle.kt_mean.specs.WholeRun.{whole, run_ending}
use Rattle.kt_check.specs.Violations.{IsFirstFinding, IsAccepted}
use Rattle.kt_report.specs.Report.{report_of}

-- The written rules refuse the source: this is the report of its first finding.
pub record IsRefused (source report : List ℕ) : Type 0 where
  pub finding : Finding
  pub first : IsFirstFinding source finding
  pub report_is : report ≡ report_of source finding

-- The written rules refuse nothing in the source, and by the written meaning this is the run of its program with so many steps on the input.
pub record IsRun (source : List ℕ) (steps : ℕ) (input : List ℕ) (run : RunCourse) : Type 0 where
  pub file : File
  pub uses : Resolved
  pub program : Program
  pub accepted : IsAccepted source file uses
  pub is_program : IsProgram file uses program
  pub events : run.events ≡ (whole program steps input).events
  pub ending : run_ending (whole program steps input).ending ≡ Some run.ending
