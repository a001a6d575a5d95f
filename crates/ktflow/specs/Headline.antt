-- The headline: a file is run exactly where the written rules refuse nothing in it, its texts and status are those of the written meaning, and that
-- comes to no wrong use: no local that holds nothing is read, no `val` or parameter that holds a value is assigned, no dead tree is entered, each operand
-- is of the kind that its operator needs, and each argument, assigned or returned value lies in the written type. This project's own.
use Rattle.std.specs.Prelude.{◌≡◌, ℕ, List, [], Some}
use Rattle.std.specs.Io.KnownBytes.{Appends}
use Rattle.kt_tree.specs.declared.ast.declaration.File.{File}
use Rattle.kt_model.specs.NameUses.{Resolved}
use Rattle.kt_model.specs.declared.finding.Finding.{Finding}
use Rattle.kt_mean.specs.Evaluation.{Program}
use Rattle.kt_mean.specs.Events.{text_of}
use Rattle.kt_mean.specs.FileRuns.{IsProgram}
use Rattle.kt_mean.specs.Frames.{NotWrong}
use Rattle.kt_mean.specs.WholeRun.{whole, run_ending}
use Rattle.kt_check.specs.Violations.{IsFirstFinding, IsAccepted}
use Rattle.kt_mean.specs.declared.states.RunEnding.{RunEnding}
use Rattle.kt_report.specs.Report.{report_of}
use Rattle.ktflow.specs.Course.{line_of_run, status_of_run}
use Rattle.ktflow.specs.Program.{Request, request_of, counted}
use Rattle.ktflow.specs.Invoking.{Outside}
use Rattle.ktflow.specs.Clauses.{Tells, IsAnswer}

-- The file was run: the evaluation of its program is no wrong use, and texts and status are its.
pub record RunsFile (file : File) (uses : Resolved) (steps : ℕ) (input : List ℕ) (before after : Outside) (status : ℕ) : Type 0 where
  pub program : Program
  pub is_program : IsProgram file uses program
  pub never_wrong : NotWrong (whole program steps input).ending
  pub ending : RunEnding
  pub ending_is : run_ending (whole program steps input).ending ≡ Some ending
  pub out : Appends before.out.written after.out.written (text_of (whole program steps input).events)
  pub err : Appends before.err.written after.err.written (line_of_run ending)
  pub status_is : status ≡ status_of_run ending

-- The file was refused: nothing is put on `out`, the report of its first finding on `err`.
pub record RefusesFile (source : List ℕ) (finding : Finding) (before after : Outside) (status : ℕ) : Type 0 where
  pub out : Appends before.out.written after.out.written []
  pub err : Appends before.err.written after.err.written (report_of source finding)
  pub status_is : status ≡ 1

-- Of words with a file, where the bytes are told and there was no fault and no want of memory.
pub record IsHeadline (words : List (List ℕ)) (before after : Outside) (status : ℕ) : Type 0 where
  pub runs : (source input : List ℕ) → Tells before words source input → IsAnswer status → (request : Request) → request_of words ≡ Some request
      → (file : File) (uses : Resolved) → IsAccepted (counted source) file uses → RunsFile file uses request.steps input before after status
  pub refuses : (source input : List ℕ) → Tells before words source input → IsAnswer status → (request : Request) → request_of words ≡ Some request
      → (finding : Finding) → IsFirstFinding (counted source) finding → RefusesFile (counted source) finding before after status
