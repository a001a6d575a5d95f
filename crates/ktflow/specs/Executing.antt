-- What the check and the run of a source do, before the text on `err`. This project's own; of the language it knows only which
-- sources are refused and what a run is.
use Rattle.std.specs.Prelude.{◌≡◌, ℕ, ◌<◌, List, [], length}
use Rattle.std.specs.Io.KnownBytes.{Appends}
use Rattle.kt_outside.specs.Outside.{OutputState, Rose}
use Rattle.kt_outside.specs.Texts.{IsPrefix}
use Rattle.kt_mean.specs.Events.{RunCourse, text_of}
use Rattle.ktflow.specs.Course as course
use Rattle.ktflow.specs.Language.{IsRefused, IsRun}
use Rattle.kt_mean.specs.declared.states.RunEnding.{RunEnding}
use Rattle.kt_mean.specs.declared.states.RunEnding.TheVariants as ending
use Rattle.kt_run.specs.declared.run.End.{End}
use Rattle.kt_run.specs.declared.run.End.TheVariants as end
use Rattle.ktflow.specs.declared.ending.Ending.{Ending}
use Rattle.ktflow.specs.declared.ending.Ending.TheVariants.{Usage, Refused, Ran}
use Rattle.ktflow.specs.declared.ending.Stop.{Stop}
use Rattle.ktflow.specs.declared.ending.Stop.TheVariants.{Ended, SourceFault, InputFault, OutputFault, NoMemory}

-- the ending as the definitions see it
abbrev pub ending_of : Ending → course.Ending
ending_of Usage = course.Usage
ending_of (Refused report) = course.Refused report.items
ending_of (Ran ending) = course.Ran ending

-- The source is refused, and nothing is put.
pub record Refuses (source : List ℕ) (old new : OutputState) (report : List ℕ) : Type 0 where
  pub is_refused : IsRefused source report
  pub none_put : Appends old.written new.written []
  pub faults : new.faults ≡ old.faults

-- The run came to its end: its whole text is put.
pub record RunsWhole (source : List ℕ) (steps : ℕ) (input : List ℕ) (old new : OutputState) (ending : RunEnding) : Type 0 where
  pub run : RunCourse
  pub is_run : IsRun source steps input run
  pub ending_is : run.ending ≡ ending
  pub puts : Appends old.written new.written (text_of run.events)
  pub faults : new.faults ≡ old.faults

-- A put failed: a front of the run's text is put, and the output didn't vouch for the whole.
pub record RunsToFailedPut (source : List ℕ) (steps : ℕ) (input : List ℕ) (old new : OutputState) : Type 0 where
  pub run : RunCourse
  pub is_run : IsRun source steps input run
  pub put : List ℕ
  pub puts : Appends old.written new.written put
  pub front : IsPrefix put (text_of run.events)
  pub rose : Rose old.faults new.faults
  pub not_vouched : old.vouched < length (text_of run.events)

-- There was no memory: a front of the text is put, of a refused source nothing.
pub record RunsOutOfMemory (source : List ℕ) (steps : ℕ) (input : List ℕ) (old new : OutputState) : Type 0 where
  pub put : List ℕ
  pub puts : Appends old.written new.written put
  pub front : (run : RunCourse) → IsRun source steps input run → IsPrefix put (text_of run.events)
  pub none_refused : (report : List ℕ) → IsRefused source report → put ≡ []
  pub faults : new.faults ≡ old.faults

-- What the execution did, on this input.
abbrev pub Executes : List ℕ → ℕ → List ℕ → OutputState → OutputState → Stop → Type 0
Executes source steps input old new (Ended Usage) = ⊥
Executes source steps input old new (Ended (Refused report)) = Refuses source old new report.items
Executes source steps input old new (Ended (Ran ending)) = RunsWhole source steps input old new ending
Executes source steps input old new SourceFault = ⊥
Executes source steps input old new InputFault = ⊥
Executes source steps input old new OutputFault = RunsToFailedPut source steps input old new
Executes source steps input old new NoMemory = RunsOutOfMemory source steps input old new

-- what the end of a run stops a call with
abbrev pub stop_told : End → Stop
stop_told end.Done = Ended (Ran ending.Done)
stop_told end.Steps = Ended (Ran ending.Steps)
stop_told end.Calls = Ended (Ran ending.Calls)
stop_told end.Store = Ended (Ran ending.Store)
stop_told end.Text = Ended (Ran ending.Text)
stop_told (end.Uncaught e) = Ended (Ran (ending.Uncaught e))
stop_told end.WriteFault = OutputFault
stop_told end.NoMemory = NoMemory
