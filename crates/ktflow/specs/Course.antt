-- A course: what a call asks and prints, in order, and how it ends. This project's own; it knows no language, no pieces and no faults.
use Rattle.std.specs.Prelude.{◌≡◌, ℕ, suc, List, [], ◌∷◌, ◌++◌, codes, count_by, nat_eq}
use Rattle.kt_mean.specs.Events.{Event, Asked, Printed, text_of, RunCourse}
use Rattle.kt_mean.specs.declared.states.RunEnding.{RunEnding}
use Rattle.kt_mean.specs.declared.states.RunEnding.TheVariants.{Done, Steps, Calls, Store, Text, Uncaught}
use Rattle.kt_mean.specs.Exceptions.{class_name, message}

-- How a call ends: by words without a shape, by a refusal with its report, or as its run ends.
pub data Ending : Type 0 where
  Usage : Ending
  Refused : (report : List ℕ) → Ending
  Ran : RunEnding → Ending

-- the course of a call
pub record Course : Type 0 where
  pub events : List Event
  pub ending : Ending

-- the course of a call that does nothing but end
abbrev pub ended : Ending → Course
ended ending = record { events = []; ending = ending }

-- the course of a call that runs
abbrev pub course_of_run : RunCourse → Course
course_of_run run = record { events = run.events; ending = Ran run.ending }

-- how often a `readLine` is entered
abbrev pub askings : List Event → ℕ
askings [] = 0
askings (Asked ∷ events) = suc (askings events)
askings (Printed text ∷ events) = askings events

-- the line on `err` after a run
abbrev pub line_of_run : RunEnding → List ℕ
line_of_run Done = []
line_of_run Steps = codes "limit steps\n"
line_of_run Calls = codes "limit calls\n"
line_of_run Store = codes "limit store\n"
line_of_run Text = codes "limit text\n"
line_of_run (Uncaught e) = codes "uncaught " ++ (class_name e ++ (codes ": " ++ (message e ++ 10 ∷ [])))

-- the text on `err`: the usage line, the report, or the line of the run
abbrev pub line_of : Ending → List ℕ
line_of Usage = codes "usage: ktflow check FILE or ktflow run [--steps N] FILE\n"
line_of (Refused report) = report
line_of (Ran ending) = line_of_run ending

-- the status after a run: 9 where a limit of the written meaning is met, 7 where an exception leaves `main`
abbrev pub status_of_run : RunEnding → ℕ
status_of_run Done = 0
status_of_run Steps = 9
status_of_run Calls = 9
status_of_run Store = 9
status_of_run Text = 9
status_of_run (Uncaught e) = 7

abbrev pub status_of : Ending → ℕ
status_of Usage = 2
status_of (Refused report) = 1
status_of (Ran ending) = status_of_run ending

-- The text before the entering of the `readLine` that has this number, from 0.
pub record IsBeforeReading (number : ℕ) (events : List Event) (text : List ℕ) : Type 0 where
  pub before : List Event
  pub after : List Event
  pub split : events ≡ before ++ Asked ∷ after
  pub number_is : askings before ≡ number
  pub text_is : text ≡ text_of before

-- how many lines are ended among these bytes
abbrev pub lines_ended : List ℕ → ℕ
lines_ended bytes = count_by (λ b. nat_eq b 10) bytes
