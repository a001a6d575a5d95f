-- What the public clauses of the program say. This project's own; it knows no language. A later status adds a field to `HasStatuses`
-- and changes none.
use Rattle.std.specs.Prelude.{◌≡◌, ◌≢◌, ◌⊎◌, ℕ, ◌≤◌, List, [], ◌++◌, length, Bool, true, false, Some, None, IfSome, IsTrue, codes}
use Rattle.std.specs.Io.KnownBytes.{Keeps, Appends}
use Rattle.kt_outside.specs.Outside.{Rose}
use Rattle.kt_outside.specs.Texts.{IsPrefix}
use Rattle.kt_mean.specs.Events.{text_of}
use Rattle.ktflow.specs.Course.{Course, Ending, Usage, Refused, Ran, askings, line_of, status_of, IsBeforeReading, lines_ended}
use Rattle.ktflow.specs.Language.{IsRefused}
use Rattle.ktflow.specs.Program.{HasCourse, request_of, file_of, counted}
use Rattle.ktflow.specs.Invoking.{Outside, HasShape}
use Rattle.kt_mean.specs.declared.states.RunEnding.TheVariants.{Done, Steps, Calls, Store, Text, Uncaught}

-- ---- the premises

-- The bytes of FILE, where the words have one, and those of the input are told.
pub record Tells (before : Outside) (words : List (List ℕ)) (source input : List ℕ) : Type 0 where
  pub source_told : IfSome (file_of words) (λ name. before.library.told name ≡ Some source)
  pub input_told : before.input.left ≡ Some input

-- The words have a FILE, and its bytes are told.
pub record TellsFile (before : Outside) (words : List (List ℕ)) (source : List ℕ) : Type 0 where
  pub name : List ℕ
  pub name_is : file_of words ≡ Some name
  pub told : before.library.told name ≡ Some source

-- The status is none of a fault or of want of memory.
pub record IsAnswer (status : ℕ) : Type 0 where
  pub source : status ≢ 3
  pub input : status ≢ 4
  pub output : status ≢ 5
  pub memory : status ≢ 6

-- ---- the whole program

-- Both texts and the status are those of the course.
pub record Answers (course : Course) (before after : Outside) (status : ℕ) : Type 0 where
  pub out : Appends before.out.written after.out.written (text_of course.events)
  pub err : Appends before.err.written after.err.written (line_of course.ending)
  pub status_is : status ≡ status_of course.ending

-- The call has a course, and answers it.
pub record AnswersCourse (words : List (List ℕ)) (source input : List ℕ) (before after : Outside) (status : ℕ) : Type 0 where
  pub course : Course
  pub has_course : HasCourse words source input course
  pub answers : Answers course before after status

-- Where the bytes are told, and there was no fault and no want of memory, the call has a course and answers it.
abbrev pub IsProgram : List (List ℕ) → Outside → Outside → ℕ → Type 0
IsProgram words before after status = (source input : List ℕ) → Tells before words source input → IsAnswer status → AnswersCourse words source input before after status

-- ---- one clause for each status

-- The call has a course whose ending passes this test.
pub record HasEnding (test : Ending → Bool) (words : List (List ℕ)) (source input : List ℕ) : Type 0 where
  pub course : Course
  pub has_course : HasCourse words source input course
  pub passes : IsTrue (test course.ending)

-- `main` came to its end
abbrev pub is_done : Ending → Bool
is_done Usage = false
is_done (Refused report) = false
is_done (Ran Done) = true
is_done (Ran Steps) = false
is_done (Ran Calls) = false
is_done (Ran Store) = false
is_done (Ran Text) = false
is_done (Ran (Uncaught e)) = false

-- a limit of the written meaning was met
abbrev pub is_limit : Ending → Bool
is_limit Usage = false
is_limit (Refused report) = false
is_limit (Ran Done) = false
is_limit (Ran Steps) = true
is_limit (Ran Calls) = true
is_limit (Ran Store) = true
is_limit (Ran Text) = true
is_limit (Ran (Uncaught e)) = false

-- an exception left `main`
abbrev pub is_uncaught : Ending → Bool
is_uncaught Usage = false
is_uncaught (Refused report) = false
is_uncaught (Ran Done) = false
is_uncaught (Ran Steps) = false
is_uncaught (Ran Calls) = false
is_uncaught (Ran Store) = false
is_uncaught (Ran Text) = false
is_uncaught (Ran (Uncaught e)) = true

-- Where the bytes are told, the status is this number only where the call has a course that ends so; and where it has one, the status is
-- this number, unless there was a fault or want of memory.
pub record MeansEnding (number : ℕ) (test : Ending → Bool) (words : List (List ℕ)) (before after : Outside) (status : ℕ) : Type 0 where
  pub only : status ≡ number → (source input : List ℕ) → Tells before words source input → HasEnding test words source input
  pub always : (source input : List ℕ) → Tells before words source input → HasEnding test words source input → IsAnswer status → status ≡ number

-- The written rules refuse the source; nothing is put on `out`, and the report on `err`.
pub record IsRefusal (source : List ℕ) (before after : Outside) : Type 0 where
  pub report : List ℕ
  pub is_refused : IsRefused (counted source) report
  pub out : Appends before.out.written after.out.written []
  pub err : Appends before.err.written after.err.written report

-- Status 1 comes exactly where a written rule is violated, unless there was a fault or want of memory. This asks for the bytes of FILE
-- alone, and not for those of the input.
pub record MeansRefusal (words : List (List ℕ)) (before after : Outside) (status : ℕ) : Type 0 where
  pub only : status ≡ 1 → (source : List ℕ) → TellsFile before words source → IsRefusal source before after
  pub always : (source report : List ℕ) → TellsFile before words source → IsRefused (counted source) report → IsAnswer status → status ≡ 1
  pub shape : status ≡ 1 → HasShape words

-- Status 2 comes exactly where the words have no shape, unless the usage line can't be put.
pub record MeansUsage (words : List (List ℕ)) (before after : Outside) (status : ℕ) : Type 0 where
  pub only : status ≡ 2 → request_of words ≡ None
  pub always : request_of words ≡ None → (status ≡ 2) ⊎ (status ≡ 5)
  pub out : request_of words ≡ None → Appends before.out.written after.out.written []
  pub err : status ≡ 2 → Appends before.err.written after.err.written (line_of Usage)

-- Status 3 comes only where the words have a FILE, and the library's count of faults rose.
pub record IsSourceFault (words : List (List ℕ)) (before after : Outside) : Type 0 where
  pub name : List ℕ
  pub name_is : file_of words ≡ Some name
  pub rose : Rose before.library.faults after.library.faults

-- `out` holds the text before the first `readLine` whose line is not ended among the bytes that were taken.
pub record StopsAtReading (words : List (List ℕ)) (source input : List ℕ) (before after : Outside) : Type 0 where
  pub course : Course
  pub has_course : HasCourse words source input course
  pub taken : List ℕ
  pub left : List ℕ
  pub input_is : input ≡ taken ++ left
  pub left_is : after.input.left ≡ Some left
  pub put : List ℕ
  pub out : Appends before.out.written after.out.written put
  pub text : IsBeforeReading (lines_ended taken) course.events put

-- Status 4 comes only where the input's count of faults rose and, where the bytes are told, the call has a course that enters a
-- `readLine`.
pub record IsInputFault (words : List (List ℕ)) (before after : Outside) : Type 0 where
  pub rose : Rose before.input.faults after.input.faults
  pub reading : (source input : List ℕ) → Tells before words source input → StopsAtReading words source input before after

-- Each status comes where its cause stands: 5 only where the count of `out` or `err` rose, 6 never for words without a shape.
pub record HasStatuses (words : List (List ℕ)) (before after : Outside) (status : ℕ) : Type 0 where
  pub done : MeansEnding 0 is_done words before after status
  pub refusal : MeansRefusal words before after status
  pub usage : MeansUsage words before after status
  pub source_fault : status ≡ 3 → IsSourceFault words before after
  pub input_fault : status ≡ 4 → IsInputFault words before after
  pub output_fault : status ≡ 5 → Rose before.out.faults after.out.faults ⊎ Rose before.err.faults after.err.faults
  pub memory : status ≡ 6 → HasShape words
  pub uncaught : MeansEnding 7 is_uncaught words before after status
  pub limit : MeansEnding 9 is_limit words before after status

-- ---- the order of causes

-- No count of faults changed.
pub record IsQuiet (before after : Outside) : Type 0 where
  pub library : after.library.faults ≡ before.library.faults
  pub input : after.input.faults ≡ before.input.faults
  pub out : after.out.faults ≡ before.out.faults
  pub err : after.err.faults ≡ before.err.faults

-- No byte of the input is taken, and its count didn't change.
pub record LeavesInput (before after : Outside) : Type 0 where
  pub left : Keeps before.input.left after.input.left
  pub count : after.input.faults ≡ before.input.faults

-- Nothing is put on `out` and nothing taken of the input, and neither's count changed.
pub record DoesNotRun (before after : Outside) : Type 0 where
  pub out : Appends before.out.written after.out.written []
  pub out_count : after.out.faults ≡ before.out.faults
  pub input : LeavesInput before after

-- Words without a shape ask nothing of the library, and don't run.
pub record AsksNothing (before after : Outside) : Type 0 where
  pub library_count : after.library.faults ≡ before.library.faults
  pub runs_not : DoesNotRun before after

-- A source fault is the status, unless its line can't be put; nothing runs after it.
pub record EndsAtSource (before after : Outside) (status : ℕ) : Type 0 where
  pub status_is : (status ≡ 3) ⊎ (status ≡ 5)
  pub runs_not : DoesNotRun before after

-- The order of causes: the words, a source fault, want of memory, a refusal, and then as the written meaning goes; the input is left as it
-- is where no `readLine` is entered. No fault is passed over: where a count changed, the status is that of a fault.
pub record HasOrder (words : List (List ℕ)) (before after : Outside) (status : ℕ) : Type 0 where
  pub by_words : request_of words ≡ None → AsksNothing before after
  pub by_source : after.library.faults ≢ before.library.faults → EndsAtSource before after status
  pub by_refusal : (source report : List ℕ) → TellsFile before words source → IsRefused (counted source) report → DoesNotRun before after
  pub by_reading : (source input : List ℕ) → Tells before words source input → (course : Course) → HasCourse words source input course → askings course.events ≡ 0 → LeavesInput before after
  pub by_input : after.input.faults ≢ before.input.faults → (status ≡ 4) ⊎ (status ≡ 5)
  pub by_output : after.out.faults ≢ before.out.faults → status ≡ 5
  pub by_report : after.err.faults ≢ before.err.faults → status ≡ 5
  pub none_passed_over : status ≢ 3 → status ≢ 4 → status ≢ 5 → IsQuiet before after

-- ---- the prefix rule

-- a front of the line of a fault that came, or of want of memory
pub data IsFaultFront (reported : List ℕ) (words : List (List ℕ)) (before after : Outside) : Type 0 where
  OfSource : IsPrefix reported (codes "cannot read source\n") → Rose before.library.faults after.library.faults → IsFaultFront reported words before after
  OfInput : IsPrefix reported (codes "cannot read input\n") → Rose before.input.faults after.input.faults → IsFaultFront reported words before after
  OfMemory : IsPrefix reported (codes "no memory\n") → HasShape words → IsFaultFront reported words before after

-- `out` holds a front of its text, and `err` one of its text or of the line of a fault.
pub record HoldsFronts (course : Course) (words : List (List ℕ)) (before after : Outside) : Type 0 where
  pub put : List ℕ
  pub out : Appends before.out.written after.out.written put
  pub out_front : IsPrefix put (text_of course.events)
  pub reported : List ℕ
  pub err : Appends before.err.written after.err.written reported
  pub err_front : IsPrefix reported (line_of course.ending) ⊎ IsFaultFront reported words before after

-- Whatever came, the outputs hold fronts; where a put on `out` failed, nothing is put on `err`.
pub record HasFronts (words : List (List ℕ)) (before after : Outside) : Type 0 where
  pub texts : (source input : List ℕ) → Tells before words source input → (course : Course) → HasCourse words source input course → HoldsFronts course words before after
  pub silent : after.out.faults ≢ before.out.faults → Appends before.err.written after.err.written []

-- ---- completeness

-- The objects vouch for the call: the library for FILE, the input, and each output for its text, `err` for 10 bytes at least, which is
-- the line of want of memory.
pub record Vouches (before : Outside) (words : List (List ℕ)) (course : Course) : Type 0 where
  pub library : IfSome (file_of words) (λ name. IsTrue (before.library.vouches name))
  pub input : IsTrue before.input.vouches
  pub out : length (text_of course.events) ≤ before.out.vouched
  pub err : length (line_of course.ending) ≤ before.err.vouched
  pub err_memory : 10 ≤ before.err.vouched

-- Objects that vouch give no excuse. Where no count rose or stands at its last value, the call answers a course of its, or there was no
-- memory. A library that vouches for FILE gives no status 3, an input that vouches no status 4. Where all vouch, no count changes.
pub record IsComplete (words : List (List ℕ)) (before after : Outside) (status : ℕ) : Type 0 where
  pub answers : (source input : List ℕ) → Tells before words source input
      → (Rose before.library.faults after.library.faults → ⊥) → (Rose before.input.faults after.input.faults → ⊥)
      → (Rose before.out.faults after.out.faults → ⊥) → (Rose before.err.faults after.err.faults → ⊥)
      → AnswersCourse words source input before after status ⊎ (status ≡ 6)
  pub library : (name : List ℕ) → file_of words ≡ Some name → IsTrue (before.library.vouches name) → status ≢ 3
  pub input : IsTrue before.input.vouches → status ≢ 4
  pub counts : (source input : List ℕ) → Tells before words source input → (course : Course) → HasCourse words source input course → Vouches before words course → IsQuiet before after
