-- One call of the program, against the courses that its words, the bytes of FILE and the input have. This project's own; it knows no
-- language.
use Rattle.std.specs.Prelude.{◌≡◌, ℕ, ◌<◌, ◌⊎◌, List, [], ◌++◌, length, Some, IfSome, false, codes}
use Rattle.std.specs.Io.KnownBytes.{Appends}
use Rattle.kt_outside.specs.Outside.{LibraryState, InputState, OutputState, KeepsLibrary, Rose}
use Rattle.kt_outside.specs.Texts.{IsPrefix}
use Rattle.kt_mean.specs.Events.{text_of}
use Rattle.ktflow.specs.Course.{Course, askings, line_of, status_of, IsBeforeReading, lines_ended}
use Rattle.ktflow.specs.Program.{Request, HasCourse, request_of, file_of}
use Rattle.kt_outside.specs.Texts.{PutsWhole, PutsFront}
use Rattle.ktflow.specs.Streams.{TakesBytes, IsKnown}
use Rattle.ktflow.specs.Executing.{ending_of}
use Rattle.ktflow.specs.declared.ending.Ending.{Ending}
use Rattle.ktflow.specs.declared.ending.Stop.{Stop}
use Rattle.ktflow.specs.declared.ending.Stop.TheVariants.{Ended, SourceFault, InputFault, OutputFault, NoMemory}

-- the states of the four objects
pub record Outside : Type 0 where
  pub library : LibraryState
  pub input : InputState
  pub out : OutputState
  pub err : OutputState

abbrev pub outside : LibraryState → InputState → OutputState → OutputState → Outside
outside library input out err = record { library = library; input = input; out = out; err = err }

-- the bytes of FILE are the told ones, where the words have one and it is told
abbrev pub IsSource : List (List ℕ) → LibraryState → List ℕ → Type 0
IsSource words library source = IfSome (file_of words) (λ name. IsKnown (library.told name) source)

-- the words have a shape
pub record HasShape (words : List (List ℕ)) : Type 0 where
  pub request : Request
  pub request_is : request_of words ≡ Some request

-- The call came to the end of a course: all its text was put, nothing was taken where it enters no `readLine`, and no count rose.
pub record StopsAtEnd (words : List (List ℕ)) (source input taken put : List ℕ) (before after : Outside) (ending : Ending) : Type 0 where
  pub course : Course
  pub has_course : HasCourse words source input course
  pub text : put ≡ text_of course.events
  pub unread : askings course.events ≡ 0 → taken ≡ []
  pub ending_is : ending_of ending ≡ course.ending
  pub library_count : after.library.faults ≡ before.library.faults
  pub input_count : after.input.faults ≡ before.input.faults
  pub out_count : after.out.faults ≡ before.out.faults

-- A fetch of FILE failed, and nothing else was done.
pub record StopsAtFetch (words : List (List ℕ)) (taken put : List ℕ) (before after : Outside) : Type 0 where
  pub name : List ℕ
  pub name_is : file_of words ≡ Some name
  pub rose : Rose before.library.faults after.library.faults
  pub not_vouched : before.library.vouches name ≡ false
  pub none_taken : taken ≡ []
  pub none_put : put ≡ []
  pub input_count : after.input.faults ≡ before.input.faults
  pub out_count : after.out.faults ≡ before.out.faults

-- A take failed: the text is the one before the first `readLine` whose line is not ended among the bytes that were taken.
pub record StopsAtTake (words : List (List ℕ)) (source input taken put : List ℕ) (before after : Outside) : Type 0 where
  pub course : Course
  pub has_course : HasCourse words source input course
  pub text : IsBeforeReading (lines_ended taken) course.events put
  pub rose : Rose before.input.faults after.input.faults
  pub not_vouched : before.input.vouches ≡ false
  pub library_count : after.library.faults ≡ before.library.faults
  pub out_count : after.out.faults ≡ before.out.faults

-- A put on `out` failed: the text is a front, nothing was taken where the course enters no `readLine`, and the output didn't vouch for
-- the whole.
pub record StopsAtPut (words : List (List ℕ)) (source input taken put : List ℕ) (before after : Outside) : Type 0 where
  pub course : Course
  pub has_course : HasCourse words source input course
  pub text : IsPrefix put (text_of course.events)
  pub unread : askings course.events ≡ 0 → taken ≡ []
  pub rose : Rose before.out.faults after.out.faults
  pub not_vouched : before.out.vouched < length (text_of course.events)
  pub library_count : after.library.faults ≡ before.library.faults
  pub input_count : after.input.faults ≡ before.input.faults

-- There was no memory, for words that have a shape.
pub record StopsForMemory (words : List (List ℕ)) (source input taken put : List ℕ) (before after : Outside) : Type 0 where
  pub shape : HasShape words
  pub text : (course : Course) → HasCourse words source input course → IsPrefix put (text_of course.events)
  pub unread : (course : Course) → HasCourse words source input course → askings course.events ≡ 0 → taken ≡ []
  pub library_count : after.library.faults ≡ before.library.faults
  pub input_count : after.input.faults ≡ before.input.faults
  pub out_count : after.out.faults ≡ before.out.faults

abbrev pub Stops : List (List ℕ) → List ℕ → List ℕ → List ℕ → List ℕ → Outside → Outside → Stop → Type 0
Stops words source taken left put before after (Ended ending) = StopsAtEnd words source (taken ++ left) taken put before after ending
Stops words source taken left put before after SourceFault = StopsAtFetch words taken put before after
Stops words source taken left put before after InputFault = StopsAtTake words source (taken ++ left) taken put before after
Stops words source taken left put before after OutputFault = StopsAtPut words source (taken ++ left) taken put before after
Stops words source taken left put before after NoMemory = StopsForMemory words source (taken ++ left) taken put before after

-- What was done before the text on `err`: FILE and the input have some bytes, the told ones where they are told, and the call stopped
-- against a course for them. What the library tells stays.
pub record Performs (words : List (List ℕ)) (before after : Outside) (stop : Stop) : Type 0 where
  pub source : List ℕ
  pub source_is : IsSource words before.library source
  pub keeps_library : KeepsLibrary before.library after.library
  pub taken : List ℕ
  pub left : List ℕ
  pub takes : TakesBytes before.input after.input taken left
  pub put : List ℕ
  pub puts : Appends before.out.written after.out.written put
  pub stops : Stops words source taken left put before after stop

-- the text on `err`
abbrev pub line_of_stop : Stop → List ℕ
line_of_stop (Ended ending) = line_of (ending_of ending)
line_of_stop SourceFault = codes "cannot read source\n"
line_of_stop InputFault = codes "cannot read input\n"
line_of_stop OutputFault = []
line_of_stop NoMemory = codes "no memory\n"

-- the status, where the text on `err` could be put
abbrev pub status_of_stop : Stop → ℕ
status_of_stop (Ended ending) = status_of (ending_of ending)
status_of_stop SourceFault = 3
status_of_stop InputFault = 4
status_of_stop OutputFault = 5
status_of_stop NoMemory = 6

-- The whole text was put on `err`.
pub record ReportsWhole (old new : OutputState) (stop : Stop) (status : ℕ) : Type 0 where
  pub puts : PutsWhole old new (line_of_stop stop)
  pub status_is : status ≡ status_of_stop stop

-- A put on `err` failed.
pub record ReportsFront (old new : OutputState) (stop : Stop) (status : ℕ) : Type 0 where
  pub puts : PutsFront old new (line_of_stop stop)
  pub status_is : status ≡ 5

abbrev pub Reports : OutputState → OutputState → Stop → ℕ → Type 0
Reports old new stop status = ReportsWhole old new stop status ⊎ ReportsFront old new stop status

-- The whole call.
pub record Invocation (words : List (List ℕ)) (before after : Outside) (status : ℕ) : Type 0 where
  pub stop : Stop
  pub performs : Performs words before after stop
  pub reports : Reports before.err after.err stop status
