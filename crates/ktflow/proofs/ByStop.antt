-- What a call did, by what stopped it: which course it answers, and which cause a status shows.
use Rattle.std.proofs.Common.{◌≡◌, ◌≢◌, ◌⊎◌, inl, inr, ℕ, ◌<◌, List, ◌++◌, length, None, refl, sym, ap, subst, ◌∙◌, arith}
use Rattle.std.specs.Io.KnownBytes.{Appends}
use Rattle.kt_outside.specs.Outside.{OutputState, Rose}
use Rattle.kt_mean.specs.Events.{text_of}
use Rattle.ktflow.specs.Course.{Course, Ending, ended, askings, line_of, status_of, lines_ended, IsBeforeReading}
use Rattle.ktflow.specs.Course as course
use Rattle.ktflow.specs.Program.{HasCourse, usage, request_of}
use Rattle.ktflow.specs.Executing.{ending_of}
use Rattle.ktflow.specs.Invoking.{Outside, HasShape, StopsAtFetch, StopsAtTake, Performs, Reports}
use Rattle.ktflow.specs.Clauses.{IsAnswer, AnswersCourse, IsQuiet, LeavesInput, DoesNotRun, EndsAtSource}
use Rattle.ktflow.specs.declared.ending.Stop.{Stop}
use Rattle.ktflow.specs.declared.ending.Stop.TheVariants.{Ended, SourceFault, InputFault, OutputFault, NoMemory}
use Rattle.ktflow.proofs.Endings.{is_answer}
use Rattle.ktflow.proofs.Courses.{input_kept, asks_before_reading, none_before_reading, nothing_front, no_file}
use Rattle.ktflow.proofs.OneCourse.{has_one_course, none_some}

-- a call that came to the end of a course answers it
pub ended_answers : (words : List (List ℕ)) (before after : Outside) (stop : Stop) (status : ℕ) → (p : Performs words before after stop) → Reports before.err after.err stop status → IsAnswer status → AnswersCourse words p.source (p.taken ++ p.left) before after status
ended_answers words before after (Ended ending) status p (inl w) a = record {
  course = p.stops.course;
  has_course = p.stops.has_course;
  answers = record {
    out = subst (λ (b : List ℕ). Appends before.out.written after.out.written b) p.stops.text p.puts;
    err = subst (λ (e : Ending). Appends before.err.written after.err.written (line_of e)) p.stops.ending_is w.puts.puts.appended;
    status_is = w.status_is ∙ ap (λ (e : Ending). status_of e) p.stops.ending_is;
  };
}
ended_answers words before after SourceFault status p (inl w) a = absurd (a.source w.status_is)
ended_answers words before after InputFault status p (inl w) a = absurd (a.input w.status_is)
ended_answers words before after OutputFault status p (inl w) a = absurd (a.output w.status_is)
ended_answers words before after NoMemory status p (inl w) a = absurd (a.memory w.status_is)
ended_answers words before after stop status p (inr f) a = absurd (a.output f.status_is)

-- at status 3 a fetch failed
pub fetch_failed : (words : List (List ℕ)) (before after : Outside) (stop : Stop) (status : ℕ) → (p : Performs words before after stop) → Reports before.err after.err stop status → status ≡ 3 → StopsAtFetch words p.taken p.put before after
fetch_failed words before after (Ended ending) status p (inl w) e = absurd ((is_answer (ending_of ending)).source (sym w.status_is ∙ e))
fetch_failed words before after SourceFault status p (inl w) e = p.stops
fetch_failed words before after InputFault status p (inl w) e = absurd (omega (arith, w.status_is, e))
fetch_failed words before after OutputFault status p (inl w) e = absurd (omega (arith, w.status_is, e))
fetch_failed words before after NoMemory status p (inl w) e = absurd (omega (arith, w.status_is, e))
fetch_failed words before after stop status p (inr f) e = absurd (omega (arith, f.status_is, e))

-- at status 4 a take failed
pub take_failed : (words : List (List ℕ)) (before after : Outside) (stop : Stop) (status : ℕ) → (p : Performs words before after stop) → Reports before.err after.err stop status → status ≡ 4 → StopsAtTake words p.source (p.taken ++ p.left) p.taken p.put before after
take_failed words before after (Ended ending) status p (inl w) e = absurd ((is_answer (ending_of ending)).input (sym w.status_is ∙ e))
take_failed words before after SourceFault status p (inl w) e = absurd (omega (arith, w.status_is, e))
take_failed words before after InputFault status p (inl w) e = p.stops
take_failed words before after OutputFault status p (inl w) e = absurd (omega (arith, w.status_is, e))
take_failed words before after NoMemory status p (inl w) e = absurd (omega (arith, w.status_is, e))
take_failed words before after stop status p (inr f) e = absurd (omega (arith, f.status_is, e))

-- at status 5 a put failed
pub put_failed : (words : List (List ℕ)) (before after : Outside) (stop : Stop) (status : ℕ) → Performs words before after stop → Reports before.err after.err stop status → status ≡ 5 → Rose before.out.faults after.out.faults ⊎ Rose before.err.faults after.err.faults
put_failed words before after (Ended ending) status p (inl w) e = absurd ((is_answer (ending_of ending)).output (sym w.status_is ∙ e))
put_failed words before after SourceFault status p (inl w) e = absurd (omega (arith, w.status_is, e))
put_failed words before after InputFault status p (inl w) e = absurd (omega (arith, w.status_is, e))
put_failed words before after OutputFault status p (inl w) e = inl p.stops.rose
put_failed words before after NoMemory status p (inl w) e = absurd (omega (arith, w.status_is, e))
put_failed words before after stop status p (inr f) e = inr f.puts.rose

-- at status 6 the words have a shape
pub memory_shape : (words : List (List ℕ)) (before after : Outside) (stop : Stop) (status : ℕ) → Performs words before after stop → Reports before.err after.err stop status → status ≡ 6 → HasShape words
memory_shape words before after (Ended ending) status p (inl w) e = absurd ((is_answer (ending_of ending)).memory (sym w.status_is ∙ e))
memory_shape words before after SourceFault status p (inl w) e = absurd (omega (arith, w.status_is, e))
memory_shape words before after InputFault status p (inl w) e = absurd (omega (arith, w.status_is, e))
memory_shape words before after OutputFault status p (inl w) e = absurd (omega (arith, w.status_is, e))
memory_shape words before after NoMemory status p (inl w) e = p.stops.shape
memory_shape words before after stop status p (inr f) e = absurd (omega (arith, f.status_is, e))

-- words without a shape end the call as such
pub usage_ends : (words : List (List ℕ)) (before after : Outside) (stop : Stop) (status : ℕ) → Performs words before after stop → Reports before.err after.err stop status → request_of words ≡ None → (status ≡ 2) ⊎ (status ≡ 5)
usage_ends words before after (Ended ending) status p (inl w) none =
    let same = has_one_course words p.source (p.taken ++ p.left) p.stops.course (ended course.Usage) p.stops.has_course (usage none refl) in
    inl (w.status_is ∙ ap (λ (e : Ending). status_of e) p.stops.ending_is ∙ ap (λ (c : Course). status_of c.ending) same)
usage_ends words before after SourceFault status p (inl w) none = absurd (no_file words p.stops.name none p.stops.name_is)
usage_ends words before after InputFault status p (inl w) none =
    let same = has_one_course words p.source (p.taken ++ p.left) p.stops.course (ended course.Usage) p.stops.has_course (usage none refl) in
    absurd (none_before_reading (lines_ended p.taken) p.put (subst (λ (c : Course). IsBeforeReading (lines_ended p.taken) c.events p.put) same p.stops.text))
usage_ends words before after OutputFault status p (inl w) none = inr w.status_is
usage_ends words before after NoMemory status p (inl w) none = absurd (none_some p.stops.shape.request (request_of words) none p.stops.shape.request_is)
usage_ends words before after stop status p (inr f) none = inr f.status_is

-- a call whose course does nothing but end doesn't run
pub does_not_run : (words : List (List ℕ)) (before after : Outside) (stop : Stop) (ending : Ending) → (p : Performs words before after stop) → HasCourse words p.source (p.taken ++ p.left) (ended ending) → DoesNotRun before after
does_not_run words before after (Ended own) ending p h =
    let same = has_one_course words p.source (p.taken ++ p.left) p.stops.course (ended ending) p.stops.has_course h in
    record {
      out = subst (λ (b : List ℕ). Appends before.out.written after.out.written b) (p.stops.text ∙ ap (λ (c : Course). text_of c.events) same) p.puts;
      out_count = p.stops.out_count;
      input = record { left = input_kept before.input after.input p.taken p.left (p.stops.unread (ap (λ (c : Course). askings c.events) same)) p.takes; count = p.stops.input_count };
    }
does_not_run words before after SourceFault ending p h = record {
  out = subst (λ (b : List ℕ). Appends before.out.written after.out.written b) p.stops.none_put p.puts;
  out_count = p.stops.out_count;
  input = record { left = input_kept before.input after.input p.taken p.left p.stops.none_taken p.takes; count = p.stops.input_count };
}
does_not_run words before after InputFault ending p h =
    let same = has_one_course words p.source (p.taken ++ p.left) p.stops.course (ended ending) p.stops.has_course h in
    absurd (none_before_reading (lines_ended p.taken) p.put (subst (λ (c : Course). IsBeforeReading (lines_ended p.taken) c.events p.put) same p.stops.text))
does_not_run words before after OutputFault ending p h =
    let same = has_one_course words p.source (p.taken ++ p.left) p.stops.course (ended ending) p.stops.has_course h in
    let none : before.out.vouched < 0 = subst (λ (c : Course). before.out.vouched < length (text_of c.events)) same p.stops.not_vouched in
    absurd (omega (arith, none))
does_not_run words before after NoMemory ending p h = record {
  out = subst (λ (b : List ℕ). Appends before.out.written after.out.written b) (nothing_front p.put (p.stops.text (ended ending) h)) p.puts;
  out_count = p.stops.out_count;
  input = record { left = input_kept before.input after.input p.taken p.left (p.stops.unread (ended ending) h refl) p.takes; count = p.stops.input_count };
}

-- an input is left as it is where the course enters no `readLine`
pub leaves_input : (words : List (List ℕ)) (before after : Outside) (stop : Stop) → (p : Performs words before after stop) → (course : Course) → HasCourse words p.source (p.taken ++ p.left) course → askings course.events ≡ 0 → LeavesInput before after
leaves_input words before after (Ended ending) p course h none =
    let same = has_one_course words p.source (p.taken ++ p.left) p.stops.course course p.stops.has_course h in
    record { left = input_kept before.input after.input p.taken p.left (p.stops.unread (ap (λ (c : Course). askings c.events) same ∙ none)) p.takes; count = p.stops.input_count }
leaves_input words before after SourceFault p course h none = record { left = input_kept before.input after.input p.taken p.left p.stops.none_taken p.takes; count = p.stops.input_count }
leaves_input words before after InputFault p course h none =
    let same = has_one_course words p.source (p.taken ++ p.left) p.stops.course course p.stops.has_course h in
    absurd (asks_before_reading (lines_ended p.taken) p.stops.course.events p.put p.stops.text (ap (λ (c : Course). askings c.events) same ∙ none))
leaves_input words before after OutputFault p course h none =
    let same = has_one_course words p.source (p.taken ++ p.left) p.stops.course course p.stops.has_course h in
    record { left = input_kept before.input after.input p.taken p.left (p.stops.unread (ap (λ (c : Course). askings c.events) same ∙ none)) p.takes; count = p.stops.input_count }
leaves_input words before after NoMemory p course h none = record { left = input_kept before.input after.input p.taken p.left (p.stops.unread course h none) p.takes; count = p.stops.input_count }

-- words without a shape ask no library
pub no_fetch : (words : List (List ℕ)) (before after : Outside) (stop : Stop) → Performs words before after stop → request_of words ≡ None → after.library.faults ≡ before.library.faults
no_fetch words before after (Ended ending) p none = p.stops.library_count
no_fetch words before after SourceFault p none = absurd (no_file words p.stops.name none p.stops.name_is)
no_fetch words before after InputFault p none = p.stops.library_count
no_fetch words before after OutputFault p none = p.stops.library_count
no_fetch words before after NoMemory p none = p.stops.library_count

-- where the library's count changed, a fetch ended the call
pub ends_at_source : (words : List (List ℕ)) (before after : Outside) (stop : Stop) (status : ℕ) → Performs words before after stop → Reports before.err after.err stop status → after.library.faults ≢ before.library.faults → EndsAtSource before after status
ends_at_source words before after (Ended ending) status p r changed = absurd (changed p.stops.library_count)
ends_at_source words before after SourceFault status p (inl w) changed = record {
  status_is = inl w.status_is;
  runs_not = record { out = subst (λ (b : List ℕ). Appends before.out.written after.out.written b) p.stops.none_put p.puts; out_count = p.stops.out_count; input = record { left = input_kept before.input after.input p.taken p.left p.stops.none_taken p.takes; count = p.stops.input_count } };
}
ends_at_source words before after SourceFault status p (inr f) changed = record {
  status_is = inr f.status_is;
  runs_not = record { out = subst (λ (b : List ℕ). Appends before.out.written after.out.written b) p.stops.none_put p.puts; out_count = p.stops.out_count; input = record { left = input_kept before.input after.input p.taken p.left p.stops.none_taken p.takes; count = p.stops.input_count } };
}
ends_at_source words before after InputFault status p r changed = absurd (changed p.stops.library_count)
ends_at_source words before after OutputFault status p r changed = absurd (changed p.stops.library_count)
ends_at_source words before after NoMemory status p r changed = absurd (changed p.stops.library_count)

-- where the input's count changed, a take ended the call
pub ends_at_input : (words : List (List ℕ)) (before after : Outside) (stop : Stop) (status : ℕ) → Performs words before after stop → Reports before.err after.err stop status → after.input.faults ≢ before.input.faults → (status ≡ 4) ⊎ (status ≡ 5)
ends_at_input words before after (Ended ending) status p r changed = absurd (changed p.stops.input_count)
ends_at_input words before after SourceFault status p r changed = absurd (changed p.stops.input_count)
ends_at_input words before after InputFault status p (inl w) changed = inl w.status_is
ends_at_input words before after InputFault status p (inr f) changed = inr f.status_is
ends_at_input words before after OutputFault status p r changed = absurd (changed p.stops.input_count)
ends_at_input words before after NoMemory status p r changed = absurd (changed p.stops.input_count)

-- where the count of `out` changed, a put on it ended the call
pub ends_at_output : (words : List (List ℕ)) (before after : Outside) (stop : Stop) (status : ℕ) → Performs words before after stop → Reports before.err after.err stop status → after.out.faults ≢ before.out.faults → status ≡ 5
ends_at_output words before after (Ended ending) status p r changed = absurd (changed p.stops.out_count)
ends_at_output words before after SourceFault status p r changed = absurd (changed p.stops.out_count)
ends_at_output words before after InputFault status p r changed = absurd (changed p.stops.out_count)
ends_at_output words before after OutputFault status p (inl w) changed = w.status_is
ends_at_output words before after OutputFault status p (inr f) changed = f.status_is
ends_at_output words before after NoMemory status p r changed = absurd (changed p.stops.out_count)

-- where the count of `err` changed, a put on it failed
pub ends_at_report : (old new : OutputState) (stop : Stop) (status : ℕ) → Reports old new stop status → new.faults ≢ old.faults → status ≡ 5
ends_at_report old new stop status (inl w) changed = absurd (changed w.puts.faults)
ends_at_report old new stop status (inr f) changed = f.status_is

-- a status of no fault passes over none
pub is_quiet : (words : List (List ℕ)) (before after : Outside) (stop : Stop) (status : ℕ) → Performs words before after stop → Reports before.err after.err stop status → status ≢ 3 → status ≢ 4 → status ≢ 5 → IsQuiet before after
is_quiet words before after (Ended ending) status p (inl w) a b c = record { library = p.stops.library_count; input = p.stops.input_count; out = p.stops.out_count; err = w.puts.faults }
is_quiet words before after SourceFault status p (inl w) a b c = absurd (a w.status_is)
is_quiet words before after InputFault status p (inl w) a b c = absurd (b w.status_is)
is_quiet words before after OutputFault status p (inl w) a b c = absurd (c w.status_is)
is_quiet words before after NoMemory status p (inl w) a b c = record { library = p.stops.library_count; input = p.stops.input_count; out = p.stops.out_count; err = w.puts.faults }
is_quiet words before after stop status p (inr f) a b c = absurd (c f.status_is)
