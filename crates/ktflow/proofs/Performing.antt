-- From a fetch and an execution to what a call did.
use Rattle.std.proofs.Common.{◌≡◌, ℕ, ◌≤◌, List, [], length, Option, Some, None, IfSome, refl, sym, ap, subst, arith, option_map}
use Rattle.std.proofs.KnownBytes.{Appends-nil, Consumes-nil}
use Rattle.std.proofs.lemmas.List.{take_all}
use Rattle.kt_outside.specs.Outside.{LibraryState, InputState, OutputState, KeepsLibrary}
use Rattle.kt_outside.specs.Texts.{IsPrefix}
use Rattle.kt_mean.specs.Events.{text_of}
use Rattle.ktflow.specs.Course.{Course, Ran, ended, course_of_run}
use Rattle.ktflow.specs.Course as course
use Rattle.ktflow.specs.Language.{IsRefused, IsRun}
use Rattle.ktflow.specs.Program.{Request, HasCourse, usage, refused, ran, request_of, most_fetched, counted}
use Rattle.ktflow.specs.Streams.{IsKnown, TakesBytes}
use Rattle.ktflow.specs.Executing.{Executes, RunsOutOfMemory}
use Rattle.ktflow.specs.Fetching.{FetchesAll, FailsToFetch}
use Rattle.ktflow.specs.Invoking.{IsSource, Performs, outside}
use Rattle.kt_mean.specs.declared.states.RunEnding.{RunEnding}
use Rattle.ktflow.specs.declared.ending.Ending.TheVariants.{Usage, Refused, Ran as RanRun}
use Rattle.ktflow.specs.declared.ending.Stop.{Stop}
use Rattle.ktflow.specs.declared.ending.Stop.TheVariants.{Ended, SourceFault, InputFault, OutputFault, NoMemory}
use Rattle.ktflow.proofs.Courses.{file_at, empty_front}
use Rattle.ktflow.proofs.OneCourse.{none_some, same_some}

-- bytes that may be the known ones
pub some_known : (known : Option (List ℕ)) → (more : List ℕ) × IsKnown known more
some_known None = ([], tt)
some_known (Some xs) = (xs, refl)

-- an input that was not asked
nothing_taken : (input : InputState) → TakesBytes input input [] (some_known input.left).0
nothing_taken input = record { consumed = Consumes-nil input.left; left_is = (some_known input.left).1; vouches = refl }

-- bytes that may be those of FILE, of which the fetched ones count
some_source : (o : Option (List ℕ)) (fetched : List ℕ) → length fetched ≤ most_fetched → IfSome o (λ t. fetched ≡ counted t) → (s : List ℕ) × IsKnown o s × (fetched ≡ counted s)
some_source None fetched within p = (fetched, tt, sym (take_all most_fetched fetched within))
some_source (Some t) fetched within p = (t, refl, p)

source_at : (words : List (List ℕ)) (r : Request) (library : LibraryState) (source : List ℕ) → request_of words ≡ Some r → IsKnown (library.told r.file) source → IsSource words library source
source_at words r library source is known = subst (λ (o : Option (List ℕ)). IfSome o (λ name. IsKnown (library.told name) source)) (sym (file_at words r is)) known

-- what was put where there was no memory is a front of the text of each course
memory_front : (words : List (List ℕ)) (r : Request) (fetched source input : List ℕ) (old new : OutputState) → request_of words ≡ Some r → fetched ≡ counted source → (m : RunsOutOfMemory fetched r.steps input old new) → (course : Course) → HasCourse words source input course → IsPrefix m.put (text_of course.events)
memory_front words r fetched source input old new is cut m course (usage n c) = absurd (none_some r (request_of words) n is)
memory_front words r fetched source input old new is cut m course (refused q report p a c) =
    empty_front m.put (text_of course.events) (m.none_refused report (subst (λ (s : List ℕ). IsRefused s report) (sym cut) a))
memory_front words r fetched source input old new is cut m course (ran q run p a c) =
    let same : q ≡ r = same_some q r (request_of words) p is in
    let b : IsRun fetched r.steps input run = subst (λ (x : Request). IsRun fetched x.steps input run) same (subst (λ (s : List ℕ). IsRun s q.steps input run) (sym cut) a) in
    subst (λ (k : Course). IsPrefix m.put (text_of k.events)) (sym c) (m.front run b)

-- a source was fetched and executed
pub performs_run : (words : List (List ℕ)) (r : Request) (library library' : LibraryState) (input : InputState) (out out' err err' : OutputState) (fetched : List ℕ) (stop : Stop) → Some r ≡ request_of words → FetchesAll library library' r.file fetched → KeepsLibrary library library' → ((input : List ℕ) → Executes fetched r.steps input out out' stop) → Performs words (outside library input out err) (outside library' input out' err') stop
performs_run words r library library' input out out' err err' fetched (Ended Usage) is f keeps x = absurd (x [])
performs_run words r library library' input out out' err err' fetched (Ended (Refused report)) is f keeps executes =
    let x = executes (some_known input.left).0 in
    let s = some_source (library.told r.file) fetched f.within f.bytes in
    record {
      source = s.0;
      source_is = source_at words r library s.0 (sym is) s.1;
      keeps_library = keeps;
      taken = [];
      left = (some_known input.left).0;
      takes = nothing_taken input;
      put = [];
      puts = x.none_put;
      stops = record {
        course = ended (course.Refused report.items);
        has_course = refused r report.items (sym is) (subst (λ (b : List ℕ). IsRefused b report.items) s.2 x.is_refused) refl;
        text = refl;
        unread = λ none. refl;
        ending_is = refl;
        library_count = f.faults;
        input_count = refl;
        out_count = x.faults;
      };
    }
performs_run words r library library' input out out' err err' fetched (Ended (RanRun ending)) is f keeps executes =
    let x = executes (some_known input.left).0 in
    let s = some_source (library.told r.file) fetched f.within f.bytes in
    record {
      source = s.0;
      source_is = source_at words r library s.0 (sym is) s.1;
      keeps_library = keeps;
      taken = [];
      left = (some_known input.left).0;
      takes = nothing_taken input;
      put = text_of x.run.events;
      puts = x.puts;
      stops = record {
        course = course_of_run x.run;
        has_course = ran r x.run (sym is) (subst (λ (b : List ℕ). IsRun b r.steps (some_known input.left).0 x.run) s.2 x.is_run) refl;
        text = refl;
        unread = λ none. refl;
        ending_is = ap (λ (e : RunEnding). Ran e) (sym x.ending_is);
        library_count = f.faults;
        input_count = refl;
        out_count = x.faults;
      };
    }
performs_run words r library library' input out out' err err' fetched SourceFault is f keeps x = absurd (x [])
performs_run words r library library' input out out' err err' fetched InputFault is f keeps x = absurd (x [])
performs_run words r library library' input out out' err err' fetched OutputFault is f keeps executes =
    let x = executes (some_known input.left).0 in
    let s = some_source (library.told r.file) fetched f.within f.bytes in
    record {
      source = s.0;
      source_is = source_at words r library s.0 (sym is) s.1;
      keeps_library = keeps;
      taken = [];
      left = (some_known input.left).0;
      takes = nothing_taken input;
      put = x.put;
      puts = x.puts;
      stops = record {
        course = course_of_run x.run;
        has_course = ran r x.run (sym is) (subst (λ (b : List ℕ). IsRun b r.steps (some_known input.left).0 x.run) s.2 x.is_run) refl;
        text = x.front;
        unread = λ none. refl;
        rose = x.rose;
        not_vouched = x.not_vouched;
        library_count = f.faults;
        input_count = refl;
      };
    }
performs_run words r library library' input out out' err err' fetched NoMemory is f keeps executes =
    let x = executes (some_known input.left).0 in
    let s = some_source (library.told r.file) fetched f.within f.bytes in
    record {
      source = s.0;
      source_is = source_at words r library s.0 (sym is) s.1;
      keeps_library = keeps;
      taken = [];
      left = (some_known input.left).0;
      takes = nothing_taken input;
      put = x.put;
      puts = x.puts;
      stops = record {
        shape = record { request = r; request_is = sym is };
        text = memory_front words r fetched s.0 (some_known input.left).0 out out' (sym is) s.2 x;
        unread = λ course h none. refl;
        library_count = f.faults;
        input_count = refl;
        out_count = x.faults;
      };
    }

-- a fetch failed
pub performs_failed : (words : List (List ℕ)) (r : Request) (library library' : LibraryState) (input : InputState) (out err err' : OutputState) → Some r ≡ request_of words → FailsToFetch library library' r.file → KeepsLibrary library library' → Performs words (outside library input out err) (outside library' input out err') SourceFault
performs_failed words r library library' input out err err' is f keeps =
    let s = some_known (library.told r.file) in
    record {
      source = s.0;
      source_is = source_at words r library s.0 (sym is) s.1;
      keeps_library = keeps;
      taken = [];
      left = (some_known input.left).0;
      takes = nothing_taken input;
      put = [];
      puts = Appends-nil out.written;
      stops = record { name = r.file; name_is = file_at words r (sym is); rose = f.rose; not_vouched = f.not_vouched; none_taken = refl; none_put = refl; input_count = refl; out_count = refl };
    }

-- there was no memory for the source
pub performs_short : (words : List (List ℕ)) (r : Request) (library library' : LibraryState) (input : InputState) (out err err' : OutputState) → Some r ≡ request_of words → library'.faults ≡ library.faults → KeepsLibrary library library' → Performs words (outside library input out err) (outside library' input out err') NoMemory
performs_short words r library library' input out err err' is count keeps =
    let s = some_known (library.told r.file) in
    record {
      source = s.0;
      source_is = source_at words r library s.0 (sym is) s.1;
      keeps_library = keeps;
      taken = [];
      left = (some_known input.left).0;
      takes = nothing_taken input;
      put = [];
      puts = Appends-nil out.written;
      stops = record {
        shape = record { request = r; request_is = sym is };
        text = λ course h. empty_front [] (text_of course.events) refl;
        unread = λ course h none. refl;
        library_count = count;
        input_count = refl;
        out_count = refl;
      };
    }

-- the words have no shape
pub performs_usage : (words : List (List ℕ)) (library : LibraryState) (input : InputState) (out err err' : OutputState) → None ≡ request_of words → Performs words (outside library input out err) (outside library input out err') (Ended Usage)
performs_usage words library input out err err' is = record {
  source = [];
  source_is = subst (λ (q : Option Request). IfSome (option_map (λ (x : Request). x.file) q) (λ name. IsKnown (library.told name) [])) is tt;
  keeps_library = record { told = λ name. refl; vouches = λ name. refl; faults = omega arith };
  taken = [];
  left = (some_known input.left).0;
  takes = nothing_taken input;
  put = [];
  puts = Appends-nil out.written;
  stops = record { course = ended course.Usage; has_course = usage (sym is) refl; text = refl; unread = λ none. refl; ending_is = refl; library_count = refl; input_count = refl; out_count = refl };
}
