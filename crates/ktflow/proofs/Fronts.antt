-- The prefix rule, from what a call did.
use Rattle.std.proofs.Common.{◌≢◌, inl, inr, ℕ, List, [], ◌++◌, ap, subst, ◌∙◌}
use Rattle.std.specs.Io.KnownBytes.{Appends}
use Rattle.kt_outside.specs.Outside.{OutputState}
use Rattle.kt_outside.specs.Texts.{IsPrefix}
use Rattle.kt_mean.specs.Events.{text_of}
use Rattle.ktflow.specs.Course.{Course, Ending, line_of, lines_ended}
use Rattle.ktflow.specs.Program.{HasCourse}
use Rattle.ktflow.specs.Invoking.{Outside, Performs, Reports, Invocation, line_of_stop}
use Rattle.ktflow.specs.Clauses.{OfSource, OfInput, OfMemory, HoldsFronts, HasFronts}
use Rattle.ktflow.specs.declared.ending.Stop.{Stop}
use Rattle.ktflow.specs.declared.ending.Stop.TheVariants.{Ended, SourceFault, InputFault, OutputFault, NoMemory}
use Rattle.ktflow.proofs.Courses.{whole_front, empty_front, nothing_front, before_front, from_told}
use Rattle.ktflow.proofs.OneCourse.{has_one_course}

-- what was reported, and that it is a front of the line
pub record ReportedFront (old new : OutputState) (line : List ℕ) : Type 0 where
  pub reported : List ℕ
  pub appended : Appends old.written new.written reported
  pub front : IsPrefix reported line

reported_front : (old new : OutputState) (stop : Stop) (status : ℕ) → Reports old new stop status → ReportedFront old new (line_of_stop stop)
reported_front old new stop status (inl w) = record { reported = line_of_stop stop; appended = w.puts.puts.appended; front = whole_front (line_of_stop stop) }
reported_front old new stop status (inr f) = record { reported = f.puts.put; appended = f.puts.appended; front = f.puts.front }

holds_fronts : (words : List (List ℕ)) (before after : Outside) (stop : Stop) → (p : Performs words before after stop) → ReportedFront before.err after.err (line_of_stop stop) → (course : Course) → HasCourse words p.source (p.taken ++ p.left) course → HoldsFronts course words before after
holds_fronts words before after (Ended ending) p r course h =
    let same = has_one_course words p.source (p.taken ++ p.left) p.stops.course course p.stops.has_course h in
    record {
      put = p.put;
      out = p.puts;
      out_front = subst (λ (t : List ℕ). IsPrefix p.put t) (p.stops.text ∙ ap (λ (c : Course). text_of c.events) same) (whole_front p.put);
      reported = r.reported;
      err = r.appended;
      err_front = inl (subst (λ (e : Ending). IsPrefix r.reported (line_of e)) (p.stops.ending_is ∙ ap (λ (c : Course). c.ending) same) r.front);
    }
holds_fronts words before after SourceFault p r course h = record {
  put = p.put;
  out = p.puts;
  out_front = empty_front p.put (text_of course.events) p.stops.none_put;
  reported = r.reported;
  err = r.appended;
  err_front = inr (OfSource r.front p.stops.rose);
}
holds_fronts words before after InputFault p r course h =
    let same = has_one_course words p.source (p.taken ++ p.left) p.stops.course course p.stops.has_course h in
    record {
      put = p.put;
      out = p.puts;
      out_front = subst (λ (c : Course). IsPrefix p.put (text_of c.events)) same (before_front (lines_ended p.taken) p.stops.course.events p.put p.stops.text);
      reported = r.reported;
      err = r.appended;
      err_front = inr (OfInput r.front p.stops.rose);
    }
holds_fronts words before after OutputFault p r course h =
    let same = has_one_course words p.source (p.taken ++ p.left) p.stops.course course p.stops.has_course h in
    record {
      put = p.put;
      out = p.puts;
      out_front = subst (λ (c : Course). IsPrefix p.put (text_of c.events)) same p.stops.text;
      reported = r.reported;
      err = r.appended;
      err_front = inl (empty_front r.reported (line_of course.ending) (nothing_front r.reported r.front));
    }
holds_fronts words before after NoMemory p r course h = record {
  put = p.put;
  out = p.puts;
  out_front = p.stops.text course h;
  reported = r.reported;
  err = r.appended;
  err_front = inr (OfMemory r.front p.stops.shape);
}

-- where the count of `out` changed, nothing was put on `err`
is_silent : (words : List (List ℕ)) (before after : Outside) (stop : Stop) → Performs words before after stop → ReportedFront before.err after.err (line_of_stop stop) → after.out.faults ≢ before.out.faults → Appends before.err.written after.err.written []
is_silent words before after (Ended ending) p r changed = absurd (changed p.stops.out_count)
is_silent words before after SourceFault p r changed = absurd (changed p.stops.out_count)
is_silent words before after InputFault p r changed = absurd (changed p.stops.out_count)
is_silent words before after OutputFault p r changed = subst (λ (b : List ℕ). Appends before.err.written after.err.written b) (nothing_front r.reported r.front) r.appended
is_silent words before after NoMemory p r changed = absurd (changed p.stops.out_count)

pub fronts_from : (words : List (List ℕ)) (before after : Outside) (status : ℕ) → Invocation words before after status → HasFronts words before after
fronts_from words before after status i =
    let r = reported_front before.err after.err i.stop status i.reports in
    record {
      texts = λ source input told course h. holds_fronts words before after i.stop i.performs r course (from_told words before after i.stop source input course told i.performs h);
      silent = λ changed. is_silent words before after i.stop i.performs r changed;
    }
