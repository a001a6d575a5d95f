-- The clauses on the whole program, on each status and on the order of causes, from what a call did.
use Rattle.std.proofs.Common.{◌≡◌, ℕ, List, ◌++◌, Bool, None, IsTrue, refl, sym, ap, subst, ◌∙◌, arith}
use Rattle.std.specs.Io.KnownBytes.{Appends}
use Rattle.kt_mean.specs.Events.{text_of}
use Rattle.ktflow.specs.Course.{Course, Ending, Usage, Refused, ended, line_of, status_of}
use Rattle.ktflow.specs.Language.{IsRefused}
use Rattle.ktflow.specs.Program.{HasCourse, usage, refused, ran, request_of, counted}
use Rattle.ktflow.specs.Invoking.{Outside, HasShape, Performs, Invocation}
use Rattle.ktflow.specs.Clauses.{Tells, IsAnswer, AnswersCourse, IsProgram, MeansEnding, MeansRefusal, MeansUsage, IsSourceFault, IsInputFault, HasStatuses, DoesNotRun, HasOrder, is_done, is_limit, is_uncaught}
use Rattle.ktflow.specs.declared.ending.Stop.{Stop}
use Rattle.ktflow.proofs.Endings.{run_not_refused, run_not_usage, zero_is_done, done_is_zero, nine_is_limit, limit_is_nine, seven_is_uncaught, uncaught_is_seven}
use Rattle.ktflow.proofs.Courses.{file_shape, told_file, told_input, told_left, to_told, from_told}
use Rattle.ktflow.proofs.OneCourse.{has_one_course}
use Rattle.ktflow.proofs.ByStop.{ended_answers, fetch_failed, take_failed, put_failed, memory_shape, usage_ends, does_not_run, leaves_input, no_fetch, ends_at_source, ends_at_input, ends_at_output, ends_at_report, is_quiet}

-- what the call answers, against the told bytes
pub answers_told : (words : List (List ℕ)) (before after : Outside) (stop : Stop) (status : ℕ) (source input : List ℕ) → Tells before words source input → (p : Performs words before after stop) → AnswersCourse words p.source (p.taken ++ p.left) before after status → AnswersCourse words source input before after status
answers_told words before after stop status source input t p a = record {
  course = a.course;
  has_course = to_told words before after stop source input a.course t p a.has_course;
  answers = a.answers;
}

pub program_from : (words : List (List ℕ)) (before after : Outside) (status : ℕ) → Invocation words before after status → IsProgram words before after status
program_from words before after status i source input told a =
    answers_told words before after i.stop status source input told i.performs (ended_answers words before after i.stop status i.performs i.reports a)

-- ---- the statuses of runs

pub ending_from : (number : ℕ) (test : Ending → Bool) (words : List (List ℕ)) (before after : Outside) (status : ℕ) → IsAnswer number → ((e : Ending) → status_of e ≡ number → IsTrue (test e)) → ((e : Ending) → IsTrue (test e) → status_of e ≡ number) → IsProgram words before after status → MeansEnding number test words before after status
ending_from number test words before after status answer passes means program = record {
  only = λ e source input told.
      let a = program source input told (subst (λ (n : ℕ). IsAnswer n) (sym e) answer) in
      record { course = a.course; has_course = a.has_course; passes = passes a.course.ending (sym a.answers.status_is ∙ e) };
  always = λ source input told h answers.
      let a = program source input told answers in
      let same = has_one_course words source input a.course h.course a.has_course h.has_course in
      a.answers.status_is ∙ ap (λ (c : Course). status_of c.ending) same ∙ means h.course.ending h.passes;
}

zero_answer : IsAnswer 0
zero_answer = record { source = λ e. omega (arith, e); input = λ e. omega (arith, e); output = λ e. omega (arith, e); memory = λ e. omega (arith, e) }

one_answer : IsAnswer 1
one_answer = record { source = λ e. omega (arith, e); input = λ e. omega (arith, e); output = λ e. omega (arith, e); memory = λ e. omega (arith, e) }

two_answer : IsAnswer 2
two_answer = record { source = λ e. omega (arith, e); input = λ e. omega (arith, e); output = λ e. omega (arith, e); memory = λ e. omega (arith, e) }

seven_answer : IsAnswer 7
seven_answer = record { source = λ e. omega (arith, e); input = λ e. omega (arith, e); output = λ e. omega (arith, e); memory = λ e. omega (arith, e) }

nine_answer : IsAnswer 9
nine_answer = record { source = λ e. omega (arith, e); input = λ e. omega (arith, e); output = λ e. omega (arith, e); memory = λ e. omega (arith, e) }

-- ---- refusal

-- what a course with the status of a refusal is
pub record IsCourseOfRefusal (words : List (List ℕ)) (source : List ℕ) (course : Course) : Type 0 where
  pub report : List ℕ
  pub is_refused : IsRefused (counted source) report
  pub shape : HasShape words
  pub course_is : course ≡ ended (Refused report)

refusal_of : (words : List (List ℕ)) (source input : List ℕ) (course : Course) → HasCourse words source input course → status_of course.ending ≡ 1 → IsCourseOfRefusal words source course
refusal_of words source input course (usage none c) e =
    let two : status_of course.ending ≡ 2 = ap (λ (k : Course). status_of k.ending) c in absurd (omega (arith, two, e))
refusal_of words source input course (refused r report is a c) e = record { report = report; is_refused = a; shape = record { request = r; request_is = is }; course_is = c }
refusal_of words source input course (ran r run is a c) e = absurd (run_not_refused run.ending (sym (ap (λ (k : Course). status_of k.ending) c) ∙ e))

-- a refused source has the course of its refusal
pub refusal_course : (words : List (List ℕ)) (source input report : List ℕ) → HasShape words → IsRefused (counted source) report → HasCourse words source input (ended (Refused report))
refusal_course words source input report shape a = refused shape.request report shape.request_is a refl

-- FILE has the bytes that the call had of it
pub refused_at : (words : List (List ℕ)) (before : Outside) (source had report : List ℕ) → had ≡ source → IsRefused (counted source) report → IsRefused (counted had) report
refused_at words before source had report same a = subst (λ (s : List ℕ). IsRefused (counted s) report) (sym same) a

pub refusal_from : (words : List (List ℕ)) (before after : Outside) (status : ℕ) → Invocation words before after status → MeansRefusal words before after status
refusal_from words before after status i =
    let p = i.performs in
    record {
      only = λ e source told.
          let a = ended_answers words before after i.stop status p i.reports (subst (λ (n : ℕ). IsAnswer n) (sym e) one_answer) in
          let f = refusal_of words p.source (p.taken ++ p.left) a.course a.has_course (sym a.answers.status_is ∙ e) in
          record {
            report = f.report;
            is_refused = subst (λ (s : List ℕ). IsRefused (counted s) f.report) (told_file words before source p.source told p.source_is) f.is_refused;
            out = subst (λ (c : Course). Appends before.out.written after.out.written (text_of c.events)) f.course_is a.answers.out;
            err = subst (λ (c : Course). Appends before.err.written after.err.written (line_of c.ending)) f.course_is a.answers.err;
          };
      always = λ source report told r answers.
          let a = ended_answers words before after i.stop status p i.reports answers in
          let h = refusal_course words p.source (p.taken ++ p.left) report (file_shape words told.name told.name_is) (refused_at words before source p.source report (told_file words before source p.source told p.source_is) r) in
          a.answers.status_is ∙ ap (λ (c : Course). status_of c.ending) (has_one_course words p.source (p.taken ++ p.left) a.course (ended (Refused report)) a.has_course h);
      shape = λ e.
          let a = ended_answers words before after i.stop status p i.reports (subst (λ (n : ℕ). IsAnswer n) (sym e) one_answer) in
          (refusal_of words p.source (p.taken ++ p.left) a.course a.has_course (sym a.answers.status_is ∙ e)).shape;
    }

-- ---- words without a shape

usage_of : (words : List (List ℕ)) (source input : List ℕ) (course : Course) → HasCourse words source input course → status_of course.ending ≡ 2 → (request_of words ≡ None) × (course ≡ ended Usage)
usage_of words source input course (usage none c) e = (none, c)
usage_of words source input course (refused r report is a c) e =
    let one : status_of course.ending ≡ 1 = ap (λ (k : Course). status_of k.ending) c in absurd (omega (arith, one, e))
usage_of words source input course (ran r run is a c) e = absurd (run_not_usage run.ending (sym (ap (λ (k : Course). status_of k.ending) c) ∙ e))

pub usage_does_not_run : (words : List (List ℕ)) (before after : Outside) (status : ℕ) → Invocation words before after status → request_of words ≡ None → DoesNotRun before after
usage_does_not_run words before after status i none = does_not_run words before after i.stop Usage i.performs (usage none refl)

pub usage_from : (words : List (List ℕ)) (before after : Outside) (status : ℕ) → Invocation words before after status → MeansUsage words before after status
usage_from words before after status i =
    let p = i.performs in
    record {
      only = λ e.
          let a = ended_answers words before after i.stop status p i.reports (subst (λ (n : ℕ). IsAnswer n) (sym e) two_answer) in
          (usage_of words p.source (p.taken ++ p.left) a.course a.has_course (sym a.answers.status_is ∙ e)).0;
      always = λ none. usage_ends words before after i.stop status p i.reports none;
      out = λ none. (usage_does_not_run words before after status i none).out;
      err = λ e.
          let a = ended_answers words before after i.stop status p i.reports (subst (λ (n : ℕ). IsAnswer n) (sym e) two_answer) in
          let u = usage_of words p.source (p.taken ++ p.left) a.course a.has_course (sym a.answers.status_is ∙ e) in
          subst (λ (c : Course). Appends before.err.written after.err.written (line_of c.ending)) u.1 a.answers.err;
    }

-- ---- faults

pub source_fault_from : (words : List (List ℕ)) (before after : Outside) (status : ℕ) → Invocation words before after status → status ≡ 3 → IsSourceFault words before after
source_fault_from words before after status i e =
    let f = fetch_failed words before after i.stop status i.performs i.reports e in
    record { name = f.name; name_is = f.name_is; rose = f.rose }

pub input_fault_from : (words : List (List ℕ)) (before after : Outside) (status : ℕ) → Invocation words before after status → status ≡ 4 → IsInputFault words before after
input_fault_from words before after status i e =
    let p = i.performs in
    let f = take_failed words before after i.stop status p i.reports e in
    record {
      rose = f.rose;
      reading = λ source input told. record {
        course = f.course;
        has_course = to_told words before after i.stop source input f.course told p f.has_course;
        taken = p.taken;
        left = p.left;
        input_is = told_input before.input after.input input p.taken p.left told.input_told p.takes;
        left_is = told_left before.input after.input input p.taken p.left told.input_told p.takes;
        put = p.put;
        out = p.puts;
        text = f.text;
      };
    }

pub statuses_from : (words : List (List ℕ)) (before after : Outside) (status : ℕ) → Invocation words before after status → HasStatuses words before after status
statuses_from words before after status i = record {
  done = ending_from 0 is_done words before after status zero_answer zero_is_done done_is_zero (program_from words before after status i);
  refusal = refusal_from words before after status i;
  usage = usage_from words before after status i;
  source_fault = λ e. source_fault_from words before after status i e;
  input_fault = λ e. input_fault_from words before after status i e;
  output_fault = λ e. put_failed words before after i.stop status i.performs i.reports e;
  memory = λ e. memory_shape words before after i.stop status i.performs i.reports e;
  uncaught = ending_from 7 is_uncaught words before after status seven_answer seven_is_uncaught uncaught_is_seven (program_from words before after status i);
  limit = ending_from 9 is_limit words before after status nine_answer nine_is_limit limit_is_nine (program_from words before after status i);
}

-- ---- the order of causes

pub order_from : (words : List (List ℕ)) (before after : Outside) (status : ℕ) → Invocation words before after status → HasOrder words before after status
order_from words before after status i =
    let p = i.performs in
    record {
      by_words = λ none. record { library_count = no_fetch words before after i.stop p none; runs_not = usage_does_not_run words before after status i none };
      by_source = λ changed. ends_at_source words before after i.stop status p i.reports changed;
      by_refusal = λ source report told r.
          does_not_run words before after i.stop (Refused report) p
          (refusal_course words p.source (p.taken ++ p.left) report (file_shape words told.name told.name_is) (refused_at words before source p.source report (told_file words before source p.source told p.source_is) r));
      by_reading = λ source input told course h none. leaves_input words before after i.stop p course (from_told words before after i.stop source input course told p h) none;
      by_input = λ changed. ends_at_input words before after i.stop status p i.reports changed;
      by_output = λ changed. ends_at_output words before after i.stop status p i.reports changed;
      by_report = λ changed. ends_at_report before.err after.err i.stop status i.reports changed;
      none_passed_over = λ a b c. is_quiet words before after i.stop status p i.reports a b c;
    }
