-- The headline from the clause on the whole program.
use Rattle.std.proofs.Common.{◌≡◌, ℕ, List, Some, None, refl, ap, subst, ◌∙◌}
use Rattle.std.specs.Io.KnownBytes.{Appends}
use Rattle.kt_tree.specs.declared.ast.declaration.File.{File}
use Rattle.kt_model.specs.NameUses.{Resolved}
use Rattle.kt_model.specs.declared.finding.Finding.{Finding}
use Rattle.kt_mean.specs.Events.{text_of}
use Rattle.kt_mean.specs.Frames.{Ending, Gave, Left, Over, Wrong, NotWrong}
use Rattle.kt_mean.specs.WholeRun.{whole, run_ending}
use Rattle.kt_mean.specs.declared.states.Value.{Value}
use Rattle.kt_mean.specs.declared.states.RunEnding.{RunEnding}
use Rattle.kt_check.specs.Violations.{IsFirstFinding, IsAccepted}
use Rattle.kt_check.proofs.OneVerdict as verdict
use Rattle.kt_report.specs.Report.{report_of}
use Rattle.ktflow.specs.Course.{Course, Refused, ended, line_of, status_of}
use Rattle.ktflow.specs.Language.{IsRun}
use Rattle.ktflow.specs.Program.{Request, HasCourse, usage, refused, ran, request_of, counted}
use Rattle.ktflow.specs.Invoking.{Outside}
use Rattle.ktflow.specs.Clauses.{Answers, IsProgram}
use Rattle.ktflow.specs.Headline.{RunsFile, RefusesFile, IsHeadline}
use Rattle.ktflow.proofs.LanguageLaws.{program_of_run}
use Rattle.ktflow.proofs.OneCourse.{none_some, same_some, has_one_course}

-- what ends a run is no wrong use
not_wrong : (e : Ending Value) (r : RunEnding) → run_ending e ≡ Some r → NotWrong e
not_wrong (Gave v s) r h = tt
not_wrong (Left w s) r h = tt
not_wrong (Over k) r h = tt
not_wrong Wrong r h = none_some r None refl h

-- an accepted source is run
runs_file : (words : List (List ℕ)) (source input : List ℕ) (before after : Outside) (status : ℕ) (r : Request) (file : File) (uses : Resolved) → request_of words ≡ Some r → IsAccepted (counted source) file uses → (course : Course) → HasCourse words source input course → Answers course before after status → RunsFile file uses r.steps input before after status
runs_file words source input before after status r file uses is acc course (usage none c) a = absurd (none_some r (request_of words) none is)
runs_file words source input before after status r file uses is acc course (refused q report p x c) a = absurd (verdict.never_both (counted source) x.finding file uses x.first acc)
runs_file words source input before after status r file uses is acc course (ran q run p x c) a =
    let y : IsRun (counted source) r.steps input run = subst (λ (k : Request). IsRun (counted source) k.steps input run) (same_some q r (request_of words) p is) x in
    record {
      program = y.program;
      is_program = program_of_run (counted source) file uses r.steps input run acc y;
      never_wrong = not_wrong (whole y.program r.steps input).ending run.ending y.ending;
      ending = run.ending;
      ending_is = y.ending;
      out = subst (λ es. Appends before.out.written after.out.written (text_of es)) (ap (λ (k : Course). k.events) c ∙ y.events) a.out;
      err = subst (λ (k : Course). Appends before.err.written after.err.written (line_of k.ending)) c a.err;
      status_is = a.status_is ∙ ap (λ (k : Course). status_of k.ending) c;
    }

-- a source with a finding is refused
refuses_file : (words : List (List ℕ)) (source input : List ℕ) (before after : Outside) (status : ℕ) (r : Request) (f : Finding) → request_of words ≡ Some r → IsFirstFinding (counted source) f → (course : Course) → HasCourse words source input course → Answers course before after status → RefusesFile (counted source) f before after status
refuses_file words source input before after status r f is first course h a =
    let own : HasCourse words source input (ended (Refused (report_of (counted source) f))) = refused r (report_of (counted source) f) is (record { finding = f; first = first; report_is = refl }) refl in
    let c = has_one_course words source input course (ended (Refused (report_of (counted source) f))) h own in
    record {
      out = subst (λ (k : Course). Appends before.out.written after.out.written (text_of k.events)) c a.out;
      err = subst (λ (k : Course). Appends before.err.written after.err.written (line_of k.ending)) c a.err;
      status_is = a.status_is ∙ ap (λ (k : Course). status_of k.ending) c;
    }

pub headline_from : (words : List (List ℕ)) (before after : Outside) (status : ℕ) → IsProgram words before after status → IsHeadline words before after status
headline_from words before after status program = record {
  runs = λ source input told answer r is file uses acc. let p = program source input told answer in runs_file words source input before after status r file uses is acc p.course p.has_course p.answers;
  refuses = λ source input told answer r is f first. let p = program source input told answer in refuses_file words source input before after status r f is first p.course p.has_course p.answers;
}
