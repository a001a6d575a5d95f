-- The rules of completeness, from what a call did.
use Rattle.std.proofs.Common.{◌≡◌, ◌⊎◌, inl, inr, ℕ, ◌<◌, ◌≤◌, List, ◌++◌, length, Bool, true, false, Option, Some, IfSome, IsTrue, sym, ap, subst, ◌∙◌, arith}
use Rattle.std.proofs.lemmas.Bool.{false≢true}
use Rattle.kt_outside.specs.Outside.{Rose}
use Rattle.kt_mean.specs.Events.{text_of}
use Rattle.ktflow.specs.Course.{Course, Ending, line_of}
use Rattle.ktflow.specs.Program.{HasCourse, file_of}
use Rattle.ktflow.specs.Executing.{ending_of}
use Rattle.ktflow.specs.Invoking.{Outside, Performs, Reports, Invocation, line_of_stop}
use Rattle.ktflow.specs.Clauses.{IsAnswer, AnswersCourse, IsQuiet, Vouches, IsComplete}
use Rattle.ktflow.specs.declared.ending.Stop.{Stop}
use Rattle.ktflow.specs.declared.ending.Stop.TheVariants.{Ended, SourceFault, InputFault, OutputFault, NoMemory}
use Rattle.ktflow.proofs.Endings.{is_answer}
use Rattle.ktflow.proofs.Courses.{from_told}
use Rattle.ktflow.proofs.OneCourse.{has_one_course, same_some}
use Rattle.ktflow.proofs.ByStop.{ended_answers, fetch_failed, take_failed}
use Rattle.ktflow.proofs.FromInvocation.{answers_told}

-- without a fault the call answers a course, or there was no memory
answers_unrisen : (words : List (List ℕ)) (before after : Outside) (stop : Stop) (status : ℕ) → (p : Performs words before after stop) → Reports before.err after.err stop status → (Rose before.library.faults after.library.faults → ⊥) → (Rose before.input.faults after.input.faults → ⊥) → (Rose before.out.faults after.out.faults → ⊥) → (Rose before.err.faults after.err.faults → ⊥) → AnswersCourse words p.source (p.taken ++ p.left) before after status ⊎ (status ≡ 6)
answers_unrisen words before after (Ended ending) status p (inl w) l i o e = inl (ended_answers words before after (Ended ending) status p (inl w) (subst (λ (n : ℕ). IsAnswer n) (sym w.status_is) (is_answer (ending_of ending))))
answers_unrisen words before after SourceFault status p (inl w) l i o e = absurd (l p.stops.rose)
answers_unrisen words before after InputFault status p (inl w) l i o e = absurd (i p.stops.rose)
answers_unrisen words before after OutputFault status p (inl w) l i o e = absurd (o p.stops.rose)
answers_unrisen words before after NoMemory status p (inl w) l i o e = inr w.status_is
answers_unrisen words before after stop status p (inr f) l i o e = absurd (e f.puts.rose)

told_or_memory : {A B : Type 0} (status : ℕ) → (A → B) → A ⊎ (status ≡ 6) → B ⊎ (status ≡ 6)
told_or_memory status f (inl a) = inl (f a)
told_or_memory status f (inr e) = inr e

not_both : (b : Bool) → IsTrue b → b ≡ false → ⊥
not_both true t e = false≢true (sym e)
not_both false t e = false≢true t

vouched_file : (file : Option (List ℕ)) (vouches : List ℕ → Bool) (name : List ℕ) → file ≡ Some name → IfSome file (λ n. IsTrue (vouches n)) → IsTrue (vouches name)
vouched_file file vouches name e v = subst (λ (o : Option (List ℕ)). IfSome o (λ n. IsTrue (vouches n))) e v

-- the text on `err` is vouched for
line_vouched : (words : List (List ℕ)) (before after : Outside) (stop : Stop) → (p : Performs words before after stop) → (course : Course) → HasCourse words p.source (p.taken ++ p.left) course → Vouches before words course → length (line_of_stop stop) ≤ before.err.vouched
line_vouched words before after (Ended ending) p course h v =
    let same = has_one_course words p.source (p.taken ++ p.left) p.stops.course course p.stops.has_course h in
    subst (λ (e : Ending). length (line_of e) ≤ before.err.vouched) (sym (p.stops.ending_is ∙ ap (λ (c : Course). c.ending) same)) v.err
line_vouched words before after SourceFault p course h v = absurd (not_both _ (vouched_file (file_of words) before.library.vouches p.stops.name p.stops.name_is v.library) p.stops.not_vouched)
line_vouched words before after InputFault p course h v = absurd (not_both _ v.input p.stops.not_vouched)
line_vouched words before after OutputFault p course h v = omega arith
line_vouched words before after NoMemory p course h v = v.err_memory

-- where all objects vouch, no count changes
counts_vouched : (words : List (List ℕ)) (before after : Outside) (stop : Stop) (status : ℕ) → (p : Performs words before after stop) → Reports before.err after.err stop status → (course : Course) → HasCourse words p.source (p.taken ++ p.left) course → Vouches before words course → IsQuiet before after
counts_vouched words before after (Ended ending) status p (inl w) course h v = record { library = p.stops.library_count; input = p.stops.input_count; out = p.stops.out_count; err = w.puts.faults }
counts_vouched words before after SourceFault status p (inl w) course h v = absurd (not_both _ (vouched_file (file_of words) before.library.vouches p.stops.name p.stops.name_is v.library) p.stops.not_vouched)
counts_vouched words before after InputFault status p (inl w) course h v = absurd (not_both _ v.input p.stops.not_vouched)
counts_vouched words before after OutputFault status p (inl w) course h v =
    let same = has_one_course words p.source (p.taken ++ p.left) p.stops.course course p.stops.has_course h in
    let short : before.out.vouched < length (text_of course.events) = subst (λ (c : Course). before.out.vouched < length (text_of c.events)) same p.stops.not_vouched in
    absurd (omega (arith, v.out, short))
counts_vouched words before after NoMemory status p (inl w) course h v = record { library = p.stops.library_count; input = p.stops.input_count; out = p.stops.out_count; err = w.puts.faults }
counts_vouched words before after stop status p (inr f) course h v =
    let enough = line_vouched words before after stop p course h v in
    absurd (omega (arith, enough, f.puts.not_vouched))

pub complete_from : (words : List (List ℕ)) (before after : Outside) (status : ℕ) → Invocation words before after status → IsComplete words before after status
complete_from words before after status i =
    let p = i.performs in
    record {
      answers = λ source input told l n o e.
          told_or_memory status (λ a. answers_told words before after i.stop status source input told p a) (answers_unrisen words before after i.stop status p i.reports l n o e);
      library = λ name name_is v e.
          let f = fetch_failed words before after i.stop status p i.reports e in
          not_both (before.library.vouches name) v (subst (λ (n : List ℕ). before.library.vouches n ≡ false) (same_some f.name name (file_of words) f.name_is name_is) f.not_vouched);
      input = λ v e. not_both before.input.vouches v (take_failed words before after i.stop status p i.reports e).not_vouched;
      counts = λ source input told course h v.
          counts_vouched words before after i.stop status p i.reports course (from_told words before after i.stop source input course told p h) v;
    }
