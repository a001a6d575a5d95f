-- A call has at most one course.
use Rattle.std.proofs.Common.{◌≡◌, ℕ, List, Option, Some, None, sym, ap, subst, ◌∙◌}
use Rattle.kt_mean.specs.Events.{RunCourse}
use Rattle.ktflow.specs.Course.{Refused, ended, course_of_run}
use Rattle.ktflow.specs.Language.{IsRun}
use Rattle.ktflow.specs.Program.{Request, usage, refused, ran, OneCourse, request_of, counted}
use Rattle.ktflow.proofs.LanguageLaws.{one_report, one_run, never_both}

-- words without a shape have no request
pub none_some : {A : Type 0} (x : A) (o : Option A) → o ≡ None → o ≡ Some x → ⊥
none_some x o n s = let e : None ≡ Some x = sym n ∙ s in cc

-- words have one request
pub same_some : {A : Type 0} (x y : A) (o : Option A) → o ≡ Some x → o ≡ Some y → x ≡ y
same_some x y o p q = let e : Some x ≡ Some y = sym p ∙ q in cc

-- the run of the same request
same_run : (words : List (List ℕ)) (source input : List ℕ) (r s : Request) (run other : RunCourse) → request_of words ≡ Some r → request_of words ≡ Some s → IsRun source r.steps input run → IsRun source s.steps input other → run ≡ other
same_run words source input r s run other p q a b =
    let steps : s.steps ≡ r.steps = ap (λ (x : Request). x.steps) (same_some s r (request_of words) q p) in
    one_run source r.steps input run other a (subst (λ (n : ℕ). IsRun source n input other) steps b)

pub has_one_course : OneCourse
has_one_course words source input course other (usage n c) (usage m d) = c ∙ sym d
has_one_course words source input course other (usage n c) (refused s report q b d) = absurd (none_some s (request_of words) n q)
has_one_course words source input course other (usage n c) (ran s run q b d) = absurd (none_some s (request_of words) n q)
has_one_course words source input course other (refused r report p a c) (usage m d) = absurd (none_some r (request_of words) m p)
has_one_course words source input course other (refused r report p a c) (refused s report' q b d) = c ∙ ap (λ (x : List ℕ). ended (Refused x)) (one_report (counted source) report report' a b) ∙ sym d
has_one_course words source input course other (refused r report p a c) (ran s run q b d) = absurd (never_both (counted source) report s.steps input run a b)
has_one_course words source input course other (ran r run p a c) (usage m d) = absurd (none_some r (request_of words) m p)
has_one_course words source input course other (ran r run p a c) (refused s report q b d) = absurd (never_both (counted source) report r.steps input run b a)
has_one_course words source input course other (ran r run p a c) (ran s run' q b d) = c ∙ ap (λ (x : RunCourse). course_of_run x) (same_run words (counted source) input r s run run' p q a b) ∙ sym d
