-- Courses, their texts, and the told bytes.
use Rattle.std.proofs.Common.{◌≡◌, ℕ, arith, List, [], ◌∷◌, ◌++◌, Option, Some, None, IfSome, option_map, refl, sym, ap, subst, ◌∙◌, append_assoc, append-nil}
use Rattle.std.specs.Io.KnownBytes.{Consumes, Keeps}
use Rattle.kt_outside.specs.Outside.{InputState}
use Rattle.kt_outside.specs.Texts.{IsPrefix}
use Rattle.kt_mean.specs.Events.{Event, Asked, Printed, text_of}
use Rattle.ktflow.specs.Course.{Course, askings, IsBeforeReading}
use Rattle.ktflow.specs.Language.{IsRefused, IsRun}
use Rattle.ktflow.specs.Program.{Request, HasCourse, usage, refused, ran, request_of, file_of, counted}
use Rattle.ktflow.specs.Streams.{IsKnown, TakesBytes}
use Rattle.ktflow.specs.Invoking.{Outside, IsSource, HasShape, Performs}
use Rattle.ktflow.specs.Clauses.{Tells, TellsFile}
use Rattle.ktflow.specs.declared.ending.Stop.{Stop}

-- ---- texts

pub text_of-append : (es fs : List Event) → text_of (es ++ fs) ≡ text_of es ++ text_of fs
text_of-append [] fs = refl
text_of-append (Asked ∷ es) fs = text_of-append es fs
text_of-append (Printed t ∷ es) fs = ap (λ (s : List ℕ). t ++ s) (text_of-append es fs) ∙ sym (append_assoc t (text_of es) (text_of fs))

-- a text is a front of itself
pub whole_front : (text : List ℕ) → IsPrefix text text
whole_front text = record { rest = []; whole_is = sym (append-nil text) }

-- nothing is a front of any text
pub empty_front : (put text : List ℕ) → put ≡ [] → IsPrefix put text
empty_front put text none = record { rest = text; whole_is = ap (λ (t : List ℕ). t ++ text) (sym none) }

-- only nothing is a front of nothing
pub nothing_front : (put : List ℕ) → IsPrefix put [] → put ≡ []
nothing_front [] p = refl
nothing_front (x ∷ xs) p = absurd (let e = p.whole_is in cc)

-- the text before a `readLine` is a front
pub before_front : (n : ℕ) (events : List Event) (put : List ℕ) → IsBeforeReading n events put → IsPrefix put (text_of events)
before_front n events put b = record {
  rest = text_of b.after;
  whole_is = ap (λ (es : List Event). text_of es) b.split ∙ text_of-append b.before (Asked ∷ b.after) ∙ ap (λ (t : List ℕ). t ++ text_of b.after) (sym b.text_is);
}

-- no event is no `readLine`
no_asking : (before after : List Event) → [] ≡ before ++ (Asked ∷ after) → ⊥
no_asking [] after e = cc
no_asking (x ∷ before) after e = cc

-- a course that enters a `readLine` asks
some_asking : (before after : List Event) → askings (before ++ (Asked ∷ after)) ≡ 0 → ⊥
some_asking [] after e = omega (arith, e)
some_asking (Asked ∷ before) after e = omega (arith, e)
some_asking (Printed t ∷ before) after e = some_asking before after e

pub asks_before_reading : (n : ℕ) (events : List Event) (put : List ℕ) → IsBeforeReading n events put → askings events ≡ 0 → ⊥
asks_before_reading n events put b none = some_asking b.before b.after (sym (ap (λ (es : List Event). askings es) b.split) ∙ none)

pub none_before_reading : (n : ℕ) (put : List ℕ) → IsBeforeReading n [] put → ⊥
none_before_reading n put b = no_asking b.before b.after b.split

-- ---- words

pub file_at : (words : List (List ℕ)) (r : Request) → request_of words ≡ Some r → file_of words ≡ Some r.file
file_at words r is = ap (λ (q : Option Request). option_map (λ (x : Request). x.file) q) is

shape_at : (o : Option Request) (name : List ℕ) → option_map (λ (x : Request). x.file) o ≡ Some name → (r : Request) × (o ≡ Some r)
shape_at None name e = absurd (let f = e in cc)
shape_at (Some r) name e = (r, refl)

-- words that have a FILE have a shape
pub file_shape : (words : List (List ℕ)) (name : List ℕ) → file_of words ≡ Some name → HasShape words
file_shape words name is = let s = shape_at (request_of words) name is in record { request = s.0; request_is = s.1 }

-- words without a shape have no FILE
pub no_file : (words : List (List ℕ)) (name : List ℕ) → request_of words ≡ None → file_of words ≡ Some name → ⊥
no_file words name none is = let s = file_shape words name is in let e : None ≡ Some s.request = sym none ∙ s.request_is in cc

-- ---- told bytes

-- the bytes that the call had of FILE are the told ones
pub told_file : (words : List (List ℕ)) (before : Outside) (source had : List ℕ) → TellsFile before words source → IsSource words before.library had → had ≡ source
told_file words before source had t known =
    let at_name : IsKnown (before.library.told t.name) had = subst (λ (o : Option (List ℕ)). IfSome o (λ n. IsKnown (before.library.told n) had)) t.name_is known in
    let same : source ≡ had = subst (λ (o : Option (List ℕ)). IsKnown o had) t.told at_name in
    sym same

pub tells_file : (words : List (List ℕ)) (before : Outside) (source input : List ℕ) (r : Request) → request_of words ≡ Some r → Tells before words source input → TellsFile before words source
tells_file words before source input r is t = record {
  name = r.file;
  name_is = file_at words r is;
  told = subst (λ (o : Option (List ℕ)). IfSome o (λ n. before.library.told n ≡ Some source)) (file_at words r is) t.source_told;
}

-- what was taken and what is left are what the input told
known_before : (old new : Option (List ℕ)) (taken left : List ℕ) → Consumes old new taken → IsKnown new left → IsKnown old (taken ++ left)
known_before None new taken left p q = tt
known_before (Some xs) None taken left p q = absurd p
known_before (Some xs) (Some ys) taken left p q = p ∙ ap (λ (s : List ℕ). taken ++ s) q

pub told_input : (old new : InputState) (input taken left : List ℕ) → old.left ≡ Some input → TakesBytes old new taken left → input ≡ taken ++ left
told_input old new input taken left told t = subst (λ (o : Option (List ℕ)). IsKnown o (taken ++ left)) told (known_before old.left new.left taken left t.consumed t.left_is)

known_after : (new : Option (List ℕ)) (input taken left : List ℕ) → Consumes (Some input) new taken → IsKnown new left → new ≡ Some left
known_after None input taken left p q = absurd p
known_after (Some ys) input taken left p q = ap (λ (s : List ℕ). Some s) q

pub told_left : (old new : InputState) (input taken left : List ℕ) → old.left ≡ Some input → TakesBytes old new taken left → new.left ≡ Some left
told_left old new input taken left told t = known_after new.left input taken left (subst (λ (o : Option (List ℕ)). Consumes o new.left taken) told t.consumed) t.left_is

-- an input of which nothing was taken keeps its bytes
known_kept : (old new : Option (List ℕ)) → Consumes old new [] → Keeps old new
known_kept None new p = tt
known_kept (Some xs) None p = absurd p
known_kept (Some xs) (Some ys) p = sym p

pub input_kept : (old new : InputState) (taken left : List ℕ) → taken ≡ [] → TakesBytes old new taken left → Keeps old.left new.left
input_kept old new taken left none t = known_kept old.left new.left (subst (λ (s : List ℕ). Consumes old.left new.left s) none t.consumed)

-- a course of the same bytes
pub course_along : (words : List (List ℕ)) (source other input input' : List ℕ) (course : Course) → ((r : Request) → request_of words ≡ Some r → source ≡ other) → input ≡ input' → HasCourse words source input course → HasCourse words other input' course
course_along words source other input input' course same e (usage n c) = usage n c
course_along words source other input input' course same e (refused r report p a c) = refused r report p (subst (λ (s : List ℕ). IsRefused (counted s) report) (same r p) a) c
course_along words source other input input' course same e (ran r run p a c) =
    ran r run p (subst (λ (s : List ℕ). IsRun (counted s) r.steps input' run) (same r p) (subst (λ (i : List ℕ). IsRun (counted source) r.steps i run) e a)) c

-- a course of the call is one of the told bytes
pub to_told : (words : List (List ℕ)) (before after : Outside) (stop : Stop) (source input : List ℕ) (course : Course) → Tells before words source input → (p : Performs words before after stop) → HasCourse words p.source (p.taken ++ p.left) course → HasCourse words source input course
to_told words before after stop source input course t p h =
    course_along words p.source source (p.taken ++ p.left) input course
    (λ r is. told_file words before source p.source (tells_file words before source input r is t) p.source_is)
    (sym (told_input before.input after.input input p.taken p.left t.input_told p.takes)) h

-- and the other way round
pub from_told : (words : List (List ℕ)) (before after : Outside) (stop : Stop) (source input : List ℕ) (course : Course) → Tells before words source input → (p : Performs words before after stop) → HasCourse words source input course → HasCourse words p.source (p.taken ++ p.left) course
from_told words before after stop source input course t p h =
    course_along words source p.source input (p.taken ++ p.left) course
    (λ r is. sym (told_file words before source p.source (tells_file words before source input r is t) p.source_is))
    (told_input before.input after.input input p.taken p.left t.input_told p.takes) h
