-- One evaluation after another. These lemmas know no tree.
use Rattle.std.proofs.Common.{◌≡◌, ℕ, arith, List, [], ◌∷◌, ◌++◌, Result, Ok, Err, refl, sym, ap, subst, ◌∙◌, append_assoc, append-nil, length-append}
use Rattle.std.specs.Result.{IsErrAnd}
use Rattle.kt_outside.specs.Outside.{OutputState, Rose}
use Rattle.kt_outside.specs.Texts.{PutsBytes, PutsWhole, PutsFront}
use Rattle.kt_outside.proofs.PutSteps.{puts_none, puts_then, appends_then}
use Rattle.kt_mean.specs.Events.{Event, Asked, Printed, text_of}
use Rattle.std.proofs.Math.Path.{fun_ext}
use Rattle.kt_mean.specs.declared.states.Value.{Value}
use Rattle.kt_mean.specs.declared.states.Way.{Way}
use Rattle.kt_mean.specs.declared.states.Limit.{Limit}
use Rattle.kt_mean.specs.Frames.{State, Ending, Gave, Left, Over, Wrong, Outcome, Run, NotWrong, ◌>>=◌, ending_after, events_after, pure, leave}
use Rattle.kt_mean.specs.Evaluation.{print}
use Rattle.kt_run.specs.declared.state.State.{State as Kept}
use Rattle.kt_run.specs.declared.state.Halt.{Halt}
use Rattle.kt_run.specs.declared.state.Halt.TheVariants as halt
use Rattle.kt_run.specs.Scene.{Scene, scene, seen, Right, Ends, PutsSome, Runs, Quiet, Prints}

-- ---- texts

pub text_of-append : (es fs : List Event) → text_of (es ++ fs) ≡ text_of es ++ text_of fs
text_of-append [] fs = refl
text_of-append (Asked ∷ es) fs = text_of-append es fs
text_of-append (Printed text ∷ es) fs = ap (λ t. text ++ t) (text_of-append es fs) ∙ sym (append_assoc text (text_of es) (text_of fs))

pub whole_then : (a b c : OutputState) (es fs : List Event) → PutsWhole a b (text_of es) → PutsWhole b c (text_of fs) → PutsWhole a c (text_of (es ++ fs))
whole_then a b c es fs h k = record {
  puts = subst (λ t. PutsBytes a c t) (sym (text_of-append es fs)) (puts_then a b c (text_of es) (text_of fs) h.puts k.puts);
  faults = k.faults ∙ h.faults;
}

-- a front of a text, after a text was put whole
pub front_behind : (a b c : OutputState) (text more : List ℕ) → PutsWhole a b text → PutsFront b c more → PutsFront a c (text ++ more)
front_behind a b c text more h k = record {
  put = text ++ k.put;
  appended = appends_then a.written b.written c.written text k.put h.puts.appended k.appended;
  front = record { rest = k.front.rest; whole_is = ap (λ t. text ++ t) k.front.whole_is ∙ sym (append_assoc text k.put k.front.rest) };
  rose = subst (λ (n : ℕ). Rose n c.faults) h.faults k.rose;
  not_vouched = let l = length-append text more in omega (arith, l, h.puts.vouched, k.not_vouched);
}

pub some_behind : (a b c : OutputState) (text more : List ℕ) → PutsWhole a b text → PutsSome b c more → PutsSome a c (text ++ more)
some_behind a b c text more h k = record {
  put = text ++ k.put;
  appended = appends_then a.written b.written c.written text k.put h.puts.appended k.appended;
  front = record { rest = k.front.rest; whole_is = ap (λ t. text ++ t) k.front.whole_is ∙ sym (append_assoc text k.put k.front.rest) };
  faults = k.faults ∙ h.faults;
}

-- a front of a text is one of a longer text
pub front_more : (a c : OutputState) (text more : List ℕ) → PutsFront a c text → PutsFront a c (text ++ more)
front_more a c text more k = record {
  put = k.put;
  appended = k.appended;
  front = record { rest = k.front.rest ++ more; whole_is = ap (λ t. t ++ more) k.front.whole_is ∙ append_assoc k.put k.front.rest more };
  rose = k.rose;
  not_vouched = let l = length-append text more in omega (arith, l, k.not_vouched);
}

pub some_more : (a c : OutputState) (text more : List ℕ) → PutsSome a c text → PutsSome a c (text ++ more)
some_more a c text more k = record {
  put = k.put;
  appended = k.appended;
  front = record { rest = k.front.rest ++ more; whole_is = ap (λ t. t ++ more) k.front.whole_is ∙ append_assoc k.put k.front.rest more };
  faults = k.faults;
}

pub none_put : (out : OutputState) → PutsWhole out out []
none_put out = record { puts = puts_none out; faults = refl }

pub short_of : (out : OutputState) (text : List ℕ) → PutsSome out out text
short_of out text = record { put = []; appended = (puts_none out).appended; front = record { rest = text; whole_is = refl }; faults = refl }

-- ---- nothing wrong

first : {A B : Type 0} (e : Ending A) (f : A → Run B) → NotWrong (ending_after e f) → NotWrong e
first (Gave a s) f h = tt
first (Left w s) f h = tt
first (Over k) f h = tt
first Wrong f h = h

pub first_right : {A B : Type 0} (p : Run A) (f : A → Run B) (s : Kept) → Right (p >>= f) s → Right p s
unfolding ◌>>=◌
first_right p f s h = record { right = λ input. first (p (seen s input)).ending f (h.right input) }

pub quiet_right : {A B : Type 0} (p : Run A) (f : A → Run B) (a : A) (s t : Kept) → Right (p >>= f) s → Quiet p s (Ok a) t → Right (f a) t
unfolding ◌>>=◌
quiet_right {A} p f a s t h k = record { right = λ input. subst (λ (o : Outcome A). NotWrong (ending_after o.ending f)) (k input) (h.right input) }

pub next_right : {A B : Type 0} (p : Run A) (f : A → Run B) (a : A) (s t : Scene) → Right (p >>= f) s.state → Runs p s (Ok a) t → Right (f a) t.state
unfolding ◌>>=◌
next_right {A} p f a s t h k = record { right = λ input. subst (λ (o : Outcome A). NotWrong (ending_after o.ending f)) (k.is input) (h.right input) }

-- ---- two parts

abbrev bound : {A B : Type 0} → Outcome A → (A → Run B) → Outcome B
bound o f = record { ending = ending_after o.ending f; events = o.events ++ events_after o.ending f }

-- what a first part that gave a value makes of the second
bound_is : {A B : Type 0} (o : Outcome A) (f : A → Run B) (a : A) (s : State) (es : List Event) → o ≡ record { ending = Gave a s; events = es } → bound o f ≡ record { ending = (f a s).ending; events = es ++ (f a s).events }
bound_is o f a s es e = ap (λ o'. bound o' f) e

ends_then : {A B : Type 0} (p : Run A) (f : A → Run B) (a : A) (s t u : Scene) (g : List ℕ → Ending B) → Runs p s (Ok a) t → Ends (f a) t g u → Ends (p >>= f) s g u
unfolding ◌>>=◌
ends_then {A} {B} p f a s t u g h k = record {
  events = h.events ++ k.events;
  puts = whole_then s.out t.out u.out h.events k.events h.puts k.puts;
  is = λ input. bound_is (p (seen s.state input)) f a (seen t.state input) h.events (h.is input) ∙ ap (λ (o : Outcome B). record { ending = o.ending; events = h.events ++ o.events }) (k.is input);
}

-- the text of the whole, where the first part gave a value
text_then : {A B : Type 0} (p : Run A) (f : A → Run B) (a : A) (s t : Scene) (h : Runs p s (Ok a) t) (input : List ℕ) → text_of ((p >>= f) (seen s.state input)).events ≡ text_of h.events ++ text_of (f a (seen t.state input)).events
unfolding ◌>>=◌
text_then p f a s t h input =
    ap (λ o. text_of o.events) (bound_is (p (seen s.state input)) f a (seen t.state input) h.events (h.is input))
    ∙ text_of-append h.events (f a (seen t.state input)).events

pub then_runs : {A B : Type 0} (p : Run A) (f : A → Run B) (a : A) (s t : Scene) (r : Result B Halt) (u : Scene) → Runs p s (Ok a) t → Runs (f a) t r u → Runs (p >>= f) s r u
then_runs p f a s t (Ok b) u h k = ends_then p f a s t u _ h k
then_runs p f a s t (Err (halt.Way w)) u h k = ends_then p f a s t u _ h k
then_runs p f a s t (Err (halt.Over l)) u h k = ends_then p f a s t u _ h k
then_runs p f a s t (Err halt.OutputFault) u h k = record {
  front = λ input. subst (λ text. PutsFront s.out u.out text) (sym (text_then p f a s t h input)) (front_behind s.out t.out u.out (text_of h.events) _ h.puts (k.front input));
}
then_runs p f a s t (Err halt.NoMemory) u h k = record {
  front = λ input. subst (λ text. PutsSome s.out u.out text) (sym (text_then p f a s t h input)) (some_behind s.out t.out u.out (text_of h.events) _ h.puts (k.front input));
}

-- ---- a part that gives no value

-- the text of the whole begins with that of the first part
text_more : {A B : Type 0} (p : Run A) (f : A → Run B) (s : State) → text_of ((p >>= f) s).events ≡ text_of (p s).events ++ text_of (events_after (p s).ending f)
unfolding ◌>>=◌
text_more p f s = text_of-append (p s).events (events_after (p s).ending f)

abbrev over_outcome : {B : Type 0} → Limit → List Event → Outcome B
over_outcome k es = record { ending = Over k; events = es }

over_then : {A B : Type 0} (p : Run A) (f : A → Run B) (s t : Scene) (k : Limit) → Ends p s (λ input. Over k) t → Ends (p >>= f) s (λ input. Over k) t
unfolding ◌>>=◌
over_then {A} {B} p f s t k h = record {
  events = h.events;
  puts = h.puts;
  is = λ input. ap (λ (o : Outcome A). bound o f) (h.is input) ∙ ap (λ es. over_outcome {B = B} k es) (append-nil h.events);
}

abbrev left_outcome : {B : Type 0} → Way → State → List Event → Outcome B
left_outcome w s es = record { ending = Left w s; events = es }

left_then : {A B : Type 0} (p : Run A) (f : A → Run B) (s t : Scene) (w : Way) → Ends p s (λ input. Left w (seen t.state input)) t → Ends (p >>= f) s (λ input. Left w (seen t.state input)) t
unfolding ◌>>=◌
left_then {A} {B} p f s t w h = record {
  events = h.events;
  puts = h.puts;
  is = λ input. ap (λ (o : Outcome A). bound o f) (h.is input) ∙ ap (λ es. left_outcome {B = B} w (seen t.state input) es) (append-nil h.events);
}

pub exit_runs : {A B : Type 0} (p : Run A) (f : A → Run B) (s : Scene) (h : Halt) (t : Scene) → Runs p s (Err h) t → Runs (p >>= f) s (Err h) t
exit_runs p f s (halt.Way w) t k = left_then p f s t w k
exit_runs p f s (halt.Over l) t k = over_then p f s t l k
exit_runs p f s halt.OutputFault t k = record { front = λ input. subst (λ text. PutsFront s.out t.out text) (sym (text_more p f (seen s.state input))) (front_more s.out t.out _ _ (k.front input)) }
exit_runs p f s halt.NoMemory t k = record { front = λ input. subst (λ text. PutsSome s.out t.out text) (sym (text_more p f (seen s.state input))) (some_more s.out t.out _ _ (k.front input)) }

-- an error that is known
err_is : {B : Type 0} (q : Result B Halt) (k : Halt) → IsErrAnd q (λ y. y ≡ k) → q ≡ Err k
err_is (Ok b) k i = absurd i
err_is (Err h) k i = ap (λ y. Err y) i

-- the error of a part behind a `?`
pub exit_by : {A B : Type 0} (p : Run A) (f : A → Run B) (s t : Scene) (k : Halt) (q : Result B Halt) → IsErrAnd q (λ y. y ≡ k) → Runs p s (Err k) t → Runs (p >>= f) s q t
exit_by {A} {B} p f s t k q i h = subst (λ (x : Result B Halt). Runs (p >>= f) s x t) (sym (err_is q k i)) (exit_runs p f s k t h)

-- ---- what touches the state alone

pub quiet_runs : {A : Type 0} (p : Run A) (s : Kept) (r : Result A Halt) (t : Kept) (out : OutputState) → Quiet p s r t → Runs p (scene s out) r (scene t out)
quiet_runs p s (Ok a) t out k = record { events = []; puts = none_put out; is = k }
quiet_runs p s (Err (halt.Way w)) t out k = record { events = []; puts = none_put out; is = k }
quiet_runs p s (Err (halt.Over l)) t out k = record { events = []; puts = none_put out; is = k }
quiet_runs p s (Err halt.OutputFault) t out k = absurd k
quiet_runs p s (Err halt.NoMemory) t out k = record { front = λ input. short_of out _ }

pub quiet_then : {A B : Type 0} (p : Run A) (f : A → Run B) (a : A) (s t : Kept) (r : Result B Halt) (u : Kept) → Quiet p s (Ok a) t → Quiet (f a) t r u → Quiet (p >>= f) s r u
unfolding ◌>>=◌
quiet_then {A} {B} p f a s t (Ok b) u h k = λ input. bound_is (p (seen s input)) f a (seen t input) [] (h input) ∙ ap (λ (o : Outcome B). record { ending = o.ending; events = [] ++ o.events }) (k input)
quiet_then {A} {B} p f a s t (Err (halt.Way w)) u h k = λ input. bound_is (p (seen s input)) f a (seen t input) [] (h input) ∙ ap (λ (o : Outcome B). record { ending = o.ending; events = [] ++ o.events }) (k input)
quiet_then {A} {B} p f a s t (Err (halt.Over l)) u h k = λ input. bound_is (p (seen s input)) f a (seen t input) [] (h input) ∙ ap (λ (o : Outcome B). record { ending = o.ending; events = [] ++ o.events }) (k input)
quiet_then p f a s t (Err halt.OutputFault) u h k = k
quiet_then p f a s t (Err halt.NoMemory) u h k = k

pub quiet_exit : {A B : Type 0} (p : Run A) (f : A → Run B) (s : Kept) (h : Halt) (t : Kept) → Quiet p s (Err h) t → Quiet (p >>= f) s (Err h) t
unfolding ◌>>=◌
quiet_exit {A} p f s (halt.Way w) t k = λ input. ap (λ (o : Outcome A). bound o f) (k input)
quiet_exit {A} p f s (halt.Over l) t k = λ input. ap (λ (o : Outcome A). bound o f) (k input)
quiet_exit p f s halt.OutputFault t k = k
quiet_exit p f s halt.NoMemory t k = k

pub quiet_exit_by : {A B : Type 0} (p : Run A) (f : A → Run B) (s t : Kept) (k : Halt) (q : Result B Halt) → IsErrAnd q (λ y. y ≡ k) → Quiet p s (Err k) t → Quiet (p >>= f) s q t
quiet_exit_by {A} {B} p f s t k q i h = subst (λ (x : Result B Halt). Quiet (p >>= f) s x t) (sym (err_is q k i)) (quiet_exit p f s k t h)

-- a value alone
pub pure_quiet : {A : Type 0} (a : A) (s : Kept) → Quiet (pure a) s (Ok a) s
unfolding pure
pure_quiet a s = λ input. refl

-- a body that is left
pub leave_quiet : {A : Type 0} (w : Way) (s : Kept) → Quiet (leave {A = A} w) s (Err (halt.Way w)) s
unfolding leave
leave_quiet w s = λ input. refl

-- ---- the same evaluation in other words

pub same_quiet : {A : Type 0} (p q : Run A) (s : Kept) (r : Result A Halt) (t : Kept) → p ≡ q → Quiet q s r t → Quiet p s r t
same_quiet p q s r t e h = subst (λ x. Quiet x s r t) (sym e) h

pub same_right : {A : Type 0} (p q : Run A) (s : Kept) → p ≡ q → Right p s → Right q s
same_right p q s e h = subst (λ r. Right r s) e h

pub same_runs : {A : Type 0} (p q : Run A) (s : Scene) (r : Result A Halt) (t : Scene) → p ≡ q → Runs q s r t → Runs p s r t
same_runs p q s r t e h = subst (λ x. Runs x s r t) (sym e) h

-- a value alone
pub pure_runs : {A : Type 0} (a : A) (s : Scene) → Runs (pure a) s (Ok a) s
unfolding pure
pure_runs a s = record { events = []; puts = none_put s.out; is = λ input. refl }

-- a body that is left
pub leave_runs : {A : Type 0} (w : Way) (s : Scene) → Runs (leave {A = A} w) s (Err (halt.Way w)) s
unfolding leave
leave_runs w s = record { events = []; puts = none_put s.out; is = λ input. refl }

-- want of memory, where nothing was put
pub memory_runs : {A : Type 0} (p : Run A) (s : Kept) (t : Kept) (out : OutputState) → Runs p (scene s out) (Err halt.NoMemory) (scene t out)
memory_runs p s t out = record { front = λ input. short_of out _ }

-- the first of three parts, then the rest
pub bind_assoc : {A B C : Type 0} (p : Run A) (f : A → Run B) (g : B → Run C) → ((p >>= f) >>= g) ≡ (p >>= (λ a. f a >>= g))
unfolding ◌>>=◌
bind_assoc {A} {B} {C} p f g = fun_ext (λ s. at s (p s).ending (p s).events) where
  at : (s : State) (e : Ending A) (es : List Event) → bound (bound (record { ending = e; events = es }) f) g ≡ bound (record { ending = e; events = es }) (λ a. f a >>= g)
  at s (Gave a t) es = ap (λ fs. record { ending = ending_after (f a t).ending g; events = fs }) (append_assoc es (f a t).events (events_after (f a t).ending g))
  at s (Left w t) es = ap (λ fs. record { ending = Left w t; events = fs }) (append-nil (es ++ []))
  at s (Over k) es = ap (λ fs. record { ending = Over k; events = fs }) (append-nil (es ++ []))
  at s Wrong es = ap (λ fs. record { ending = Wrong; events = fs }) (append-nil (es ++ []))

-- a value, then the rest
pub pure_bind : {A B : Type 0} (a : A) (f : A → Run B) → (pure a >>= f) ≡ f a
unfolding ◌>>=◌ pure
pure_bind a f = refl

-- a value that is given on
pub bind_pure : {A : Type 0} (p : Run A) → (p >>= pure) ≡ p
unfolding ◌>>=◌ pure
bind_pure {A} p = fun_ext (λ s. at (p s).ending (p s).events) where
  at : (e : Ending A) (es : List Event) → bound (record { ending = e; events = es }) pure ≡ record { ending = e; events = es }
  at (Gave a t) es = ap (λ fs. record { ending = Gave a t; events = fs }) (append-nil es)
  at (Left w t) es = ap (λ fs. record { ending = Left w t; events = fs }) (append-nil es)
  at (Over k) es = ap (λ fs. record { ending = Over k; events = fs }) (append-nil es)
  at Wrong es = ap (λ fs. record { ending = Wrong; events = fs }) (append-nil es)

-- ---- printing

pub prints_runs : (s : Kept) (old new : OutputState) (text : List ℕ) (r : Result Value Halt) → Prints old new text r → Runs (print text) (scene s old) r (scene s new)
unfolding print
prints_runs s old new text (Ok v) h = record {
  events = Printed text ∷ [];
  puts = subst (λ t. PutsWhole old new t) (sym (append-nil text)) h.1;
  is = λ input. ap (λ u. record { ending = Gave u (seen s input); events = Printed text ∷ [] }) (sym h.0);
}
prints_runs s old new text (Err halt.OutputFault) h = record { front = λ input. front_more old new text [] h.1 }
prints_runs s old new text (Err (halt.Way w)) h = absurd (not_way w h.0) where
  not_way : (w : Way) → halt.Way w ≡ halt.OutputFault → ⊥
  not_way w e = cc
prints_runs s old new text (Err (halt.Over l)) h = absurd (not_over l h.0) where
  not_over : (l : Limit) → halt.Over l ≡ halt.OutputFault → ⊥
  not_over l e = cc
prints_runs s old new text (Err halt.NoMemory) h = absurd (not_memory h.0) where
  not_memory : halt.NoMemory ≡ halt.OutputFault → ⊥
  not_memory e = cc

-- want of memory behind a `?`
pub memory_by : {A : Type 0} (p : Run A) (s t : Kept) (out : OutputState) (q : Result A Halt) → IsErrAnd q (λ y. y ≡ halt.NoMemory) → Runs p (scene s out) q (scene t out)
memory_by {A} p s t out q i = subst (λ (x : Result A Halt). Runs p (scene s out) x (scene t out)) (sym (err_is q halt.NoMemory i)) (memory_runs p s t out)

-- ---- a loop

-- Whatever the rest does completes the whole.
pub record Rest {A : Type 0} (whole rest : Run A) (start now : Scene) : Type 0 where
  pub right : Right rest now.state
  pub on : (r : Result A Halt) (t : Scene) → Runs rest now r t → Runs whole start r t

pub rest_begins : {A : Type 0} (whole : Run A) (s : Scene) → Right whole s.state → Rest whole whole s s
rest_begins whole s h = record { right = h; on = λ r t k. k }

pub rest_same : {A : Type 0} (whole p q : Run A) (start now : Scene) → p ≡ q → Rest whole p start now → Rest whole q start now
rest_same whole p q start now e h = subst (λ r. Rest whole r start now) e h

pub rest_next : {A B : Type 0} (whole : Run B) (p : Run A) (f : A → Run B) (a : A) (start now next : Scene) → Rest whole (p >>= f) start now → Runs p now (Ok a) next → Rest whole (f a) start next
rest_next whole p f a start now next h k = record {
  right = next_right p f a now next h.right k;
  on = λ r t done. h.on r t (then_runs p f a now next r t k done);
}
