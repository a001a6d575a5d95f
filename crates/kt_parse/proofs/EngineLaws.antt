-- A list of symbols reads one outcome, and reads the parts of an expansion as the expansion.
use Rattle.std.proofs.Common.{◌≡◌, ℕ, zero, suc, ◌+◌, ◌<◌, Bool, true, false, not, ◌&&◌, cond, nat_lt, is_some, length, slice_get, arith, OnOk, List, [], ◌∷◌, ◌++◌, Option, Some, None, ◌⊎◌, inl, inr, Result, Ok, Err, refl, sym, subst, ap, ◌∙◌}
use Rattle.kt_tree.specs.declared.tokens.Tokens.{Tokens}
use Rattle.kt_tree.specs.declared.grammar.production.Symbol.{Symbol}
use Rattle.kt_tree.specs.declared.grammar.production.Symbol.TheVariants.{Do, Part}
use Rattle.kt_tree.specs.declared.grammar.production.Nonterminal.{Nonterminal}
use Rattle.kt_tree.specs.declared.grammar.production.Step.{Step}
use Rattle.kt_tree.specs.declared.grammar.production.Step.TheVariants.{Take, Keep, KeepChosen, Separated, Exclude, Enter, Leave, Make, Add, Target}
use Rattle.kt_tree.specs.declared.grammar.terminal.Class.{Class}
use Rattle.kt_tree.specs.declared.grammar.fault.ParseFault.{ParseFault}
use Rattle.kt_tree.specs.declared.grammar.fault.ParseFault.TheVariants.{NoMemory}
use Rattle.kt_tree.specs.declared.grammar.phrase.Phrase.{Phrase}
use Rattle.kt_tree.specs.declared.grammar.phrase.State.{State}
use Rattle.kt_tree.specs.Classes.{class_at, stands_for}
use Rattle.kt_tree.specs.Grammar.{expansion}
use Rattle.kt_tree.specs.Derives.{Reads, done, step, stop, part, part_stop, none, does, chosen, misfit, passed, is_at, is_separated, max_depth, moved, kept, as_target, is_place, form_of, whole, start, last_of, FaultAt, Answers, Only}
use Rattle.kt_tree.specs.declared.grammar.fault.ParseFault.TheVariants.{Syntax, TooDeep}
use Rattle.kt_parse.specs.Engine.{is_silent, Does, Leads, Stops, Goes}
use Rattle.kt_parse.specs.Reach.{reach}
use Rattle.kt_parse.proofs.Reach.{less, expansion-fits}

at_state : {ts : Tokens} {k : List Symbol} {o : Result State ParseFault} {r : Result State ParseFault} {t t' : State} → r ≡ Ok t → r ≡ Ok t' → Reads ts k t' o → Reads ts k t o
at_state {ts = ts} {k = k} {o = o} {t = t} {t' = t'} p q r = let e : t' ≡ t = cc in subst (λ t. Reads ts k t o) e r

at_part : {ts : Tokens} {xs xs' : List Symbol} {s : State} {o : Result State ParseFault} {c : Option (List Symbol)} → c ≡ Some xs → c ≡ Some xs' → Reads ts xs' s o → Reads ts xs s o
at_part {ts = ts} {xs = xs} {xs' = xs'} {s = s} {o = o} p q r = let e : xs' ≡ xs = cc in subst (λ xs. Reads ts xs s o) e r

clash : (t : State) (f : ParseFault) → Ok t ≡ Err f → ⊥
clash t f p = cc

pub same : {ts : Tokens} {k : List Symbol} {s : State} {o o' : Result State ParseFault} → Reads ts k s o → Reads ts k s o' → o ≡ o'
same done done = refl
same (step e r) (step e' r') = same r (at_state e e' r')
same (step e r) (stop e') = cc
same (stop e) (step e' r') = cc
same (stop e) (stop e') = cc
same (part e a r) (part e' a' r') = same r (at_state refl (same a (at_part e e' a')) r')
same (part {t = t} e a r) (part_stop {f = f} e' a') = absurd (clash t f (same a (at_part e e' a')))
same (part e a r) (none e' p) = cc
same (part_stop {f = f} e a) (part {t = t} e' a' r') = absurd (clash t f (sym (same a (at_part e e' a'))))
same (part_stop e a) (part_stop e' a') = same a (at_part e e' a')
same (part_stop e a) (none e' p) = cc
same (none e p) (part e' a r') = cc
same (none e p) (part_stop e' a) = cc
same (none e p) (none e' q) = cc

-- What reads an expansion and then the rest reads the nonterminal and then the rest.
abbrev Split : Tokens → List Symbol → List Symbol → State → Result State ParseFault → Type 0
Split ts xs k s o = ((t : State) × Reads ts xs s (Ok t) × Reads ts k t o) ⊎ ((f : ParseFault) × Reads ts xs s (Err f) × (o ≡ Err f))

split : {ts : Tokens} (xs k : List Symbol) (s : State) (o : Result State ParseFault) → Reads ts (xs ++ k) s o → Split ts xs k s o
split [] k s o r = inl (s, done, r)
split (Do x ∷ xs) k s o (step {t = t} e r) = elim (split xs k t o r) [ inl (u, a, b) ↦ inl (u, step e a, b) | inr (f, a, p) ↦ inr (f, step e a, p) ]
split (Do x ∷ xs) k s o (stop {f = f} e) = inr (f, stop e, refl)
split (Part n ∷ xs) k s o (part {t = t} e c r) = elim (split xs k t o r) [ inl (u, a, b) ↦ inl (u, part e c a, b) | inr (f, a, p) ↦ inr (f, part e c a, p) ]
split (Part n ∷ xs) k s o (part_stop {f = f} e c) = inr (f, part_stop e c, refl)
split (Part n ∷ xs) k s o (none {f = f} e p) = inr (f, none e p, refl)

joined : {ts : Tokens} {n : Nonterminal} (xs k : List Symbol) (s : State) (o : Result State ParseFault) → chosen ts n s ≡ Some xs → Split ts xs k s o → Reads ts (Part n ∷ k) s o
joined xs k s o e (inl (t, a, b)) = part e a b
joined {ts = ts} {n = n} xs k s o e (inr (f, a, p)) = subst (λ o. Reads ts (Part n ∷ k) s o) (sym p) (part_stop e a)

pub expand : {ts : Tokens} {n : Nonterminal} (xs k : List Symbol) (s : State) (o : Result State ParseFault) → chosen ts n s ≡ Some xs → Reads ts (xs ++ k) s o → Reads ts (Part n ∷ k) s o
expand xs k s o e r = joined xs k s o e (split xs k s o r)

-- ---- places

in_list : {A : Type 0} (xs : List A) (at : ℕ) → is_some (slice_get xs at) ≡ true → at < length xs
in_list [] at h = absurd cc
in_list (x ∷ xs) zero h = omega arith
in_list (x ∷ xs) (suc at) h = let r : at < length xs = in_list xs at h in omega arith

first_true : (a b : Bool) → (a && b) ≡ true → a ≡ true
first_true true b h = refl
first_true false b h = cc

-- what passed has the place of what it passes to, and was there
passed-to : (is high : Bool) (t u : State) (f : ParseFault) → cond (is && not high) (Ok t) (Err f) ≡ Ok u → (is ≡ true) × (u ≡ t)
passed-to true true t u f e = absurd cc
passed-to true false t u f e = (refl, cc)
passed-to false high t u f e = absurd cc

takes-one : (ts : Tokens) (is : Bool) (s t u : State) → (is ≡ true → is_some (slice_get ts.list s.at) ≡ true) → t.at ≡ s.at + 1 → passed is s t ≡ Ok u → (u.at ≡ s.at + 1) × (s.at < length ts.list)
takes-one ts is s t u there at e =
    let p = passed-to is s.high t u (misfit s) e in
    (ap (λ v. v.at) p.1 ∙ at, in_list ts.list s.at (there p.0))

pub does-takes : (ts : Tokens) (x : Step) (s t : State) → is_silent x ≡ false → does ts x s ≡ Ok t → (t.at ≡ s.at + 1) × (s.at < length ts.list)
unfolding does
does-takes ts (Take w) s t h e = takes-one ts (is_at ts s.at w) s (moved s) t (first_true (is_some (slice_get ts.list s.at)) (stands_for w (class_at ts s.at).terminal)) refl e
does-takes ts (Keep w) s t h e = takes-one ts (is_at ts s.at w) s (kept s) t (first_true (is_some (slice_get ts.list s.at)) (stands_for w (class_at ts s.at).terminal)) refl e
does-takes ts KeepChosen s t h e = takes-one ts (is_some (slice_get ts.list s.at)) s (kept s) t (λ q. q) refl e
does-takes ts Separated s t h e = absurd cc
does-takes ts (Exclude w) s t h e = absurd cc
does-takes ts Enter s t h e = absurd cc
does-takes ts Leave s t h e = absurd cc
does-takes ts (Make made count) s t h e = absurd cc
does-takes ts Add s t h e = absurd cc
does-takes ts Target s t h e = absurd cc

stays : (b : Bool) (s u t : State) (f : ParseFault) → u.at ≡ s.at → cond b (Ok u) (Err f) ≡ Ok t → t.at ≡ s.at
stays true s u t f p e = cc
stays false s u t f p e = absurd cc

target-by : (b : Bool) (s u : State) → u.at ≡ s.at → (cond b u s).at ≡ s.at
target-by true s u e = e
target-by false s u e = refl

target-at : (ps : List Phrase) (s : State) → (as_target ps s).at ≡ s.at
target-at [] s = refl
target-at (p ∷ ps) s = target-by (is_place (form_of p)) s _ refl

abbrev came : State → Result State ParseFault
came s = Ok s

came_one : (s t : State) → came s ≡ came t → s ≡ t
came_one s t e = cc

pub does-silent : (ts : Tokens) (x : Step) (s t : State) → is_silent x ≡ true → does ts x s ≡ Ok t → t.at ≡ s.at
unfolding does
does-silent ts (Take w) s t h e = absurd cc
does-silent ts (Keep w) s t h e = absurd cc
does-silent ts KeepChosen s t h e = absurd cc
does-silent ts Separated s t h e = stays (is_separated ts s.at && not s.high) s s t (misfit s) refl e
does-silent ts (Exclude w) s t h e = stays (not (stands_for w (class_at ts s.at).terminal) && not s.high) s s t (misfit s) refl e
does-silent ts Enter s t h e = stays (nat_lt s.depth max_depth) s _ t _ refl e
does-silent ts Leave s t h e = cc
does-silent ts (Make made count) s t h e = cc
does-silent ts Add s t h e = cc
does-silent ts Target s t h e = let p = came_one (as_target s.values s) t e in ap (λ v. v.at) (sym p) ∙ target-at s.values s

-- ---- the functions of the engine

pub goes_by : (ts : Tokens) (k : List Symbol) (x : Step) (s t : State) (r : Result (Unit {0}) ParseFault) → Does (does ts x s) r t → Goes ts (Do x ∷ k) s r k t
goes_by ts k x s t (Ok u) d = λ o r. step d r
goes_by ts k x s t (Err e) d = λ ne. stop (d ne)

pub place_silent : (ts : Tokens) (x : Step) (s t : State) (r : Result (Unit {0}) ParseFault) → is_silent x ≡ true → Does (does ts x s) r t → OnOk r (t.at ≡ s.at)
place_silent ts x s t (Ok u) h d = does-silent ts x s t h d
place_silent ts x s t (Err e) h d = tt

pub place_takes : (ts : Tokens) (x : Step) (s t : State) (r : Result (Unit {0}) ParseFault) → is_silent x ≡ false → Does (does ts x s) r t → OnOk r ((t.at ≡ s.at + 1) × (s.at < length ts.list))
place_takes ts x s t (Ok u) h d = does-takes ts x s t h d
place_takes ts x s t (Err e) h d = tt

pub open_goes : (ts : Tokens) (n : Nonterminal) (k k' xs : List Symbol) (s : State) (c : Class) → c ≡ class_at ts s.at → Some xs ≡ expansion n c → k' ≡ xs ++ k → Leads ts (Part n ∷ k) s k' s
open_goes ts n k k' xs s c is e join o r =
    let picks : chosen ts n s ≡ Some xs = ap (expansion n) (sym is) ∙ sym e in
    expand xs k s o picks (subst (λ k. Reads ts k s o) join r)

pub open_stops : (ts : Tokens) (n : Nonterminal) (k : List Symbol) (s : State) (c : Class) (f : ParseFault) → c ≡ class_at ts s.at → None ≡ expansion n c → f ≡ misfit s → Stops ts (Part n ∷ k) s f
open_stops ts n k s c f is e p ne =
    let picks : chosen ts n s ≡ None = ap (expansion n) (sym is) ∙ sym e in
    none picks (sym p)

pub open_less : (n : Nonterminal) (k k' xs : List Symbol) (c : Class) → Some xs ≡ expansion n c → k' ≡ xs ++ k → reach k' < reach (Part n ∷ k)
open_less n k k' xs c e join = rw join (less n xs k (expansion-fits n c xs (sym e)))

pub finished : (ts : Tokens) (k : List Symbol) (s : State) → k ≡ [] → Reads ts k s (Ok s)
finished ts k s e = subst (λ k. Reads ts k s (Ok s)) (sym e) done

-- ---- the whole

abbrev failed : ParseFault → Result State ParseFault
failed f = Err f

came_failed : (s : State) (f : ParseFault) → came s ≡ failed f → ⊥
came_failed s f e = cc

one_state : (s t : State) → came s ≡ came t → s ≡ t
one_state s t e = cc

one_fault : (f g : ParseFault) → failed f ≡ failed g → f ≡ g
one_fault f g e = cc

one_phrase : (p q : Phrase) (s t : State) → s ≡ t → last_of s.values ≡ p → last_of t.values ≡ q → q ≡ p
one_phrase p q s t e a c = sym c ∙ ap (λ v. last_of v.values) (sym e) ∙ a

-- an answer that is a fault is the only one
only_fault : (ts : Tokens) (f : ParseFault) → FaultAt ts f → Only ts (Err f)
only_fault ts f r = record {
  phrase = λ q d ne. absurd (came_failed d.0 f (sym (same r d.1)));
  fault = λ g d ne. ap (λ h. Err h) (one_fault f g (same r d));
}

pub only : (ts : Tokens) (r : Result Phrase ParseFault) → Answers ts r → Only ts r
only ts (Ok p) a = record {
  phrase = λ q d ne. ap (λ h. Ok h) (sym (one_phrase p q a.0 d.0 (one_state a.0 d.0 (same a.1 d.1)) a.2 d.2));
  fault = λ f d ne. absurd (came_failed a.0 f (same a.1 d));
}
only ts (Err (Syntax at)) a = only_fault ts (Syntax at) a
only ts (Err (TooDeep at)) a = only_fault ts (TooDeep at) a
only ts (Err NoMemory) a = record {
  phrase = λ q d ne. absurd (ne refl);
  fault = λ f d ne. absurd (ne refl);
}

stopped : (ts : Tokens) (f : ParseFault) → Stops ts whole start f → Answers ts (Err f)
stopped ts (Syntax at) r = r (λ e. absurd cc)
stopped ts (TooDeep at) r = r (λ e. absurd cc)
stopped ts NoMemory r = tt

pub stops_answer : (ts : Tokens) (f : ParseFault) → Stops ts whole start f → Answers ts (Err f)
stops_answer = stopped
