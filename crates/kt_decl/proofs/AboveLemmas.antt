-- Lists of the classes above, each class once.
use Rattle.std.proofs.Common.{◌≡◌, ◌<◌, ◌≤◌, ◌==◌, ◌||◌, ◌+◌, All, ℕ, suc, zero, Bool, true, false, cond, List, [], ◌∷◌, ◌++◌, Some, Contains, length, get_or, inl, inr, refl, sym, ap, subst, ◌∙◌, arith, slice_get, slice_set, unwrap_or}
use Rattle.std.specs.List.{list_any, flat_map}
use Rattle.std.proofs.lemmas.Bool.{cases_lt}
use Rattle.std.proofs.lemmas.Bool.Decides.{eqb_tells}
use Rattle.std.proofs.lemmas.List.Elements.{Contains-get_or}
use Rattle.kt_model.specs.Classes.{Classes, any, supers_of, supers, listed, each_once, Climbs, IsRanked, here, up}
use Rattle.kt_model.proofs.ListLemmas.{Has, contains_has, has_contains, contains_tested, has_unflat, has_first}
use Rattle.kt_model.proofs.ClassLemmas.{sub_of_supers}
use Rattle.kt_model.proofs.SupersLemmas.{agree, supers_again}
use Rattle.kt_decl.specs.Marks.{MarksMembers, HasKnownSupers, FallsAlong, IsFilled, IsFilledTo, add_once}

or_swap : (a b c : Bool) → ((a || b) || c) ≡ (b || (a || c))
or_swap true true c = refl
or_swap true false c = refl
or_swap false true c = refl
or_swap false false c = refl

or_false : (b : Bool) → (b || false) ≡ b
or_false true = refl
or_false false = refl

-- one more number at the end
pub once_push : (seen xs : List ℕ) (x : ℕ) → each_once seen (xs ++ x ∷ []) ≡ each_once seen xs ++ cond (list_any (λ y. y == x) seen || list_any (λ y. y == x) (each_once seen xs)) [] (x ∷ [])
once_push seen [] x = rw (or_false (list_any (λ y. y == x) seen)) refl
once_push seen (y ∷ ys) x = step (list_any (λ z. z == y) seen) (λ s. once_push s ys x)
  where
    step : (t : Bool) → ((s : List ℕ) → each_once s (ys ++ x ∷ []) ≡ each_once s ys ++ cond (list_any (λ z. z == x) s || list_any (λ z. z == x) (each_once s ys)) [] (x ∷ [])) → cond t (each_once seen (ys ++ x ∷ [])) (y ∷ each_once (y ∷ seen) (ys ++ x ∷ [])) ≡ cond t (each_once seen ys) (y ∷ each_once (y ∷ seen) ys) ++ cond (list_any (λ z. z == x) seen || list_any (λ z. z == x) (cond t (each_once seen ys) (y ∷ each_once (y ∷ seen) ys))) [] (x ∷ [])
    step true again = again seen
    step false again =
        ap (λ z. y ∷ z) (again (y ∷ seen)) ∙ ap (λ b. y ∷ (each_once (y ∷ seen) ys ++ cond b [] (x ∷ []))) (or_swap (y == x) (list_any (λ z. z == x) seen) (list_any (λ z. z == x) (each_once (y ∷ seen) ys)))

nothing_more : (xs : List ℕ) → xs ++ [] ≡ xs
nothing_more [] = refl
nothing_more (x ∷ xs) = ap (λ z. x ∷ z) (nothing_more xs)

pub once_step : (xs : List ℕ) (x : ℕ) → each_once (any ∷ []) (xs ++ x ∷ []) ≡ add_once (each_once (any ∷ []) xs) x
once_step xs x =
    once_push (any ∷ []) xs x ∙ step (each_once (any ∷ []) xs) (any == x) (list_any (λ y. y == x) (each_once (any ∷ []) xs))
  where
    step : (front : List ℕ) (a b : Bool) → front ++ cond ((a || false) || b) [] (x ∷ []) ≡ cond (a || b) front (front ++ x ∷ [])
    step front true b = nothing_more front
    step front false true = nothing_more front
    step front false false = refl

-- a number that is not marked is new
pub unmarked_new : (marks : List Bool) (found : List ℕ) (c : ℕ) → MarksMembers marks found → slice_get marks c ≡ Some false → list_any (λ y. y == c) found ≡ false
unmarked_new marks found c m is = step (list_any (λ y. y == c) found) refl
  where
    step : (b : Bool) → list_any (λ y. y == c) found ≡ b → b ≡ false
    step false e = refl
    step true e = let marked = sym is ∙ (m c).1 ((contains_tested found c).0 e) in cc

pub marked_old : (marks : List Bool) (found : List ℕ) (c : ℕ) → MarksMembers marks found → slice_get marks c ≡ Some true → list_any (λ y. y == c) found ≡ true
marked_old marks found c m is = (contains_tested found c).1 ((m c).0 is)

-- ---- what is above a class is known

climbs_within : (classes : Classes) → HasKnownSupers classes → {c d : ℕ} → Climbs classes c d → c < length classes → d < length classes
climbs_within classes known here b = b
climbs_within classes known {c} (up {s = s} h more) b = climbs_within classes known more (known c s h)

pub supers_within : (classes : Classes) → HasKnownSupers classes → (c d : ℕ) → c < length classes → Contains (supers classes c) d → d < length classes
supers_within classes known c d b h =
    elim (sub_of_supers classes c d h) [ inl e ↦ (let one : any ≡ 0 = refl in omega (arith, e, one)) | inr m ↦ climbs_within classes known m b ]

module _ (classes aboves : Classes) (known : HasKnownSupers classes) (class : ℕ) (inside : class < length classes) (filled : (s : ℕ) → Contains (supers_of classes class) s → supers_of aboves s ≡ supers classes s) where
  same_fronts : flat_map (supers_of aboves) (supers_of classes class) ≡ flat_map (supers classes) (supers_of classes class)
  same_fronts = agree (supers_of aboves) (supers classes) (supers_of classes class) (λ s h. filled s (has_contains _ s h))

  climb_within : (climb : List ℕ) → climb ≡ class ∷ flat_map (supers_of aboves) (supers_of classes class) → (x : ℕ) → Has climb x → x < length classes
  climb_within climb e x h =
      elim (has_first class _ x (subst (λ z. Has z x) (e ∙ ap (λ z. class ∷ z) same_fronts) h)) [ inl first ↦ subst (λ z. z < length classes) first inside | inr rest ↦ behind (has_unflat (supers classes) (supers_of classes class) x rest) ]
    where
      behind : (s : ℕ) × (Has (supers_of classes class) s × Has (supers classes s) x) → x < length classes
      behind w =
          supers_within classes known w.0 x (known class w.0 (has_contains _ w.0 w.1.0)) (has_contains _ x w.1.1)

  pub climb_known : (climb : List ℕ) → climb ≡ class ∷ flat_map (supers_of aboves) (supers_of classes class) → All (λ x. x < length classes) climb
  climb_known climb e = λ k d b. climb_within climb e _ (contains_has climb _ (Contains-get_or climb k d b))

  pub climb_lists : IsRanked classes → (climb : List ℕ) → climb ≡ class ∷ flat_map (supers_of aboves) (supers_of classes class) → listed climb ≡ supers classes class
  climb_lists r climb e = ap listed (e ∙ ap (λ z. class ∷ z) same_fronts) ∙ sym (supers_again classes r class)

-- ---- filling in

module _ {A : Type 0} where
  pub set_same : (xs : List A) (i : ℕ) (v : A) → i < length xs → slice_get (slice_set xs i v) i ≡ Some v
  set_same [] i v h = absurd (omega arith)
  set_same (x ∷ xs) zero v h = refl
  set_same (x ∷ xs) (suc i) v h = set_same xs i v (omega arith)

  pub set_other : (xs : List A) (i k : ℕ) (v : A) → (k ≡ i → ⊥) → slice_get (slice_set xs i v) k ≡ slice_get xs k
  set_other [] i k v n = refl
  set_other (x ∷ xs) zero zero v n = absurd (n refl)
  set_other (x ∷ xs) zero (suc k) v n = refl
  set_other (x ∷ xs) (suc i) zero v n = refl
  set_other (x ∷ xs) (suc i) (suc k) v n = set_other xs i k v (λ e. n (ap suc e))

module _ (classes : Classes) (counts : List ℕ) (n : ℕ) where
  -- the supertypes of a class are filled in before it
  pub supers_filled : FallsAlong classes counts → HasKnownSupers classes → (aboves : Classes) (i : ℕ) → get_or counts i 0 ≡ n → IsFilled classes counts n aboves → (s : ℕ) → Contains (supers_of classes i) s → supers_of aboves s ≡ supers classes s
  supers_filled falls known aboves i at filled s h =
      let below = falls i s h in filled s (known i s h) (omega arith)

  module _ (old new : Classes) (i : ℕ) (inside : i < length old) (grown : new ≡ slice_set old i (supers classes i)) where
    kept : (c : ℕ) → supers_of old c ≡ supers classes c → supers_of new c ≡ supers classes c
    kept c e =
        elim (eqb_tells c i) [
          | inl same ↦ subst (λ z. supers_of new z ≡ supers classes z) (sym same.1) (ap (λ z. supers_of z i) grown ∙ ap (λ o. unwrap_or o []) (set_same old i (supers classes i) inside))
          | inr other ↦ ap (λ z. supers_of z c) grown ∙ ap (λ o. unwrap_or o []) (set_other old i c (supers classes i) other.1) ∙ e
        ]

    pub still_filled : IsFilled classes counts n old → IsFilled classes counts n new
    still_filled f c b l = kept c (f c b l)

    pub filled_more : IsFilledTo classes counts n i old → IsFilledTo classes counts n (i + 1) new
    filled_more f c b e =
        elim (cases_lt c i) [
          | inl before ↦ kept c (f c before e)
          | inr from ↦ (
              let same : c ≡ i = omega arith in
              subst (λ z. supers_of new z ≡ supers classes z) (sym same) (ap (λ z. supers_of z i) grown ∙ ap (λ o. unwrap_or o []) (set_same old i (supers classes i) inside))
              )
        ]

  pub filled_past : (aboves : Classes) (i : ℕ) → (get_or counts i 0 ≡ n → ⊥) → IsFilledTo classes counts n i aboves → IsFilledTo classes counts n (i + 1) aboves
  filled_past aboves i not_here f c b e =
      elim (cases_lt c i) [
        | inl before ↦ f c before e
        | inr from ↦ (let same : c ≡ i = omega arith in absurd (not_here (subst (λ z. get_or counts z 0 ≡ n) same e)))
      ]

  pub filled_all : (aboves : Classes) (i : ℕ) → length classes ≤ i → IsFilled classes counts n aboves → IsFilledTo classes counts n i aboves → IsFilled classes counts (n + 1) aboves
  filled_all aboves i all f t c b l =
      elim (cases_lt (get_or counts c 0) n) [ inl less ↦ f c b less | inr from ↦ t c (omega arith) (omega arith) ]
