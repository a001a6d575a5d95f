-- Rows of a table, and what is written of their classes.
use Rattle.std.proofs.Common.{◌≡◌, ◌<◌, ◌≤◌, ◌^◌, ◌==◌, ◌||◌, ℕ, suc, zero, Bool, true, false, cond, lit<, List, [], ◌∷◌, ◌++◌, length, Option, Some, None, inl, inr, refl, sym, ap, ◌∙◌, slice_get, unwrap_or, nat_lt}
use Rattle.std.specs.List.{list_any, flat_map}
use Rattle.std.proofs.lemmas.Option.{slice_get-map, slice_get_past}
use Rattle.std.proofs.lemmas.List.{length-map}
use Rattle.std.proofs.lemmas.Bool.{eqb-true, eq-eqb, ltb-false}
use Rattle.std.proofs.lemmas.Bool.Decides.{eqb_tells}
use Rattle.std.proofs.Math.Dec.{eqb-suc-zero, eqb-zero-suc}
use Rattle.kt_model.specs.declared.class_table.ClassRow.{ClassRow}
use Rattle.kt_model.specs.Classes.{Classes, any, outline, outlines, written, supers_of, listed, climbed, each_once}
use Rattle.kt_model.specs.Subtypes.{is_under}
use Rattle.kt_model.specs.Members.{members_of}
use Rattle.kt_decl.specs.Marks.{IsRowed}

zero_first : (n : ℕ) → (0 == n) ≡ (n == 0)
zero_first zero = refl
zero_first (suc n) = eqb-zero-suc n ∙ sym (eqb-suc-zero n)

or_false : (b : Bool) → (b || false) ≡ b
or_false true = refl
or_false false = refl

or_same : (b : Bool) → (b || b) ≡ b
or_same true = refl
or_same false = refl

-- a number that no class has stands under itself and `Any`
climbed_past : (classes : Classes) (c n : ℕ) → supers_of classes c ≡ [] → climbed classes n c ≡ c ∷ []
unfolding climbed
climbed_past classes c zero e = refl
climbed_past classes c (suc n) e = ap (λ z. c ∷ flat_map (climbed classes n) z) e

pub under_past : (rows : List ClassRow) (low high : ℕ) → length rows ≤ low → is_under (written (outlines rows)) low high ≡ (low == high || high == 0)
unfolding listed
under_past rows low high past =
    let classes = written (outlines rows) in
    let none : supers_of classes low ≡ [] = ap (λ o. unwrap_or o []) (slice_get_past classes low (simp length-map past)) in
    ap (λ z. list_any (λ d. d == high) (each_once (any ∷ []) z ++ any ∷ [])) (climbed_past classes low (length classes) none) ∙ step (any == low) refl
  where
    last : (any == high || false) ≡ (high == 0)
    last = or_false (0 == high) ∙ zero_first high

    step : (b : Bool) → (any == low) ≡ b → list_any (λ d. d == high) (cond (b || false) [] (low ∷ []) ++ any ∷ []) ≡ (low == high || high == 0)
    step true e =
        last ∙ sym (or_same (high == 0)) ∙ ap (λ z. z || high == 0) (sym (zero_first high)) ∙ ap (λ z. z == high || high == 0) (eqb-true any low e)
    step false e = ap (λ z. low == high || z) last

-- the two answers of the test at such a number
pub under_past_same : (rows : List ClassRow) (low high : ℕ) → false ≡ nat_lt low (length rows) → low ≡ high → (low == high) ≡ is_under (written (outlines rows)) low high
under_past_same rows low high past e =
    let same = eq-eqb low high e in
    same ∙ ap (λ b. b || high == 0) (sym same) ∙ sym (under_past rows low high (ltb-false low (length rows) (sym past)))

pub under_past_other : (rows : List ClassRow) (low high : ℕ) → false ≡ nat_lt low (length rows) → (low ≡ high → ⊥) → (high == 0) ≡ is_under (written (outlines rows)) low high
under_past_other rows low high past n =
    let other : (low == high) ≡ false = elim (eqb_tells low high) [ inl e ↦ absurd (n e.1) | inr e ↦ e.0 ] in
    ap (λ b. b || high == 0) (sym other) ∙ sym (under_past rows low high (ltb-false low (length rows) (sym past)))

pub members_few : (rows : List ClassRow) → IsRowed rows → (c : ℕ) → length (members_of (outlines rows) c) < 2 ^ 32
members_few rows r c = step (slice_get rows c) refl
  where
    step : (o : Option ClassRow) → slice_get rows c ≡ o → length (members_of (outlines rows) c) < 2 ^ 32
    step None e =
        rw (slice_get-map outline rows c, e) (lit< tt)
    step (Some row) e = rw (slice_get-map outline rows c, e) (r.few c row e)
