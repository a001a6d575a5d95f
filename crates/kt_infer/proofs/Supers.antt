-- What is above a number that no class has: itself and `Any`.
use Rattle.std.proofs.Common.{◌≡◌, ℕ, suc, zero, ◌≤◌, ◌==◌, ◌||◌, Bool, true, false, List, [], ◌∷◌, ◌++◌, length, Some, None, find, unwrap_or, slice_get, refl, sym, ap, ◌∙◌, if◌then◌else◌, arith}
use Rattle.std.specs.List.{flat_map, list_any}
use Rattle.std.proofs.lemmas.Bool.{eqb-true}
use Rattle.kt_model.specs.Classes.{Classes, any, supers_of, listed, climbed, outlines, written}
use Rattle.kt_model.specs.Subtypes.{is_under, common_class}
use Rattle.kt_model.specs.declared.class_table.ClassRow.{ClassRow}

past : {A : Type 0} (xs : List A) (c : ℕ) → length xs ≤ c → slice_get xs c ≡ None
past [] c h = refl
past (x ∷ xs) zero h = absurd (omega arith)
past (x ∷ xs) (suc c) h = past xs c (omega arith)

climbs_alone : (classes : Classes) (n c : ℕ) → supers_of classes c ≡ [] → climbed classes n c ≡ c ∷ []
unfolding climbed
climbs_alone classes zero c e = refl
climbs_alone classes (suc n) c e = ap (λ l. c ∷ flat_map (climbed classes n) l) e

length_written : (rows : List ClassRow) → length (written (outlines rows)) ≡ length rows
length_written [] = refl
length_written (r ∷ rs) = ap suc (length_written rs)

none_above : (rows : List ClassRow) (low : ℕ) → length rows ≤ low → supers_of (written (outlines rows)) low ≡ []
none_above rows low h = let e : length (written (outlines rows)) ≡ length rows = length_written rows in ap (λ o. unwrap_or o []) (past (written (outlines rows)) low (omega arith))

-- the same, by whether the number is that of `Any`
shape : ℕ → ℕ → Bool → Bool
shape low high b = list_any (λ d. d == high) ((if b || false then [] else low ∷ []) ++ any ∷ [])

or_same : (b : Bool) → (b || (b || false)) ≡ (b || false)
or_same true = refl
or_same false = refl

by_any : (low high : ℕ) (b : Bool) → (any == low) ≡ b → list_any (λ c. c == high) (low ∷ any ∷ []) ≡ shape low high b
unfolding shape
by_any low high false e = refl
by_any low high true e = ap (λ x. (x == high) || ((any == high) || false)) (sym (eqb-true any low e)) ∙ or_same (any == high)

alone_is : (low high : ℕ) → list_any (λ d. d == high) (listed (low ∷ [])) ≡ shape low high (any == low)
unfolding listed shape
alone_is low high = refl

pub under_outside : (rows : List ClassRow) (low high : ℕ) → length rows ≤ low → is_under (written (outlines rows)) low high ≡ list_any (λ c. c == high) (low ∷ any ∷ [])
under_outside rows low high h =
    ap (λ l. list_any (λ d. d == high) (listed l)) (climbs_alone (written (outlines rows)) (length (written (outlines rows))) low (none_above rows low h))
    ∙ alone_is low high ∙ sym (by_any low high (any == low) refl)

-- ---- the first of them that satisfies a test

alone_with : ℕ → Bool → List ℕ
alone_with low b = (if b || false then [] else low ∷ []) ++ any ∷ []

alone_same : (low : ℕ) → listed (low ∷ []) ≡ alone_with low (any == low)
unfolding listed alone_with
alone_same low = refl

twice : (b : Bool) (x : ℕ) → (if b then Some x else (if b then Some x else None)) ≡ (if b then Some x else None)
twice true x = refl
twice false x = refl

first_alone : (test : ℕ → Bool) (low : ℕ) (b : Bool) → (any == low) ≡ b → find test (low ∷ any ∷ []) ≡ find test (alone_with low b)
unfolding alone_with
first_alone test low false e = refl
first_alone test low true e = ap (λ x. find test (x ∷ any ∷ [])) (sym (eqb-true any low e)) ∙ twice (test any) any

pub common_outside : (rows : List ClassRow) (low other : ℕ) → length rows ≤ low
    → common_class (written (outlines rows)) low other ≡ unwrap_or (find (λ c. is_under (written (outlines rows)) other c) (low ∷ any ∷ [])) any
unfolding common_class
common_outside rows low other h =
    let test = λ (c : ℕ). is_under (written (outlines rows)) other c in
    ap (λ l. unwrap_or (find test (listed l)) any) (climbs_alone (written (outlines rows)) (length (written (outlines rows))) low (none_above rows low h))
    ∙ ap (λ l. unwrap_or (find test l) any) (alone_same low) ∙ sym (ap (λ o. unwrap_or o any) (first_alone test low (any == low) refl))
