-- One more item, at a step of a loop.
use Rattle.std.proofs.Common.{◌≡◌, ◌<◌, ◌+◌, ℕ, List, [], ◌∷◌, ◌++◌, Option, Some, None, length, get_or, take, drop, refl, sym, ap, subst, inl, inr, suc, zero, arith, ◌∙◌, ◌≤◌, append_assoc, slice_get}
use Rattle.std.specs.List.{filter_map, cons_option}
use Rattle.std.proofs.lemmas.Bool.{cases_lt}
use Rattle.std.proofs.Math.ListN.{get_or-append}
use Rattle.std.proofs.Math.Seq.{get_or-append_seam}
use Rattle.std.proofs.lemmas.List.{take_more}
use Rattle.std.proofs.lemmas.List.Elements.{filter_map-append}

one_option : {A : Type 0} (o : Option A) → cons_option o [] ≡ cons_option o [] ++ []
one_option None = refl
one_option (Some a) = refl

-- what an item gives goes to the end
pub push_step : {X Y : Type 0} (h : X → Option Y) (xs : List X) (i : ℕ) (x : X) (start words new : List Y) (o : Option Y) → i < length xs → x ≡ get_or xs i x → o ≡ h x → words ≡ start ++ filter_map h (take i xs) → new ≡ words ++ cons_option o [] → new ≡ start ++ filter_map h (take (i + 1) xs)
push_step h xs i x start words new o within is gives so_far grown =
    let more : filter_map h (take (i + 1) xs) ≡ filter_map h (take i xs) ++ cons_option (h x) [] = rw (take_more xs i x within, ← is) (filter_map-append h (take i xs) (x ∷ [])) in
    let front : words ++ cons_option o [] ≡ (start ++ filter_map h (take i xs)) ++ cons_option (h x) [] = (λ k. so_far k ++ cons_option (gives k) []) in
    grown ∙ front ∙ append_assoc start (filter_map h (take i xs)) (cons_option (h x) []) ∙ ap (λ z. start ++ z) (sym more)

module _ {A : Type 0} where
  pub get_left : (xs ys : List A) (k : ℕ) → k < length xs → slice_get (xs ++ ys) k ≡ slice_get xs k
  get_left [] ys k b = absurd (omega arith)
  get_left (x ∷ xs) ys zero b = refl
  get_left (x ∷ xs) ys (suc k) b = get_left xs ys k (omega arith)

  pub get_last : (xs : List A) (x : A) → slice_get (xs ++ x ∷ []) (length xs) ≡ Some x
  get_last [] x = refl
  get_last (y ∷ xs) x = get_last xs x

  -- what holds of each item by its place holds with one more
  pub get_more : (P : ℕ → Option A → Type 0) (xs new : List A) (x : A) (n : ℕ) → n ≡ length xs → new ≡ xs ++ x ∷ [] → ((k : ℕ) → k < n → P k (slice_get xs k)) → P n (Some x) → (k : ℕ) → k < n + 1 → P k (slice_get new k)
  get_more P xs new x n len grown old last k b =
      subst (λ z. P k (slice_get z k)) (sym grown) (elim (cases_lt k n) [ inl before ↦ subst (P k) (sym (get_left xs (x ∷ []) k (omega arith))) (old k before) | inr from ↦ at from ])
    where
      at : n ≤ k → P k (slice_get (xs ++ x ∷ []) k)
      at from =
          let same : k ≡ n = omega arith in
          subst (λ z. P z (slice_get (xs ++ x ∷ []) z)) (sym same) (subst (P n) (sym (ap (slice_get (xs ++ x ∷ [])) len ∙ get_last xs x)) last)

pub index_more : (P : ℕ → ℕ → Type 0) (xs new : List ℕ) (x n : ℕ) → n ≡ length xs → new ≡ xs ++ x ∷ [] → ((k : ℕ) → k < n → P k (get_or xs k 0)) → P n x → (k : ℕ) → k < n + 1 → P k (get_or new k 0)
index_more P xs new x n len grown old last k b =
    subst (λ z. P k (get_or z k 0)) (sym grown) (elim (cases_lt k n) [ inl before ↦ subst (P k) (sym (get_or-append xs (x ∷ []) 0 k (omega arith))) (old k before) | inr from ↦ at from ])
  where
    at : n ≤ k → P k (get_or (xs ++ x ∷ []) k 0)
    at from =
        let same : k ≡ n = omega arith in
        subst (λ z. P z (get_or (xs ++ x ∷ []) z 0)) (sym same) (subst (P n) (sym (ap (λ z. get_or (xs ++ x ∷ []) z 0) len ∙ get_or-append_seam xs x [] 0)) last)

-- a loop has come to the end
pub take_end : {A : Type 0} (xs : List A) (i : ℕ) → length xs ≤ i → take i xs ≡ xs
take_end [] zero b = refl
take_end [] (suc i) b = refl
take_end (x ∷ xs) zero b = absurd (omega arith)
take_end (x ∷ xs) (suc i) b = ap (λ z. x ∷ z) (take_end xs i (omega arith))

-- what a number gives goes to the end
pub push_number : {Y : Type 0} (h : ℕ → Option Y) (xs : List ℕ) (i : ℕ) (start words new : List Y) (o : Option Y) → i < length xs → o ≡ h (get_or xs i 0) → words ≡ start ++ filter_map h (take i xs) → new ≡ words ++ cons_option o [] → new ≡ start ++ filter_map h (take (i + 1) xs)
push_number h xs i start words new o within gives so_far grown =
    let more : filter_map h (take (i + 1) xs) ≡ filter_map h (take i xs) ++ cons_option (h (get_or xs i 0)) [] = rw (take_more xs i 0 within) (filter_map-append h (take i xs) (get_or xs i 0 ∷ [])) in
    let front : words ++ cons_option o [] ≡ (start ++ filter_map h (take i xs)) ++ cons_option (h (get_or xs i 0)) [] = (λ k. so_far k ++ cons_option (gives k) []) in
    grown ∙ front ∙ append_assoc start (filter_map h (take i xs)) (cons_option (h (get_or xs i 0)) []) ∙ ap (λ z. start ++ z) (sym more)

-- the items that are left begin with the next one
pub drop_more : {A : Type 0} (xs : List A) (i : ℕ) (x : A) → i < length xs → x ≡ get_or xs i x → drop i xs ≡ x ∷ drop (i + 1) xs
drop_more [] i x b is = absurd (omega arith)
drop_more (y ∷ xs) zero x b is = ap (λ z. z ∷ xs) (sym is)
drop_more (y ∷ xs) (suc i) x b is = rw suc_plus (drop_more xs i x (omega arith) is)
  where
    suc_plus : suc i + 1 ≡ suc (i + 1)
    suc_plus = omega arith

pub drop_end : {A : Type 0} (xs : List A) (i : ℕ) → length xs ≤ i → drop i xs ≡ []
drop_end [] zero b = refl
drop_end [] (suc i) b = refl
drop_end (x ∷ xs) zero b = absurd (omega arith)
drop_end (x ∷ xs) (suc i) b = drop_end xs i (omega arith)
