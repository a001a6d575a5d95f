use Rattle.std.proofs.Common.{◌≡◌, ℕ, zero, suc, ◌<◌, ◌≤◌, List, [], ◌∷◌, length, get_or, arith, refl, sym, ◌∙◌, inl, inr, bit_and}
use Rattle.std.specs.List.{sum}
use Rattle.std.proofs.lemmas.Bool.{cases_lt}
use Rattle.std.proofs.lemmas.List.Sums.{sum_by-cons}
use Rattle.std.proofs.lemmas.Nat.{and_le_l}

-- a list with a number that is nowhere larger has no larger sum
pub sum_le : (xs ys : List ℕ) → length xs ≡ length ys → ((k : ℕ) → get_or xs k 0 ≤ get_or ys k 0) → sum xs ≤ sum ys
sum_le [] [] e h = omega arith
sum_le [] (y ∷ ys) e h = absurd (omega (arith, e))
sum_le (x ∷ xs) [] e h = absurd (omega (arith, e))
sum_le (x ∷ xs) (y ∷ ys) e h =
    let l = sum_le xs ys (omega (arith, e)) (λ k. h (suc k)) in
    let l0 = h 0 in
    omega (arith, sum_by-cons (λ (n : ℕ). n) x xs, sum_by-cons (λ (n : ℕ). n) y ys, l, l0)

-- where the sum isn't smaller either, the two lists agree
pub sum_same : (xs ys : List ℕ) → length xs ≡ length ys → ((k : ℕ) → get_or xs k 0 ≤ get_or ys k 0) → sum ys ≤ sum xs → (k : ℕ) → get_or xs k 0 ≡ get_or ys k 0
sum_same [] [] e h s k = refl
sum_same [] (y ∷ ys) e h s k = absurd (omega (arith, e))
sum_same (x ∷ xs) [] e h s k = absurd (omega (arith, e))
sum_same (x ∷ xs) (y ∷ ys) e h s zero =
    let l = sum_le xs ys (omega (arith, e)) (λ k. h (suc k)) in
    let l0 = h 0 in
    omega (arith, sum_by-cons (λ (n : ℕ). n) x xs, sum_by-cons (λ (n : ℕ). n) y ys, l, l0, s)
sum_same (x ∷ xs) (y ∷ ys) e h s (suc k) =
    let l0 = h 0 in
    sum_same xs ys (omega (arith, e)) (λ k. h (suc k)) (omega (arith, sum_by-cons (λ (n : ℕ). n) x xs, sum_by-cons (λ (n : ℕ). n) y ys, l0, s)) k

-- a meet that takes a bit away lessens the sum of the words
pub meet_falls : (old from new : List ℕ) → length new ≡ length old → ((k : ℕ) → get_or new k 0 ≡ bit_and (get_or old k 0) (get_or from k 0))
    → (((k : ℕ) → k < length old → bit_and (get_or old k 0) (get_or from k 0) ≡ get_or old k 0) → ⊥) → sum new < sum old
meet_falls old from new e m differs = elim (cases_lt (sum new) (sum old)) [
  | inl less ↦ less
  | inr same ↦ absurd (differs (λ k l. sym (m k) ∙ sum_same new old e (λ j. rw (m j) (and_le_l (get_or old j 0) (get_or from j 0))) same k))
]
