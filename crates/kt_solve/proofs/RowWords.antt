use Rattle.std.proofs.Common.{◌≡◌, ◌≢◌, ℕ, ◌+◌, ◌-◌, ◌*◌, ◌/◌, ◌%◌, ◌<◌, ◌≤◌, ◌⊎◌, List, ◌++◌, length, take, drop, get_or, arith, ap, ◌∙◌, inl, inr}
use borrow.Rule.Slice.PartMut.{put_mid}
use Rattle.std.specs.List.{sum}
use Rattle.std.proofs.lemmas.Bool.{cases_order}
use Rattle.std.proofs.lemmas.List.{get_or_append_left, get_or-append_right, get_or-take, get_or-drop, length-take-le}
use Rattle.std.proofs.lemmas.List.Sums.{sum_by-append, sum_by-take-drop}
use Rattle.std.proofs.lemmas.Nat.{mul-le}
use Rattle.kt_solve.specs.Words.{bit_of, word_bit, row_bit}

-- a list one part of which was written over, as `s[a..a + k]` is
module _ (xs ys : List ℕ) (a k : ℕ) (long : length ys ≡ k) (room : a + k ≤ length xs) where
  front : length (take a xs) ≡ a
  front = length-take-le a xs (omega arith)

  mid_below : (i : ℕ) → i < a → get_or (put_mid a k xs ys) i 0 ≡ get_or xs i 0
  mid_below i h = get_or_append_left (take a xs) (ys ++ drop k (drop a xs)) 0 i (omega (arith, front)) ∙ get_or-take a xs i 0 h

  mid_in : (i : ℕ) → i < k → get_or (put_mid a k xs ys) (a + i) 0 ≡ get_or ys i 0
  mid_in i h =
      let e : (a + i) - a ≡ i = omega arith in
      get_or-append_right (take a xs) (ys ++ drop k (drop a xs)) a (a + i) 0 front (omega arith)
      ∙ ap (λ j. get_or (ys ++ drop k (drop a xs)) j 0) e
      ∙ get_or_append_left ys (drop k (drop a xs)) 0 i (omega (arith, long))

  mid_above : (i : ℕ) → a + k ≤ i → get_or (put_mid a k xs ys) i 0 ≡ get_or xs i 0
  mid_above i h =
      let e : a + (k + ((i - a) - k)) ≡ i = omega arith in
      get_or-append_right (take a xs) (ys ++ drop k (drop a xs)) a i 0 front (omega arith)
      ∙ get_or-append_right ys (drop k (drop a xs)) k (i - a) 0 long (omega arith)
      ∙ get_or-drop k (drop a xs) ((i - a) - k) 0
      ∙ get_or-drop a xs (k + ((i - a) - k)) 0
      ∙ ap (λ j. get_or xs j 0) e

  mid_sum : sum (put_mid a k xs ys) + sum (take k (drop a xs)) ≡ sum xs + sum ys
  mid_sum =
      let id : ℕ → ℕ = λ n. n in
      let s1 = sum_by-append (λ (n : ℕ). n) (take a xs) (ys ++ drop k (drop a xs)) in
      let s2 = sum_by-append (λ (n : ℕ). n) ys (drop k (drop a xs)) in
      let s3 = sum_by-take-drop (λ (n : ℕ). n) xs a in
      let s4 = sum_by-take-drop (λ (n : ℕ). n) (drop a xs) k in
      omega (arith, s1, s2, s3, s4)

-- a word of another row stands outside the row
row_apart : (n node w j : ℕ) → n ≢ node → j < w → (n * w + j < node * w) ⊎ (node * w + w ≤ n * w + j)
row_apart n node w j ne h = elim (cases_order n node) [
  | inl same ↦ absurd (ne same)
  | inr apart ↦ elim apart [
    | inl less ↦ (let l = mul-le (n + 1) w node w (omega arith) (omega arith) in inl (omega (arith, l)))
    | inr more ↦ (let l = mul-le (node + 1) w n w (omega arith) (omega arith) in inr (omega (arith, l)))
  ]
]

module _ (words part : List ℕ) (node w k : ℕ) (width : k ≡ w) (long : length part ≡ w) (room : node * w + w ≤ length words) where
  pub rows_others : (n q : ℕ) → n ≢ node → q < 64 * w → row_bit (put_mid (node * w) k words part) w n q ≡ row_bit words w n q
  rows_others n q ne h = elim (row_apart n node w (q / 64) ne (omega arith)) [
    | inl below ↦ ap (λ x. bit_of x (q % 64)) (mid_below words part (node * w) k (omega arith) (omega arith) (n * w + q / 64) below)
    | inr above ↦ ap (λ x. bit_of x (q % 64)) (mid_above words part (node * w) k (omega arith) (omega arith) (n * w + q / 64) (omega (arith, above)))
  ]

  pub rows_row : (q : ℕ) → q < 64 * w → row_bit (put_mid (node * w) k words part) w node q ≡ word_bit part q
  rows_row q h = ap (λ x. bit_of x (q % 64)) (mid_in words part (node * w) k (omega arith) (omega arith) (q / 64) (omega arith))

  pub rows_sum : sum part < sum (take k (drop (node * w) words)) → sum (put_mid (node * w) k words part) < sum words
  rows_sum h = let s = mid_sum words part (node * w) k (omega arith) (omega arith) in omega (arith, s)

-- the words of one row, read as a row of their own
pub row_part : (words : List ℕ) (node w k q : ℕ) → k ≡ w → q < 64 * w → word_bit (take k (drop (node * w) words)) q ≡ row_bit words w node q
row_part words node w k q e h = ap (λ x. bit_of x (q % 64)) (get_or-take k (drop (node * w) words) (q / 64) 0 (omega arith) ∙ get_or-drop (node * w) words (q / 64) 0)
