use Rattle.std.proofs.Common.{◌≡◌, ℕ, ◌+◌, ◌-◌, ◌*◌, ◌/◌, ◌%◌, ◌^◌, ◌<◌, ◌≤◌, Bool, true, false, not, ◌&&◌, ◌||◌, cond, eqb, List, length, get_or, set, bit_and, bit_or, arith, refl, ap, sym, ◌∙◌, inl, inr}
use Rattle.std.proofs.lemmas.Bool.{cases_eq, cases_lt, eq-eqb, ne_eqb}
use Rattle.std.proofs.lemmas.List.{get_or-set_same, get_or-set_other}
use Rattle.kt_solve.specs.Words.{bit_of, word_bit}
use Rattle.kt_solve.proofs.Bits.{bit_of-and, bit_of-or, bit_of-not, bit_of-shr, bit_of-shl_low, bit_of-shl_high, bit_of-above}

or_false : (b : Bool) → (b || false) ≡ b
or_false true = refl
or_false false = refl

-- a bit of two words that stand side by side, `skipped` bits left out
joined_low : (w0 w1 s i : ℕ) → i < 64 → s + i < 64 → bit_of (bit_or (w0 / 2 ^ s) (w1 * 2 ^ (64 - s) % 2 ^ 64)) i ≡ bit_of w0 (s + i)
joined_low w0 w1 s i hi h =
    bit_of-or (w0 / 2 ^ s) (w1 * 2 ^ (64 - s) % 2 ^ 64) i
    ∙ ap (λ b. bit_of (w0 / 2 ^ s) i || b) (bit_of-shl_low w1 (64 - s) i hi (omega arith))
    ∙ or_false (bit_of (w0 / 2 ^ s) i)
    ∙ bit_of-shr w0 s i

joined_high : (w0 w1 s i : ℕ) → w0 < 2 ^ 64 → i < 64 → s < 64 → 64 ≤ s + i → bit_of (bit_or (w0 / 2 ^ s) (w1 * 2 ^ (64 - s) % 2 ^ 64)) i ≡ bit_of w1 (i - (64 - s))
joined_high w0 w1 s i h0 hi hs h =
    bit_of-or (w0 / 2 ^ s) (w1 * 2 ^ (64 - s) % 2 ^ 64) i
    ∙ ap (λ b. b || bit_of (w1 * 2 ^ (64 - s) % 2 ^ 64) i) (bit_of-shr w0 s i ∙ bit_of-above w0 (s + i) h0 h)
    ∙ bit_of-shl_high w1 (64 - s) i hi (omega arith)

-- the bits from a pair on, out of the two words in which they stand
pub joined : (words : List ℕ) (pair i : ℕ) → get_or words (pair / 64) 0 < 2 ^ 64 → i < 64
    → bit_of (bit_or (get_or words (pair / 64) 0 / 2 ^ (pair % 64)) (get_or words (pair / 64 + 1) 0 * 2 ^ (64 - pair % 64) % 2 ^ 64)) i ≡ word_bit words (pair + i)
joined words pair i h hi = elim (cases_lt (pair % 64 + i) 64) [
  | inl low ↦
      (let d : (pair + i) / 64 ≡ pair / 64 = omega arith in
      let m : (pair + i) % 64 ≡ pair % 64 + i = omega arith in
      joined_low (get_or words (pair / 64) 0) (get_or words (pair / 64 + 1) 0) (pair % 64) i hi low
      ∙ ap (λ k. bit_of (get_or words (pair / 64) 0) k) (sym m) ∙ ap (λ k. bit_of (get_or words k 0) ((pair + i) % 64)) (sym d))
  | inr high ↦
      (let d : (pair + i) / 64 ≡ pair / 64 + 1 = omega arith in
      let m : (pair + i) % 64 ≡ i - (64 - pair % 64) = omega arith in
      joined_high (get_or words (pair / 64) 0) (get_or words (pair / 64 + 1) 0) (pair % 64) i h hi (omega arith) high
      ∙ ap (λ k. bit_of (get_or words (pair / 64 + 1) 0) k) (sym m) ∙ ap (λ k. bit_of (get_or words k 0) ((pair + i) % 64)) (sym d))
]

chosen : (old value mask : Bool) → ((old && not mask) || (value && mask)) ≡ cond mask value old
chosen true true true = refl
chosen true false true = refl
chosen false true true = refl
chosen false false true = refl
chosen true true false = refl
chosen true false false = refl
chosen false true false = refl
chosen false false false = refl

-- the bits of `(old & !mask) | (value & mask)`
replaced : (old value mask i : ℕ) → mask < 2 ^ 64 → i < 64 → bit_of (bit_or (bit_and old (2 ^ 64 - 1 - mask)) (bit_and value mask)) i ≡ cond (bit_of mask i) (bit_of value i) (bit_of old i)
replaced old value mask i h hi =
    bit_of-or (bit_and old (2 ^ 64 - 1 - mask)) (bit_and value mask) i
    ∙ ap (λ b. b || bit_of (bit_and value mask) i) (bit_of-and old (2 ^ 64 - 1 - mask) i ∙ ap (λ b. bit_of old i && b) (bit_of-not mask i h hi))
    ∙ ap (λ b. (bit_of old i && not (bit_of mask i)) || b) (bit_of-and value mask i)
    ∙ chosen (bit_of old i) (bit_of value i) (bit_of mask i)

-- the bits of a row one of whose words is replaced under a mask
pub put : (words : List ℕ) (at value mask : ℕ) → at < length words → mask < 2 ^ 64 → (q : ℕ)
    → word_bit (set words at (bit_or (bit_and (get_or words at 0) (2 ^ 64 - 1 - mask)) (bit_and value mask))) q
    ≡ cond (eqb (q / 64) at && bit_of mask (q % 64)) (bit_of value (q % 64)) (word_bit words q)
put words at value mask h hm q =
    let w : ℕ = bit_or (bit_and (get_or words at 0) (2 ^ 64 - 1 - mask)) (bit_and value mask) in
    let small : q % 64 < 64 = omega arith in
    elim (cases_eq (q / 64) at) [
      | inr apart ↦ rw (ne_eqb (q / 64) at apart) (ap (λ x. bit_of x (q % 64)) (get_or-set_other words at (q / 64) _ 0 apart))
      | inl e ↦ rw (eq-eqb (q / 64) at e, e) (ap (λ x. bit_of x (q % 64)) (get_or-set_same words at _ 0 h) ∙ replaced (get_or words at 0) value mask (q % 64) hm small)
    ]

-- the bits of a row that was met with another
pub met : (old from new : List ℕ) (q : ℕ) → get_or new (q / 64) 0 ≡ bit_and (get_or old (q / 64) 0) (get_or from (q / 64) 0) → word_bit new q ≡ (word_bit old q && word_bit from q)
met old from new q e = ap (λ w. bit_of w (q % 64)) e ∙ bit_of-and (get_or old (q / 64) 0) (get_or from (q / 64) 0) (q % 64)
