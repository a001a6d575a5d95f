use Rattle.std.proofs.Common.{◌≡◌, ℕ, zero, suc, ◌+◌, ◌-◌, ◌*◌, ◌/◌, ◌%◌, ◌^◌, ◌<◌, ◌≤◌, min, max, false, not, ◌&&◌, ◌||◌, eqb, leb, ltb, bit_and, bit_or, arith, refl, ap, sym, ◌∙◌, inl, inr}
use Rattle.std.specs.Int.{w64, bit_at}
use Rattle.std.proofs.lemmas.Bool.{cases_lt, lt-ltb, le-ltb, le-leb, lt-leb}
use Rattle.std.proofs.lemmas.Nat.{pow_pos, shr-shr, shr_split}
use Rattle.std.proofs.lemmas.Nat.Bits.{bit_at_and, bit_at_or, bit_at_not, bit_at-lt, bit_at-zero, bit_at_above, bit_at_ones, bit_at_ones_above, bit_at_mask_inside, bit_at_mask_below, bit_at_cat_low, bit_at_cat_high, ones_shl, ones_shr}
use Rattle.kt_solve.specs.Words.{bit_of}

both : (a b : ℕ) → a < 2 → b < 2 → eqb (min a b) 1 ≡ (eqb a 1 && eqb b 1)
both zero zero h k = refl
both zero (suc zero) h k = refl
both (suc zero) zero h k = refl
both (suc zero) (suc zero) h k = refl
both (suc (suc a)) b h k = absurd (omega arith)
both zero (suc (suc b)) h k = absurd (omega arith)
both (suc zero) (suc (suc b)) h k = absurd (omega arith)

either : (a b : ℕ) → a < 2 → b < 2 → eqb (max a b) 1 ≡ (eqb a 1 || eqb b 1)
either zero zero h k = refl
either zero (suc zero) h k = refl
either (suc zero) zero h k = refl
either (suc zero) (suc zero) h k = refl
either (suc (suc a)) b h k = absurd (omega arith)
either zero (suc (suc b)) h k = absurd (omega arith)
either (suc zero) (suc (suc b)) h k = absurd (omega arith)

other : (a : ℕ) → a < 2 → eqb (1 - a) 1 ≡ not (eqb a 1)
other zero h = refl
other (suc zero) h = refl
other (suc (suc a)) h = absurd (omega arith)

-- the bits of `a & b`, `a | b` and `!a`
pub bit_of-and : (a b i : ℕ) → bit_of (bit_and a b) i ≡ (bit_of a i && bit_of b i)
bit_of-and a b i = ap (λ n. eqb n 1) (bit_at_and a b i) ∙ both (bit_at a i) (bit_at b i) (bit_at-lt a i) (bit_at-lt b i)

pub bit_of-or : (a b i : ℕ) → bit_of (bit_or a b) i ≡ (bit_of a i || bit_of b i)
bit_of-or a b i = ap (λ n. eqb n 1) (bit_at_or a b i) ∙ either (bit_at a i) (bit_at b i) (bit_at-lt a i) (bit_at-lt b i)

pub bit_of-not : (a i : ℕ) → a < 2 ^ 64 → i < 64 → bit_of (2 ^ 64 - 1 - a) i ≡ not (bit_of a i)
bit_of-not a i h l = ap (λ n. eqb n 1) (bit_at_not w64 a i h l) ∙ other (bit_at a i) (bit_at-lt a i)

-- the bits of `a >> k`
pub bit_of-shr : (a k i : ℕ) → bit_of (a / 2 ^ k) i ≡ bit_of a (k + i)
bit_of-shr a k i = ap (λ n. eqb (n % 2) 1) (shr-shr a k i)

-- the bits of `a << k`
bit_of-mod : (a i : ℕ) → i < 64 → bit_of (a % 2 ^ 64) i ≡ bit_of a i
bit_of-mod a i l =
    let c = bit_at_cat_low (a / 2 ^ 64) 64 (a % 2 ^ 64) i l in
    sym (ap (λ n. bit_of n i) (sym (shr_split a 64)) ∙ ap (λ n. eqb n 1) c)

pub bit_of-shl_low : (a k i : ℕ) → i < 64 → i < k → bit_of (a * 2 ^ k % 2 ^ 64) i ≡ false
bit_of-shl_low a k i l h =
    let z : a * 2 ^ k + 0 ≡ a * 2 ^ k = omega arith in
    bit_of-mod (a * 2 ^ k) i l ∙ ap (λ n. bit_of n i) (sym z) ∙ ap (λ n. eqb n 1) (bit_at_cat_low a k 0 i h) ∙ ap (λ n. eqb n 1) (bit_at-zero i)

pub bit_of-shl_high : (a k i : ℕ) → i < 64 → k ≤ i → bit_of (a * 2 ^ k % 2 ^ 64) i ≡ bit_of a (i - k)
bit_of-shl_high a k i l h =
    let z : a * 2 ^ k + 0 ≡ a * 2 ^ k = omega arith in
    bit_of-mod (a * 2 ^ k) i l ∙ ap (λ n. bit_of n i) (sym z) ∙ ap (λ n. eqb n 1) (bit_at_cat_high a k 0 i (pow_pos k) h)

-- a word has no bit from 64 on
pub bit_of-above : (a i : ℕ) → a < 2 ^ 64 → 64 ≤ i → bit_of a i ≡ false
bit_of-above a i h l = ap (λ n. eqb n 1) (bit_at_above a 64 i h l)

ones_from : (low i : ℕ) → low < 64 → i < 64 → bit_of ((2 ^ 64 - 1) * 2 ^ low % 2 ^ 64) i ≡ leb low i
ones_from low i hl hi =
    let a : (2 ^ 64 - 1) * 2 ^ low % 2 ^ 64 ≡ 2 ^ 64 - 2 ^ low = ones_shl 64 low (omega arith) in
    ap (λ n. bit_of n i) a ∙ elim (cases_lt i low) [
      | inl below ↦ ap (λ n. eqb n 1) (bit_at_mask_below low 64 i below) ∙ sym (lt-leb low i below)
      | inr above ↦ ap (λ n. eqb n 1) (bit_at_mask_inside low 64 i above hi) ∙ sym (le-leb low i above)
    ]

ones_to : (high i : ℕ) → high ≤ 64 → bit_of ((2 ^ 64 - 1) / 2 ^ (64 - high)) i ≡ ltb i high
ones_to high i hh =
    let e : 64 - (64 - high) ≡ high = omega arith in
    let b : (2 ^ 64 - 1) / 2 ^ (64 - high) ≡ 2 ^ high - 1 = ones_shr 64 (64 - high) (omega arith) ∙ ap (λ k. 2 ^ k - 1) e in
    ap (λ n. bit_of n i) b ∙ elim (cases_lt i high) [
      | inl inside ↦ ap (λ n. eqb n 1) (bit_at_ones high i inside) ∙ sym (lt-ltb i high inside)
      | inr past ↦ ap (λ n. eqb n 1) (bit_at_ones_above high i past) ∙ sym (le-ltb i high past)
    ]

-- the bits of `(MAX << low) & (MAX >> (64 - high))`
pub between : (low high i : ℕ) → low < 64 → high ≤ 64 → i < 64
    → bit_of (bit_and ((2 ^ 64 - 1) * 2 ^ low % 2 ^ 64) ((2 ^ 64 - 1) / 2 ^ (64 - high))) i ≡ (leb low i && ltb i high)
between low high i hl hh hi =
    bit_of-and ((2 ^ 64 - 1) * 2 ^ low % 2 ^ 64) ((2 ^ 64 - 1) / 2 ^ (64 - high)) i
    ∙ ap (λ b. b && bit_of ((2 ^ 64 - 1) / 2 ^ (64 - high)) i) (ones_from low i hl hi)
    ∙ ap (λ b. leb low i && b) (ones_to high i hh)
