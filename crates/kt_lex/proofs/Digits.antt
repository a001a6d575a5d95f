-- The digits of an integer, one at a time.
use Rattle.std.proofs.Common.{◌≡◌, ℕ, ◌+◌, ◌*◌, ◌<◌, ◌≤◌, Bool, true, false, not, ◌&&◌, ◌==◌, nat_lt, List, [], ◌∷◌, Some, None, refl, ap, ◌∙◌, ◌⊎◌, inl, inr, arith, le_refl, subst}
use Rattle.std.proofs.lemmas.Bool.{cases_Bool, and_right, eqb-true, ltb-true, ltb-false, le-ltb, lt-ltb}
use Rattle.std.proofs.Math.Nat.{mul-le-mul_left}
use Rattle.std.specs.Char.{digit_value}
use Rattle.kt_tree.specs.Text.{first}
use Rattle.kt_tree.specs.Integers.{is_digit_of, end_in_digit, are_digits, value_after, integer_limit, digits}
use Rattle.kt_lex.specs.Steps.{push_digit}

-- a false conjunction, grouped to the left
and_assoc-false : (a b c : Bool) → (b && c) ≡ false → ((a && b) && c) ≡ false
and_assoc-false true b c h = h
and_assoc-false false b c h = refl

-- `_` is no digit
underscore : (base : ℕ) → base ≤ 16 → is_digit_of base 95 ≡ false
underscore base h = le-ltb 36 base (omega arith)

-- more digits make no smaller value
pub value_after-le : (base n : ℕ) (cs : List ℕ) → 2 ≤ base → n ≤ value_after base n cs
value_after-le base n [] h = le_refl n
value_after-le base n (c ∷ cs) h =
    elim (cases_Bool (c == 95)) [
      | inl hit ↦ rw hit (value_after-le base n cs h)
      | inr miss ↦
          let more = value_after-le base (n * base + digit_value c) cs h in
          let grows : n * 2 ≤ n * base = mul-le-mul_left n h in
          rw miss (omega (arith, more, grows))
    ]

-- what a digit or `_` leaves
pub record Pushes (base n m c : ℕ) (last : Bool) (cs : List ℕ) : Type 0 where
  pub value : value_after base n (c ∷ cs) ≡ value_after base m cs
  pub ends : end_in_digit base last (c ∷ cs) ≡ end_in_digit base (not (c == 95)) cs
  pub limit : m < integer_limit

-- one more digit, where the value stays below the limit
pub push-some : (base n m c : ℕ) (last : Bool) (cs : List ℕ) → base ≤ 16 → n < integer_limit → push_digit base n c ≡ Some m → Pushes base n m c last cs
push-some base n m c last cs high small e =
    elim (cases_Bool (c == 95)) [
      | inl hit ↦
          let here : c ≡ 95 = eqb-true c 95 hit in
          let none : is_digit_of base c ≡ false = ap (is_digit_of base) here ∙ underscore base high in
          let got : push_digit base n c ≡ Some n = rw hit in
          let same : n ≡ m = cc in
          record {
            value = subst (λ k. value_after base n (c ∷ cs) ≡ value_after base k cs) same (rw hit refl);
            ends = rw (none, hit) refl;
            limit = omega arith;
          }
      | inr miss ↦
          elim (cases_Bool (is_digit_of base c)) [
            | inl digit ↦
                elim (cases_Bool (nat_lt (n * base + digit_value c) integer_limit)) [
                  | inl fits ↦
                      let got : push_digit base n c ≡ Some (n * base + digit_value c) = rw (miss, digit, fits) in
                      let same : n * base + digit_value c ≡ m = cc in
                      record {
                        value = subst (λ k. value_after base n (c ∷ cs) ≡ value_after base k cs) same (rw miss refl);
                        ends = rw (digit, miss) refl;
                        limit = subst (λ k. k < integer_limit) same (ltb-true (n * base + digit_value c) integer_limit fits);
                      }
                  | inr large ↦ let got : push_digit base n c ≡ None = rw (miss, digit, large) in absurd (cc)
                ]
            | inr other ↦ let got : push_digit base n c ≡ None = rw (miss, other) in absurd (cc)
          ]
    ]

-- a character that is no digit, or one too many
pub push-none : (base n c : ℕ) (last : Bool) (cs : List ℕ) → 2 ≤ base → push_digit base n c ≡ None
    → (end_in_digit base last (c ∷ cs) && nat_lt (value_after base n (c ∷ cs)) integer_limit) ≡ false
push-none base n c last cs low e =
    elim (cases_Bool (c == 95)) [
      | inl hit ↦ let got : push_digit base n c ≡ Some n = rw hit in absurd (cc)
      | inr miss ↦
          elim (cases_Bool (is_digit_of base c)) [
            | inl digit ↦
                elim (cases_Bool (nat_lt (n * base + digit_value c) integer_limit)) [
                  | inl fits ↦ let got : push_digit base n c ≡ Some (n * base + digit_value c) = rw (miss, digit, fits) in absurd (cc)
                  | inr large ↦
                      let over = ltb-false (n * base + digit_value c) integer_limit large in
                      let more = value_after-le base (n * base + digit_value c) cs low in
                      let past : nat_lt (value_after base (n * base + digit_value c) cs) integer_limit ≡ false = le-ltb (value_after base (n * base + digit_value c) cs) integer_limit (omega (arith, over, more)) in
                      and_right (end_in_digit base last (c ∷ cs)) (nat_lt (value_after base n (c ∷ cs)) integer_limit) (rw miss past)
                ]
            | inr other ↦ rw (other, miss) refl
          ]
    ]

-- the digits have that value
pub digits-some : (base v : ℕ) (text : List ℕ) → is_digit_of base (first text) ≡ true → end_in_digit base false text ≡ true
    → value_after base 0 text ≡ v → v < integer_limit → digits base text ≡ Some v
unfolding digits
digits-some base v text begins ends value small =
    let fits : nat_lt (value_after base 0 text) integer_limit ≡ true = lt-ltb (value_after base 0 text) integer_limit (omega (arith, value)) in
    rw (begins, ends, fits) (ap Some value)

-- the digits have none
pub digits-none : (base : ℕ) (text : List ℕ) → (is_digit_of base (first text) ≡ false) ⊎ ((end_in_digit base false text && nat_lt (value_after base 0 text) integer_limit) ≡ false) → digits base text ≡ None
unfolding digits
digits-none base text (inl first_is_none) = rw first_is_none refl
digits-none base text (inr not_all) =
    let both : (are_digits base text && nat_lt (value_after base 0 text) integer_limit) ≡ false =
    and_assoc-false (is_digit_of base (first text)) (end_in_digit base false text) (nat_lt (value_after base 0 text) integer_limit) not_all in
    rw both refl
