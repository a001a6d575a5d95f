use Rattle.std.proofs.Common.{◌≡◌, ◌≢◌, ℕ, zero, suc, ◌+◌, ◌-◌, ◌/◌, ◌%◌, ◌<◌, ◌≤◌, Bool, true, false, ◌&&◌, cond, eqb, leb, ltb, List, [], ◌∷◌, ◌++◌, length, take, arith, refl, ap, sym, ◌∙◌, inl, inr}
use Rattle.std.proofs.lemmas.Bool.{cases_eq, cases_lt, eq-eqb, ne_eqb, lt-ltb, le-ltb, le-leb, lt-leb, and_left, and_right, cond-true, cond-false}
use Rattle.std.proofs.lemmas.List.{take_more}
use Rattle.kt_solve.specs.declared.effect.Transfer.{Transfer}
use Rattle.kt_solve.specs.declared.effect.Transfer.TheVariants.{Keep}
use Rattle.kt_solve.specs.declared.effect.Effect.{Effect}
use Rattle.kt_solve.specs.Chains.{IsNext, effect_at}
use Rattle.kt_solve.specs.Flow.{moved, outcome, covers, in_range, transfer_after}

-- whether a pair stands in the piece from `pair` on, told by its word and its place there
in_piece : (pair count q : ℕ) → count ≤ 64 - pair % 64 → (eqb (q / 64) (pair / 64) && (leb (pair % 64) (q % 64) && ltb (q % 64) (pair % 64 + count))) ≡ (leb pair q && ltb q (pair + count))
in_piece pair count q h = elim (cases_eq (q / 64) (pair / 64)) [
  | inl same ↦ rw (eq-eqb (q / 64) (pair / 64) same) (elim (cases_lt q pair) [
    | inl below ↦
        (let b : q % 64 < pair % 64 = omega (arith, same) in
        rw (lt-leb (pair % 64) (q % 64) b, lt-leb pair q below) refl)
    | inr above ↦
        (let a : pair % 64 ≤ q % 64 = omega (arith, same) in
        rw (le-leb (pair % 64) (q % 64) a, le-leb pair q above) (elim (cases_lt q (pair + count)) [
          | inl inside ↦ (let i : q % 64 < pair % 64 + count = omega (arith, same) in rw (lt-ltb (q % 64) (pair % 64 + count) i, lt-ltb q (pair + count) inside) refl)
          | inr past ↦ (let i : pair % 64 + count ≤ q % 64 = omega (arith, same) in rw (le-ltb (q % 64) (pair % 64 + count) i, le-ltb q (pair + count) past) refl)
        ]))
  ])
  | inr apart ↦ rw (ne_eqb (q / 64) (pair / 64) apart) (elim (cases_lt q pair) [
    | inl below ↦ rw (lt-leb pair q below) refl
    | inr above ↦ elim (cases_lt q (pair + count)) [
      | inl inside ↦ absurd (apart (omega arith))
      | inr past ↦ rw (le-ltb q (pair + count) past) (sym (and_right (leb pair q) false refl))
    ]
  ])
]

-- one more piece of an effect's range is written
pub written : (first pair count q : ℕ) (mask v x old new start : Bool) → first ≤ pair → count ≤ 64 - pair % 64
    → mask ≡ (leb (pair % 64) (q % 64) && ltb (q % 64) (pair % 64 + count))
    → (pair ≤ q → q / 64 ≡ pair / 64 → v ≡ x)
    → new ≡ cond (eqb (q / 64) (pair / 64) && mask) v old
    → old ≡ cond (leb first q && ltb q pair) x start
    → new ≡ cond (leb first q && ltb q (pair + count)) x start
written first pair count q mask v x old new start hf hc m given n o =
    let test : new ≡ cond (leb pair q && ltb q (pair + count)) v old = n ∙ ap (λ b. cond (eqb (q / 64) (pair / 64) && b) v old) m ∙ ap (λ b. cond b v old) (in_piece pair count q hc) in
    elim (cases_lt q pair) [
      | inl below ↦
          (let t1 : new ≡ old = test ∙ ap (λ b. cond (b && ltb q (pair + count)) v old) (lt-leb pair q below) in
          t1 ∙ o ∙ ap (λ b. cond (leb first q && b) x start) (lt-ltb q pair below ∙ sym (lt-ltb q (pair + count) (omega arith))))
      | inr above ↦ elim (cases_lt q (pair + count)) [
        | inl inside ↦
            (let t1 : new ≡ v = test ∙ ap (λ b. cond (b && ltb q (pair + count)) v old) (le-leb pair q above) ∙ ap (λ b. cond b v old) (lt-ltb q (pair + count) inside) in
            let t2 : (leb first q && ltb q (pair + count)) ≡ true = rw (le-leb first q (omega arith), lt-ltb q (pair + count) inside) refl in
            t1 ∙ given above (omega arith) ∙ sym (cond-true (leb first q && ltb q (pair + count)) x start t2))
        | inr past ↦
            (let t1 : new ≡ old = test ∙ ap (λ b. cond b v old) (and_right (leb pair q) (ltb q (pair + count)) (le-ltb q (pair + count) past)) in
            t1 ∙ o ∙ ap (λ b. cond (leb first q && b) x start) (le-ltb q pair above ∙ sym (le-ltb q (pair + count) past)))
      ]
    ]

transfer_after-push : (es : List Effect) (e : Effect) (n q : ℕ) (t : Transfer) → transfer_after (es ++ e ∷ []) n q t ≡ cond (covers e n q) (moved e.transfer (q - e.first)) (transfer_after es n q t)
transfer_after-push [] e n q t = refl
transfer_after-push (x ∷ es) e n q t = transfer_after-push es e n q (cond (covers x n q) (moved x.transfer (q - x.first)) t)

transfer_more : (es : List Effect) (i n q : ℕ) (t : Transfer) → i < length es
    → transfer_after (take (i + 1) es) n q t ≡ cond (covers (effect_at es i) n q) (moved (effect_at es i).transfer (q - (effect_at es i).first)) (transfer_after (take i es) n q t)
transfer_more es i n q t h =
    let nothing : Effect = record { node = 0; first = 0; count = 0; transfer = Keep } in
    ap (λ ys. transfer_after ys n q t) (take_more es i nothing h) ∙ transfer_after-push (take i es) (effect_at es i) n q t

-- effects of other nodes change nothing
pub transfer_skips : (es : List Effect) (n q : ℕ) (t : Transfer) (i d : ℕ) → i + d ≤ length es → ((j : ℕ) → i ≤ j → j < i + d → (effect_at es j).node ≢ n)
    → transfer_after (take (i + d) es) n q t ≡ transfer_after (take i es) n q t
transfer_skips es n q t i zero h g = let z : i + 0 ≡ i = omega arith in ap (λ k. transfer_after (take k es) n q t) z
transfer_skips es n q t i (suc d) h g =
    let z : i + suc d ≡ (i + d) + 1 = omega arith in
    let other : covers (effect_at es (i + d)) n q ≡ false = and_left (eqb (effect_at es (i + d)).node n) (in_range (effect_at es (i + d)) q) (ne_eqb (effect_at es (i + d)).node n (g (i + d) (omega arith) (omega arith))) in
    ap (λ k. transfer_after (take k es) n q t) z
    ∙ transfer_more es (i + d) n q t (omega (arith, h))
    ∙ cond-false (covers (effect_at es (i + d)) n q) _ _ other
    ∙ transfer_skips es n q t i d (omega (arith, h)) (λ j l m. g j l (omega (arith, m)))

pub transfer_first : (es : List Effect) (n q at : ℕ) → IsNext es 0 n at → transfer_after (take at es) n q Keep ≡ Keep
transfer_first es n q at x =
    let z : 0 + at ≡ at = omega arith in
    ap (λ k. transfer_after (take k es) n q Keep) (sym z) ∙ transfer_skips es n q Keep 0 at (omega (arith, x.within)) (λ j l m. x.gap j l (omega (arith, m)))

outcome-cond : (b : Bool) (s t : Transfer) (f : ℕ → Bool) (q : ℕ) → outcome (cond b s t) f q ≡ cond b (outcome s f q) (outcome t f q)
outcome-cond true s t f q = refl
outcome-cond false s t f q = refl

-- one more effect of the node counts
pub transfer_step : (es : List Effect) (at next n q : ℕ) (t t' : Transfer) → at < length es → (effect_at es at).node ≡ n → IsNext es (at + 1) n next
    → t ≡ transfer_after (take at es) n q Keep
    → t' ≡ cond (in_range (effect_at es at) q) (moved (effect_at es at).transfer (q - (effect_at es at).first)) t
    → t' ≡ transfer_after (take next es) n q Keep
transfer_step es at next n q t t' h same k ih e =
    let d : (at + 1) + (next - (at + 1)) ≡ next = omega (arith, k.beyond) in
    let skip = transfer_skips es n q Keep (at + 1) (next - (at + 1)) (omega (arith, d, k.within)) (λ j l m. k.gap j l (omega (arith, d, m))) in
    let node : covers (effect_at es at) n q ≡ in_range (effect_at es at) q = ap (λ b. b && in_range (effect_at es at) q) (eq-eqb (effect_at es at).node n same) in
    e
    ∙ ap (λ z. cond (in_range (effect_at es at) q) (moved (effect_at es at).transfer (q - (effect_at es at).first)) z) ih
    ∙ sym (transfer_more es at n q Keep h ∙ ap (λ b. cond b (moved (effect_at es at).transfer (q - (effect_at es at).first)) (transfer_after (take at es) n q Keep)) node)
    ∙ sym skip
    ∙ ap (λ k. transfer_after (take k es) n q Keep) d

-- and is written over the state
pub effect_step : (es : List Effect) (at next n q : ℕ) (f : ℕ → Bool) (x y : Bool) → at < length es → (effect_at es at).node ≡ n → IsNext es (at + 1) n next
    → x ≡ outcome (transfer_after (take at es) n q Keep) f q
    → y ≡ cond (in_range (effect_at es at) q) (outcome (moved (effect_at es at).transfer (q - (effect_at es at).first)) f q) x
    → y ≡ outcome (transfer_after (take next es) n q Keep) f q
effect_step es at next n q f x y h same k ih e =
    e
    ∙ ap (λ z. cond (in_range (effect_at es at) q) (outcome (moved (effect_at es at).transfer (q - (effect_at es at).first)) f q) z) ih
    ∙ sym (outcome-cond (in_range (effect_at es at) q) (moved (effect_at es at).transfer (q - (effect_at es at).first)) (transfer_after (take at es) n q Keep) f q)
    ∙ ap (λ t. outcome t f q) (transfer_step es at next n q (transfer_after (take at es) n q Keep) (cond (in_range (effect_at es at) q) (moved (effect_at es at).transfer (q - (effect_at es at).first)) (transfer_after (take at es) n q Keep)) h same k refl refl)
