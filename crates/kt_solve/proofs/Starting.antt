use Rattle.std.proofs.Common.{◌≡◌, ◌≢◌, ℕ, ◌+◌, ◌*◌, ◌/◌, ◌%◌, ◌<◌, Bool, true, false, eqb, [], length, get_or, set, replicate, arith, refl, ap, ◌∙◌, inl, inr}
use Rattle.std.proofs.lemmas.Bool.{cases_eq, cases_lt}
use Rattle.std.proofs.lemmas.List.{length-set, length-replicate, get_or-replicate, get_or_past}
use Rattle.std.proofs.lemmas.Nat.{mul-add-lt}
use Rattle.std.proofs.lemmas.Nat.Bits.{bit_at_ones, bit_at-zero}
use Rattle.kt_solve.specs.declared.mark.Mark.TheVariants.{Unreached, Waiting}
use Rattle.kt_solve.specs.Flow.{Flow, IsReached, IsWithin}
use Rattle.kt_solve.specs.Marks.{is_reached, is_read, mark_at}
use Rattle.kt_solve.specs.Search.{IsSearch, Misses}
use Rattle.kt_solve.specs.Words.{bit_of, word_bit, row_bit}
use Rattle.kt_solve.proofs.Marking.{true_not_false, mark_at-set_same, mark_at-set_other}

-- every pair of a row of ones is set
pub row_bit-ones : (nodes width n q : ℕ) → n < nodes → q < 64 * width → row_bit (replicate (nodes * width) 18446744073709551615) width n q ≡ true
row_bit-ones nodes width n q h l =
    let small : q % 64 < 64 = omega arith in
    let at : n * width + q / 64 < nodes * width = omega (arith, mul-add-lt n width (q / 64) nodes h (omega arith)) in
    ap (λ w. bit_of w (q % 64)) (get_or-replicate (nodes * width) (n * width + q / 64) 18446744073709551615 0 at) ∙ ap (λ b. eqb b 1) (bit_at_ones 64 (q % 64) small)

-- no pair of a row of zeros is set
pub word_bit-zeros : (width q : ℕ) → word_bit (replicate width 0) q ≡ false
word_bit-zeros width q =
    let z : get_or (replicate width 0) (q / 64) 0 ≡ 0 = elim (cases_lt (q / 64) width) [
      | inl within ↦ get_or-replicate width (q / 64) 0 0 within
      | inr past ↦ get_or_past (replicate width 0) (q / 64) 0 (omega (arith, length-replicate {A = ℕ} width 0, past))
    ] in
    ap (λ w. bit_of w (q % 64)) z ∙ ap (λ b. eqb b 1) (bit_at-zero (q % 64))

-- no node is reached at first
pub mark_at-replicate : (nodes k : ℕ) → mark_at (replicate nodes Unreached) k ≡ Unreached
mark_at-replicate nodes k = elim (cases_lt k nodes) [
  | inl within ↦ get_or-replicate nodes k Unreached Unreached within
  | inr past ↦ get_or_past (replicate nodes Unreached) k Unreached (omega (arith, length-replicate nodes Unreached, past))
]

-- the entry alone is reached at first
pub only_entry : (p : Flow) (k : ℕ) → is_reached (mark_at (set (replicate p.nodes Unreached) p.entry Waiting) k) ≡ true → k ≡ p.entry
only_entry p k t = elim (cases_eq k p.entry) [
  | inl is ↦ is
  | inr other ↦ true_not_false _ t (ap is_reached (mark_at-set_other (replicate p.nodes Unreached) p.entry k Waiting other ∙ mark_at-replicate p.nodes k))
]

entry_misses : (p : Flow) (n q : ℕ) → n ≡ p.entry → Misses p n q
entry_misses p n q is = rw is ([], (refl, tt), refl)

entry_reached : (p : Flow) (n : ℕ) → n ≡ p.entry → IsReached p n
entry_reached p n is = rw is ([], (refl, tt))

-- the search begins at the entry, with every other row full
pub search_begins : (p : Flow) (has full : ℕ → ℕ → Bool) (nothing : ℕ → Bool) → IsWithin p
    → ((n q : ℕ) → n ≢ p.entry → q < p.pairs → has n q ≡ full n q) → ((q : ℕ) → q < p.pairs → has p.entry q ≡ nothing q)
    → ((n q : ℕ) → n < p.nodes → q < p.pairs → full n q ≡ true) → ((q : ℕ) → nothing q ≡ false)
    → IsSearch p (set (replicate p.nodes Unreached) p.entry Waiting) has
search_begins p has full nothing i others row ones zeros =
    let le : p.entry < length (replicate p.nodes Unreached) = omega (arith, length-replicate p.nodes Unreached, i.entry) in
    record {
      witnessed = record {
        marks_len = length-set (replicate p.nodes Unreached) p.entry Waiting ∙ length-replicate p.nodes Unreached;
        path = λ n t. entry_reached p n (only_entry p n t);
        unset = λ n q hn hq f. elim (cases_eq n p.entry) [
          | inl is ↦ entry_misses p n q is
          | inr other ↦ true_not_false (has n q) (others n q other hq ∙ ones n q hn hq) f
        ];
        entry = ap is_reached (mark_at-set_same (replicate p.nodes Unreached) p.entry Waiting le);
        entry_row = λ q hq. row q hq ∙ zeros q;
      };
      settled = λ a b e r. elim (cases_eq a p.entry) [
        | inl is ↦ (let r2 : is_read (mark_at (set (replicate p.nodes Unreached) p.entry Waiting) p.entry) ≡ true = rw is at r in
            true_not_false _ r2 (ap is_read (mark_at-set_same (replicate p.nodes Unreached) p.entry Waiting le)))
        | inr other ↦ true_not_false _ r (ap is_read (mark_at-set_other (replicate p.nodes Unreached) p.entry a Waiting other ∙ mark_at-replicate p.nodes a))
      ];
    }
