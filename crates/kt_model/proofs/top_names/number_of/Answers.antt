use Rattle.std.proofs.Common.{◌≡◌, ◌<◌, ℕ, List, [], ◌∷◌, Some, false, true, slice_get, get_or, length, arith, sym, ◌∙◌, suc, zero}
use Rattle.std.specs.Str.{bytes_eq}
use Rattle.kt_tree.specs.Names.{place_of}
use Rattle.std.proofs.lemmas.List.Sums.{position_or_len_is}
use borrow.Author.Count.{below_more}
use Rattle.kt_model.proofs.top_names.number_of.Goals as goal

text_at : (names : List (List ℕ)) (k : ℕ) (text : List ℕ) → slice_get names k ≡ Some text → get_or names k [] ≡ text
text_at [] k text e = cc
text_at (n ∷ names) zero text e = cc
text_at (n ∷ names) (suc k) text e = text_at names k text e

-- at the first name that has the text
here : (names : List (List ℕ)) (text found : List ℕ) (n : ℕ) → ((k : ℕ) → k < n → bytes_eq text (get_or names k []) ≡ false) → slice_get names n ≡ Some found → bytes_eq text found ≡ true → n < length names → n ≡ place_of names text
here names text found n before is same within =
    sym (position_or_len_is (bytes_eq text) names n [] (omega arith) before (λ _. rw (text_at names n found is) same))

pub returns-then-eq : goal.returns-then-eq
returns-then-eq c =
    here c.args.names.now c.args.text.now c.text.result.now c.loop-number.number c.loop-number.invariant c.text.ensures (sym c.eq.ensures ∙ c.if-eq.true) (omega arith)

pub loop-number-preserved : goal.loop-number-preserved
loop-number-preserved c =
    let P : ℕ → Type 0 = λ k. bytes_eq c.args.text.now (get_or c.args.names.now k []) ≡ false in
    below_more P c.loop-number.number c.loop-number.invariant (rw (text_at c.args.names.now c.loop-number.number c.text.result.now c.text.ensures) (sym c.eq.ensures ∙ c.if-eq.false))

pub returns : goal.returns
returns c =
    sym (position_or_len_is (bytes_eq c.args.text.now) c.args.names.now c.len-len.result [] (omega arith) (λ k b. c.loop-number.invariant k (omega arith)) (λ b. absurd (omega arith)))
