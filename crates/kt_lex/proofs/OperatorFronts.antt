-- Which fronts of a text are operators.
use Rattle.std.proofs.Common.{◌≡◌, ℕ, zero, suc, ◌+◌, ◌<◌, ◌≤◌, true, false, ◌&&◌, nat_le, List, [], ◌∷◌, length, take, drop, Option, Some, None, option_map, refl, ap, ◌∙◌, arith, inl, inr}
use Rattle.std.proofs.lemmas.Bool.{cases_Bool, and_parts, leb-true}
use Rattle.std.proofs.lemmas.List.{length-take-le}
use Rattle.std.specs.List.{list_all}
use Rattle.kt_tree.specs.declared.token.Kind.{Kind}
use Rattle.kt_tree.specs.Characters.{begins_name, continues_name, is_digit}
use Rattle.kt_tree.specs.Lexemes.{Lexeme, fixed, same, find, operators, operator_of}
use Rattle.kt_tree.specs.Longest.{or_shorter, longest_from, longest, token_at}
use Rattle.kt_tree.specs.Text.{first}
use Rattle.kt_tree.specs.Words.{lexeme, operator_before, is_word_operator}
use Rattle.kt_lex.specs.Steps.{operator_at, operator_with, or_else}
use Rattle.kt_lex.proofs.Longest.{TokenAt, longest_from-none}
use Rattle.kt_lex.proofs.SameText.{same-true}

-- no row has a text that is longer than all of them
find-long : (rows : List (List ℕ × Kind)) (n : ℕ) (text : List ℕ) → list_all (λ row. nat_le (length row.0) n) rows ≡ true → n < length text → find rows text ≡ None
find-long [] n text all long = refl
find-long (row ∷ rows) n text all long =
    let parts = and_parts (nat_le (length row.0) n) (list_all (λ r. nat_le (length r.0) n) rows) all in
    elim (cases_Bool (same row.0 text)) [
      | inl hit ↦
          let here : length row.0 ≤ n = leb-true (length row.0) n parts.0 in
          absurd (omega (arith, ap length (same-true row.0 text hit), here))
      | inr miss ↦ rw miss (find-long rows n text parts.1 long)
    ]

-- no operator is longer than three characters
operator_of-long : (text : List ℕ) → 3 < length text → operator_of text ≡ None
unfolding operator_of
operator_of-long text long = find-long operators 3 text refl long

-- an operator with what follows it, as one front and as a step of the code
abbrev AsToken : Option (Kind × List ℕ) → Option (Lexeme × List ℕ)
AsToken o = option_map (λ p. (fixed p.0, p.1)) o

-- an operator of n characters, or else what shorter ones give
shape : (text rest : List ℕ) (n : ℕ) (k : Option Kind) (shorter : Option (Lexeme × ℕ)) (other : Option (Kind × List ℕ)) → drop n text ≡ rest
    → TokenAt text shorter ≡ AsToken other → TokenAt text (or_shorter (operator_before k rest) n shorter) ≡ AsToken (or_else (operator_with rest k) other)
shape text rest n None shorter other e h = h
shape text rest n (Some k) shorter other e h =
    elim (cases_Bool (is_word_operator k && continues_name (first rest))) [
      | inl hit ↦ rw hit h
      | inr miss ↦ rw miss (ap (λ t. Some (fixed k, t)) e)
    ]

-- an operator of n characters, or else none
last_shape : (text rest : List ℕ) (n : ℕ) (k : Option Kind) → drop n text ≡ rest
    → TokenAt text (or_shorter (operator_before k rest) n None) ≡ AsToken (operator_with rest k)
last_shape text rest n None e = refl
last_shape text rest n (Some k) e =
    elim (cases_Bool (is_word_operator k && continues_name (first rest))) [
      | inl hit ↦ rw hit refl
      | inr miss ↦ rw miss (ap (λ t. Some (fixed k, t)) e)
    ]

-- a longer front is none
past_three : (c d e : ℕ) (cs : List ℕ) (m : ℕ) → begins_name c ≡ false → is_digit c ≡ false → 3 < m → m ≤ 3 + length cs
    → lexeme (take m (c ∷ d ∷ e ∷ cs)) (drop m (c ∷ d ∷ e ∷ cs)) ≡ None
past_three c d e cs zero b n lo hi = absurd (omega arith)
past_three c d e cs (suc m) b n lo hi =
    let len : length (take (suc m) (c ∷ d ∷ e ∷ cs)) ≡ suc m = length-take-le (suc m) (c ∷ d ∷ e ∷ cs) (omega arith) in
    let none : operator_of (c ∷ take m (d ∷ e ∷ cs)) ≡ None = operator_of-long (take (suc m) (c ∷ d ∷ e ∷ cs)) (omega (arith, len)) in
    rw (b, n, none) refl

-- where no name and no digit stands the longest token is what the code reads
pub token_at-operator : (text : List ℕ) → begins_name (first text) ≡ false → is_digit (first text) ≡ false → token_at lexeme text ≡ operator_at text
unfolding longest operator_at
token_at-operator [] b n = refl
token_at-operator (c ∷ []) b n = rw (b, n) (last_shape (c ∷ []) [] 1 (operator_of (c ∷ [])) refl)
token_at-operator (c ∷ d ∷ []) b n =
    rw (b, n) (shape (c ∷ d ∷ []) [] 2 (operator_of (c ∷ d ∷ [])) _ _ refl (last_shape (c ∷ d ∷ []) (d ∷ []) 1 (operator_of (c ∷ [])) refl))
token_at-operator (c ∷ d ∷ e ∷ cs) b n =
    let text = c ∷ d ∷ e ∷ cs in
    let len : length (c ∷ d ∷ e ∷ cs) ≡ 3 + length cs = omega arith in
    let three : longest_from lexeme (length (c ∷ d ∷ e ∷ cs)) (c ∷ d ∷ e ∷ cs) ≡ longest_from lexeme 3 (c ∷ d ∷ e ∷ cs) =
    ap (λ m. longest_from lexeme m (c ∷ d ∷ e ∷ cs)) len ∙ longest_from-none lexeme 3 (length cs) (c ∷ d ∷ e ∷ cs) (λ m lo hi. past_three c d e cs m b n lo hi) in
    ap (TokenAt (c ∷ d ∷ e ∷ cs)) three
    ∙ rw (b, n) (shape text cs 3 (operator_of (c ∷ d ∷ e ∷ [])) _ _ refl
    (shape text (e ∷ cs) 2 (operator_of (c ∷ d ∷ [])) _ _ refl (last_shape text (d ∷ e ∷ cs) 1 (operator_of (c ∷ [])) refl)))
