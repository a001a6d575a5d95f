-- Spans begin and end at characters.
use Rattle.std.proofs.Common.{◌≡◌, ℕ, zero, suc, ◌+◌, ◌-◌, Bool, true, false, ◌&&◌, ◌||◌, ◌==◌, List, [], ◌∷◌, ◌++◌, length, take, Option, Some, None, refl, sym, ap, ◌∙◌, inl, inr, arith, append_assoc, length-append, subst}
use Rattle.std.proofs.lemmas.Bool.{cases_Bool, and_parts}
use Rattle.std.proofs.lemmas.Str.{encodes-chars, encodes-append, scalars-chars, IsCharBoundary-at_seam}
use lib.Utf8.{encodes, scalars, scalar}
use Rattle.std.specs.Str.{chars, IsUtf8, IsCharBoundary}
use Rattle.kt_tree.specs.declared.token.Kind.{Kind}
use Rattle.kt_tree.specs.declared.token.Kind.TheVariants.{Open, End}
use Rattle.kt_tree.specs.Brackets.{Bracket, round, square, brace, part, quote, innermost, opened, closes, brackets_after, counts_lines, last_quote, open_quote}
use Rattle.kt_tree.specs.Layout.{AtCharacters}
use Rattle.kt_tree.specs.Lexemes.{Lexeme, fixed, name, return_at, number, piece, name_part}
use Rattle.kt_tree.specs.Moves.{Move, skip, take as takes, stop, unclosed, bad, next_move}
use Rattle.kt_tree.specs.Text.{place, width, after_first, without_mark}
use Rattle.kt_tree.specs.Tokens.{Lexed, Outcome, unfinished, tokens, bad_at, with_token, lexed, unclosed_or, bad_here, step, steps, outcome, AreTokens, IsBadPlace}
use Rattle.kt_lex.proofs.Rests.{MoveLeaves, next_move-leaves}

-- the rest is an end of the text
abbrev IsEnd : List ℕ → List ℕ → Type 0
IsEnd s rest = (front : List ℕ) × (chars s ≡ front ++ rest)

-- a rest of an end is an end
end_further : (s cs ds front : List ℕ) → IsEnd s cs → cs ≡ front ++ ds → IsEnd s ds
end_further s cs ds front (before, e) parts = (before ++ front, e ∙ ap (λ t. before ++ t) parts ∙ sym (append_assoc before front ds))

-- an end without its first character is an end
end_after : (s cs : List ℕ) → IsEnd s cs → IsEnd s (after_first cs)
end_after s [] h = h
end_after s (c ∷ cs) h = end_further s (c ∷ cs) cs (c ∷ []) h refl

-- scalars of a list are those of its end
scalars-end : (front rest : List ℕ) → scalars (front ++ rest) ≡ true → scalars rest ≡ true
scalars-end [] rest h = h
scalars-end (c ∷ front) rest h = scalars-end front rest (and_parts (scalar c) (scalars (front ++ rest)) h).1

-- where an end begins there is a character, or the end of the text
place-boundary : (s rest : List ℕ) → IsUtf8 s → IsEnd s rest → IsCharBoundary s (place (chars s) rest)
place-boundary s rest utf8 (front, e) =
    let whole : s ≡ encodes front ++ encodes rest = sym (encodes-chars s utf8) ∙ ap encodes e ∙ encodes-append front rest in
    let after : IsUtf8 (encodes rest) = (rest, (scalars-end front rest (ap scalars (sym e) ∙ scalars-chars s utf8), refl)) in
    let wide : width (chars s) ≡ length (encodes front) + width rest = ap length (ap encodes e ∙ encodes-append front rest) ∙ length-append (encodes front) (encodes rest) in
    let here : place (chars s) rest ≡ length (encodes front) = omega (arith, wide) in
    subst (IsCharBoundary s) (sym here) (IsCharBoundary-at_seam s (encodes front) (encodes rest) whole after)

-- the quotes among the brackets stand at characters
abbrev Quotes : List ℕ → List Bracket → Type 0
Quotes s [] = Unit {0}
Quotes s (quote start end ∷ bs) = IsCharBoundary s start × IsCharBoundary s end × Quotes s bs
Quotes s (b ∷ bs) = Quotes s bs

-- so do those of a front of them
quotes-take : (s : List ℕ) (n : ℕ) (bs : List Bracket) → Quotes s bs → Quotes s (take n bs)
quotes-take s zero bs h = tt
quotes-take s (suc n) [] h = tt
quotes-take s (suc n) (quote start end ∷ bs) h = (h.0, h.1, quotes-take s n bs h.2)
quotes-take s (suc n) (round ∷ bs) h = quotes-take s n bs h
quotes-take s (suc n) (square ∷ bs) h = quotes-take s n bs h
quotes-take s (suc n) (brace ∷ bs) h = quotes-take s n bs h
quotes-take s (suc n) (part ∷ bs) h = quotes-take s n bs h

-- and those of two lists
quotes-append : (s : List ℕ) (bs cs : List Bracket) → Quotes s bs → Quotes s cs → Quotes s (bs ++ cs)
quotes-append s [] cs h k = k
quotes-append s (quote start end ∷ bs) cs h k = (h.0, h.1, quotes-append s bs cs h.2 k)
quotes-append s (round ∷ bs) cs h k = quotes-append s bs cs h k
quotes-append s (square ∷ bs) cs h k = quotes-append s bs cs h k
quotes-append s (brace ∷ bs) cs h k = quotes-append s bs cs h k
quotes-append s (part ∷ bs) cs h k = quotes-append s bs cs h k

-- what a token opens stands where it does
quotes-opened : (s : List ℕ) (kind : Kind) (start end : ℕ) → IsCharBoundary s start → IsCharBoundary s end → Quotes s (opened kind start end)
quotes-opened s Open start end h k = (h, k, tt)
quotes-opened s kind start end h k = tt

-- and those after a token
quotes-after : (s : List ℕ) (l : Lexeme) (start end : ℕ) (bs : List Bracket) → IsCharBoundary s start → IsCharBoundary s end → Quotes s bs → Quotes s (brackets_after l start end bs)
quotes-after s (fixed kind) start end bs h k q =
    elim (cases_Bool (closes kind (innermost bs))) [
      | inl hit ↦ rw hit (quotes-take s (length bs - 1) bs q)
      | inr miss ↦ rw miss (quotes-append s bs (opened kind start end) q (quotes-opened s kind start end h k))
    ]
quotes-after s (name w) start end bs h k q = q
quotes-after s (return_at w) start end bs h k q = q
quotes-after s (number n) start end bs h k q = q
quotes-after s (piece v) start end bs h k q = q
quotes-after s (name_part w) start end bs h k q = q

-- the answer's places are at characters
abbrev At : List ℕ → Outcome → Type 0
At s unfinished = Unit {0}
At s (tokens ts) = AtCharacters s ts
At s (bad_at start end) = IsCharBoundary s start × IsCharBoundary s end

-- the quote that is found stands at characters
abbrev AtQuote : List ℕ → Option (ℕ × ℕ) → Type 0
AtQuote s None = Unit {0}
AtQuote s (Some p) = IsCharBoundary s p.0 × IsCharBoundary s p.1

-- so does the last quote
at_last : (s : List ℕ) (found : Option (ℕ × ℕ)) (bs : List Bracket) → AtQuote s found → Quotes s bs → AtQuote s (last_quote found bs)
at_last s found [] h q = h
at_last s found (quote start end ∷ bs) h q = at_last s (Some (start, end)) bs (q.0, q.1) q.2
at_last s found (round ∷ bs) h q = at_last s found bs h q
at_last s found (square ∷ bs) h q = at_last s found bs h q
at_last s found (brace ∷ bs) h q = at_last s found bs h q
at_last s found (part ∷ bs) h q = at_last s found bs h q

-- so does an unclosed string
at_unclosed : (s : List ℕ) (other : Outcome) (o : Option (ℕ × ℕ)) → At s other → AtQuote s o → At s (unclosed_or other o)
at_unclosed s other None h q = h
at_unclosed s other (Some p) h q = q

-- a token at characters before an answer at characters
at_token : (s : List ℕ) (t : Lexed) (o : Outcome) → IsCharBoundary s t.start → IsCharBoundary s t.end → At s o → At s (with_token t o)
at_token s t unfinished h k r = tt
at_token s t (tokens ts) h k r = (h, k, r)
at_token s t (bad_at start end) h k r = r

-- one step
at_step : (s : List ℕ) → IsUtf8 s → (go : List Bracket → Bool → List ℕ → Outcome) → ((stack : List Bracket) (fresh : Bool) (rest : List ℕ) → Quotes s stack → IsEnd s rest → At s (go stack fresh rest))
    → (stack : List Bracket) (fresh : Bool) (rest : List ℕ) (m : Move) → MoveLeaves rest m → Quotes s stack → IsEnd s rest → At s (step (chars s) go stack fresh rest m)
at_step s utf8 go ih stack fresh rest (skip line next) leaves q e = ih stack (fresh || line) next q (end_further s rest next leaves.front e leaves.parts)
at_step s utf8 go ih stack fresh rest (takes l next) leaves q e =
    let further = end_further s rest next leaves.front e leaves.parts in
    let start = place-boundary s rest utf8 e in
    let end = place-boundary s next utf8 further in
    let after = brackets_after l (place (chars s) rest) (place (chars s) next) stack in
    at_token s (lexed (chars s) l (fresh && counts_lines stack) rest next) (go after false next) start end
    (ih after false next (quotes-after s l (place (chars s) rest) (place (chars s) next) stack start end q) further)
at_step s utf8 go ih stack fresh rest stop leaves q e =
    let here = place-boundary s rest utf8 e in
    at_unclosed s (tokens (lexed (chars s) (fixed End) (fresh && counts_lines stack) rest rest ∷ [])) (open_quote stack) (here, here, tt) (at_last s None stack tt q)
at_step s utf8 go ih stack fresh rest unclosed leaves q e =
    at_unclosed s (bad_here (chars s) rest) (open_quote stack) (place-boundary s rest utf8 e, place-boundary s (after_first rest) utf8 (end_after s rest e)) (at_last s None stack tt q)
at_step s utf8 go ih stack fresh rest bad leaves q e = (place-boundary s rest utf8 e, place-boundary s (after_first rest) utf8 (end_after s rest e))

-- all steps
at_steps : (s : List ℕ) → IsUtf8 s → (n : ℕ) (stack : List Bracket) (fresh : Bool) (rest : List ℕ) → Quotes s stack → IsEnd s rest → At s (steps n (chars s) stack fresh rest)
unfolding steps
at_steps s utf8 zero stack fresh rest q e = tt
at_steps s utf8 (suc n) stack fresh rest q e =
    at_step s utf8 (λ o f r. steps n (chars s) o f r) (λ o f r h k. at_steps s utf8 n o f r h k) stack fresh rest (next_move stack rest) (next_move-leaves stack rest) q e

-- the mark is a front of the text
end_without_mark : (s cs : List ℕ) → chars s ≡ cs → IsEnd s (without_mark cs)
end_without_mark s [] e = ([], e)
end_without_mark s (c ∷ cs) e =
    elim (cases_Bool (c == 0xFEFF)) [
      | inl mark ↦ rw mark (c ∷ [], e)
      | inr other ↦ rw other ([], e)
    ]

-- the answer
at_outcome : (s : List ℕ) → IsUtf8 s → (n : ℕ) → At s (outcome n (chars s))
at_outcome s utf8 n = at_steps s utf8 n [] false (without_mark (chars s)) tt (end_without_mark s (chars s) refl)

-- the tokens of a text stand at its characters
pub tokens-at_characters : (s : List ℕ) (ts : List Lexed) → IsUtf8 s → AreTokens (chars s) ts → AtCharacters s ts
tokens-at_characters s ts utf8 (n, e) = subst (At s) e (at_outcome s utf8 n)

-- so does its bad place
pub bad-at_characters : (s : List ℕ) (start end : ℕ) → IsUtf8 s → IsBadPlace (chars s) start end → IsCharBoundary s start × IsCharBoundary s end
bad-at_characters s start end utf8 (n, e) = subst (At s) e (at_outcome s utf8 n)
