-- The tokens of a text lie in it one after another.
use Rattle.std.proofs.Common.{◌≡◌, ℕ, zero, suc, ◌+◌, ◌<◌, ◌≤◌, Bool, true, false, ◌&&◌, ◌||◌, ◌⊎◌, List, [], ◌∷◌, ◌++◌, length, drop, Option, Some, None, refl, sym, ap, ◌∙◌, inl, inr, arith, le_refl, length-append, subst}
use Rattle.std.proofs.lemmas.Bool.{true≢false}
use Rattle.std.proofs.lemmas.List.{take-append-drop}
use Rattle.std.proofs.lemmas.Str.{encodes-append}
use lib.Utf8.{encodes}
use Rattle.std.specs.List.{prefix_len}
use Rattle.kt_tree.specs.declared.token.Kind.TheVariants.{End}
use Rattle.kt_tree.specs.Brackets.{Bracket, brackets_after, counts_lines, in_string, open_quote}
use Rattle.kt_tree.specs.Layout.{Blank, here, space, line_end, line_comment, comment, Stands, StandsLast, Lies, last, more, Rise}
use Rattle.kt_tree.specs.Lexemes.{fixed}
use Rattle.kt_tree.specs.Moves.{Move, skip, take, stop, unclosed, bad, next_move, is_in_line}
use Rattle.std.proofs.Common.{take as takes}
use Rattle.kt_tree.specs.Text.{place, width, after_first, without_mark}
use Rattle.kt_tree.specs.Tokens.{Lexed, Outcome, unfinished, tokens, bad_at, with_token, lexed, unclosed_or, bad_here, step, steps, outcome, AreTokens, IsBadPlace}
use Rattle.kt_lex.proofs.MoveFacts.{Blank-trans, MoveIs, next_move-is}
use Rattle.kt_lex.proofs.Rests.{comment_end-leaves, MoveLeaves, next_move-leaves, rest-shorter}
use Rattle.kt_lex.proofs.TokenSteps.{Ended}

-- with_token gives tokens only from tokens
token_first : (t : Lexed) (o : Outcome) (ts : List Lexed) → with_token t o ≡ tokens ts → (us : List Lexed) × (o ≡ tokens us) × (t ∷ us ≡ ts)
token_first t unfinished ts e = absurd (cc)
token_first t (tokens us) ts e = (us, refl, cc)
token_first t (bad_at start end) ts e = absurd (cc)

-- the end of the file ends the tokens where no string is open
closed : (end : Lexed) (o : Option (ℕ × ℕ)) (ts : List Lexed) → unclosed_or (tokens (end ∷ [])) o ≡ tokens ts → (o ≡ None) × (end ∷ [] ≡ ts)
closed end None ts e = (refl, cc)
closed end (Some p) ts e = absurd (cc)

-- an unclosed string gives no tokens
not_tokens : (start end : ℕ) (o : Option (ℕ × ℕ)) (ts : List Lexed) → unclosed_or (bad_at start end) o ≡ tokens ts → ⊥
not_tokens start end None ts e = cc
not_tokens start end (Some p) ts e = cc

-- one step: what lies before its token, and the token
lies_step : (whole : List ℕ) (go : List Bracket → Bool → List ℕ → Outcome)
    → ((stack : List Bracket) (fresh : Bool) (from rest : List ℕ) (ts : List Lexed) → Blank from fresh rest → (in_string stack ≡ true → rest ≡ from) → go stack fresh rest ≡ tokens ts → Lies whole stack from ts)
    → (stack : List Bracket) (fresh : Bool) (from rest : List ℕ) (ts : List Lexed) (m : Move) → MoveIs (in_string stack) rest m → Blank from fresh rest → (in_string stack ≡ true → rest ≡ from)
    → step whole go stack fresh rest m ≡ tokens ts → Lies whole stack from ts
lies_step whole go ih stack fresh from rest ts (skip line next) is blank solid e =
    ih stack (fresh || line) from next ts (Blank-trans blank is.1) (λ within. absurd (true≢false (sym within ∙ is.0))) e
lies_step whole go ih stack fresh from rest ts (take l next) is blank solid e =
    let t : Lexed = lexed whole l (fresh && counts_lines stack) rest next in
    let (us, rest_of, whole_list) = token_first t (go (brackets_after l (place whole rest) (place whole next) stack) false next) ts e in
    let stands : Stands whole stack from t next = record {
      line = fresh;
      from = rest;
      word = is.word;
      blank = blank;
      solid = solid;
      parts = is.parts;
      some = is.some;
      token = is.token;
      longest = is.longer;
      start = refl;
      end = refl;
      fresh = refl;
    } in
    let others = ih (brackets_after l (place whole rest) (place whole next) stack) false next next us here (λ within. refl) rest_of in
    subst (Lies whole stack from) whole_list (more stands others)
lies_step whole go ih stack fresh from rest ts stop is blank solid e =
    let t : Lexed = lexed whole (fixed End) (fresh && counts_lines stack) rest rest in
    let (none, whole_list) = closed t (open_quote stack) ts e in
    let at_end : place whole rest ≡ width whole = ap (place whole) is ∙ omega arith in
    let stands : StandsLast whole stack from t = record {
      line = fresh;
      blank = subst (Blank from fresh) is blank;
      closed = none;
      token = refl;
      start = at_end;
      end = at_end;
      fresh = refl;
    } in
    subst (Lies whole stack from) whole_list (last stands)
lies_step whole go ih stack fresh from rest ts unclosed is blank solid e = absurd (not_tokens (place whole rest) (place whole (after_first rest)) (open_quote stack) ts e)
lies_step whole go ih stack fresh from rest ts bad is blank solid e = absurd (cc)

-- all steps
lies : (n : ℕ) (whole : List ℕ) (stack : List Bracket) (fresh : Bool) (from rest : List ℕ) (ts : List Lexed) → Blank from fresh rest → (in_string stack ≡ true → rest ≡ from)
    → steps n whole stack fresh rest ≡ tokens ts → Lies whole stack from ts
unfolding steps
lies zero whole stack fresh from rest ts blank solid e = absurd (cc)
lies (suc n) whole stack fresh from rest ts blank solid e =
    lies_step whole (λ o f r. steps n whole o f r) (λ o f from r us b s h. lies n whole o f from r us b s h) stack fresh from rest ts (next_move stack rest) (next_move-is stack rest) blank solid e

-- the tokens of a text lie in it
pub tokens-lie : (text : List ℕ) (ts : List Lexed) → AreTokens text ts → Lies text [] (without_mark text) ts
tokens-lie text ts (n, e) = lies n text [] false (without_mark text) (without_mark text) ts here (λ within. refl) e

-- spans

-- the width of two texts
width-append : (a b : List ℕ) → width (a ++ b) ≡ width a + width b
width-append a b = ap length (encodes-append a b) ∙ length-append (encodes a) (encodes b)

-- a rest is no wider
narrower_rest : (cs front ds : List ℕ) → cs ≡ front ++ ds → width ds ≤ width cs
narrower_rest cs front ds e = omega (arith, ap width e, width-append front ds)

-- what is left without some characters is no wider
narrower_drop : (n : ℕ) (cs : List ℕ) → width (drop n cs) ≤ width cs
narrower_drop n cs = narrower_rest cs (takes n cs) (drop n cs) (sym (take-append-drop n cs))

-- what blanks lead to is no wider
blank-narrower : {a b : List ℕ} {l : Bool} → Blank a l b → width b ≤ width a
blank-narrower {a = a} here = le_refl (width a)
blank-narrower (space {c = c} {cs = cs} s b) = omega (arith, blank-narrower b, narrower_rest (c ∷ cs) (c ∷ []) cs refl)
blank-narrower (line_end {c = c} {cs = cs} s b) = omega (arith, blank-narrower b, narrower_rest (c ∷ cs) (c ∷ []) cs refl)
blank-narrower (line_comment {cs = cs} b) =
    omega (arith, blank-narrower b, narrower_drop (prefix_len is_in_line cs) cs, narrower_rest (47 ∷ 47 ∷ cs) (47 ∷ 47 ∷ []) cs refl)
blank-narrower (comment {cs = cs} {ds = ds} e b) =
    let r = comment_end-leaves 0 cs ds e in
    omega (arith, blank-narrower b, narrower_rest cs r.front ds r.parts, narrower_rest (47 ∷ 42 ∷ cs) (47 ∷ 42 ∷ []) cs refl)

-- spans of tokens that lie in a text rise
pub rises : {whole : List ℕ} {stack : List Bracket} {rest : List ℕ} {ts : List Lexed} (at : ℕ) → at ≤ place whole rest → Lies whole stack rest ts → Rise at ts
rises {whole = whole} at low (last s) = (omega (arith, low, s.start), omega (arith, s.start, s.end), tt)
rises {whole = whole} at low (more {rest = rest} {after = after} {t = t} s r) =
    let from = blank-narrower s.blank in
    let word = narrower_rest s.from s.word after s.parts in
    (omega (arith, low, s.start, from), omega (arith, s.start, s.end, word), rises t.end (omega (arith, s.end)) r)

-- the spans of the tokens of a text rise
pub tokens-rise : (text : List ℕ) (ts : List Lexed) → AreTokens text ts → Rise 0 ts
tokens-rise text ts h = rises 0 (omega arith) (tokens-lie text ts h)

-- some answer

-- a token before an answer leaves it one
ended-token : (t : Lexed) (o : Outcome) → Ended o → Ended (with_token t o)
ended-token t unfinished h = h
ended-token t (tokens ts) h = tt
ended-token t (bad_at start end) h = tt

-- an unclosed string is an answer
ended-unclosed : (other : Outcome) (o : Option (ℕ × ℕ)) → Ended other → Ended (unclosed_or other o)
ended-unclosed other None h = h
ended-unclosed other (Some p) h = tt

-- a step has an answer where shorter texts have one
ended_step : (whole : List ℕ) (go : List Bracket → Bool → List ℕ → Outcome) (stack : List Bracket) (fresh : Bool) (rest : List ℕ) (m : Move) → MoveLeaves rest m
    → ((o : List Bracket) (f : Bool) (r : List ℕ) → length r < length rest → Ended (go o f r)) → Ended (step whole go stack fresh rest m)
ended_step whole go stack fresh rest (skip line next) leaves ih = ih stack (fresh || line) next (rest-shorter rest next leaves)
ended_step whole go stack fresh rest (take l next) leaves ih =
    ended-token (lexed whole l (fresh && counts_lines stack) rest next) (go (brackets_after l (place whole rest) (place whole next) stack) false next)
    (ih (brackets_after l (place whole rest) (place whole next) stack) false next (rest-shorter rest next leaves))
ended_step whole go stack fresh rest stop leaves ih = ended-unclosed (tokens (lexed whole (fixed End) (fresh && counts_lines stack) rest rest ∷ [])) (open_quote stack) tt
ended_step whole go stack fresh rest unclosed leaves ih = ended-unclosed (bad_here whole rest) (open_quote stack) tt
ended_step whole go stack fresh rest bad leaves ih = tt

-- enough steps have an answer
steps-end : (n : ℕ) (whole : List ℕ) (stack : List Bracket) (fresh : Bool) (rest : List ℕ) → length rest < n → Ended (steps n whole stack fresh rest)
unfolding steps
steps-end zero whole stack fresh rest h = absurd (omega arith)
steps-end (suc n) whole stack fresh rest h =
    ended_step whole (λ o f r. steps n whole o f r) stack fresh rest (next_move stack rest) (next_move-leaves stack rest) (λ o f r less. steps-end n whole o f r (omega arith))

-- an answer is tokens or a bad place
some_end : (text : List ℕ) (n : ℕ) (o : Outcome) → outcome n text ≡ o → Ended o → ((ts : List Lexed) × AreTokens text ts) ⊎ ((start : ℕ) × (end : ℕ) × IsBadPlace text start end)
some_end text n unfinished e h = absurd h
some_end text n (tokens ts) e h = inl (ts, (n, e))
some_end text n (bad_at start end) e h = inr (start, end, (n, e))

-- a text has tokens or a bad place
pub some_answer : (text : List ℕ) → ((ts : List Lexed) × AreTokens text ts) ⊎ ((start : ℕ) × (end : ℕ) × IsBadPlace text start end)
some_answer text =
    let n = suc (length (without_mark text)) in
    some_end text n (outcome n text) refl (steps-end n text [] false (without_mark text) (omega arith))
