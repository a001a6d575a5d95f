-- Steps over a text.
use Rattle.std.proofs.Common.{◌≡◌, ℕ, zero, suc, ◌+◌, Bool, false, ◌&&◌, ◌||◌, List, [], ◌∷◌, ◌++◌, Some, None, refl, sym, ap, ◌∙◌, arith, append_assoc, subst}
use Rattle.kt_tree.specs.declared.token.Kind.TheVariants.{End}
use Rattle.kt_tree.specs.Brackets.{Bracket, brackets_after, counts_lines, open_quote}
use Rattle.kt_tree.specs.Lexemes.{Lexeme, fixed}
use Rattle.kt_tree.specs.Moves.{Move, skip, take, stop, unclosed, bad, next_move}
use Rattle.kt_tree.specs.Text.{place, after_first, without_mark}
use Rattle.kt_tree.specs.Tokens.{Lexed, Outcome, unfinished, tokens, bad_at, with_token, lexed, unclosed_or, bad_here, step, steps, outcome, AreTokens, IsBadPlace}

-- these tokens, and then what follows gives
abbrev pub in_front : List Lexed → Outcome → Outcome
in_front ts unfinished = unfinished
in_front ts (tokens us) = tokens (ts ++ us)
in_front ts (bad_at start end) = bad_at start end

-- no tokens in front
pub in_front-nil : (o : Outcome) → in_front [] o ≡ o
in_front-nil unfinished = refl
in_front-nil (tokens us) = refl
in_front-nil (bad_at start end) = refl

-- one more token in front
pub in_front-with_token : (ts : List Lexed) (t : Lexed) (o : Outcome) → in_front ts (with_token t o) ≡ in_front (ts ++ t ∷ []) o
in_front-with_token ts t unfinished = refl
in_front-with_token ts t (tokens us) = ap tokens (sym (append_assoc ts (t ∷ []) us))
in_front-with_token ts t (bad_at start end) = refl

-- the moves so far gave these tokens, and led here
abbrev pub SoFar : List ℕ → List Lexed → List Bracket → Bool → List ℕ → Type 0
SoFar whole out stack fresh rest = (k : ℕ) × ((n : ℕ) → outcome (k + n) whole ≡ in_front out (steps n whole stack fresh rest))

-- one more step
steps-more : (n : ℕ) (whole : List ℕ) (stack : List Bracket) (fresh : Bool) (rest : List ℕ) (m : Move) → m ≡ next_move stack rest
    → steps (suc n) whole stack fresh rest ≡ step whole (λ o f r. steps n whole o f r) stack fresh rest m
unfolding steps
steps-more n whole stack fresh rest m e = rw (sym e) refl

-- the moves so far and one more step
next_so_far : (whole : List ℕ) (out : List Lexed) (stack : List Bracket) (fresh : Bool) (rest : List ℕ) (m : Move) → m ≡ next_move stack rest → SoFar whole out stack fresh rest
    → (k : ℕ) × ((n : ℕ) → outcome (k + n) whole ≡ in_front out (step whole (λ o f r. steps n whole o f r) stack fresh rest m))
next_so_far whole out stack fresh rest m e h =
    let (k, so_far) = h in (
      k + 1,
      λ n.
          let count : (k + 1) + n ≡ k + suc n = omega arith in
          ap (λ j. outcome j whole) count ∙ so_far (suc n) ∙ ap (in_front out) (steps-more n whole stack fresh rest m e),
    )

-- after a blank or a comment
pub after_skip : (whole : List ℕ) (out : List Lexed) (stack : List Bracket) (fresh line : Bool) (rest next : List ℕ) → skip line next ≡ next_move stack rest
    → SoFar whole out stack fresh rest → SoFar whole out stack (fresh || line) next
after_skip whole out stack fresh line rest next e h = next_so_far whole out stack fresh rest (skip line next) e h

-- after a token
pub after_take : (whole : List ℕ) (out : List Lexed) (stack : List Bracket) (fresh : Bool) (rest next : List ℕ) (l : Lexeme) → take l next ≡ next_move stack rest
    → SoFar whole out stack fresh rest → SoFar whole (out ++ lexed whole l (fresh && counts_lines stack) rest next ∷ []) (brackets_after l (place whole rest) (place whole next) stack) false next
after_take whole out stack fresh rest next l e h =
    let (k, so_far) = next_so_far whole out stack fresh rest (take l next) e h in
    (k, λ n. so_far n ∙ in_front-with_token out (lexed whole l (fresh && counts_lines stack) rest next) (steps n whole (brackets_after l (place whole rest) (place whole next) stack) false next))

-- at the end of the file, where no string is open
pub at_stop : (whole : List ℕ) (out : List Lexed) (stack : List Bracket) (fresh : Bool) (rest : List ℕ) → stop ≡ next_move stack rest → open_quote stack ≡ None
    → SoFar whole out stack fresh rest → AreTokens whole (out ++ lexed whole (fixed End) (fresh && counts_lines stack) rest rest ∷ [])
at_stop whole out stack fresh rest e none h =
    let (k, so_far) = next_so_far whole out stack fresh rest stop e h in
    let end = tokens (lexed whole (fixed End) (fresh && counts_lines stack) rest rest ∷ []) in
    (k + 0, so_far 0 ∙ ap (λ o. in_front out (unclosed_or end o)) none)

-- the bad places: an open string at the end of the file, one at the end of a line, and what is no token
pub at_open_end : (whole : List ℕ) (out : List Lexed) (stack : List Bracket) (fresh : Bool) (rest : List ℕ) (start end : ℕ) → stop ≡ next_move stack rest → open_quote stack ≡ Some (start, end)
    → SoFar whole out stack fresh rest → IsBadPlace whole start end
at_open_end whole out stack fresh rest start end e some h =
    let (k, so_far) = next_so_far whole out stack fresh rest stop e h in
    let last = tokens (lexed whole (fixed End) (fresh && counts_lines stack) rest rest ∷ []) in
    (k + 0, so_far 0 ∙ ap (λ o. in_front out (unclosed_or last o)) some)

-- at the end of a line or of the file within a string
pub at_unclosed : (whole : List ℕ) (out : List Lexed) (stack : List Bracket) (fresh : Bool) (rest : List ℕ) → unclosed ≡ next_move stack rest
    → SoFar whole out stack fresh rest → (k : ℕ) × (outcome k whole ≡ in_front out (unclosed_or (bad_here whole rest) (open_quote stack)))
at_unclosed whole out stack fresh rest e h =
    let (k, so_far) = next_so_far whole out stack fresh rest unclosed e h in
    (k + 0, so_far 0)

-- where nothing stands
pub at_bad : (whole : List ℕ) (out : List Lexed) (stack : List Bracket) (fresh : Bool) (rest : List ℕ) → bad ≡ next_move stack rest
    → SoFar whole out stack fresh rest → IsBadPlace whole (place whole rest) (place whole (after_first rest))
at_bad whole out stack fresh rest e h =
    let (k, so_far) = next_so_far whole out stack fresh rest bad e h in
    (k + 0, so_far 0)

-- the steps have ended
abbrev pub Ended : Outcome → Type 0
Ended unfinished = ⊥
Ended (tokens ts) = Unit {0}
Ended (bad_at start end) = Unit {0}

-- an answer with a token before it is one
ended-with_token : (t : Lexed) (o : Outcome) → Ended (with_token t o) → Ended o
ended-with_token t unfinished h = h
ended-with_token t (tokens ts) h = tt
ended-with_token t (bad_at start end) h = tt

-- one step changes nothing if what follows has ended
step-stays : (f g : List Bracket → Bool → List ℕ → Outcome) → ((stack : List Bracket) (fresh : Bool) (rest : List ℕ) → Ended (f stack fresh rest) → g stack fresh rest ≡ f stack fresh rest)
    → (whole : List ℕ) (stack : List Bracket) (fresh : Bool) (rest : List ℕ) (m : Move) → Ended (step whole f stack fresh rest m) → step whole g stack fresh rest m ≡ step whole f stack fresh rest m
step-stays f g same whole stack fresh rest (skip line next) h = same stack (fresh || line) next h
step-stays f g same whole stack fresh rest (take l next) h =
    let t = lexed whole l (fresh && counts_lines stack) rest next in
    ap (with_token t) (same (brackets_after l (place whole rest) (place whole next) stack) false next (ended-with_token t (f (brackets_after l (place whole rest) (place whole next) stack) false next) h))
step-stays f g same whole stack fresh rest stop h = refl
step-stays f g same whole stack fresh rest unclosed h = refl
step-stays f g same whole stack fresh rest bad h = refl

-- more steps change nothing once they have ended
pub steps-stay : (n k : ℕ) (whole : List ℕ) (stack : List Bracket) (fresh : Bool) (rest : List ℕ) → Ended (steps n whole stack fresh rest)
    → steps (n + k) whole stack fresh rest ≡ steps n whole stack fresh rest
unfolding steps
steps-stay zero k whole stack fresh rest h = absurd h
steps-stay (suc n) k whole stack fresh rest h =
    let more : suc n + k ≡ suc (n + k) = omega arith in
    ap (λ j. steps j whole stack fresh rest) more
    ∙ step-stays (λ o f r. steps n whole o f r) (λ o f r. steps (n + k) whole o f r) (λ o f r e. steps-stay n k whole o f r e) whole stack fresh rest (next_move stack rest) h

-- two ends of the steps from one place are one
pub one_end : (m n : ℕ) (whole : List ℕ) (stack : List Bracket) (fresh : Bool) (rest : List ℕ) (a b : Outcome) → Ended a → Ended b
    → steps m whole stack fresh rest ≡ a → steps n whole stack fresh rest ≡ b → a ≡ b
one_end m n whole stack fresh rest a b ea eb pa pb =
    let here = steps-stay m n whole stack fresh rest (subst Ended (sym pa) ea) in
    let there = steps-stay n m whole stack fresh rest (subst Ended (sym pb) eb) in
    let turned : m + n ≡ n + m = omega arith in
    sym pa ∙ sym here ∙ ap (λ j. steps j whole stack fresh rest) turned ∙ there ∙ pb

-- a text has one list of tokens, and then no bad place; or one bad place
pub one_list : (text : List ℕ) (ts us : List Lexed) → AreTokens text ts → AreTokens text us → ts ≡ us
one_list text ts us (m, a) (n, b) =
    let same : tokens ts ≡ tokens us = one_end m n text [] false (without_mark text) (tokens ts) (tokens us) tt tt a b in
    cc

-- no text has tokens and a bad place
pub not_both : (text : List ℕ) (ts : List Lexed) (start end : ℕ) → AreTokens text ts → IsBadPlace text start end → ⊥
not_both text ts start end (m, a) (n, b) =
    let same : tokens ts ≡ bad_at start end = one_end m n text [] false (without_mark text) (tokens ts) (bad_at start end) tt tt a b in
    cc

-- a text has one bad place
pub one_place : (text : List ℕ) (a b c d : ℕ) → IsBadPlace text a b → IsBadPlace text c d → (a ≡ c) × (b ≡ d)
one_place text a b c d (m, e) (n, f) =
    let same : bad_at a b ≡ bad_at c d = one_end m n text [] false (without_mark text) (bad_at a b) (bad_at c d) tt tt e f in
    (cc, cc)
