-- The tokens of a text, or the place where none can be formed. The code is a scanner with a state; here a text and a whole list stand in a relation. Which
-- failure is named is this project's own.
use Rattle.std.specs.Prelude.{◌≡◌, ℕ, zero, suc, Bool, false, ◌&&◌, ◌||◌, List, [], ◌∷◌, Option, Some, None}
use Rattle.kt_tree.specs.declared.token.Kind.TheVariants.{End}
use Rattle.kt_tree.specs.Brackets.{Bracket, brackets_after, counts_lines, open_quote}
use Rattle.kt_tree.specs.Lexemes.{Lexeme, fixed}
use Rattle.kt_tree.specs.Moves.{Move, skip, take, stop, unclosed, bad, next_move}
use Rattle.kt_tree.specs.Text.{place, after_first, without_mark}

-- a token with its place, in bytes, and whether a line end before it counts
pub record Lexed : Type 0 where
  pub lexeme : Lexeme
  pub start : ℕ
  pub end : ℕ
  pub fresh : Bool

-- the tokens, or the place where none can be formed, or neither yet
pub data Outcome : Type 0 where
  unfinished : Outcome
  tokens : List Lexed → Outcome
  bad_at : ℕ → ℕ → Outcome

-- the token, and then these
abbrev pub with_token : Lexed → Outcome → Outcome
with_token t unfinished = unfinished
with_token t (tokens ts) = tokens (t ∷ ts)
with_token t (bad_at start end) = bad_at start end

-- the token from where the rest begins to where what follows it begins
abbrev pub lexed : List ℕ → Lexeme → Bool → List ℕ → List ℕ → Lexed
lexed whole l fresh rest after = record { lexeme = l; start = place whole rest; end = place whole after; fresh = fresh }

-- An open string is named at its quote; where none is open it's the other outcome.
abbrev pub unclosed_or : Outcome → Option (ℕ × ℕ) → Outcome
unclosed_or other (Some p) = bad_at p.0 p.1
unclosed_or other None = other

-- the first character of the rest is named
abbrev pub bad_here : List ℕ → List ℕ → Outcome
bad_here whole rest = bad_at (place whole rest) (place whole (after_first rest))

-- What stands at the front of the rest of the whole text, and then what the rest of it gives. `fresh` says that a line end was passed since the last token.
abbrev pub step : List ℕ → (List Bracket → Bool → List ℕ → Outcome) → List Bracket → Bool → List ℕ → Move → Outcome
step whole go_on stack fresh rest (skip line after) = go_on stack (fresh || line) after
step whole go_on stack fresh rest (take l after) =
    with_token (lexed whole l (fresh && counts_lines stack) rest after)
    (go_on (brackets_after l (place whole rest) (place whole after) stack) false after)
step whole go_on stack fresh rest stop =
    unclosed_or (tokens (lexed whole (fixed End) (fresh && counts_lines stack) rest rest ∷ [])) (open_quote stack)
step whole go_on stack fresh rest unclosed = unclosed_or (bad_here whole rest) (open_quote stack)
step whole go_on stack fresh rest bad = bad_here whole rest

-- what n steps give
unfoldable pub steps : ℕ → List ℕ → List Bracket → Bool → List ℕ → Outcome
steps zero whole stack fresh rest = unfinished
steps (suc n) whole stack fresh rest = step whole (λ o f r. steps n whole o f r) stack fresh rest (next_move stack rest)

-- what n steps over the text give
abbrev pub outcome : ℕ → List ℕ → Outcome
outcome n text = steps n text [] false (without_mark text)

-- the tokens of the text are these
abbrev pub AreTokens : List ℕ → List Lexed → Type 0
AreTokens text ts = (n : ℕ) × (outcome n text ≡ tokens ts)

-- no token can be formed at this place of the text
abbrev pub IsBadPlace : List ℕ → ℕ → ℕ → Type 0
IsBadPlace text start end = (n : ℕ) × (outcome n text ≡ bad_at start end)
