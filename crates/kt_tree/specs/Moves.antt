-- What stands at the front of a text. Kotlin's specification, "Whitespace and comments"; that a comment counts as one space is
-- its own sentence.
use Rattle.std.specs.Prelude.{ℕ, zero, suc, Bool, true, false, not, ◌&&◌, ◌==◌, if◌then◌else◌, List, [], ◌∷◌, Option, Some, None}
use Rattle.kt_tree.specs.Brackets.{Bracket, in_string}
use Rattle.kt_tree.specs.Characters.{is_space, is_line_end}
use Rattle.kt_tree.specs.Lexemes.{Lexeme}
use Rattle.kt_tree.specs.Longest.{token_at}
use Rattle.kt_tree.specs.Strings.{string_lexeme}
use Rattle.kt_tree.specs.Text.{first, after_first, after_run}
use Rattle.kt_tree.specs.Words.{lexeme}

-- the character ends no line
abbrev pub is_in_line : ℕ → Bool
is_in_line c = not (is_line_end c)

-- What follows the `*/` that closes a comment, where this many inner ones are open in it.
unfoldable pub comment_end : ℕ → List ℕ → Option (List ℕ)
comment_end n [] = None
comment_end n (c ∷ []) = None
comment_end zero (c ∷ d ∷ cs) =
    if c == 42 && d == 47 then Some cs
    else if c == 47 && d == 42 then comment_end 1 cs
    else comment_end zero (d ∷ cs)
comment_end (suc n) (c ∷ d ∷ cs) =
    if c == 42 && d == 47 then comment_end n cs
    else if c == 47 && d == 42 then comment_end (suc (suc n)) cs
    else comment_end (suc n) (d ∷ cs)

-- A space, a line end (which the flag says) or a comment, and what follows it; the longest token, and what follows it; the end of the file; the end of a line or of the file within a string; or nothing of these.
pub data Move : Type 0 where
  skip : Bool → List ℕ → Move
  take : Lexeme → List ℕ → Move
  stop : Move
  unclosed : Move
  bad : Move

-- a comment that has an end
abbrev pub skip_comment : Option (List ℕ) → Move
skip_comment (Some rest) = skip false rest
skip_comment None = bad

-- a token, or else this
abbrev pub take_or : Move → Option (Lexeme × List ℕ) → Move
take_or other (Some p) = take p.0 p.1
take_or other None = other

-- outside strings
unfoldable pub front_move : List ℕ → Move
front_move [] = stop
front_move (c ∷ cs) =
    if is_space c then skip false cs
    else if is_line_end c then skip true cs
    else if c == 47 && first cs == 47 then skip false (after_run is_in_line cs)
    else if c == 47 && first cs == 42 then skip_comment (comment_end 0 (after_first cs))
    else take_or bad (token_at lexeme (c ∷ cs))

-- within a string
unfoldable pub string_move : List ℕ → Move
string_move [] = unclosed
string_move (c ∷ cs) = if is_line_end c then unclosed else take_or bad (token_at string_lexeme (c ∷ cs))

-- what stands at the front, where these brackets are open
abbrev pub next_move : List Bracket → List ℕ → Move
next_move stack text = if in_string stack then string_move text else front_move text
