-- The brackets that are open, the innermost last. That one list serves in and out of strings is this project's own.
use Rattle.std.specs.Prelude.{ℕ, ◌-◌, Bool, true, false, List, [], ◌∷◌, ◌++◌, length, take, slice_get, if◌then◌else◌, Option, Some, None}
use Rattle.kt_tree.specs.declared.token.Kind.{Kind}
use Rattle.kt_tree.specs.declared.token.Kind.TheVariants.{OpenRound, CloseRound, OpenSquare, CloseSquare, OpenBrace, CloseBrace, ExprPart, Open, Close}
use Rattle.kt_tree.specs.Lexemes.{Lexeme, fixed}

-- `(`, `[`, `{`, the `${` of a string, or a string's opening quote with its start and its end in bytes
pub data Bracket : Type 0 where
  round : Bracket
  square : Bracket
  brace : Bracket
  part : Bracket
  quote : ℕ → ℕ → Bracket

-- the innermost bracket
abbrev pub innermost : List Bracket → Option Bracket
innermost stack = slice_get stack (length stack - 1)

-- what a token from this start to this end opens
abbrev pub opened : Kind → ℕ → ℕ → List Bracket
opened OpenRound start end = round ∷ []
opened OpenSquare start end = square ∷ []
opened OpenBrace start end = brace ∷ []
opened ExprPart start end = part ∷ []
opened Open start end = quote start end ∷ []
opened kind start end = []

-- the token closes this bracket
abbrev pub closes : Kind → Option Bracket → Bool
closes CloseRound (Some round) = true
closes CloseSquare (Some square) = true
closes CloseBrace (Some brace) = true
closes CloseBrace (Some part) = true
closes Close (Some (quote start end)) = true
closes kind b = false

-- What is open after a token from this start to this end. A closing bracket that doesn't fit the innermost one changes nothing.
abbrev pub brackets_after : Lexeme → ℕ → ℕ → List Bracket → List Bracket
brackets_after (fixed kind) start end stack =
    if closes kind (innermost stack) then take (length stack - 1) stack else stack ++ opened kind start end
brackets_after l start end stack = stack

-- a line end counts where the innermost open bracket is neither `(` nor `[`
abbrev pub counts : Option Bracket → Bool
counts (Some round) = false
counts (Some square) = false
counts b = true

-- a line end counts here
abbrev pub counts_lines : List Bracket → Bool
counts_lines stack = counts (innermost stack)

-- the innermost open bracket is a string's quote
abbrev pub is_quote : Option Bracket → Bool
is_quote (Some (quote start end)) = true
is_quote b = false

-- the innermost open bracket is a quote
abbrev pub in_string : List Bracket → Bool
in_string stack = is_quote (innermost stack)

-- the start and the end of the last quote among these, or else those found before
abbrev pub last_quote : Option (ℕ × ℕ) → List Bracket → Option (ℕ × ℕ)
last_quote found [] = found
last_quote found (quote start end ∷ bs) = last_quote (Some (start, end)) bs
last_quote found (b ∷ bs) = last_quote found bs

-- the quote of the innermost string that is open
abbrev pub open_quote : List Bracket → Option (ℕ × ℕ)
open_quote stack = last_quote None stack
