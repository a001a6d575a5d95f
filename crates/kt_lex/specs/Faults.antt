-- The scanner's faults, and its tokens before the last.
use Rattle.std.specs.Prelude.{ℕ, Bool, not, List, Option, Some, None}
use Rattle.kt_tree.specs.TokenLists.{is_end}
use Rattle.kt_tree.specs.Tokens.{IsBadPlace}
use Rattle.kt_tree.specs.declared.token.Token.{Token}
use Rattle.kt_lex.specs.declared.fault.LexFault.{LexFault}
use Rattle.kt_lex.specs.declared.fault.LexFault.TheVariants.{Bad, NoMemory}

-- the place is the bad one of the text
abbrev pub IsFault : List ℕ → LexFault → Type 0
IsFault text (Bad span) = IsBadPlace text span.start span.end
IsFault text NoMemory = Unit {0}

-- the token isn't the end of the file
abbrev pub is_inner : Token → Bool
is_inner t = not (is_end t.kind)

-- the quote's bounds, or else these
abbrev pub quote_or : ℕ × ℕ → Option (ℕ × ℕ) → ℕ × ℕ
quote_or here (Some p) = p
quote_or here None = here
