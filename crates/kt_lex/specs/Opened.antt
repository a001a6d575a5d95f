-- The code's open brackets.
use Rattle.std.specs.Prelude.{ℕ}
use Rattle.kt_tree.specs.Brackets.{Bracket as Open, round, square, brace, part, quote}
use Rattle.kt_tree.specs.declared.token.Span.{Span}
use Rattle.kt_lex.specs.declared.brackets.Bracket.{Bracket}
use Rattle.kt_lex.specs.declared.brackets.Bracket.TheVariants.{Round, Square, Brace, Part, Quote}

-- the bracket that the code's is
abbrev pub bracket_of : Bracket → Open
bracket_of Round = round
bracket_of Square = square
bracket_of Brace = brace
bracket_of Part = part
bracket_of (Quote span) = quote span.start span.end

-- the start and the end
abbrev pub bounds : Span → ℕ × ℕ
bounds span = (span.start, span.end)
