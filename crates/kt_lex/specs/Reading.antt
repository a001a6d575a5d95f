-- How the code's values stand to the definitions.
use Rattle.std.specs.Prelude.{ℕ, List, string_bytes}
use Rattle.std.specs.Borrow.{Bor}
use Rattle.std.specs.Str.{chars}
use Rattle.kt_tree.specs.Lexemes.{Lexeme, fixed, name, return_at, number, piece, name_part}
use Rattle.kt_lex.specs.declared.words.Word.{Word}
use Rattle.kt_lex.specs.declared.words.Word.TheVariants.{Fixed, Name, ReturnAt, Number, Piece, NamePart}

-- the token that a word is
abbrev pub lexeme_of : Word → Lexeme
lexeme_of (Fixed kind) = fixed kind
lexeme_of (Name word) = name (chars word.now)
lexeme_of (ReturnAt word) = return_at (chars word.now)
lexeme_of (Number n) = number n
lexeme_of (Piece value) = piece (chars (string_bytes value))
lexeme_of (NamePart word) = name_part (chars word.now)

-- the token, and what follows it
abbrev pub read_of : Word × Bor (List ℕ) → Lexeme × List ℕ
read_of p = (lexeme_of p.0, chars p.1.now)
