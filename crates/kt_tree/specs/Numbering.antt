-- Tokens whose names have numbers. A name's number is its place in the table: the built-in names first, then the others in the order in which they first come. This project's own. A
-- name's place is looked for from the front of the list; the code has a hash table.
use Rattle.std.specs.Prelude.{◌≡◌, ℕ, List, [], ◌∷◌}
use Rattle.std.specs.Str.{encode_utf8_all}
use Rattle.kt_tree.specs.Lexemes.{Lexeme, fixed, name, return_at, number, piece, name_part}
use Rattle.kt_tree.specs.BuiltIn.{built_in}
use Rattle.kt_tree.specs.Names.{place_of, with_text}
use Rattle.kt_tree.specs.Tokens.{Lexed, AreTokens}
use Rattle.kt_tree.specs.declared.token.Kind.{Kind}
use Rattle.kt_tree.specs.declared.token.Kind.TheVariants.{Id, ReturnAt, Int, Text, NamePart}
use Rattle.kt_tree.specs.declared.token.Token.{Token}
use Rattle.kt_tree.specs.declared.tokens.Tokens.{Tokens}

-- the texts of the names, with that of the token
abbrev pub with_name : List (List ℕ) → Lexeme → List (List ℕ)
with_name texts (name word) = with_text texts (encode_utf8_all word)
with_name texts (return_at word) = with_text texts (encode_utf8_all word)
with_name texts (name_part word) = with_text texts (encode_utf8_all word)
with_name texts l = texts

-- the texts of the names, with those of the tokens
abbrev pub names_after : List (List ℕ) → List Lexed → List (List ℕ)
names_after texts [] = texts
names_after texts (t ∷ ts) = names_after (with_name texts t.lexeme) ts

-- a name's number is its place, which is the next one if it's new
abbrev pub kind_of : List (List ℕ) → Lexeme → Kind
kind_of texts (fixed kind) = kind
kind_of texts (name word) = Id (place_of texts (encode_utf8_all word))
kind_of texts (return_at word) = ReturnAt (place_of texts (encode_utf8_all word))
kind_of texts (number n) = Int n
kind_of texts (piece value) = Text (encode_utf8_all value)
kind_of texts (name_part word) = NamePart (place_of texts (encode_utf8_all word))

-- the token with the number of its name
abbrev pub token_of : List (List ℕ) → Lexed → Token
token_of texts t = record { kind = kind_of texts t.lexeme; span = record { start = t.start; end = t.end }; fresh = t.fresh }

-- the tokens with the numbers of their names
abbrev pub numbered : List (List ℕ) → List Lexed → List Token
numbered texts [] = []
numbered texts (t ∷ ts) = token_of texts t ∷ numbered (with_name texts t.lexeme) ts

-- the tokens with their numbers, and the names
pub record AreNumbered (first_names : List (List ℕ)) (ts : List Lexed) (t : Tokens) : Type 0 where
  pub list : t.list ≡ numbered first_names ts
  pub names : t.names ≡ names_after first_names ts

-- the tokens of the text, with the numbers of their names, and its name table
pub record HasTokens (text : List ℕ) (t : Tokens) : Type 0 where
  pub lexed : List Lexed
  pub are : AreTokens text lexed
  pub numbered : AreNumbered built_in lexed t
