-- The tokens within a string: which characters, before which others, are one token. Kotlin's specification, "String mode grammar"; that `$` with a keyword is no token is this project's own.
use Rattle.std.specs.Prelude.{ℕ, ◌+◌, ◌*◌, Bool, not, ◌&&◌, ◌||◌, ◌==◌, nat_lt, if◌then◌else◌, List, [], ◌∷◌, ◌++◌, codes, Option, Some, None, option_map}
use Rattle.std.specs.Char.{digit_value}
use Rattle.kt_tree.specs.declared.token.Kind.{Kind}
use Rattle.kt_tree.specs.declared.token.Kind.TheVariants.{This, ThisPart, ExprPart, Close}
use Rattle.kt_tree.specs.Characters.{begins_name, continues_name, is_line_end}
use Rattle.kt_tree.specs.Integers.{is_digit_of}
use Rattle.kt_tree.specs.Lexemes.{Lexeme, fixed, piece, name_part, same, keyword_of}
use Rattle.kt_tree.specs.Text.{first}
use Rattle.kt_tree.specs.Words.{is_word}

-- what \t \b \n \r \' \" \\ \$ stand for
abbrev pub simple_escape : ℕ → Option ℕ
simple_escape c =
    if c == 116 then Some 9 else if c == 98 then Some 8 else if c == 110 then Some 10 else if c == 114 then Some 13
    else if ((c == 39 || c == 34) || (c == 92 || c == 36)) then Some c else None

-- the character of four hexadecimal digits
abbrev pub code_unit : ℕ → ℕ → ℕ → ℕ → ℕ
code_unit a b c d = ((digit_value a * 16 + digit_value b) * 16 + digit_value c) * 16 + digit_value d

-- four hexadecimal digits that are no surrogate
abbrev pub is_code_unit : ℕ → ℕ → ℕ → ℕ → Bool
is_code_unit a b c d =
    ((is_digit_of 16 a && is_digit_of 16 b) && (is_digit_of 16 c && is_digit_of 16 d))
    && (nat_lt (code_unit a b c d) 0xD800 || nat_lt 0xDFFF (code_unit a b c d))

-- `$` before these begins a part
abbrev pub begins_part : List ℕ → Bool
begins_part cs = first cs == 123 || begins_name (first cs)

-- the characters with this one before them, if both are there
abbrev pub cons_some : Option ℕ → Option (List ℕ) → Option (List ℕ)
cons_some (Some c) (Some cs) = Some (c ∷ cs)
cons_some (Some c) None = None
cons_some None cs = None

-- a character that stands for itself in a text, before these
abbrev pub is_plain : ℕ → List ℕ → Bool
is_plain c cs = not ((c == 34 || is_line_end c) || (c == 36 && begins_part cs))

-- The characters that a text stands for, where others follow it: each stands for itself, or an escape for one. None where it is no text.
abbrev mutual
  pub text_value : List ℕ → List ℕ → Option (List ℕ)
  text_value [] after = Some []
  text_value (c ∷ cs) after =
      if c == 92 then escape_value cs after
      else if is_plain c (cs ++ after) then cons_some (Some c) (text_value cs after)
      else None

  -- behind a backslash
  pub escape_value : List ℕ → List ℕ → Option (List ℕ)
  escape_value [] after = None
  escape_value (c ∷ cs) after =
      if c == 117 then unicode_value cs after else cons_some (simple_escape c) (text_value cs after)

  -- behind \u
  pub unicode_value : List ℕ → List ℕ → Option (List ℕ)
  unicode_value [] after = None
  unicode_value (a ∷ []) after = None
  unicode_value (a ∷ b ∷ []) after = None
  unicode_value (a ∷ b ∷ c ∷ []) after = None
  unicode_value (a ∷ b ∷ c ∷ d ∷ cs) after =
      if is_code_unit a b c d then cons_some (Some (code_unit a b c d)) (text_value cs after) else None

-- the word behind a `$`: a name or `this`
abbrev pub word_part : Option Kind → List ℕ → Option Lexeme
word_part None word = Some (name_part word)
word_part (Some This) word = Some (fixed ThisPart)
word_part (Some k) word = None

-- Behind a `$` that begins a part: `{`, or a whole word.
abbrev pub part_lexeme : List ℕ → List ℕ → Option Lexeme
part_lexeme cs after =
    if same cs (codes "{") then Some (fixed ExprPart)
    else if is_word cs && not (continues_name (first after)) then word_part (keyword_of cs) cs
    else None

-- What the characters are, before these others, as one token within a string: its closing quote, a part, or a text.
abbrev pub string_lexeme : List ℕ → List ℕ → Option Lexeme
string_lexeme [] after = None
string_lexeme (c ∷ cs) after =
    if c == 34 then (if same cs [] then Some (fixed Close) else None)
    else if c == 36 && begins_part (cs ++ after) then part_lexeme cs after
    else option_map piece (text_value (c ∷ cs) after)
