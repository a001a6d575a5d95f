-- The tokens outside strings: which characters, before which others, are one token. Kotlin's specification, "Lexical grammar", narrowed. These are tests of
-- whole words; the code never has a word before it has read it.
use Rattle.std.specs.Prelude.{ℕ, Bool, true, false, not, ◌&&◌, if◌then◌else◌, List, [], ◌∷◌, take, drop, codes, Option, Some, None, is_some, option_map}
use Rattle.std.specs.List.{list_all}
use Rattle.kt_tree.specs.declared.token.Kind.{Kind}
use Rattle.kt_tree.specs.declared.token.Kind.TheVariants.{AsSafe, NotIn, NotIs}
use Rattle.kt_tree.specs.Characters.{begins_name, continues_name, is_digit}
use Rattle.kt_tree.specs.Integers.{integer, bars_integer}
use Rattle.kt_tree.specs.Lexemes.{Lexeme, fixed, name, return_at, number, same, keyword_of, operator_of}
use Rattle.kt_tree.specs.Text.{first}

-- the characters begin and continue an identifier
abbrev pub is_word : List ℕ → Bool
is_word [] = false
is_word (c ∷ cs) = begins_name c && list_all continues_name cs

-- a keyword, or else a name
abbrev pub keyword_or_name : Option Kind → List ℕ → Lexeme
keyword_or_name (Some k) text = fixed k
keyword_or_name None text = name text

-- The name behind `return@`, which is no keyword. It stands before no character that continues it, so that `return@if` isn't cut after its `i`.
abbrev pub is_label : List ℕ → List ℕ → Bool
is_label text after = (is_word text && not (is_some (keyword_of text))) && not (continues_name (first after))

-- an identifier or a keyword, `as?`, or `return@` with a name
abbrev pub word_lexeme : List ℕ → List ℕ → Option Lexeme
word_lexeme text after =
    if is_word text then Some (keyword_or_name (keyword_of text) text)
    else if same text (codes "as?") then Some (fixed AsSafe)
    else if same (take 7 text) (codes "return@") && is_label (drop 7 text) after then Some (return_at (drop 7 text))
    else None

-- `!is` and `!in` end in a word
abbrev pub is_word_operator : Kind → Bool
is_word_operator NotIn = true
is_word_operator NotIs = true
is_word_operator kind = false

-- An operator. One that ends in a word stands before no character that continues an identifier.
abbrev pub operator_before : Option Kind → List ℕ → Option Lexeme
operator_before None after = None
operator_before (Some kind) after = if is_word_operator kind && continues_name (first after) then None else Some (fixed kind)

-- an operator
abbrev pub operator_lexeme : List ℕ → List ℕ → Option Lexeme
operator_lexeme text after = operator_before (operator_of text) after

-- an integer, where nothing bars it
abbrev pub integer_lexeme : List ℕ → List ℕ → Option Lexeme
integer_lexeme text after = if bars_integer after then None else option_map number (integer text)

-- What the characters are, before these others, as one token. The first character tells a word, an integer and an operator apart.
abbrev pub lexeme : List ℕ → List ℕ → Option Lexeme
lexeme text after =
    if begins_name (first text) then word_lexeme text after
    else if is_digit (first text) then integer_lexeme text after
    else operator_lexeme text after
