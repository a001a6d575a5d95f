-- The steps by which the code reads a token.
use Rattle.std.specs.Prelude.{ℕ, zero, suc, ◌+◌, ◌*◌, Bool, ◌&&◌, ◌==◌, nat_lt, if◌then◌else◌, List, [], ◌∷◌, codes, Option, Some, None, is_some, option_map, option_and_then}
use Rattle.std.specs.Char.{digit_value}
use Rattle.kt_tree.specs.declared.token.Kind.{Kind}
use Rattle.kt_tree.specs.Characters.{begins_name, continues_name}
use Rattle.kt_tree.specs.Integers.{is_digit_of, integer_limit, integer, bars_integer}
use Rattle.kt_tree.specs.Lexemes.{Lexeme, fixed, number, keyword_of, operator_of}
use Rattle.kt_tree.specs.Text.{first, run, after_run}
use Rattle.kt_tree.specs.Words.{is_word_operator}

-- what follows the first character, if that passes
abbrev pub strip_if : (ℕ → Bool) → List ℕ → Option (List ℕ)
strip_if p [] = None
strip_if p (c ∷ cs) = if p c then Some cs else None

-- what follows the front, if the text begins with it
abbrev pub strip_text : List ℕ → List ℕ → Option (List ℕ)
strip_text [] cs = Some cs
strip_text (d ∷ ds) [] = None
strip_text (d ∷ ds) (c ∷ cs) = if d == c then strip_text ds cs else None

-- one more character at the front
abbrev pub longer_front : ℕ → Option (List ℕ × List ℕ) → Option (List ℕ × List ℕ)
longer_front c None = None
longer_front c (Some p) = Some (c ∷ p.0, p.1)

-- the first n characters, and what follows them
abbrev pub split_after : ℕ → List ℕ → Option (List ℕ × List ℕ)
split_after zero cs = Some ([], cs)
split_after (suc n) [] = None
split_after (suc n) (c ∷ cs) = longer_front c (split_after n cs)

-- the value with one more digit, or with the same digits at `_`
abbrev pub push_digit : ℕ → ℕ → ℕ → Option ℕ
push_digit base n c =
    if c == 95 then Some n
    else if is_digit_of base c && nat_lt (n * base + digit_value c) integer_limit then Some (n * base + digit_value c)
    else None

-- the name at the front, which is no keyword, and what follows it
abbrev pub label_in : List ℕ → Option (List ℕ × List ℕ)
label_in text =
    if begins_name (first text) then
    (if is_some (keyword_of (run continues_name text)) then None else Some (run continues_name text, after_run continues_name text))
    else None

-- the name behind `return@`, and what follows it
abbrev pub label_at : List ℕ → Option (List ℕ × List ℕ)
label_at text = option_and_then label_in (strip_text (codes "return@") text)

-- the integer at the front, and what follows it
unfoldable pub integer_at : List ℕ → Option (Lexeme × List ℕ)
integer_at text =
    if bars_integer (after_run continues_name text) then None
    else option_map (λ n. (number n, after_run continues_name text)) (integer (run continues_name text))

-- an operator before the rest
abbrev pub operator_with : List ℕ → Option Kind → Option (Kind × List ℕ)
operator_with rest None = None
operator_with rest (Some kind) = if is_word_operator kind && continues_name (first rest) then None else Some (kind, rest)

-- the operator that the first n characters are, and what follows it
abbrev pub operator_of_front : ℕ → List ℕ → Option (Kind × List ℕ)
operator_of_front n text = option_and_then (λ p. operator_with p.1 (operator_of p.0)) (split_after n text)

-- one, or else the other
abbrev pub or_else : Option (Kind × List ℕ) → Option (Kind × List ℕ) → Option (Kind × List ℕ)
or_else (Some p) other = Some p
or_else None other = other

-- the longest operator at the front, and what follows it
unfoldable pub operator_at : List ℕ → Option (Lexeme × List ℕ)
operator_at text =
    option_map (λ p. (fixed p.0, p.1)) (or_else (operator_of_front 3 text) (or_else (operator_of_front 2 text) (operator_of_front 1 text)))
