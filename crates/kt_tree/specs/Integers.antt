-- Integers. Kotlin's specification, "Integer literals"; that there are no others than these, and the bound on their value, is this project's own.
use Rattle.std.specs.Prelude.{ℕ, ◌+◌, ◌*◌, Bool, false, ◌&&◌, ◌||◌, ◌==◌, nat_lt, if◌then◌else◌, List, [], ◌∷◌, Option, Some, None}
use Rattle.std.specs.Char.{digit_value}
use Rattle.kt_tree.specs.Characters.{continues_name, is_digit}
use Rattle.kt_tree.specs.Text.{first}

-- the character is a digit of the base
abbrev pub is_digit_of : ℕ → ℕ → Bool
is_digit_of base c = nat_lt (digit_value c) base

-- digits and `_`, the last a digit; `last` says whether a digit stands before them
abbrev pub end_in_digit : ℕ → Bool → List ℕ → Bool
end_in_digit base last [] = last
end_in_digit base last (c ∷ cs) = (is_digit_of base c || (c == 95)) && end_in_digit base (is_digit_of base c) cs

-- a digit, then digits and `_`, the last a digit
abbrev pub are_digits : ℕ → List ℕ → Bool
are_digits base text = is_digit_of base (first text) && end_in_digit base false text

-- the value of the digits after those of the value n, `_` left out
abbrev pub value_after : ℕ → ℕ → List ℕ → ℕ
value_after base n [] = n
value_after base n (c ∷ cs) = if c == 95 then value_after base n cs else value_after base (n * base + digit_value c) cs

-- an integer is below this
abbrev pub integer_limit : ℕ
integer_limit = 2147483648

-- the value of the digits
unfoldable pub digits : ℕ → List ℕ → Option ℕ
digits base text =
    if are_digits base text && nat_lt (value_after base 0 text) integer_limit then Some (value_after base 0 text) else None

-- The value of an integer. A decimal one of more than one digit doesn't begin with 0.
abbrev pub integer : List ℕ → Option ℕ
integer [] = None
integer (c ∷ []) = digits 10 (c ∷ [])
integer (c ∷ d ∷ cs) =
    if c == 48 then (if d == 120 || d == 88 then digits 16 cs else if d == 98 || d == 66 then digits 2 cs else None)
    else digits 10 (c ∷ d ∷ cs)

-- No integer stands before this: before a character that continues an identifier, or a `.` with a digit.
abbrev pub bars_integer : List ℕ → Bool
bars_integer [] = false
bars_integer (c ∷ cs) = continues_name c || (c == 46 && is_digit (first cs))
