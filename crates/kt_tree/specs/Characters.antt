-- The classes of characters, by the general categories of Unicode. Kotlin's specification, "Lexical grammar: identifiers".
use Rattle.std.specs.Prelude.{ℕ, Bool, true, false, ◌||◌, ◌&&◌, ◌==◌, nat_le}
use Rattle.unicode.specs.GeneralCategory.{general_category}
use Rattle.ucd_category.specs.declared.GeneralCategory.{GeneralCategory}
use Rattle.ucd_category.specs.declared.GeneralCategory.TheVariants.{UppercaseLetter, LowercaseLetter, TitlecaseLetter, ModifierLetter, OtherLetter, LetterNumber, DecimalNumber}

-- Lu, Ll, Lt, Lm, Lo, Nl
abbrev pub is_letter : GeneralCategory → Bool
is_letter UppercaseLetter = true
is_letter LowercaseLetter = true
is_letter TitlecaseLetter = true
is_letter ModifierLetter = true
is_letter OtherLetter = true
is_letter LetterNumber = true
is_letter _ = false

-- these and Nd
abbrev pub is_letter_or_digit : GeneralCategory → Bool
is_letter_or_digit DecimalNumber = true
is_letter_or_digit c = is_letter c

-- the character begins an identifier
unfoldable pub begins_name : ℕ → Bool
begins_name c = c == 95 || is_letter (general_category c)

-- the character continues an identifier
unfoldable pub continues_name : ℕ → Bool
continues_name c = c == 95 || is_letter_or_digit (general_category c)

-- 0 to 9
abbrev pub is_digit : ℕ → Bool
is_digit c = nat_le 48 c && nat_le c 57

-- space, tab, form feed
abbrev pub is_space : ℕ → Bool
is_space c = (c == 32 || c == 9) || c == 12

-- LF, CR
abbrev pub is_line_end : ℕ → Bool
is_line_end c = c == 10 || c == 13
