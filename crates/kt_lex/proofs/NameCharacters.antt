-- The classes of characters at ASCII.
use Rattle.std.proofs.Common.{◌≡◌, ℕ, ◌<◌, true, ◌||◌, ◌==◌, refl, ap, inl, inr}
use Rattle.std.proofs.lemmas.Bool.{or_cases, or_left, or_right}
use Rattle.ucd_category.specs.declared.GeneralCategory.TheVariants.{DecimalNumber}
use Rattle.std.specs.Bool.{beq}
use Rattle.std.specs.Char.{is_ascii_alphabetic, is_ascii_alphanumeric}
use Rattle.unicode.proofs.Facts.{Stepped-below, same_from_beq}
use Rattle.unicode.proofs.GeneralCategoryLemmas.{general_category_stepped}
use Rattle.unicode.proofs.TableComputing.{tables}
use Rattle.unicode.specs.GeneralCategory.{general_category}
use Rattle.ucd_category.specs.declared.GeneralCategory.{GeneralCategory}
use Rattle.kt_tree.specs.Characters.{is_letter, is_letter_or_digit, begins_name, continues_name}

-- of ASCII, the letters
pub is_letter-ascii : (c : ℕ) → c < 128 → is_letter (general_category c) ≡ is_ascii_alphabetic c
unfolding tables general_category_stepped
is_letter-ascii c h =
    same_from_beq _ _ (Stepped-below general_category general_category_stepped (λ x v. beq (is_letter v) (is_ascii_alphabetic x)) 128 refl c h)

-- of ASCII, the letters and digits
pub is_letter_or_digit-ascii : (c : ℕ) → c < 128 → is_letter_or_digit (general_category c) ≡ is_ascii_alphanumeric c
unfolding tables general_category_stepped
is_letter_or_digit-ascii c h =
    same_from_beq _ _ (Stepped-below general_category general_category_stepped (λ x v. beq (is_letter_or_digit v) (is_ascii_alphanumeric x)) 128 refl c h)

-- of ASCII, what begins an identifier
pub begins_name-ascii : (c : ℕ) → c < 128 → begins_name c ≡ ((c == 95) || is_ascii_alphabetic c)
unfolding begins_name
begins_name-ascii c h = ap (λ b. (c == 95) || b) (is_letter-ascii c h)

-- of ASCII, what continues one
pub continues_name-ascii : (c : ℕ) → c < 128 → continues_name c ≡ ((c == 95) || is_ascii_alphanumeric c)
unfolding continues_name
continues_name-ascii c h = ap (λ b. (c == 95) || b) (is_letter_or_digit-ascii c h)

pub ruleset ascii = (is_letter-ascii, is_letter_or_digit-ascii)

-- a letter is a letter or a digit
is_letter-or_digit : (g : GeneralCategory) → is_letter g ≡ true → is_letter_or_digit g ≡ true
is_letter-or_digit DecimalNumber h = refl
is_letter-or_digit g h = h

-- what begins an identifier continues one
pub continues_name-begins_name : (c : ℕ) → begins_name c ≡ true → continues_name c ≡ true
unfolding begins_name continues_name
continues_name-begins_name c h =
    elim (or_cases (c == 95) (is_letter (general_category c)) h) [
      | inl line ↦ or_left (c == 95) (is_letter_or_digit (general_category c)) line
      | inr letter ↦ or_right (c == 95) (is_letter_or_digit (general_category c)) (is_letter-or_digit (general_category c) letter)
    ]
