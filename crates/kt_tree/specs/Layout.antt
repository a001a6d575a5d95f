-- The tokens of a text in the subject's own words: how they lie in it. A law says that the tokens as defined lie so.
use Rattle.std.specs.Prelude.{◌≡◌, ℕ, ◌<◌, ◌≤◌, Bool, true, false, ◌&&◌, if◌then◌else◌, List, [], ◌∷◌, ◌++◌, length, take, drop, Option, Some, None}
use Rattle.kt_tree.specs.declared.token.Kind.TheVariants.{End}
use Rattle.kt_tree.specs.Brackets.{Bracket, brackets_after, counts_lines, in_string, open_quote}
use Rattle.kt_tree.specs.Characters.{is_space, is_line_end}
use Rattle.kt_tree.specs.Lexemes.{Lexeme, fixed}
use Rattle.kt_tree.specs.Moves.{is_in_line, comment_end}
use Rattle.kt_tree.specs.Strings.{string_lexeme}
use Rattle.kt_tree.specs.Text.{place, after_run, width}
use Rattle.kt_tree.specs.Tokens.{Lexed}
use Rattle.kt_tree.specs.Words.{lexeme}
use Rattle.std.specs.Str.{IsCharBoundary}

-- Blanks, line ends and comments lead from the first text to the second, which is its end; the flag says that a line end outside `/* */` is among them.
pub data Blank : List ℕ → Bool → List ℕ → Type 0 where
  here : {cs : List ℕ} → Blank cs false cs
  space : {c : ℕ} {cs ds : List ℕ} {line : Bool} → is_space c ≡ true → Blank cs line ds → Blank (c ∷ cs) line ds
  line_end : {c : ℕ} {cs ds : List ℕ} {line : Bool} → is_line_end c ≡ true → Blank cs line ds → Blank (c ∷ cs) true ds
  line_comment : {cs ds : List ℕ} {line : Bool} → Blank (after_run is_in_line cs) line ds → Blank (47 ∷ 47 ∷ cs) line ds
  comment : {cs ds es : List ℕ} {line : Bool} → comment_end 0 cs ≡ Some ds → Blank ds line es → Blank (47 ∷ 42 ∷ cs) line es

-- what is a token: within a string or outside
abbrev pub lexeme_in : Bool → List ℕ → List ℕ → Option Lexeme
lexeme_in within text after = if within then string_lexeme text after else lexeme text after

-- From this rest of the whole text on: blanks and comments, none of them within a string, and then the token's characters, which no longer front of the text could be; with its span and its newline flag.
pub record Stands (whole : List ℕ) (stack : List Bracket) (rest : List ℕ) (t : Lexed) (after : List ℕ) : Type 0 where
  pub line : Bool
  pub from : List ℕ
  pub word : List ℕ
  pub blank : Blank rest line from
  pub solid : in_string stack ≡ true → from ≡ rest
  pub parts : from ≡ word ++ after
  pub some : 0 < length word
  pub token : lexeme_in (in_string stack) word after ≡ Some t.lexeme
  pub longest : (n : ℕ) → length word < n → n ≤ length from → lexeme_in (in_string stack) (take n from) (drop n from) ≡ None
  pub start : t.start ≡ place whole from
  pub end : t.end ≡ place whole after
  pub fresh : t.fresh ≡ (line && counts_lines stack)

-- the last token, where only blanks and comments are left, and no string is open
pub record StandsLast (whole : List ℕ) (stack : List Bracket) (rest : List ℕ) (t : Lexed) : Type 0 where
  pub line : Bool
  pub blank : Blank rest line []
  pub closed : open_quote stack ≡ None
  pub token : t.lexeme ≡ fixed End
  pub start : t.start ≡ width whole
  pub end : t.end ≡ width whole
  pub fresh : t.fresh ≡ (line && counts_lines stack)

-- the tokens lie one after another in the rest of the whole text, and nothing else does
pub data Lies (whole : List ℕ) : List Bracket → List ℕ → List Lexed → Type 0 where
  last : {stack : List Bracket} {rest : List ℕ} {t : Lexed} → StandsLast whole stack rest t → Lies whole stack rest (t ∷ [])
  more : {stack : List Bracket} {rest after : List ℕ} {t : Lexed} {ts : List Lexed} → Stands whole stack rest t after
      → Lies whole (brackets_after t.lexeme t.start t.end stack) after ts → Lies whole stack rest (t ∷ ts)

-- the spans rise from this place on, and do not overlap
abbrev pub Rise : ℕ → List Lexed → Type 0
Rise at [] = Unit {0}
Rise at (t ∷ ts) = (at ≤ t.start) × (t.start ≤ t.end) × Rise t.end ts

-- the spans begin and end at characters of the text, or at its end
abbrev pub AtCharacters : List ℕ → List Lexed → Type 0
AtCharacters text [] = Unit {0}
AtCharacters text (t ∷ ts) = IsCharBoundary text t.start × IsCharBoundary text t.end × AtCharacters text ts
