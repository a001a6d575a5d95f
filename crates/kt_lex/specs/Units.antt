-- The steps by which the code reads a string.
use Rattle.std.specs.Prelude.{◌≡◌, ℕ, ◌==◌, if◌then◌else◌, List, [], ◌∷◌, Option, Some, None, option_map}
use Rattle.kt_tree.specs.declared.token.Kind.{Kind}
use Rattle.kt_tree.specs.declared.token.Kind.TheVariants.{This, ThisPart, ExprPart}
use Rattle.kt_tree.specs.Characters.{continues_name}
use Rattle.kt_tree.specs.Lexemes.{fixed, piece, name_part, keyword_of}
use Rattle.kt_tree.specs.Moves.{Move, take, bad}
use Rattle.kt_tree.specs.Strings.{simple_escape, code_unit, is_code_unit, is_plain}
use Rattle.kt_tree.specs.Text.{first, after_first, run, after_run}

-- the character of four hexadecimal digits that are no surrogate
abbrev pub code_unit_of : ℕ → ℕ → ℕ → ℕ → Option ℕ
code_unit_of a b c d = if is_code_unit a b c d then Some (code_unit a b c d) else None

-- a character with what follows it
abbrev pub with_rest : List ℕ → Option ℕ → Option (ℕ × List ℕ)
with_rest cs o = option_map (λ c. (c, cs)) o

-- behind \u
abbrev pub unicode : List ℕ → Option (ℕ × List ℕ)
unicode [] = None
unicode (a ∷ []) = None
unicode (a ∷ b ∷ []) = None
unicode (a ∷ b ∷ c ∷ []) = None
unicode (a ∷ b ∷ c ∷ d ∷ cs) = with_rest cs (code_unit_of a b c d)

-- behind a backslash
abbrev pub escape : List ℕ → Option (ℕ × List ℕ)
escape [] = None
escape (c ∷ cs) = if c == 117 then unicode cs else with_rest cs (simple_escape c)

-- the character that the first one stands for, or the escape at the front, and what follows it
abbrev pub unit : List ℕ → Option (ℕ × List ℕ)
unit [] = None
unit (c ∷ cs) = if c == 92 then escape cs else if is_plain c cs then Some (c, cs) else None

-- units lead from the first text to the second, and stand for these characters
pub data AreUnits : List ℕ → List ℕ → List ℕ → Type 0 where
  none : {cs : List ℕ} → AreUnits cs [] cs
  more : {cs ds es v : List ℕ} {c : ℕ} → unit cs ≡ Some (c, ds) → AreUnits ds v es → AreUnits cs (c ∷ v) es

-- the move takes all units at the front of the text
pub record IsPieceMove (text : List ℕ) (m : Move) : Type 0 where
  pub value : List ℕ
  pub rest : List ℕ
  pub units : AreUnits text value rest
  pub stops : unit rest ≡ None
  pub is : m ≡ take (piece value) rest

-- the word behind a `$`
abbrev pub word_move : Option Kind → List ℕ → List ℕ → Move
word_move None word rest = take (name_part word) rest
word_move (Some This) word rest = take (fixed ThisPart) rest
word_move (Some k) word rest = bad

-- what `$` begins before this
abbrev pub part_move : List ℕ → Move
part_move cs =
    if first cs == 123 then take (fixed ExprPart) (after_first cs)
    else word_move (keyword_of (run continues_name cs)) (run continues_name cs) (after_run continues_name cs)
