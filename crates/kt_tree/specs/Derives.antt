-- What a list of symbols reads from a place on: every token that it takes, each choice being the row of its nonterminal and the
-- class of the next token; or the fault at the first token that does not fit. The Kotlin specification's "Syntax and grammar";
-- the bounds on height and depth and their places are this project's own.
use Rattle.std.specs.Prelude.{◌≡◌, ◌≢◌, ℕ, ◌+◌, ◌-◌, Bool, true, false, ◌||◌, ◌&&◌, not, max, nat_le, nat_lt, is_some, if◌then◌else◌, List, [], ◌∷◌, ◌++◌, take, drop, reverse, slice_get, Option, Some, None, Result, Ok, Err}
use Rattle.kt_tree.specs.declared.token.Token.{Token}
use Rattle.kt_tree.specs.declared.tokens.Tokens.{Tokens}
use Rattle.kt_tree.specs.declared.grammar.terminal.Terminal.{Terminal}
use Rattle.kt_tree.specs.declared.grammar.terminal.Terminal.TheVariants as t
use Rattle.kt_tree.specs.declared.grammar.phrase.Form.{Form}
use Rattle.kt_tree.specs.declared.grammar.phrase.Form.TheVariants as f
use Rattle.kt_tree.specs.declared.grammar.phrase.Phrase.{Phrase, roll-Phrase, out-Phrase}
use Rattle.kt_tree.specs.declared.grammar.phrase.State.{State}
use Rattle.kt_tree.specs.declared.grammar.fault.ParseFault.{ParseFault}
use Rattle.kt_tree.specs.declared.grammar.fault.ParseFault.TheVariants.{Syntax, TooDeep, NoMemory}
use Rattle.kt_tree.specs.declared.grammar.production.Nonterminal.{Nonterminal}
use Rattle.kt_tree.specs.declared.grammar.production.Nonterminal.TheVariants as n
use Rattle.kt_tree.specs.declared.grammar.production.Step.{Step}
use Rattle.kt_tree.specs.declared.grammar.production.Step.TheVariants.{Take, Keep, KeepChosen, Separated, Exclude, Enter, Leave, Make, Add, Target}
use Rattle.kt_tree.specs.declared.grammar.production.Symbol.{Symbol}
use Rattle.kt_tree.specs.declared.grammar.production.Symbol.TheVariants.{Do, Part}
use Rattle.kt_tree.specs.Classes.{class_at, stands_for, same_terminal}
use Rattle.kt_tree.specs.Grammar.{expansion}

-- ---- phrases

abbrev pub phrase : Form → ℕ → ℕ → ℕ → List Phrase → Phrase
phrase form first last height parts = roll-Phrase (record { form = form; first = first; last = last; height = height; parts = parts })

abbrev pub form_of : Phrase → Form
form_of p = (out-Phrase p).form

abbrev pub first_of : Phrase → ℕ
first_of p = (out-Phrase p).first

abbrev pub end_of : Phrase → ℕ
end_of p = (out-Phrase p).last

abbrev pub height_of : Phrase → ℕ
height_of p = (out-Phrase p).height

abbrev pub parts_of : Phrase → List Phrase
parts_of p = (out-Phrase p).parts

-- these are trees
abbrev pub is_tree : Form → Bool
is_tree f.Int = true
is_tree f.Bool = true
is_tree f.Null = true
is_tree f.This = true
is_tree f.Name = true
is_tree f.Template = true
is_tree f.Paren = true
is_tree f.Call = true
is_tree f.Lambda = true
is_tree f.Member = true
is_tree f.SafeMember = true
is_tree f.MemberCall = true
is_tree f.SafeMemberCall = true
is_tree f.NotNull = true
is_tree f.Prefixed = true
is_tree f.Cast = true
is_tree f.Sum = true
is_tree f.Product = true
is_tree f.Compare = true
is_tree f.Equal = true
is_tree f.And = true
is_tree f.Or = true
is_tree f.Elvis = true
is_tree f.IsType = true
is_tree f.If = true
is_tree f.When = true
is_tree f.Try = true
is_tree f.Return = true
is_tree f.Throw = true
is_tree f.Jump = true
is_tree f.NamePiece = true
is_tree f.ThisPiece = true
is_tree f.Local = true
is_tree f.Assignment = true
is_tree f.While = true
is_tree f.DoWhile = true
is_tree f.For = true
is_tree _ = false

-- these may be assigned, and are then no trees
abbrev pub is_place : Form → Bool
is_place f.Name = true
is_place f.Member = true
is_place _ = false

abbrev pub target_form : Form → Form
target_form f.Name = f.NameTarget
target_form f.Member = f.MemberTarget
target_form x = x

abbrev pub tallest : List Phrase → ℕ
tallest [] = 0
tallest (p ∷ ps) = max (height_of p) (tallest ps)

abbrev pub max_height : ℕ
max_height = 200

-- one more; above 200 one height is as another
abbrev pub grown : ℕ → ℕ
grown height = if nat_le height max_height then height + 1 else height

abbrev pub height_as : Form → List Phrase → ℕ
height_as form parts = if is_tree form then grown (tallest parts) else tallest parts

abbrev pub begin_of : List Phrase → ℕ → ℕ
begin_of [] at = at
begin_of (p ∷ ps) at = first_of p

-- ---- steps

abbrev pub start : State
start = record { at = 0; depth = 0; high = false; values = [] }

-- the phrase that the parts are as this form
abbrev pub whole_phrase : Form → ℕ → List Phrase → Phrase
whole_phrase form at parts = phrase form (begin_of parts at) at (height_as form parts) parts

-- a phrase of the last so many
abbrev pub with_phrase : Form → ℕ → List Phrase → State → State
with_phrase form count parts s = record s {
  high = not (nat_le (height_as form parts) max_height) || s.high;
  values = whole_phrase form s.at parts ∷ drop count s.values;
}

abbrev pub made : Form → ℕ → State → State
made form count s = with_phrase form count (reverse (take count s.values)) s

abbrev pub with_part : ℕ → Phrase → Phrase → Phrase
with_part at list part = phrase (form_of list) (first_of list) at (max (height_of list) (height_of part)) (parts_of list ++ part ∷ [])

abbrev pub added : ℕ → List Phrase → List Phrase
added at (part ∷ list ∷ rest) = with_part at list part ∷ rest
added at values = values

-- what is assigned, without its own height where it is no tree
abbrev pub targeted : Phrase → Phrase
targeted p = phrase (target_form (form_of p)) (first_of p) (end_of p) (tallest (parts_of p)) (parts_of p)

abbrev pub as_target : List Phrase → State → State
as_target [] s = s
as_target (p ∷ rest) s = if is_place (form_of p) then record s { high = false; values = targeted p ∷ rest } else s

-- the next token is kept as a phrase
abbrev pub kept : State → State
kept s = record s { at = s.at + 1; values = phrase f.Token s.at (s.at + 1) 0 [] ∷ s.values }

abbrev pub moved : State → State
moved s = record s { at = s.at + 1 }

abbrev pub misfit : State → ParseFault
misfit s = if s.high then TooDeep s.at else Syntax s.at

-- a tree that is too high is a fault at the token after it, before any other
abbrev pub passed : Bool → State → State → Result State ParseFault
passed is s t = if is && not s.high then Ok t else Err (misfit s)

-- the next token is such
abbrev pub is_at : Tokens → ℕ → Terminal → Bool
is_at ts at expected = is_some (slice_get ts.list at) && stands_for expected (class_at ts at).terminal

-- `;`, `}` or a line end comes next
abbrev pub is_separated : Tokens → ℕ → Bool
is_separated ts at =
    (class_at ts at).fresh
    || (same_terminal (class_at ts at).terminal t.Semicolon || same_terminal (class_at ts at).terminal t.CloseBrace)

abbrev pub max_depth : ℕ
max_depth = 700

abbrev pub enter : State → Result State ParseFault
enter s = if nat_lt s.depth max_depth then Ok (record s { depth = s.depth + 1 }) else Err (TooDeep s.at)

unfoldable pub does : Tokens → Step → State → Result State ParseFault
does ts (Take w) s = passed (is_at ts s.at w) s (moved s)
does ts (Keep w) s = passed (is_at ts s.at w) s (kept s)
does ts KeepChosen s = passed (is_some (slice_get ts.list s.at)) s (kept s)
does ts Separated s = passed (is_separated ts s.at) s s
does ts (Exclude w) s = passed (not (stands_for w (class_at ts s.at).terminal)) s s
does ts Enter s = enter s
does ts Leave s = Ok (record s { depth = s.depth - 1 })
does ts (Make form count) s = Ok (made form count s)
does ts Add s = Ok (record s { values = added s.at s.values })
does ts Target s = Ok (as_target s.values s)

-- ---- reading

abbrev pub chosen : Tokens → Nonterminal → State → Option (List Symbol)
chosen ts n s = expansion n (class_at ts s.at)

pub data Reads (ts : Tokens) : List Symbol → State → Result State ParseFault → Type 0 where
  done : {s : State} → Reads ts [] s (Ok s)
  step : {x : Step} {k : List Symbol} {s t : State} {o : Result State ParseFault} → does ts x s ≡ Ok t → Reads ts k t o → Reads ts (Do x ∷ k) s o
  stop : {x : Step} {k : List Symbol} {s : State} {f : ParseFault} → does ts x s ≡ Err f → Reads ts (Do x ∷ k) s (Err f)
  part : {n : Nonterminal} {xs k : List Symbol} {s t : State} {o : Result State ParseFault} → chosen ts n s ≡ Some xs → Reads ts xs s (Ok t) → Reads ts k t o → Reads ts (Part n ∷ k) s o
  part_stop : {n : Nonterminal} {xs k : List Symbol} {s : State} {f : ParseFault} → chosen ts n s ≡ Some xs → Reads ts xs s (Err f) → Reads ts (Part n ∷ k) s (Err f)
  none : {n : Nonterminal} {k : List Symbol} {s : State} {f : ParseFault} → chosen ts n s ≡ None → misfit s ≡ f → Reads ts (Part n ∷ k) s (Err f)

abbrev pub whole : List Symbol
whole = Part n.File ∷ []

-- the last phrase that was read
abbrev pub last_of : List Phrase → Phrase
last_of [] = phrase f.Absent 0 0 0 []
last_of (p ∷ ps) = p

-- the phrase that all tokens are, and the places of the faults where they are none
abbrev pub Derives : Tokens → Phrase → Type 0
Derives ts p = (s : State) × Reads ts whole start (Ok s) × (last_of s.values ≡ p)

abbrev pub FaultAt : Tokens → ParseFault → Type 0
FaultAt ts f = Reads ts whole start (Err f)

-- what was answered is so
abbrev pub Answers : Tokens → Result Phrase ParseFault → Type 0
Answers ts (Ok p) = Derives ts p
Answers ts (Err (Syntax token)) = FaultAt ts (Syntax token)
Answers ts (Err (TooDeep token)) = FaultAt ts (TooDeep token)
Answers ts (Err NoMemory) = Unit {0}

-- and what is so is answered
pub record Only (ts : Tokens) (r : Result Phrase ParseFault) : Type 0 where
  pub phrase : (p : Phrase) → Derives ts p → r ≢ Err NoMemory → r ≡ Ok p
  pub fault : (f : ParseFault) → FaultAt ts f → r ≢ Err NoMemory → r ≡ Err f
