-- The rules on a source before its declarations are looked at: its length and its bytes, its tokens, its syntax; and the file that it is.
--
-- From the Kotlin specification, "Syntax and grammar", for the profile; the limit of bytes, the places and the order of the rules are this project's own.
-- Each rule is a condition on the whole source. The code goes from bytes to characters to tokens to trees, and stops at the first that is none.
use Rattle.std.specs.Prelude.{◌≡◌, ◌≢◌, ℕ, ◌<◌, ◌≤◌, List, length, Option, Some, None, slice_get, Result, Ok, Err}
use Rattle.std.specs.Str.{chars, IsUtf8, IsValidUpTo}
use Rattle.kt_tree.specs.Numbering.{HasTokens}
use Rattle.kt_tree.specs.Tokens.{IsBadPlace}
use Rattle.kt_tree.specs.Derives.{FaultAt}
use Rattle.kt_tree.specs.declared.token.Span.{Span}
use Rattle.kt_tree.specs.declared.token.Token.{Token}
use Rattle.kt_tree.specs.declared.tokens.Tokens.{Tokens}
use Rattle.kt_tree.specs.declared.ast.declaration.File.{File}
use Rattle.kt_tree.specs.declared.grammar.fault.ParseFault.TheVariants as fault
use Rattle.kt_parse.specs.Parsed.{DerivesFile}
use Rattle.kt_model.specs.declared.finding.Finding.{Finding}
use Rattle.kt_model.specs.declared.finding.Rule.TheVariants.{SourceTooLong, NotUtf8, BadToken, Syntax, TooDeep}
use Rattle.kt_source.specs.declared.fault.SourceFault.{SourceFault}
use Rattle.kt_source.specs.declared.fault.SourceFault.TheVariants.{Refused, NoMemory}

-- the most bytes that a source has
abbrev pub source_limit : ℕ
source_limit = 1048576

-- a place without length
abbrev pub at_place : ℕ → Span
at_place n = record { start = n; end = n }

-- the span of a token by its number
abbrev pub span_or_start : Option Token → Span
span_or_start (Some t) = t.span
span_or_start None = at_place 0

abbrev pub span_of_token : Tokens → ℕ → Span
span_of_token ts token = span_or_start (slice_get ts.list token)

-- the characters of a source that is short enough and is UTF-8
pub record HasText (source text : List ℕ) : Type 0 where
  pub short : length source ≤ source_limit
  pub is_utf8 : IsUtf8 source
  pub text_is : text ≡ chars source

-- the tokens of a source
pub record HasSourceTokens (source : List ℕ) (ts : Tokens) : Type 0 where
  pub text : List ℕ
  pub has_text : HasText source text
  pub has_tokens : HasTokens text ts

-- the file of a source
pub record HasFile (source : List ℕ) (file : File) : Type 0 where
  pub tokens : Tokens
  pub has_tokens : HasSourceTokens source tokens
  pub derives : DerivesFile tokens file

-- A rule is violated in this phase: 1 for bytes, 2 for tokens, 3 for syntax. Of one source all findings are of one phase, since each rule needs what the
-- phase before it gives.
pub data IsSourceViolated (source : List ℕ) : ℕ → Finding → Type 0 where
  -- SOURCE_TOO_LONG: there are more bytes than a source may have.
  too_long : source_limit < length source → IsSourceViolated source 1 (record { rule = SourceTooLong; span = at_place 0 })
  -- NOT_UTF8: the bytes are no UTF-8; the place is behind the longest front that is.
  not_utf8 : (n : ℕ) → length source ≤ source_limit → ¬ (IsUtf8 source) → IsValidUpTo source n → IsSourceViolated source 1 (record { rule = NotUtf8; span = at_place n })
  -- BAD_TOKEN: no token can be formed at this place.
  bad_token : (text : List ℕ) (span : Span) → HasText source text → IsBadPlace text span.start span.end → IsSourceViolated source 2 (record { rule = BadToken; span = span })
  -- SYNTAX: no choice of the grammar and no expected token fits this token.
  syntax : (ts : Tokens) (token : ℕ) → HasSourceTokens source ts → FaultAt ts (fault.Syntax token) → IsSourceViolated source 3 (record { rule = Syntax; span = span_of_token ts token })
  -- TOO_DEEP: this token stands right behind a tree that is too high, or begins one part too many.
  too_deep : (ts : Tokens) (token : ℕ) → HasSourceTokens source ts → FaultAt ts (fault.TooDeep token) → IsSourceViolated source 3 (record { rule = TooDeep; span = span_of_token ts token })

pub record IsSourceFinding (source : List ℕ) (f : Finding) : Type 0 where
  pub phase : ℕ
  pub violated : IsSourceViolated source phase f

-- what was answered is so
abbrev pub Reads : List ℕ → Result File SourceFault → Type 0
Reads source (Ok file) = HasFile source file
Reads source (Err (Refused f)) = IsSourceFinding source f
Reads source (Err NoMemory) = Unit {0}

-- and what is so is answered
pub record OnlyReads (source : List ℕ) (r : Result File SourceFault) : Type 0 where
  pub file : (file : File) → HasFile source file → r ≢ Err NoMemory → r ≡ Ok file
  pub finding : (f : Finding) → IsSourceFinding source f → r ≢ Err NoMemory → r ≡ Err (Refused f)
