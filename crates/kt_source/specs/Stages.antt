-- What each stage of the reading answers: private words of this crate.
use Rattle.std.specs.Prelude.{◌≡◌, ℕ, List, Result, Ok, Err}
use Rattle.std.specs.Str.{chars}
use Rattle.kt_tree.specs.Sources.{source_text}
use Rattle.kt_tree.specs.Numbering.{HasTokens}
use Rattle.kt_tree.specs.Tokens.{IsBadPlace}
use Rattle.kt_tree.specs.Derives.{FaultAt}
use Rattle.kt_tree.specs.declared.source.Source.{Source}
use Rattle.kt_tree.specs.declared.token.Span.{Span}
use Rattle.kt_tree.specs.declared.tokens.Tokens.{Tokens}
use Rattle.kt_tree.specs.declared.ast.declaration.File.{File}
use Rattle.kt_tree.specs.declared.grammar.fault.ParseFault.TheVariants as fault
use Rattle.kt_parse.specs.Parsed.{DerivesFile}
use Rattle.kt_model.specs.declared.finding.Finding.{Finding}
use Rattle.kt_model.specs.declared.finding.Rule.TheVariants.{BadToken, Syntax, TooDeep}
use Rattle.kt_source.specs.declared.fault.SourceFault.{SourceFault}
use Rattle.kt_source.specs.declared.fault.SourceFault.TheVariants.{Refused, NoMemory}
use Rattle.kt_source.specs.SourceRules.{HasText, IsSourceFinding, span_of_token}

abbrev pub IsText : List ℕ → Result Source SourceFault → Type 0
IsText bytes (Ok source) = HasText bytes (chars (source_text source))
IsText bytes (Err (Refused f)) = IsSourceFinding bytes f
IsText bytes (Err NoMemory) = Unit {0}

-- no token can be formed there
pub record IsBadToken (text : List ℕ) (f : Finding) : Type 0 where
  pub span : Span
  pub bad : IsBadPlace text span.start span.end
  pub finding : f ≡ record { rule = BadToken; span = span }

abbrev pub IsTokens : List ℕ → Result Tokens SourceFault → Type 0
IsTokens bytes (Ok tokens) = HasTokens (chars bytes) tokens
IsTokens bytes (Err (Refused f)) = IsBadToken (chars bytes) f
IsTokens bytes (Err NoMemory) = Unit {0}

-- the token does not fit, or is too deep
pub data IsMisfit (tokens : Tokens) : Finding → Type 0 where
  misfit : (token : ℕ) → FaultAt tokens (fault.Syntax token) → IsMisfit tokens (record { rule = Syntax; span = span_of_token tokens token })
  deep : (token : ℕ) → FaultAt tokens (fault.TooDeep token) → IsMisfit tokens (record { rule = TooDeep; span = span_of_token tokens token })

abbrev pub IsFileOf : Tokens → Result File SourceFault → Type 0
IsFileOf tokens (Ok file) = DerivesFile tokens file
IsFileOf tokens (Err (Refused f)) = IsMisfit tokens f
IsFileOf tokens (Err NoMemory) = Unit {0}
