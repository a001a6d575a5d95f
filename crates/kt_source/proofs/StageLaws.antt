-- From stage to stage of the reading.
use Rattle.std.proofs.Common.{◌≡◌, ◌≢◌, ℕ, ◌<◌, ◌≤◌, List, length, Result, Ok, Err, refl, sym, ap, subst, ◌∙◌}
use Rattle.std.specs.Prelude.{IsErrAnd}
use Rattle.std.specs.Str.{chars, IsUtf8, IsValidUpTo}
use Rattle.kt_tree.specs.Derives.{FaultAt}
use Rattle.kt_tree.specs.declared.token.Span.{Span}
use Rattle.kt_tree.specs.declared.grammar.fault.ParseFault.TheVariants as fault
use Rattle.kt_tree.specs.Numbering.{HasTokens}
use Rattle.kt_tree.specs.declared.tokens.Tokens.{Tokens}
use Rattle.kt_tree.specs.declared.ast.declaration.File.{File}
use Rattle.kt_model.specs.declared.finding.Finding.{Finding}
use Rattle.kt_model.specs.declared.finding.Rule.{Rule}
use Rattle.kt_model.specs.declared.finding.Rule.TheVariants.{SourceTooLong, NotUtf8, Syntax, TooDeep}
use Rattle.kt_source.specs.SourceRules.{source_limit, at_place, span_of_token, HasText, HasSourceTokens, HasFile, IsSourceViolated, too_long, not_utf8, bad_token, syntax, too_deep, IsSourceFinding, Reads, OnlyReads}
use Rattle.kt_source.specs.Stages.{IsText, IsBadToken, IsTokens, IsMisfit, misfit, deep, IsFileOf}
use Rattle.kt_source.specs.declared.fault.SourceFault.{SourceFault}
use Rattle.kt_source.specs.declared.fault.SourceFault.TheVariants.{Refused, NoMemory}
use Rattle.kt_source.proofs.OneReading.{one_file_of, one_source_finding, not_file_and_finding}

-- no token can be formed there in the text of a source
pub bad_of_source : (source text : List ℕ) (f : Finding) → HasText source text → IsBadToken text f → IsSourceFinding source f
bad_of_source source text f t h = record { phase = 2; violated = subst (λ (g : Finding). IsSourceViolated source 2 g) (sym h.finding) (bad_token text h.span t h.bad) }

-- a token of a source does not fit
pub misfit_of_source : (source : List ℕ) (ts : Tokens) (f : Finding) → HasSourceTokens source ts → IsMisfit ts f → IsSourceFinding source f
misfit_of_source source ts _ t (misfit token h) = record { phase = 3; violated = syntax ts token t h }
misfit_of_source source ts _ t (deep token h) = record { phase = 3; violated = too_deep ts token t h }

pub file_of_source : (source : List ℕ) (ts : Tokens) (r : Result File SourceFault) → HasSourceTokens source ts → IsFileOf ts r → Reads source r
file_of_source source ts (Ok file) t h = record { tokens = ts; has_tokens = t; derives = h }
file_of_source source ts (Err (Refused f)) t h = misfit_of_source source ts f t h
file_of_source source ts (Err NoMemory) t h = tt

-- the tokens of a source that has none
pub tokens_err : (source text : List ℕ) (e : SourceFault) (r : Result File SourceFault) → HasText source (chars text) → IsTokens text (Err e) → IsErrAnd r (λ y. y ≡ e) → Reads source r
tokens_err source text e (Ok file) t h is = absurd is
tokens_err source text (Refused f) (Err x) t h is = subst (λ (y : SourceFault). Reads source (Err y)) (sym is) (bad_of_source source (chars text) f t h)
tokens_err source text NoMemory (Err x) t h is = subst (λ (y : SourceFault). Reads source (Err y)) (sym is) tt

-- ---- what is told at each stage

abbrev told : Rule → Span → SourceFault
told rule span = Refused (record { rule = rule; span = span })

pub long_told : (bytes : List ℕ) (e : SourceFault) → e ≡ told SourceTooLong (at_place 0) → source_limit < length bytes → IsText bytes (Err e)
long_told bytes e is long = subst (λ (y : SourceFault). IsText bytes (Err y)) (sym is) (record { phase = 1; violated = too_long long })

pub invalid_told : (bytes : List ℕ) (e : SourceFault) (m n : ℕ) → e ≡ told NotUtf8 (at_place m) → m ≡ n → length bytes ≤ source_limit → ¬ (IsUtf8 bytes) → IsValidUpTo bytes n → IsText bytes (Err e)
invalid_told bytes e m n is same short not valid =
    subst (λ (y : SourceFault). IsText bytes (Err y)) (sym (is ∙ ap (λ k. told NotUtf8 (at_place k)) same)) (record { phase = 1; violated = not_utf8 n short not valid })

pub misfit_told : (ts : Tokens) (token : ℕ) (e : SourceFault) (s : Span) → e ≡ told Syntax s → s ≡ span_of_token ts token → FaultAt ts (fault.Syntax token) → IsFileOf ts (Err e)
misfit_told ts token e s is same h = subst (λ (y : SourceFault). IsFileOf ts (Err y)) (sym (is ∙ ap (told Syntax) same)) (misfit token h)

pub deep_told : (ts : Tokens) (token : ℕ) (e : SourceFault) (s : Span) → e ≡ told TooDeep s → s ≡ span_of_token ts token → FaultAt ts (fault.TooDeep token) → IsFileOf ts (Err e)
deep_told ts token e s is same h = subst (λ (y : SourceFault). IsFileOf ts (Err y)) (sym (is ∙ ap (told TooDeep) same)) (deep token h)

-- ---- and what is so is told

pub only_reads : (source : List ℕ) (r : Result File SourceFault) → Reads source r → OnlyReads source r
only_reads source (Ok file) h = record {
  file = λ a k some. ap (λ (x : File). Ok x) (one_file_of source file a h k);
  finding = λ f k some. absurd (not_file_and_finding source file k.phase f h k.violated);
}
only_reads source (Err (Refused f)) h = record {
  file = λ a k some. absurd (not_file_and_finding source a h.phase f k h.violated);
  finding = λ g k some. ap (λ (x : Finding). Err (Refused x)) (one_source_finding source h.phase k.phase f g h.violated k.violated).1;
}
only_reads source (Err NoMemory) h = record { file = λ a k some. absurd (some refl); finding = λ f k some. absurd (some refl) }
