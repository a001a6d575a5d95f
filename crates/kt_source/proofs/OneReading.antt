-- A source has one file or one finding of reading.
use Rattle.std.proofs.Common.{◌≡◌, ℕ, ◌<◌, ◌≤◌, List, length, refl, sym, ap, ap₂, subst, ◌∙◌, arith}
use mathlib.Core.HLevel.{is_prop→PathP}
use Rattle.std.proofs.Math.Bool.{Bool-set}
use Rattle.std.proofs.Math.Bridge.{le_prop}
use Rattle.std.specs.Prelude.{true, IsTrue}
use Rattle.std.specs.Str.{chars, IsUtf8, IsValidUpTo}
use Rattle.std.proofs.lemmas.Str.{utf8_valid_len-IsValidUpTo}
use Rattle.kt_tree.specs.declared.token.Span.{Span}
use Rattle.kt_tree.specs.declared.token.Token.{Token}
use Rattle.kt_tree.specs.declared.tokens.Tokens.{Tokens}
use Rattle.kt_tree.specs.declared.ast.declaration.File.{File}
use Rattle.kt_tree.specs.declared.grammar.fault.ParseFault.{ParseFault}
use Rattle.kt_tree.specs.declared.grammar.fault.ParseFault.TheVariants as fault
use Rattle.kt_tree.specs.Tokens.{Lexed, AreTokens, IsBadPlace}
use Rattle.kt_tree.specs.BuiltIn.{built_in}
use Rattle.kt_tree.specs.Numbering.{AreNumbered, HasTokens}
use Rattle.kt_tree.specs.TokenLists.{ends_once}
use Rattle.kt_tree.specs.Derives.{FaultAt}
use Rattle.kt_lex.proofs.TokenSteps.{one_list, one_place, not_both}
use Rattle.kt_parse.specs.Parsed.{DerivesFile}
use Rattle.kt_parse.proofs.Parsing as parsing
use Rattle.kt_model.specs.declared.finding.Finding.{Finding}
use Rattle.kt_model.specs.declared.finding.Rule.{Rule}
use Rattle.kt_model.specs.declared.finding.Rule.TheVariants.{SourceTooLong, NotUtf8, BadToken, Syntax, TooDeep}
use Rattle.kt_source.specs.SourceRules.{source_limit, at_place, span_of_token, HasText, HasSourceTokens, HasFile, IsSourceViolated, too_long, not_utf8, bad_token, syntax, too_deep}

-- ---- one text, one list of tokens, one file

one_text : (source a b : List ℕ) → HasText source a → HasText source b → a ≡ b
one_text source a b h k = h.text_is ∙ sym k.text_is

same_tokens : (a b : Tokens) → a.list ≡ b.list → a.names ≡ b.names → a ≡ b
same_tokens a b l n = λ i. record {
  list = l i;
  names = n i;
  few = is_prop→PathP (λ j. length (l j) ≤ 1048577) (λ j. le_prop) a.few b.few i;
  ended = is_prop→PathP (λ j. IsTrue (ends_once (l j))) (λ j. Bool-set (ends_once (l j)) true) a.ended b.ended i;
}

numbered_once : (ts : List Lexed) (a b : Tokens) → AreNumbered built_in ts a → AreNumbered built_in ts b → a ≡ b
numbered_once ts a b h k = same_tokens a b (h.list ∙ sym k.list) (h.names ∙ sym k.names)

one_tokens : (text : List ℕ) (a b : Tokens) → HasTokens text a → HasTokens text b → a ≡ b
one_tokens text a b h k =
    let same : k.lexed ≡ h.lexed = one_list text k.lexed h.lexed k.are h.are in
    numbered_once h.lexed a b h.numbered (subst (λ (ts : List Lexed). AreNumbered built_in ts b) same k.numbered)

one_source_tokens : (source : List ℕ) (a b : Tokens) → HasSourceTokens source a → HasSourceTokens source b → a ≡ b
one_source_tokens source a b h k =
    one_tokens h.text a b h.has_tokens (subst (λ (t : List ℕ). HasTokens t b) (one_text source k.text h.text k.has_text h.has_text) k.has_tokens)

pub one_file_of : (source : List ℕ) (a b : File) → HasFile source a → HasFile source b → a ≡ b
one_file_of source a b h k =
    parsing.one_derived h.tokens a b h.derives
    (subst (λ (ts : Tokens). DerivesFile ts b) (one_source_tokens source k.tokens h.tokens k.has_tokens h.has_tokens) k.derives)

-- ---- what a violated rule says, by its phase

abbrev finding : Rule → Span → Finding
finding rule span = record { rule = rule; span = span }

data Violation (source : List ℕ) (p : ℕ) (f : Finding) : Type 0 where
  is_long : p ≡ 1 → source_limit < length source → f ≡ finding SourceTooLong (at_place 0) → Violation source p f
  is_invalid : (n : ℕ) → p ≡ 1 → length source ≤ source_limit → ¬ (IsUtf8 source) → IsValidUpTo source n → f ≡ finding NotUtf8 (at_place n) → Violation source p f
  is_bad : (text : List ℕ) (span : Span) → p ≡ 2 → HasText source text → IsBadPlace text span.start span.end → f ≡ finding BadToken span → Violation source p f
  is_misfit : (ts : Tokens) (token : ℕ) → p ≡ 3 → HasSourceTokens source ts → FaultAt ts (fault.Syntax token) → f ≡ finding Syntax (span_of_token ts token) → Violation source p f
  is_deep : (ts : Tokens) (token : ℕ) → p ≡ 3 → HasSourceTokens source ts → FaultAt ts (fault.TooDeep token) → f ≡ finding TooDeep (span_of_token ts token) → Violation source p f

violation : (source : List ℕ) (p : ℕ) (f : Finding) → IsSourceViolated source p f → Violation source p f
violation source _ _ (too_long h) = is_long refl h refl
violation source _ _ (not_utf8 n s u v) = is_invalid n refl s u v refl
violation source _ _ (bad_token text span t b) = is_bad text span refl t b refl
violation source _ _ (syntax ts token t h) = is_misfit ts token refl t h refl
violation source _ _ (too_deep ts token t h) = is_deep ts token refl t h refl

-- ---- two rules are not violated at once

no_bad_place : (source text : List ℕ) (ts : Tokens) (start end : ℕ) → HasText source text → HasSourceTokens source ts → IsBadPlace text start end → ⊥
no_bad_place source text ts start end t h b =
    not_both h.text h.has_tokens.lexed start end h.has_tokens.are (subst (λ (x : List ℕ). IsBadPlace x start end) (one_text source text h.text t h.has_text) b)

same_fault : (source : List ℕ) (a b : Tokens) (f g : ParseFault) → HasSourceTokens source a → HasSourceTokens source b → FaultAt a f → FaultAt b g → f ≡ g
same_fault source a b f g h k x y = parsing.one_place a f g x (subst (λ (ts : Tokens). FaultAt ts g) (one_source_tokens source b a k h) y)

same_syntax : (m n : ℕ) → fault.Syntax m ≡ fault.Syntax n → m ≡ n
same_syntax m n e = cc

same_deep : (m n : ℕ) → fault.TooDeep m ≡ fault.TooDeep n → m ≡ n
same_deep m n e = cc

misfit_not_deep : (m n : ℕ) → fault.Syntax m ≡ fault.TooDeep n → ⊥
misfit_not_deep m n e = cc

same_span : (a b : Span) → a.start ≡ b.start → a.end ≡ b.end → a ≡ b
same_span a b s e = ap₂ (λ (x y : ℕ). record { start = x; end = y }) s e

abbrev Same : ℕ → ℕ → Finding → Finding → Type 0
Same p q f g = (p ≡ q) × (f ≡ g)

same : (p q n : ℕ) (f g c d : Finding) → p ≡ n → q ≡ n → f ≡ c → g ≡ d → c ≡ d → Same p q f g
same p q n f g c d a b x y e = (a ∙ sym b, x ∙ e ∙ sym y)

module _ (source : List ℕ) (p q : ℕ) (f g : Finding) where
  by_long : p ≡ 1 → source_limit < length source → f ≡ finding SourceTooLong (at_place 0) → Violation source q g → Same p q f g
  by_long a h x (is_long b k y) = same p q 1 f g _ _ a b x y refl
  by_long a h x (is_invalid n b s u v y) = absurd (omega (arith, h, s))
  by_long a h x (is_bad text span b t k y) = let s = t.short in absurd (omega (arith, h, s))
  by_long a h x (is_misfit ts token b t k y) = let s = t.has_text.short in absurd (omega (arith, h, s))
  by_long a h x (is_deep ts token b t k y) = let s = t.has_text.short in absurd (omega (arith, h, s))

  by_invalid : (n : ℕ) → p ≡ 1 → length source ≤ source_limit → ¬ (IsUtf8 source) → IsValidUpTo source n → f ≡ finding NotUtf8 (at_place n) → Violation source q g → Same p q f g
  by_invalid n a s u v x (is_long b k y) = absurd (omega (arith, k, s))
  by_invalid n a s u v x (is_invalid m b r w z y) =
      same p q 1 f g _ _ a b x y (ap (λ (k : ℕ). finding NotUtf8 (at_place k)) (sym (utf8_valid_len-IsValidUpTo source n v) ∙ utf8_valid_len-IsValidUpTo source m z))
  by_invalid n a s u v x (is_bad text span b t k y) = absurd (u t.is_utf8)
  by_invalid n a s u v x (is_misfit ts token b t k y) = absurd (u t.has_text.is_utf8)
  by_invalid n a s u v x (is_deep ts token b t k y) = absurd (u t.has_text.is_utf8)

  by_bad : (text : List ℕ) (span : Span) → p ≡ 2 → HasText source text → IsBadPlace text span.start span.end → f ≡ finding BadToken span → Violation source q g → Same p q f g
  by_bad text span a t h x (is_long b k y) = let s = t.short in absurd (omega (arith, k, s))
  by_bad text span a t h x (is_invalid m b r w z y) = absurd (w t.is_utf8)
  by_bad text span a t h x (is_bad other place b u k y) =
      let k' = subst (λ (z : List ℕ). IsBadPlace z place.start place.end) (one_text source other text u t) k in
      let e = one_place text span.start span.end place.start place.end h k' in
      same p q 2 f g _ _ a b x y (ap (λ (s : Span). finding BadToken s) (same_span span place e.0 e.1))
  by_bad text span a t h x (is_misfit ts token b u k y) = absurd (no_bad_place source text ts span.start span.end t u h)
  by_bad text span a t h x (is_deep ts token b u k y) = absurd (no_bad_place source text ts span.start span.end t u h)

  by_misfit : (ts : Tokens) (token : ℕ) → p ≡ 3 → HasSourceTokens source ts → FaultAt ts (fault.Syntax token) → f ≡ finding Syntax (span_of_token ts token) → Violation source q g → Same p q f g
  by_misfit ts token a t h x (is_long b k y) = let s = t.has_text.short in absurd (omega (arith, k, s))
  by_misfit ts token a t h x (is_invalid m b r w z y) = absurd (w t.has_text.is_utf8)
  by_misfit ts token a t h x (is_bad text span b u k y) = absurd (no_bad_place source text ts span.start span.end u t k)
  by_misfit ts token a t h x (is_misfit us other b u k y) =
      same p q 3 f g _ _ a b x y
      (ap₂ (λ (zs : Tokens) (n : ℕ). finding Syntax (span_of_token zs n)) (one_source_tokens source ts us t u) (same_syntax token other (same_fault source ts us _ _ t u h k)))
  by_misfit ts token a t h x (is_deep us other b u k y) = absurd (misfit_not_deep token other (same_fault source ts us _ _ t u h k))

  by_deep : (ts : Tokens) (token : ℕ) → p ≡ 3 → HasSourceTokens source ts → FaultAt ts (fault.TooDeep token) → f ≡ finding TooDeep (span_of_token ts token) → Violation source q g → Same p q f g
  by_deep ts token a t h x (is_long b k y) = let s = t.has_text.short in absurd (omega (arith, k, s))
  by_deep ts token a t h x (is_invalid m b r w z y) = absurd (w t.has_text.is_utf8)
  by_deep ts token a t h x (is_bad text span b u k y) = absurd (no_bad_place source text ts span.start span.end u t k)
  by_deep ts token a t h x (is_misfit us other b u k y) = absurd (misfit_not_deep other token (same_fault source us ts _ _ u t k h))
  by_deep ts token a t h x (is_deep us other b u k y) =
      same p q 3 f g _ _ a b x y
      (ap₂ (λ (zs : Tokens) (n : ℕ). finding TooDeep (span_of_token zs n)) (one_source_tokens source ts us t u) (same_deep token other (same_fault source ts us _ _ t u h k)))

  by_both : Violation source p f → Violation source q g → Same p q f g
  by_both (is_long a h x) k = by_long a h x k
  by_both (is_invalid n a s u v x) k = by_invalid n a s u v x k
  by_both (is_bad text span a t h x) k = by_bad text span a t h x k
  by_both (is_misfit ts token a t h x) k = by_misfit ts token a t h x k
  by_both (is_deep ts token a t h x) k = by_deep ts token a t h x k

pub one_source_finding : (source : List ℕ) (p q : ℕ) (f g : Finding) → IsSourceViolated source p f → IsSourceViolated source q g → (p ≡ q) × (f ≡ g)
one_source_finding source p q f g h k = by_both source p q f g (violation source p f h) (violation source q g k)

-- ---- not both

fault_not_file : (source : List ℕ) (ts : Tokens) (f : ParseFault) (a : File) → HasFile source a → HasSourceTokens source ts → FaultAt ts f → ⊥
fault_not_file source ts f a h t k = parsing.never_both h.tokens a f h.derives (subst (λ (us : Tokens). FaultAt us f) (one_source_tokens source ts h.tokens t h.has_tokens) k)

pub not_file_and_finding : (source : List ℕ) (a : File) (p : ℕ) (f : Finding) → HasFile source a → IsSourceViolated source p f → ⊥
not_file_and_finding source a p f h k = elim (violation source p f k) [
  | is_long b l y ↦ let s = h.has_tokens.has_text.short in omega (arith, l, s)
  | is_invalid n b s u v y ↦ u h.has_tokens.has_text.is_utf8
  | is_bad text span b t l y ↦ no_bad_place source text h.tokens span.start span.end t h.has_tokens l
  | is_misfit ts token b t l y ↦ fault_not_file source ts _ a h t l
  | is_deep ts token b t l y ↦ fault_not_file source ts _ a h t l
]
