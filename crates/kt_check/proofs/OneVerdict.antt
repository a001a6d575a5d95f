-- A source has one verdict: its first finding, or its file.
use Rattle.std.proofs.Common.{◌≡◌, ◌≢◌, ◌<◌, ℕ, List, ◌∷◌, [], inl, inr, refl, subst, arith, Greater, zero, slice_index_or}
use Rattle.std.proofs.lemmas.Bool.{cases_lt}
use Rattle.kt_tree.specs.declared.ast.declaration.File.{File}
use Rattle.kt_source.specs.SourceRules.{HasFile, IsSourceViolated, IsSourceFinding}
use Rattle.kt_model.specs.NameUses.{Resolved}
use Rattle.kt_model.specs.Order.{by_place}
use Rattle.kt_model.specs.Scopes.{IsResolved}
use Rattle.kt_model.specs.declared.finding.Finding.{Finding}
use Rattle.kt_sound.proofs.OneFile.{one_resolved}
use Rattle.kt_check.specs.Phases.{AreFirst, IsClear}
use Rattle.kt_check.specs.Violations.{IsFileViolated, IsViolated, in_text, in_file, IsFirstFinding, IsAccepted}
use Rattle.kt_check.proofs.PlaceOrder.{both_first, not_before_itself, first_is_least}

-- A source has at most one first finding.
pub one_first : (source : List ℕ) (f g : Finding) → IsFirstFinding source f → IsFirstFinding source g → f ≡ g
one_first source f g h k = both_first f g (h.first g k.finding) (k.first f h.finding)

-- No source is both refused and accepted.
pub never_both : (source : List ℕ) (f : Finding) (file : File) (uses : Resolved) → IsFirstFinding source f → IsAccepted source file uses → ⊥
never_both source f file uses h a = a.none h.finding.phase f h.finding.violated

-- What the names of one file stand for is one value.
pub one_use : (a b : File) (u v : Resolved) (source : List ℕ) → a ≡ b → IsAccepted source a u → IsAccepted source b v → u ≡ v
one_use a b u v source e h k = one_resolved b u v (subst (λ (f : File). IsResolved f u) e h.resolved) k.resolved

-- the least finding of a phase, where the phases before have none
first_of_phase : (source : List ℕ) (p : ℕ) (f : Finding) → IsViolated source p f → ((q : ℕ) (g : Finding) → q < p → IsViolated source q g → ⊥)
    → ((g : Finding) → IsViolated source p g → by_place f g ≢ Greater) → IsFirstFinding source f
first_of_phase source p f violated earlier least = record {
  finding = record { phase = p; violated = violated; earlier = earlier };
  first = λ g h. elim (cases_lt h.phase p) [
    | inl before ↦ absurd (earlier h.phase g before h.violated)
    | inr from ↦ elim (cases_lt p h.phase) [
      | inl behind ↦ absurd (h.earlier p f behind violated)
      | inr until ↦ let same : h.phase ≡ p = omega arith in least g (subst (λ q. IsViolated source q g) same h.violated)
    ]
  ];
}

-- ---- given that a source has one file or one finding of reading

abbrev pub OneFile : Type 0
OneFile = (source : List ℕ) (a b : File) → HasFile source a → HasFile source b → a ≡ b

abbrev pub OneFinding : Type 0
OneFinding = (source : List ℕ) (p q : ℕ) (f g : Finding) → IsSourceViolated source p f → IsSourceViolated source q g → (p ≡ q) × (f ≡ g)

abbrev pub NotBoth : Type 0
NotBoth = (source : List ℕ) (file : File) (p : ℕ) (f : Finding) → HasFile source file → IsSourceViolated source p f → ⊥

module _ (one_file : OneFile) (one_finding : OneFinding) (not_both : NotBoth) (source : List ℕ) where
  -- what is violated in a source that is a file is violated in the file
  in_its_file : (file : File) (p : ℕ) (f : Finding) → HasFile source file → IsViolated source p f → IsFileViolated file p f
  in_its_file file p f has (in_text h) = absurd (not_both source file p f has h)
  in_its_file file p f has (in_file other is h) = subst (λ (a : File). IsFileViolated a p f) (one_file source other file is has) h

  -- the first of the findings at which the phases of the file stop
  pub first_in_file : (file : File) (f : Finding) (rest : List Finding) → HasFile source file → AreFirst file (f ∷ rest) → IsFirstFinding source f
  first_in_file file f rest has first =
      first_of_phase source first.phase f (in_file file has (first.findings.only f (zero, omega arith, refl)))
      (λ q g below v. first.clear.none q g below (in_its_file file q g has v))
      (λ g v. first_is_least f rest g first.findings.in_order (first.findings.all g (in_its_file file first.phase g has v)))

  -- the finding of a source that is no file
  pub first_in_text : (f : Finding) → IsSourceFinding source f → IsFirstFinding source f
  first_in_text f h =
      first_of_phase source h.phase f (in_text h.violated)
      (λ q g below v. let e : h.phase ≡ q = (one g q v).0 in omega arith)
      (λ g v. let e : f ≡ g = (one g h.phase v).1 in subst (λ (k : Finding). by_place f k ≢ Greater) e (not_before_itself f))
    where
      one : (g : Finding) (q : ℕ) → IsViolated source q g → (h.phase ≡ q) × (f ≡ g)
      one g q (in_text k) = one_finding source h.phase q f g h.violated k
      one g q (in_file file has k) = absurd (not_both source file h.phase f has h.violated)

  -- a file whose phases find nothing
  pub accepted_file : (file : File) (uses : Resolved) → HasFile source file → IsClear file uses → IsAccepted source file uses
  accepted_file file uses has clear = record { has_file = has; resolved = clear.resolved; none = λ p f v. clear.none p f (in_its_file file p f has v) }

  -- the same of a list that may be looked at by place
  pub first_told : (file : File) (found : List Finding) (other : Finding) → HasFile source file → AreFirst file found → IsFirstFinding source (slice_index_or found 0 other)
  first_told file [] other has first = absurd (first.some refl)
  first_told file (f ∷ rest) other has first = first_in_file file f rest has first
