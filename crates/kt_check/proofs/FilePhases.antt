-- The phases of a file: which rules belong to each, and what it is to stop at one.
use Rattle.std.proofs.Common.{◌≡◌, ◌<◌, ◌+◌, ℕ, List, length, inl, inr, refl, sym, ap, subst, ◌∙◌, arith, Result, Ok, Err, IsErrAnd, IfErr}
use Rattle.std.proofs.lemmas.Bool.{cases_lt}
use Rattle.std.proofs.lemmas.List.{length-map}
use Rattle.kt_tree.specs.declared.ast.declaration.File.{File}
use Rattle.kt_model.specs.Classes.{Outline, Outlines, outline, outlines}
use Rattle.kt_model.specs.DeclarationRules as declarations
use Rattle.kt_model.specs.Findings.{IsFault}
use Rattle.kt_paths.specs.FlowRules.{IsSizeViolated}
use Rattle.kt_model.specs.MemberRules.{IsMisdeclared}
use Rattle.kt_model.specs.NameRules.{IsNameViolated}
use Rattle.kt_model.specs.NameUses.{Resolved}
use Rattle.kt_model.specs.Outlines.{outlines_of}
use Rattle.kt_model.specs.Scopes.{IsResolved}
use Rattle.kt_shape.specs.ShapeRules.{IsShapeViolated}
use Rattle.kt_model.specs.declared.class_table.ClassRow.{ClassRow}
use Rattle.kt_model.specs.declared.finding.Finding.{Finding}
use Rattle.kt_model.specs.declared.finding.PhaseFault.{PhaseFault}
use Rattle.kt_model.specs.declared.finding.PhaseFault.TheVariants.{Findings, NoMemory}
use Rattle.kt_sound.specs.FileSoundness.{file_classes}
use Rattle.kt_sound.proofs.OneFile.{one_resolved}
use Rattle.kt_check.specs.Phases.{IsClearBefore, Stops, IsViolatedBefore}
use Rattle.kt_check.specs.Violations.{IsBodyViolated, IsFileViolated, in_declarations, in_members, in_names, in_shapes, in_sizes, in_body}

-- a violated rule, by its phase
data Violation (file : File) (p : ℕ) (f : Finding) : Type 0 where
  by_declarations : p ≡ 4 → declarations.IsViolated file f → Violation file p f
  by_members : p ≡ 5 → IsMisdeclared file f → Violation file p f
  by_names : p ≡ 6 → IsNameViolated file f → Violation file p f
  by_shapes : p ≡ 7 → IsShapeViolated file f → Violation file p f
  by_sizes : p ≡ 8 → (uses : Resolved) → IsResolved file uses → IsSizeViolated file uses (length (file_classes file)) f → Violation file p f
  by_body : p ≡ 9 → (uses : Resolved) (place : ℕ) → IsResolved file uses → place < length file.functions → IsBodyViolated file uses place f → Violation file p f

violation : (file : File) (p : ℕ) (f : Finding) → IsFileViolated file p f → Violation file p f
violation file _ _ (in_declarations f h) = by_declarations refl h
violation file _ _ (in_members f h) = by_members refl h
violation file _ _ (in_names f h) = by_names refl h
violation file _ _ (in_shapes f h) = by_shapes refl h
violation file _ _ (in_sizes f uses r h) = by_sizes refl uses r h
violation file _ _ (in_body f uses place r within h) = by_body refl uses place r within h

-- the phases of a file begin at the fourth
pub phase_from : (file : File) (p : ℕ) (f : Finding) → IsFileViolated file p f → 3 < p
phase_from file p f v = elim (violation file p f v) [
  | by_declarations e h ↦ omega (arith, e)
  | by_members e h ↦ omega (arith, e)
  | by_names e h ↦ omega (arith, e)
  | by_shapes e h ↦ omega (arith, e)
  | by_sizes e uses r h ↦ omega (arith, e)
  | by_body e uses place r within h ↦ omega (arith, e)
]

-- and end with the ninth
phase_to : (file : File) (p : ℕ) (f : Finding) → IsFileViolated file p f → p < 10
phase_to file p f v = elim (violation file p f v) [
  | by_declarations e h ↦ omega (arith, e)
  | by_members e h ↦ omega (arith, e)
  | by_names e h ↦ omega (arith, e)
  | by_shapes e h ↦ omega (arith, e)
  | by_sizes e uses r h ↦ omega (arith, e)
  | by_body e uses place r within h ↦ omega (arith, e)
]

-- ---- from a phase's findings to its rules

declared : (file : File) (p : ℕ) (f : Finding) → p ≡ 4 → Violation file p f → declarations.IsViolated file f
declared file p f is (by_declarations e h) = h
declared file p f is (by_members e h) = absurd (omega (arith, e, is))
declared file p f is (by_names e h) = absurd (omega (arith, e, is))
declared file p f is (by_shapes e h) = absurd (omega (arith, e, is))
declared file p f is (by_sizes e uses r h) = absurd (omega (arith, e, is))
declared file p f is (by_body e uses place r within h) = absurd (omega (arith, e, is))

misdeclared : (file : File) (p : ℕ) (f : Finding) → p ≡ 5 → Violation file p f → IsMisdeclared file f
misdeclared file p f is (by_declarations e h) = absurd (omega (arith, e, is))
misdeclared file p f is (by_members e h) = h
misdeclared file p f is (by_names e h) = absurd (omega (arith, e, is))
misdeclared file p f is (by_shapes e h) = absurd (omega (arith, e, is))
misdeclared file p f is (by_sizes e uses r h) = absurd (omega (arith, e, is))
misdeclared file p f is (by_body e uses place r within h) = absurd (omega (arith, e, is))

named : (file : File) (p : ℕ) (f : Finding) → p ≡ 6 → Violation file p f → IsNameViolated file f
named file p f is (by_declarations e h) = absurd (omega (arith, e, is))
named file p f is (by_members e h) = absurd (omega (arith, e, is))
named file p f is (by_names e h) = h
named file p f is (by_shapes e h) = absurd (omega (arith, e, is))
named file p f is (by_sizes e uses r h) = absurd (omega (arith, e, is))
named file p f is (by_body e uses place r within h) = absurd (omega (arith, e, is))

shaped : (file : File) (p : ℕ) (f : Finding) → p ≡ 7 → Violation file p f → IsShapeViolated file f
shaped file p f is (by_declarations e h) = absurd (omega (arith, e, is))
shaped file p f is (by_members e h) = absurd (omega (arith, e, is))
shaped file p f is (by_names e h) = absurd (omega (arith, e, is))
shaped file p f is (by_shapes e h) = h
shaped file p f is (by_sizes e uses r h) = absurd (omega (arith, e, is))
shaped file p f is (by_body e uses place r within h) = absurd (omega (arith, e, is))

sized : (file : File) (uses : Resolved) (p : ℕ) (f : Finding) → IsResolved file uses → p ≡ 8 → Violation file p f → IsSizeViolated file uses (length (file_classes file)) f
sized file uses p f here is (by_declarations e h) = absurd (omega (arith, e, is))
sized file uses p f here is (by_members e h) = absurd (omega (arith, e, is))
sized file uses p f here is (by_names e h) = absurd (omega (arith, e, is))
sized file uses p f here is (by_shapes e h) = absurd (omega (arith, e, is))
sized file uses p f here is (by_sizes e other r h) = subst (λ u. IsSizeViolated file u (length (file_classes file)) f) (one_resolved file other uses r here) h
sized file uses p f here is (by_body e other place r within h) = absurd (omega (arith, e, is))

of_bodies : (file : File) (uses : Resolved) (p : ℕ) (f : Finding) → IsResolved file uses → p ≡ 9 → Violation file p f → IsViolatedBefore file uses (length file.functions) f
of_bodies file uses p f here is (by_declarations e h) = absurd (omega (arith, e, is))
of_bodies file uses p f here is (by_members e h) = absurd (omega (arith, e, is))
of_bodies file uses p f here is (by_names e h) = absurd (omega (arith, e, is))
of_bodies file uses p f here is (by_shapes e h) = absurd (omega (arith, e, is))
of_bodies file uses p f here is (by_sizes e other r h) = absurd (omega (arith, e, is))
of_bodies file uses p f here is (by_body e other place r within h) =
    record { place = place; before = within; violated = subst (λ u. IsBodyViolated file u place f) (one_resolved file other uses r here) h }

-- ---- no finding before a phase

pub clear_first : (file : File) → IsClearBefore file 4
clear_first file = record { none = λ p f below v. let from : 3 < p = phase_from file p f v in absurd (omega arith) }

clear_next : (file : File) (p : ℕ) → IsClearBefore file p → ((f : Finding) → IsFileViolated file p f → ⊥) → IsClearBefore file (p + 1)
clear_next file p clear none = record {
  none = λ q f below v. elim (cases_lt q p) [
    | inl before ↦ clear.none q f before v
    | inr from ↦ let same : q ≡ p = omega arith in none f (subst (λ n. IsFileViolated file n f) same v)
  ];
}

pub clear_declarations : (file : File) → ((f : Finding) → declarations.IsViolated file f → ⊥) → IsClearBefore file 5
clear_declarations file none = clear_next file 4 (clear_first file) (λ f v. none f (declared file 4 f refl (violation file 4 f v)))

pub clear_members : (file : File) → IsClearBefore file 5 → ((f : Finding) → IsMisdeclared file f → ⊥) → IsClearBefore file 6
clear_members file clear none = clear_next file 5 clear (λ f v. none f (misdeclared file 5 f refl (violation file 5 f v)))

pub clear_names : (file : File) → IsClearBefore file 6 → ((f : Finding) → IsNameViolated file f → ⊥) → IsClearBefore file 7
clear_names file clear none = clear_next file 6 clear (λ f v. none f (named file 6 f refl (violation file 6 f v)))

pub clear_shapes : (file : File) → IsClearBefore file 7 → ((f : Finding) → IsShapeViolated file f → ⊥) → IsClearBefore file 8
clear_shapes file clear none = clear_next file 7 clear (λ f v. none f (shaped file 7 f refl (violation file 7 f v)))

pub clear_sizes : (file : File) (uses : Resolved) → IsResolved file uses → IsClearBefore file 8
    → ((f : Finding) → IsSizeViolated file uses (length (file_classes file)) f → ⊥) → IsClearBefore file 9
clear_sizes file uses here clear none = clear_next file 8 clear (λ f v. none f (sized file uses 8 f here refl (violation file 8 f v)))

pub clear_bodies : (file : File) (uses : Resolved) → IsResolved file uses → IsClearBefore file 9
    → ((f : Finding) → IsViolatedBefore file uses (length file.functions) f → ⊥) → (p : ℕ) (f : Finding) → IsFileViolated file p f → ⊥
clear_bodies file uses here clear none p f v =
    let all = clear_next file 9 clear (λ g w. none g (of_bodies file uses 9 g here refl (violation file 9 g w))) in all.none p f (phase_to file p f v) v

-- ---- stopping at a phase

stops : (file : File) (p : ℕ) (V : Finding → Type 0) (e : PhaseFault) → ((f : Finding) → V f → IsFileViolated file p f) → ((f : Finding) → IsFileViolated file p f → V f)
    → IsClearBefore file p → IsFault V e → Stops file e
stops file p V (Findings found) into from clear h = record {
  phase = p;
  findings = record { in_order = h.0.in_order; only = λ f c. into f (h.0.only f c); all = λ f v. h.0.all f (from f v) };
  some = h.1;
  clear = clear;
}
stops file p V NoMemory into from clear h = tt

pub stops_at_declarations : (file : File) (e : PhaseFault) → IsFault (declarations.IsViolated file) e → Stops file e
stops_at_declarations file e h =
    stops file 4 (declarations.IsViolated file) e (λ f v. in_declarations f v) (λ f v. declared file 4 f refl (violation file 4 f v)) (clear_first file) h

pub stops_at_members : (file : File) (e : PhaseFault) → IsClearBefore file 5 → IsFault (IsMisdeclared file) e → Stops file e
stops_at_members file e clear h =
    stops file 5 (IsMisdeclared file) e (λ f v. in_members f v) (λ f v. misdeclared file 5 f refl (violation file 5 f v)) clear h

pub stops_at_names : (file : File) (e : PhaseFault) → IsClearBefore file 6 → IsFault (IsNameViolated file) e → Stops file e
stops_at_names file e clear h =
    stops file 6 (IsNameViolated file) e (λ f v. in_names f v) (λ f v. named file 6 f refl (violation file 6 f v)) clear h

pub stops_at_shapes : (file : File) (e : PhaseFault) → IsClearBefore file 7 → IsFault (IsShapeViolated file) e → Stops file e
stops_at_shapes file e clear h =
    stops file 7 (IsShapeViolated file) e (λ f v. in_shapes f v) (λ f v. shaped file 7 f refl (violation file 7 f v)) clear h

pub stops_at_sizes : (file : File) (uses : Resolved) (e : PhaseFault) → IsResolved file uses → IsClearBefore file 8
    → IsFault (IsSizeViolated file uses (length (file_classes file))) e → Stops file e
stops_at_sizes file uses e here clear h =
    stops file 8 (IsSizeViolated file uses (length (file_classes file))) e (λ f v. in_sizes f uses here v) (λ f v. sized file uses 8 f here refl (violation file 8 f v)) clear h

pub stops_at_bodies : (file : File) (uses : Resolved) (e : PhaseFault) → IsResolved file uses → IsClearBefore file 9
    → IsFault (IsViolatedBefore file uses (length file.functions)) e → Stops file e
stops_at_bodies file uses e here clear h =
    stops file 9 (IsViolatedBefore file uses (length file.functions)) e (λ f v. in_body f uses v.place here v.before v.violated) (λ f v. of_bodies file uses 9 f here refl (violation file 9 f v)) clear h

-- ---- the classes of a table

-- a table has as many rows as its file has classes
pub as_many : (file : File) (table : List ClassRow) → outlines table ≡ outlines_of file → length table ≡ length (file_classes file)
as_many file table e =
    sym (length-map table outline) ∙ ap (λ (os : Outlines). length os) e ∙ sym (length-map (outlines_of file) (λ (o : Outline). o.supers))

-- the limits by the rows of a table
pub sizes_none : (file : File) (uses : Resolved) (table : List ClassRow) → outlines table ≡ outlines_of file → ((f : Finding) → IsSizeViolated file uses (length table) f → ⊥)
    → (f : Finding) → IsSizeViolated file uses (length (file_classes file)) f → ⊥
sizes_none file uses table e none = subst (λ n. (f : Finding) → IsSizeViolated file uses n f → ⊥) (as_many file table e) none

pub sizes_fault : (file : File) (uses : Resolved) (table : List ClassRow) (fault : PhaseFault) → outlines table ≡ outlines_of file → IsFault (IsSizeViolated file uses (length table)) fault
    → IsFault (IsSizeViolated file uses (length (file_classes file))) fault
sizes_fault file uses table fault e h = subst (λ n. IsFault (IsSizeViolated file uses n) fault) (as_many file table e) h

-- ---- a fault that is passed on

pub passed_on : {A : Type 0} (file : File) (e : PhaseFault) (r : Result A PhaseFault) → IsErrAnd r (λ y. y ≡ e) → Stops file e → IfErr r (Stops file)
passed_on file e (Ok a) is h = tt
passed_on file e (Err y) is h = subst (Stops file) (sym is) h
