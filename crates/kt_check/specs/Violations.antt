-- The rules of the language by phases, the findings of a source, and which sources are accepted.
--
-- A phase's rules are looked at only where the phases before it found nothing. The phases and their order are this project's own: 1 the bytes, 2 the
-- tokens, 3 the syntax, 4 the declarations, 5 their members, 6 the names in bodies, 7 left sides, 8 the limits of bodies, 9 types and the paths of
-- bodies. Each rule is a condition on the source or on its file; the code goes from phase to phase, and stops at the first that finds anything.
use Rattle.std.specs.Prelude.{◌≢◌, ◌⊎◌, ℕ, ◌<◌, List, length}
use Rattle.std.specs.declared.cmp.Ordering.TheVariants as ordering
use Rattle.kt_tree.specs.declared.ast.declaration.File.{File}
use Rattle.kt_source.specs.SourceRules.{HasFile, IsSourceViolated}
use Rattle.kt_model.specs.DeclarationRules as declarations
use Rattle.kt_paths.specs.FlowRules.{IsSizeViolated, IsPathViolated}
use Rattle.kt_model.specs.MemberRules.{IsMisdeclared}
use Rattle.kt_model.specs.NameRules.{IsNameViolated}
use Rattle.kt_model.specs.NameUses.{Resolved}
use Rattle.kt_model.specs.Order.{by_place}
use Rattle.kt_model.specs.Scopes.{IsResolved}
use Rattle.kt_shape.specs.ShapeRules.{IsShapeViolated}
use Rattle.kt_typing.specs.Typing.{IsTypingFinding}
use Rattle.kt_model.specs.declared.finding.Finding.{Finding}
use Rattle.kt_model.specs.declared.uses.Owner.TheVariants as owner
use Rattle.kt_sound.specs.FileSoundness.{file_classes}

-- A rule of typing or of paths is violated in the body of the function at this place.
abbrev pub IsBodyViolated : File → Resolved → ℕ → Finding → Type 0
IsBodyViolated file uses place f =
    IsTypingFinding file (file_classes file) uses (owner.Function place) f ⊎ IsPathViolated file uses (owner.Function place) f

-- A rule on a file is violated, in this phase. The last two phases need what the names of the file stand for.
pub data IsFileViolated (file : File) : ℕ → Finding → Type 0 where
  in_declarations : (f : Finding) → declarations.IsViolated file f → IsFileViolated file 4 f
  in_members : (f : Finding) → IsMisdeclared file f → IsFileViolated file 5 f
  in_names : (f : Finding) → IsNameViolated file f → IsFileViolated file 6 f
  in_shapes : (f : Finding) → IsShapeViolated file f → IsFileViolated file 7 f
  in_sizes : (f : Finding) (uses : Resolved) → IsResolved file uses → IsSizeViolated file uses (length (file_classes file)) f → IsFileViolated file 8 f
  in_body : (f : Finding) (uses : Resolved) (place : ℕ) → IsResolved file uses → place < length file.functions → IsBodyViolated file uses place f → IsFileViolated file 9 f

-- A rule on a source is violated, in this phase.
pub data IsViolated (source : List ℕ) (phase : ℕ) (f : Finding) : Type 0 where
  in_text : IsSourceViolated source phase f → IsViolated source phase f
  in_file : (file : File) → HasFile source file → IsFileViolated file phase f → IsViolated source phase f

-- a finding: a violated rule of the first phase that has any
pub record IsFinding (source : List ℕ) (f : Finding) : Type 0 where
  pub phase : ℕ
  pub violated : IsViolated source phase f
  pub earlier : (p : ℕ) (g : Finding) → p < phase → IsViolated source p g → ⊥

-- the first finding of a source
pub record IsFirstFinding (source : List ℕ) (f : Finding) : Type 0 where
  pub finding : IsFinding source f
  pub first : (g : Finding) → IsFinding source g → by_place f g ≢ ordering.Greater

-- A source is accepted where it is a file, what its names stand for is known, and no rule of any phase is violated.
pub record IsAccepted (source : List ℕ) (file : File) (uses : Resolved) : Type 0 where
  pub has_file : HasFile source file
  pub resolved : IsResolved file uses
  pub none : (p : ℕ) (f : Finding) → IsViolated source p f → ⊥
