-- What the phases of a file have found: private words of this crate.
use Rattle.std.specs.Prelude.{◌≡◌, ◌≢◌, ℕ, ◌<◌, List, [], ◌++◌, length, Contains}
use Rattle.kt_tree.specs.declared.ast.declaration.File.{File}
use Rattle.kt_model.specs.Findings.{AreFindings}
use Rattle.kt_paths.specs.FlowRules.{IsPathViolated}
use Rattle.kt_model.specs.NameUses.{Resolved}
use Rattle.kt_model.specs.Scopes.{IsResolved}
use Rattle.kt_typing.specs.Typing.{IsTypingFinding}
use Rattle.kt_model.specs.declared.finding.Finding.{Finding}
use Rattle.kt_model.specs.declared.finding.PhaseFault.{PhaseFault}
use Rattle.kt_model.specs.declared.finding.PhaseFault.TheVariants.{Findings, NoMemory}
use Rattle.kt_model.specs.declared.uses.Owner.TheVariants as owner
use Rattle.kt_sound.specs.FileSoundness.{file_classes}
use Rattle.kt_check.specs.Verdicts.{IsBodySettled}
use Rattle.kt_check.specs.Violations.{IsBodyViolated, IsFileViolated}

-- No rule of a phase before this one is violated.
pub record IsClearBefore (file : File) (phase : ℕ) : Type 0 where
  pub none : (p : ℕ) (f : Finding) → p < phase → IsFileViolated file p f → ⊥

-- The list is that of this phase, which is the first that has any.
pub record AreFirst (file : File) (found : List Finding) : Type 0 where
  pub phase : ℕ
  pub findings : AreFindings (IsFileViolated file phase) found
  pub some : found ≢ []
  pub clear : IsClearBefore file phase

-- The phases stop at the first that has findings, with all of these, or for want of memory.
abbrev pub Stops : File → PhaseFault → Type 0
Stops file (Findings found) = AreFirst file found
Stops file NoMemory = Unit {0}

-- No rule of any phase of the file is violated, these are the uses of its names, and each body is settled.
pub record IsClear (file : File) (uses : Resolved) : Type 0 where
  pub resolved : IsResolved file uses
  pub none : (p : ℕ) (f : Finding) → IsFileViolated file p f → ⊥
  pub settled : (place : ℕ) → place < length file.functions → IsBodySettled file uses place

-- A rule is violated in one of the bodies before this place.
pub record IsViolatedBefore (file : File) (uses : Resolved) (end : ℕ) (f : Finding) : Type 0 where
  pub place : ℕ
  pub before : place < end
  pub violated : IsBodyViolated file uses place f

-- exactly what is violated in the bodies before this place, in any order; and they are settled
pub record AreBefore (file : File) (uses : Resolved) (end : ℕ) (found : List Finding) : Type 0 where
  pub only : (f : Finding) → Contains found f → IsViolatedBefore file uses end f
  pub all : (f : Finding) → IsViolatedBefore file uses end f → Contains found f
  pub settled : (place : ℕ) → place < end → IsBodySettled file uses place

-- a list has what it had, and behind it what is violated in the body at this place
pub record AddsBody (file : File) (uses : Resolved) (place : ℕ) (old new : List Finding) : Type 0 where
  pub typing : List Finding
  pub flow : List Finding
  pub is : new ≡ old ++ (typing ++ flow)
  pub typed : AreFindings (IsTypingFinding file (file_classes file) uses (owner.Function place)) typing
  pub flows : AreFindings (IsPathViolated file uses (owner.Function place)) flow
  pub settled : IsBodySettled file uses place
