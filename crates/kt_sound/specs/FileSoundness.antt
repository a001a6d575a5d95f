-- The theorem of soundness for files in which no rule on bodies is violated, over the definitions alone. It covers the forms that the theorem on bodies covers.
use Rattle.std.specs.Prelude.{◌≡◌, ℕ, ◌<◌, List, length, Some}
use Rattle.kt_tree.specs.declared.ast.declaration.File.{File}
use Rattle.kt_model.specs.Classes.{Classes, written}
use Rattle.kt_model.specs.MemberRules.{IsMisdeclared}
use Rattle.kt_model.specs.Outlines.{outlines_of}
use Rattle.kt_model.specs.NameUses.{Resolved}
use Rattle.kt_model.specs.Scopes.{IsResolved}
use Rattle.kt_typing.specs.Typing.{IsTypingFinding, SettlesLeft}
use Rattle.kt_paths.specs.FlowRules.{IsPathViolated, SettlesEntered}
use Rattle.kt_model.specs.Bodies.{owner_parameters, owner_trees}
use Rattle.kt_model.specs.declared.finding.Finding.{Finding}
use Rattle.kt_model.specs.declared.uses.Owner.TheVariants as owner
use Rattle.kt_mean.specs.Frames.{NotWrong}
use Rattle.kt_mean.specs.Evaluation.{Program}
use Rattle.kt_mean.specs.Programs.{main_of}
use Rattle.kt_mean.specs.FileRuns.{IsProgram}
use Rattle.kt_mean.specs.WholeRun.{whole}

-- for each class of a file, the built-in ones first, its written supertypes
abbrev pub file_classes : File → Classes
file_classes file = written (outlines_of file)

-- No typing rule and no rule along paths is violated in the body of the function at this place, and which of its trees are entered and left is settled.
pub record IsBodyAccepted (file : File) (uses : Resolved) (place : ℕ) : Type 0 where
  pub typed : (f : Finding) → IsTypingFinding file (file_classes file) uses (owner.Function place) f → ⊥
  pub flows : (f : Finding) → IsPathViolated file uses (owner.Function place) f → ⊥
  pub entered : SettlesEntered (owner_parameters uses (owner.Function place)) (owner_trees file uses (owner.Function place))
  pub left : SettlesLeft (owner_parameters uses (owner.Function place)) (owner_trees file uses (owner.Function place))

-- The names of a file are resolved, no rule on members is violated, by which each function has a body, it has a `main`, and each of its bodies is accepted.
pub record AreBodiesAccepted (file : File) (uses : Resolved) (main : ℕ) : Type 0 where
  pub resolved : IsResolved file uses
  pub members : (f : Finding) → IsMisdeclared file f → ⊥
  pub is_main : main_of file ≡ Some main
  pub bodies : (place : ℕ) → place < length file.functions → IsBodyAccepted file uses place

-- Such a file has a program.
abbrev pub HaveProgram : Type 0
HaveProgram = (file : File) (uses : Resolved) (main : ℕ) → AreBodiesAccepted file uses main → (p : Program) × IsProgram file uses p

-- The run of its program never ends by a wrong use.
abbrev pub FilesNeverWrong : Type 0
FilesNeverWrong =
    (file : File) (uses : Resolved) (main : ℕ) (p : Program) (steps : ℕ) (input : List ℕ) → AreBodiesAccepted file uses main → IsProgram file uses p
    → NotWrong (whole p steps input).ending

-- It has one program.
abbrev pub OneProgram : Type 0
OneProgram = (file : File) (uses other : Resolved) (p q : Program) → IsResolved file uses → IsResolved file other → IsProgram file uses p → IsProgram file other q → p ≡ q
