-- The verdict on a source, by the written rules.
use Rattle.std.specs.Prelude.{◌≡◌, ℕ, ◌<◌, List, length, Some}
use Rattle.kt_tree.specs.declared.ast.declaration.File.{File}
use Rattle.kt_model.specs.Bodies.{owner_parameters, owner_trees}
use Rattle.kt_paths.specs.FlowRules.{SettlesEntered}
use Rattle.kt_typing.specs.Typing.{SettlesLeft}
use Rattle.kt_model.specs.NameUses.{Resolved}
use Rattle.kt_model.specs.declared.uses.Owner.TheVariants as owner
use Rattle.kt_mean.specs.Programs.{main_of}
use Rattle.kt_check.specs.Violations.{IsFirstFinding, IsAccepted}
use Rattle.kt_check.specs.declared.verdict.Verdict.{Verdict}
use Rattle.kt_check.specs.declared.verdict.Verdict.TheVariants.{Accepted, Refused}

-- It is settled which trees of the body of the function at this place are entered, and out of which of them a path leads.
pub record IsBodySettled (file : File) (uses : Resolved) (place : ℕ) : Type 0 where
  pub entered : SettlesEntered (owner_parameters uses (owner.Function place)) (owner_trees file uses (owner.Function place))
  pub left : SettlesLeft (owner_parameters uses (owner.Function place)) (owner_trees file uses (owner.Function place))

-- A source is accepted as this file with these uses: no rule is violated, `main` is the function at that place, and each body is settled.
pub record IsAcceptedFile (source : List ℕ) (file : File) (uses : Resolved) (main : ℕ) : Type 0 where
  pub accepted : IsAccepted source file uses
  pub is_main : main_of file ≡ Some main
  pub settled : (place : ℕ) → place < length file.functions → IsBodySettled file uses place

abbrev pub IsVerdict : List ℕ → Verdict → Type 0
IsVerdict source (Accepted it) = IsAcceptedFile source it.file it.uses it.main
IsVerdict source (Refused finding) = IsFirstFinding source finding
