-- Laws of the meaning of bodies.
use Rattle.std.specs.Prelude.{◌≡◌, ℕ, ◌≤◌, ℤ, neg_ℤ, ◌+ℤ◌, ◌-ℤ◌, ◌*ℤ◌, FitsSigned, List, [], ◌∷◌}
use Rattle.std.specs.Int.{w32, int_wrap}
use Rattle.kt_tree.specs.declared.ast.declaration.File.{File}
use Rattle.kt_model.specs.NameUses.{Resolved}
use Rattle.kt_tree.specs.declared.ast.part.Sign.TheVariants.{Minus}
use Rattle.kt_tree.specs.declared.ast.part.Arithmetic.TheVariants.{Subtract, Multiply}
use Rattle.kt_model.specs.BodyTrees.{Tree, Sum', Arithmetic', Sign'}
use Rattle.kt_mean.specs.declared.states.Value.TheVariants.{Int}
use Rattle.kt_mean.specs.Frames.{State, pure}
use Rattle.kt_mean.specs.Evaluation.{Program, operated, eval, entered, meaning}
use Rattle.kt_mean.specs.FileRuns.{IsProgram}
use Rattle.kt_mean.specs.WholeRun.{whole, whole_within}

-- Each entering takes a step, so any number from the steps left on gives the same.
abbrev pub DepthIsNoPart : Type 0
DepthIsNoPart = (p : Program) (n m : ℕ) (t : Tree) (s : State) → s.steps ≤ n → s.steps ≤ m → eval p n t s ≡ eval p m t s

-- The meaning of a tree is its entering, with the meaning of its parts.
abbrev pub MeaningUnfolds : Type 0
MeaningUnfolds = (p : Program) (t : Tree) (s : State) → meaning p t s ≡ entered p (meaning p) t s

-- So a whole run is `main` with the meaning of its trees.
abbrev pub WholeIsMeaning : Type 0
WholeIsMeaning = (p : Program) (steps : ℕ) (input : List ℕ) → whole p steps input ≡ whole_within p (meaning p) steps input

-- A file whose names are resolved has one run, of so many steps on this input.
abbrev pub OneRun : Type 0
OneRun = (file : File) (uses : Resolved) (p q : Program) (steps : ℕ) (input : List ℕ) → IsProgram file uses p → IsProgram file uses q → whole p steps input ≡ whole q steps input

-- On numbers of 32 bits each operation gives the mathematical one's result as a number of 32 bits: its remainder modulo 2 ^ 32 that lies from -2 ^ 31 on,
-- below 2 ^ 31.
pub record NumbersWrap (a b : ℤ) : Type 0 where
  pub sum : operated Sum' (Int a ∷ Int b ∷ []) ≡ pure (Int (int_wrap w32 (a +ℤ b)))
  pub difference : operated (Arithmetic' Subtract) (Int a ∷ Int b ∷ []) ≡ pure (Int (int_wrap w32 (a -ℤ b)))
  pub product : operated (Arithmetic' Multiply) (Int a ∷ Int b ∷ []) ≡ pure (Int (int_wrap w32 (a *ℤ b)))
  pub negation : operated (Sign' Minus) (Int a ∷ []) ≡ pure (Int (int_wrap w32 (neg_ℤ a)))

abbrev pub AllNumbersWrap : Type 0
AllNumbersWrap = (a b : ℤ) → FitsSigned w32 a → FitsSigned w32 b → NumbersWrap a b
