-- What a call did to an input. This project's own; it says nothing of pieces.
use Rattle.std.specs.Prelude.{◌≡◌, ℕ, List, Option, IfSome}
use Rattle.std.specs.Io.KnownBytes.{Consumes}
use Rattle.kt_outside.specs.Outside.{InputState}

-- the bytes are the known ones, where some are known
abbrev pub IsKnown : Option (List ℕ) → List ℕ → Type 0
IsKnown known bytes = IfSome known (λ xs. xs ≡ bytes)

-- These bytes were taken, and those are left: the told ones, where they are told.
pub record TakesBytes (old new : InputState) (taken left : List ℕ) : Type 0 where
  pub consumed : Consumes old.left new.left taken
  pub left_is : IsKnown new.left left
  pub vouches : new.vouches ≡ old.vouches
