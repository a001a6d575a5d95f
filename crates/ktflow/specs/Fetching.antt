-- What the fetch of a source does. This project's own.
use Rattle.std.specs.Prelude.{◌≡◌, ℕ, ◌≤◌, List, length, false, IfSome}
use Rattle.kt_outside.specs.Outside.{LibraryState, Rose}
use Rattle.ktflow.specs.Program.{most_fetched, counted}
use Rattle.ktflow.specs.declared.source.FetchFault.{FetchFault}
use Rattle.ktflow.specs.declared.source.FetchFault.TheVariants.{Failed, NoMemory}

-- The bytes that count were fetched.
pub record FetchesAll (old new : LibraryState) (name source : List ℕ) : Type 0 where
  pub bytes : IfSome (old.told name) (λ told. source ≡ counted told)
  pub within : length source ≤ most_fetched
  pub faults : new.faults ≡ old.faults

-- A fetch failed.
pub record FailsToFetch (old new : LibraryState) (name : List ℕ) : Type 0 where
  pub rose : Rose old.faults new.faults
  pub not_vouched : old.vouches name ≡ false

abbrev pub FetchFails : LibraryState → LibraryState → List ℕ → FetchFault → Type 0
FetchFails old new name Failed = FailsToFetch old new name
FetchFails old new name NoMemory = new.faults ≡ old.faults
