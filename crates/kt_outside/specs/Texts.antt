-- What putting a whole text did to an output. It says nothing of pieces.
use Rattle.std.specs.Prelude.{◌≡◌, ℕ, ◌+◌, ◌<◌, ◌≤◌, List, ◌++◌, length, Result, MatchResult}
use Rattle.std.specs.Io.KnownBytes.{Appends}
use Rattle.kt_outside.specs.Outside.{OutputState, Rose}

pub record IsPrefix (front whole : List ℕ) : Type 0 where
  pub rest : List ℕ
  pub whole_is : whole ≡ front ++ rest

-- These bytes were put, and the output vouches for at most so many fewer.
pub record PutsBytes (old new : OutputState) (bytes : List ℕ) : Type 0 where
  pub appended : Appends old.written new.written bytes
  pub vouched : old.vouched ≤ new.vouched + length bytes

-- The whole text was put.
pub record PutsWhole (old new : OutputState) (text : List ℕ) : Type 0 where
  pub puts : PutsBytes old new text
  pub faults : new.faults ≡ old.faults

-- A front of the text was put, and then a put failed.
pub record PutsFront (old new : OutputState) (text : List ℕ) : Type 0 where
  pub put : List ℕ
  pub appended : Appends old.written new.written put
  pub front : IsPrefix put text
  pub rose : Rose old.faults new.faults
  pub not_vouched : old.vouched < length text

abbrev pub PutsAll : {E : Type 0} → OutputState → OutputState → List ℕ → Result (Unit {0}) E → Type 0
PutsAll old new text r = MatchResult r (λ _. PutsWhole old new text) (λ _. PutsFront old new text)
