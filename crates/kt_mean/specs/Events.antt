-- What a run asks and prints, in order. This file knows no language.
use Rattle.std.specs.Prelude.{ℕ, List, [], ◌∷◌, ◌++◌}
use Rattle.kt_mean.specs.declared.states.RunEnding.{RunEnding}

-- `Asked` is the entering of a `readLine`; nothing asks yet.
pub data Event : Type 0 where
  Asked : Event
  Printed : List ℕ → Event

-- the text that is printed
abbrev pub text_of : List Event → List ℕ
text_of [] = []
text_of (Asked ∷ events) = text_of events
text_of (Printed text ∷ events) = text ++ text_of events

-- the course of a run: its events, and how it ends
pub record RunCourse : Type 0 where
  pub events : List Event
  pub ending : RunEnding
