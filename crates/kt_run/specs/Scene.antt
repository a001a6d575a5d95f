-- What the evaluator of a file's trees owes to the written meaning, for every input: a private word of this crate.
use Rattle.std.specs.Prelude.{◌≡◌, ℕ, List, [], Result, Ok, Err}
use Rattle.std.specs.Io.KnownBytes.{Appends}
use Rattle.kt_outside.specs.Outside.{OutputState}
use Rattle.kt_outside.specs.Texts.{IsPrefix, PutsWhole, PutsFront}
use Rattle.kt_mean.specs.declared.states.Value.{Value}
use Rattle.kt_mean.specs.declared.states.Value.TheVariants as value
use Rattle.kt_mean.specs.Events.{Event, text_of}
use Rattle.kt_mean.specs.Frames.{State, Ending, Gave, Left, Over, Run, NotWrong}
use Rattle.kt_run.specs.Slots.{held}
use Rattle.kt_run.specs.declared.state.State.{State as Kept}
use Rattle.kt_run.specs.declared.state.Halt.{Halt}
use Rattle.kt_run.specs.declared.state.Halt.TheVariants as halt

-- the evaluator's state as the meaning's, with this input left
abbrev pub seen : Kept → List ℕ → State
seen s input = record { here = record { locals = held s.frame }; calls = s.calls; steps = s.steps; cells = s.cells; text = s.text; input = input }

-- the evaluator's state and the output
pub record Scene : Type 0 where
  pub state : Kept
  pub out : OutputState

abbrev pub scene : Kept → OutputState → Scene
scene state out = record { state = state; out = out }

-- No input leads to a wrong use.
pub record Right {A : Type 0} (p : Run A) (s : Kept) : Type 0 where
  pub right : (input : List ℕ) → NotWrong (p (seen s input)).ending

-- The evaluation came to its end, with these events, whatever the input.
pub record Ends {A : Type 0} (p : Run A) (s : Scene) (ending : List ℕ → Ending A) (t : Scene) : Type 0 where
  pub events : List Event
  pub puts : PutsWhole s.out t.out (text_of events)
  pub is : (input : List ℕ) → p (seen s.state input) ≡ record { ending = ending input; events = events }

-- A put failed: a front of the evaluation's text was put, whatever the input.
pub record FailsToPut {A : Type 0} (p : Run A) (s t : Scene) : Type 0 where
  pub front : (input : List ℕ) → PutsFront s.out t.out (text_of (p (seen s.state input)).events)

-- a front of a text was put, and no put failed
pub record PutsSome (old new : OutputState) (text : List ℕ) : Type 0 where
  pub put : List ℕ
  pub appended : Appends old.written new.written put
  pub front : IsPrefix put text
  pub faults : new.faults ≡ old.faults

-- There was no memory: a front of the evaluation's text was put, whatever the input.
pub record RunsShort {A : Type 0} (p : Run A) (s t : Scene) : Type 0 where
  pub front : (input : List ℕ) → PutsSome s.out t.out (text_of (p (seen s.state input)).events)

abbrev pub Runs : {A : Type 0} → Run A → Scene → Result A Halt → Scene → Type 0
Runs p s (Ok a) t = Ends p s (λ input. Gave a (seen t.state input)) t
Runs p s (Err (halt.Way w)) t = Ends p s (λ input. Left w (seen t.state input)) t
Runs p s (Err (halt.Over k)) t = Ends p s (λ input. Over k) t
Runs p s (Err halt.OutputFault) t = FailsToPut p s t
Runs p s (Err halt.NoMemory) t = RunsShort p s t

-- what touches the state alone
abbrev pub Quiet : {A : Type 0} → Run A → Kept → Result A Halt → Kept → Type 0
Quiet p old (Ok a) new = (input : List ℕ) → p (seen old input) ≡ record { ending = Gave a (seen new input); events = [] }
Quiet p old (Err (halt.Way w)) new = (input : List ℕ) → p (seen old input) ≡ record { ending = Left w (seen new input); events = [] }
Quiet p old (Err (halt.Over k)) new = (input : List ℕ) → p (seen old input) ≡ record { ending = Over k; events = [] }
Quiet p old (Err halt.OutputFault) new = ⊥
Quiet p old (Err halt.NoMemory) new = Unit {0}

-- what putting a text and nothing else did
abbrev pub Prints : OutputState → OutputState → List ℕ → Result Value Halt → Type 0
Prints old new text (Ok v) = (v ≡ value.Unit) × PutsWhole old new text
Prints old new text (Err h) = (h ≡ halt.OutputFault) × PutsFront old new text
