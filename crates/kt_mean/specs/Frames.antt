-- States, how an evaluation ends, and what it asks and prints on the way.
--
-- A frame belongs to one call. An evaluation answers whole states; what it printed is in the outcome and in no state. What leaves a body before its end
-- is `Left`, and can be caught; a limit ends a run at once, and can't; `Wrong` is a wrong use, which no accepted program comes to. The code changes one
-- state, and has no answer for a wrong use.
use Rattle.std.specs.Prelude.{ℕ, List, [], ◌++◌, Option, None, nat_eq, if◌then◌else◌}
use Rattle.kt_mean.specs.Events.{Event}
use Rattle.kt_mean.specs.declared.states.Value.{Value}
use Rattle.kt_mean.specs.declared.states.Way.{Way}
use Rattle.kt_mean.specs.declared.states.Limit.{Limit}

-- what each local holds, by its declaration: a value or nothing
abbrev pub Locals : Type 0
Locals = ℕ → Option Value

abbrev pub no_locals : Locals
no_locals x = None

-- the same locals, but for one
abbrev pub with_local : Locals → ℕ → Option Value → Locals
with_local locals x o y = if nat_eq y x then o else locals y

pub record Frame : Type 0 where
  pub locals : Locals

-- The frame of the call under way; how many calls are under way, that one among them; the steps left; the cells that objects have taken, and the bytes of
-- the texts that the run made; the bytes left of the input. The frames of callers wait in the recursion.
pub record State : Type 0 where
  pub here : Frame
  pub calls : ℕ
  pub steps : ℕ
  pub cells : ℕ
  pub text : ℕ
  pub input : List ℕ

pub data Ending (A : Type 0) : Type 0 where
  Gave : A → State → Ending A
  Left : Way → State → Ending A
  Over : Limit → Ending A
  Wrong : Ending A

pub record Outcome (A : Type 0) : Type 0 where
  pub ending : Ending A
  pub events : List Event

abbrev pub Run : Type 0 → Type 0
Run A = State → Outcome A

abbrev pub ending_after : {A B : Type 0} → Ending A → (A → Run B) → Ending B
ending_after (Gave a s) f = (f a s).ending
ending_after (Left k s) f = Left k s
ending_after (Over k) f = Over k
ending_after Wrong f = Wrong

abbrev pub events_after : {A B : Type 0} → Ending A → (A → Run B) → List Event
events_after (Gave a s) f = (f a s).events
events_after (Left k s) f = []
events_after (Over k) f = []
events_after Wrong f = []

-- one evaluation, then another with its value
infixl 10 ◌>>=◌
unfoldable pub ◌>>=◌ : {A B : Type 0} → Run A → (A → Run B) → Run B
p >>= f = λ s. record { ending = ending_after (p s).ending f; events = (p s).events ++ events_after (p s).ending f }

unfoldable pub pure : {A : Type 0} → A → Run A
pure a = λ s. record { ending = Gave a s; events = [] }

unfoldable pub leave : {A : Type 0} → Way → Run A
leave k = λ s. record { ending = Left k s; events = [] }

unfoldable pub over : {A : Type 0} → Limit → Run A
over k = λ s. record { ending = Over k; events = [] }

unfoldable pub wrong : {A : Type 0} → Run A
wrong = λ s. record { ending = Wrong; events = [] }

-- the same events, and another ending
unfoldable pub turned : {A B : Type 0} → (Ending A → Ending B) → Run A → Run B
turned f p = λ s. record { ending = f (p s).ending; events = (p s).events }

abbrev pub NotWrong : {A : Type 0} → Ending A → Type 0
NotWrong (Gave a s) = Unit {0}
NotWrong (Left k s) = Unit {0}
NotWrong (Over k) = Unit {0}
NotWrong Wrong = ⊥
