-- How an operation ends: it gives what it is to give, throws or comes to a limit, and leaves the frame, the calls and the steps as they are.
use Rattle.std.proofs.Common.{◌≡◌, ℕ, ◌+◌, nat_lt, Bool, true, false, List, length, refl, ◌∙◌}
use Rattle.std.specs.Prelude.{⊤}
use Rattle.kt_model.specs.declared.kinds.KtType.{KtType}
use Rattle.kt_typing.specs.Typing.{string, unit}
use Rattle.kt_mean.specs.declared.states.Value.{Value}
use Rattle.kt_mean.specs.declared.states.Value.TheVariants as value
use Rattle.kt_mean.specs.declared.states.Exception.{Exception}
use Rattle.kt_mean.specs.declared.states.Exception.TheVariants.{Error}
use Rattle.kt_mean.specs.declared.states.Way.TheVariants.{Return, Throw}
use Rattle.kt_mean.specs.declared.states.Limit.TheVariants as limit
use Rattle.kt_mean.specs.Frames.{State, Ending, Gave, Left, Over, Wrong, Outcome, Run, ◌>>=◌, ending_after, pure, leave, over}
use Rattle.kt_mean.specs.Evaluation.{choose, demanded, failed, print, most_cells, most_text, take_cells, make_text, text_made, text_of_value, throws}
use Rattle.kt_sound.proofs.ValueTypes.{Lies}

-- ---- what is left as it is

-- Only the counts of cells and of texts may be others.
pub record Unmoved (before after : State) : Type 0 where
  pub here : after.here ≡ before.here
  pub calls : after.calls ≡ before.calls
  pub steps : after.steps ≡ before.steps

unmoved : (s : State) → Unmoved s s
unmoved s = record { here = refl; calls = refl; steps = refl }

unmoved_twice : (s t u : State) → Unmoved s t → Unmoved t u → Unmoved s u
unmoved_twice s t u a b = record { here = b.here ∙ a.here; calls = b.calls ∙ a.calls; steps = b.steps ∙ a.steps }

-- ---- ends

-- What is given has the property; a limit may be come to.
abbrev pub EndsIn : {A : Type 0} → (A → Type 0) → State → Ending A → Type 0
EndsIn P s (Gave a after) = P a × Unmoved s after
EndsIn P s (Left (Return v) after) = ⊥
EndsIn P s (Left (Throw x) after) = Unmoved s after
EndsIn P s (Over l) = ⊤
EndsIn P s Wrong = ⊥

-- in whatever state it begins
pub record Ends {A : Type 0} (r : Run A) (P : A → Type 0) : Type 0 where
  pub at : (s : State) → EndsIn P s (r s).ending

-- the same end, seen from an earlier state
ends_before : {A : Type 0} (P : A → Type 0) (s t : State) (e : Ending A) → Unmoved s t → EndsIn P t e → EndsIn P s e
ends_before P s t (Gave a u) m h = (h.0, unmoved_twice s t u m h.1)
ends_before P s t (Left (Return v) u) m h = h
ends_before P s t (Left (Throw x) u) m h = unmoved_twice s t u m h
ends_before P s t (Over l) m h = tt
ends_before P s t Wrong m h = h

-- one evaluation, then another with what it gives
pub ends_after : {A B : Type 0} (r : Run A) (f : A → Run B) (P : A → Type 0) (Q : B → Type 0) → Ends r P → ((a : A) → P a → Ends (f a) Q) → Ends (r >>= f) Q
unfolding ◌>>=◌
ends_after {A} {B} r f P Q first next = record { at = λ s. by s (r s).ending (first.at s) }
  where
    by : (s : State) (e : Ending A) → EndsIn P s e → EndsIn Q s (ending_after e f)
    by s (Gave a t) h = ends_before Q s t (f a t).ending h.1 ((next a h.0).at t)
    by s (Left (Return v) t) h = absurd h
    by s (Left (Throw x) t) h = h
    by s (Over l) h = tt
    by s Wrong h = absurd h

pub pure_ends : {A : Type 0} (P : A → Type 0) (a : A) → P a → Ends (pure a) P
unfolding pure
pure_ends P a h = record { at = λ s. (h, unmoved s) }

leave_ends : {A : Type 0} (P : A → Type 0) (x : Exception) → Ends (leave {A = A} (Throw x)) P
unfolding leave
leave_ends P x = record { at = λ s. unmoved s }

pub take_ends : (n : ℕ) → Ends (take_cells n) (λ u. ⊤)
unfolding take_cells over pure
take_ends n = record { at = λ s. by s (nat_lt most_cells (s.cells + n)) }
  where
    by : (s : State) (b : Bool) → EndsIn {A = Unit {0}} (λ u. ⊤) s (choose {A = Outcome (Unit {0})} b (over limit.Store s) (pure tt (record s { cells = s.cells + n }))).ending
    by s true = tt
    by s false = (tt, record { here = refl; calls = refl; steps = refl })

pub make_ends : (text : List ℕ) → Ends (make_text text) (λ t. ⊤)
unfolding make_text over pure
make_ends text = record { at = λ s. by s (nat_lt most_text (s.text + length text)) }
  where
    by : (s : State) (b : Bool) → EndsIn {A = List ℕ} (λ t. ⊤) s (choose b (over limit.Text s) (pure text (record s { text = s.text + length text }))).ending
    by s true = tt
    by s false = (tt, record { here = refl; calls = refl; steps = refl })

-- ---- values

-- a value of the type
abbrev pub Yields : Run Value → KtType → Type 0
Yields r d = Ends r (λ v. Lies v d)

pub pure_yields : (v : Value) (d : KtType) → Lies v d → Yields (pure v) d
pure_yields v d h = pure_ends (λ u. Lies u d) v h

pub print_yields : (text : List ℕ) → Yields (print text) unit
unfolding print
print_yields text = record { at = λ s. (refl, unmoved s) }

-- the new object may be one too many
pub throws_yields : (x : Exception) (d : KtType) → Yields (throws x) d
throws_yields x d = ends_after (take_cells 2) (λ u. leave (Throw x)) (λ u. ⊤) (λ v. Lies v d) (take_ends 2) (λ u h. leave_ends (λ v. Lies v d) x)

-- a run that throws where a value is false
pub demand_yields : (x : Exception) (b : Bool) → Yields (demanded x (value.Bool b)) unit
demand_yields x b = ends_after (pure b) (λ holds. choose holds (pure value.Unit) (throws x)) (λ u. ⊤) (λ v. Lies v unit) (pure_ends (λ u. ⊤) b tt) (λ holds h. by holds)
  where
    by : (holds : Bool) → Yields (choose holds (pure value.Unit) (throws x)) unit
    by true = pure_yields value.Unit unit refl
    by false = throws_yields x unit

made_fails : (v : Value) (d : KtType) → Yields (make_text (text_of_value v) >>= (λ t. throws (Error t))) d
made_fails v d = ends_after (make_text (text_of_value v)) (λ t. throws (Error t)) (λ t. ⊤) (λ u. Lies u d) (make_ends (text_of_value v)) (λ t h. throws_yields (Error t) d)

-- one that gives no value, whatever type it is said to have
pub fail_yields : (v : Value) (d : KtType) → Yields (failed v) d
fail_yields (value.Text text) d = throws_yields (Error text) d
fail_yields value.Unit d = made_fails value.Unit d
fail_yields (value.Bool b) d = made_fails (value.Bool b) d
fail_yields (value.Int k) d = made_fails (value.Int k) d

pub text_yields : (text : List ℕ) → Yields (text_made text) string
text_yields text = ends_after (make_text text) (λ t. pure (value.Text t)) (λ t. ⊤) (λ v. Lies v string) (make_ends text) (λ t h. pure_yields (value.Text t) string refl)
