-- The locals of a call in a list of slots: a private word of this crate. Past the end of the list a local holds nothing.
use Rattle.std.specs.Prelude.{ℕ, zero, suc, List, [], ◌∷◌, Option, None}
use Rattle.kt_mean.specs.declared.states.Value.{Value}

abbrev pub held : List (Option Value) → ℕ → Option Value
held [] x = None
held (o ∷ os) zero = o
held (o ∷ os) (suc x) = held os x
