-- What the functions on values look at: a private word of this crate.
use Rattle.std.specs.Prelude.{◌≡◌, ◌<◌, ℕ, ℤ, Bool, Option, Some, None, List, ◌++◌, length, ◌⊎◌}
use Rattle.kt_model.specs.BodyTrees.{Operation, Sum', Arithmetic', Compare', Equal'}
use Rattle.kt_mean.specs.Evaluation.{most_text}
use Rattle.kt_mean.specs.declared.states.Value.{Value}
use Rattle.kt_mean.specs.declared.states.Value.TheVariants as value
use Rattle.kt_run.specs.declared.operators.Operator.{Operator}
use Rattle.kt_run.specs.declared.operators.Operator.TheVariants as operator

-- the operation of a tree with this operator
abbrev pub operation_of : Operator → Operation
operation_of operator.Sum = Sum'
operation_of (operator.Arithmetic o) = Arithmetic' o
operation_of (operator.Compare o) = Compare' o
operation_of (operator.Equal o) = Equal' o

-- the truth of a value, where it is a truth value
abbrev pub truth_in : Value → Option Bool
truth_in (value.Bool b) = Some b
truth_in _ = None

-- the number of a value, where it is one
abbrev pub number_in : Value → Option ℤ
number_in (value.Int k) = Some k
number_in _ = None

-- the bytes of a string with a text more; as they were where they are too many for a run already
abbrev pub Inserts : List ℕ → List ℕ → List ℕ → Type 0
Inserts old text new = (new ≡ old ++ text) ⊎ ((most_text < length old) × (new ≡ old))
