-- The run of a program: `main`, called from an empty frame. This project's own.
use Rattle.std.specs.Prelude.{ℕ, List, [], Option, Some, None}
use Rattle.kt_model.specs.BodyTrees.{Tree}
use Rattle.kt_mean.specs.Frames.{State, Ending, Gave, Left, Over, Wrong, Outcome, Run, no_locals}
use Rattle.kt_mean.specs.Evaluation.{Program, eval, called}
use Rattle.kt_mean.specs.declared.states.Value.{Value}
use Rattle.kt_mean.specs.declared.states.Way.TheVariants as way
use Rattle.kt_mean.specs.declared.states.Limit.{Limit}
use Rattle.kt_mean.specs.declared.states.Limit.TheVariants as limit
use Rattle.kt_mean.specs.declared.states.RunEnding.{RunEnding}
use Rattle.kt_mean.specs.declared.states.RunEnding.TheVariants as end

abbrev pub start : ℕ → List ℕ → State
start steps input = record { here = record { locals = no_locals }; calls = 0; steps = steps; cells = 0; text = 0; input = input }

-- `main`, over the meaning `go` of its trees
abbrev pub whole_within : Program → (Tree → Run Value) → ℕ → List ℕ → Outcome Value
whole_within p go steps input = called p go (p.functions p.main) [] (start steps input)

-- Each entering takes a step, so the number of steps bounds the depth as well.
abbrev pub whole : Program → ℕ → List ℕ → Outcome Value
whole p steps input = whole_within p (eval p steps) steps input

abbrev pub limit_ending : Limit → RunEnding
limit_ending limit.Steps = end.Steps
limit_ending limit.Calls = end.Calls
limit_ending limit.Store = end.Store
limit_ending limit.Text = end.Text

-- how a run ends that ends so; it has no end by a wrong use, and no `return` leaves a call
abbrev pub run_ending : Ending Value → Option RunEnding
run_ending (Gave v s) = Some end.Done
run_ending (Left (way.Return v) s) = None
run_ending (Left (way.Throw e) s) = Some (end.Uncaught e)
run_ending (Over k) = Some (limit_ending k)
run_ending Wrong = None
