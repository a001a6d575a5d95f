use Rattle.std.proofs.Common.{◌≡◌, ◌++◌, length, drop}
use Rattle.kt_mean.specs.Evaluation.{new_locals}
use Rattle.kt_run.specs.Slots.{held}
use Rattle.kt_run.proofs.frame.Frame.of_call.Given as goal

-- The parameters of the values that are taken hold them.
abbrev pub invariant-loop-value : goal.invariant-loop-value
invariant-loop-value l = record {
  split : l.fn.values ≡ l.values ++ drop (length l.values) l.fn.values;
  set : held l.frame ≡ new_locals (drop (length l.values) l.parameters) (drop (length l.values) l.fn.values);
}

abbrev pub decreases-loop-value : goal.decreases-loop-value
decreases-loop-value l = length l.values
