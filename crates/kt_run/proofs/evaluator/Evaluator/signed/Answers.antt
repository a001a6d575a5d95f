use Rattle.std.proofs.Common.{◌≡◌, ℤ, FitsSigned, to_z, of_z, Ok, rules}
use Rattle.std.specs.Int.{w32}
use Rattle.kt_mean.specs.declared.states.Value.{Value}
use Rattle.kt_mean.specs.declared.states.Value.TheVariants as number
use Rattle.kt_mean.specs.Frames.{pure}
use Rattle.kt_mean.specs.Evaluation.{signed}
use Rattle.kt_run.proofs.Chain.{first_right, next_right, then_runs, exit_by, quiet_runs, same_quiet}
use Rattle.kt_run.specs.Scene.{scene}
use Rattle.kt_run.proofs.Steps.{number_there, on_number, int_quiet}
use Rattle.kt_run.proofs.evaluator.Evaluator.signed.Goals as goal

pub boxed-requires : goal.boxed-requires
boxed-requires g c = record { nests = c.requires.nests; right = first_right _ _ _ c.requires.right }

pub returns-in_err-value : goal.returns-in_err-value
returns-in_err-value g c = exit_by {B = Value} _ _ _ _ _ _ c.from_residual.ensures.1 c.in_err-value.ensures

pub number-requires : goal.number-requires
number-requires g c = number_there _ c.in_ok-value.value c.boxed.new.state (next_right _ _ _ _ _ c.requires.right c.in_ok-value.ensures)

pub returns : goal.returns
returns g c =
    let here = scene c.boxed.new.state (g.O.Output.state c.boxed.new.out) in
    let value = c.in_ok-value.value in
    let k = c.number.result in
    let made = c.with_sign.result in
    let fits : FitsSigned w32 made = search rules in
    let is : made ≡ signed c.args.sign k = search rules in
    let end = Ok (number.Int (to_z w32 (of_z w32 made))) in
    then_runs {B = Value} _ _ _ _ here end here c.in_ok-value.ensures
    (quiet_runs _ here.state end here.state here.out
    (same_quiet _ _ here.state end here.state (on_number (λ (a : ℤ). pure (number.Int (signed c.args.sign a))) value k c.number.ensures) (int_quiet (signed c.args.sign k) made here.state fits is)))
