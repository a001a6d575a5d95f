use Rattle.std.proofs.Common.{◌≡◌, pos, int_eq, FitsSigned, to_z, of_z, Bool, false, Ok, rules, sym, subst}
use Rattle.std.specs.Int.{w32, int_wrapping_div}
use Rattle.kt_mean.specs.declared.states.Value.TheVariants as value
use Rattle.kt_mean.specs.declared.states.Exception.TheVariants.{DivisionByZero}
use Rattle.kt_mean.specs.Frames.{pure}
use Rattle.kt_mean.specs.Evaluation.{choose, throws}
use Rattle.kt_run.specs.Scene.{Quiet}
use Rattle.kt_run.proofs.Steps.{int_quiet}
use Rattle.kt_run.proofs.operators.divide.Goals as goal

pub returns : goal.returns
returns c =
    let state = c.args.state.now in
    let quotient = int_wrapping_div w32 c.args.a c.args.b in
    let by_number : int_eq c.args.b (pos 0) ≡ false = search rules in
    let is : c.wrapping_div.result ≡ quotient = search rules in
    let fits : FitsSigned w32 c.wrapping_div.result = search rules in
    subst (λ (is_zero : Bool). Quiet (choose is_zero (throws DivisionByZero) (pure (value.Int quotient))) state (Ok (value.Int (to_z w32 (of_z w32 c.wrapping_div.result)))) state) (sym by_number)
    (int_quiet quotient c.wrapping_div.result state fits is)
