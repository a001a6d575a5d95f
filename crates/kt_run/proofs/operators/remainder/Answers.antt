use Rattle.std.proofs.Common.{◌≡◌, pos, int_eq, int_rem, FitsSigned, to_z, of_z, Bool, false, Ok, rules, sym, subst}
use Rattle.std.specs.Int.{w32}
use Rattle.kt_mean.specs.declared.states.Value.TheVariants as value
use Rattle.kt_mean.specs.declared.states.Exception.TheVariants.{DivisionByZero}
use Rattle.kt_mean.specs.Frames.{pure}
use Rattle.kt_mean.specs.Evaluation.{choose, throws}
use Rattle.kt_run.specs.Scene.{Quiet}
use Rattle.kt_run.proofs.Steps.{int_quiet}
use Rattle.kt_run.proofs.operators.remainder.Goals as goal

pub returns : goal.returns
returns c =
    let state = c.args.state.now in
    let left = int_rem c.args.a c.args.b in
    let by_number : int_eq c.args.b (pos 0) ≡ false = search rules in
    let is : c.wrapping_rem.result ≡ left = search rules in
    let fits : FitsSigned w32 c.wrapping_rem.result = search rules in
    subst (λ (is_zero : Bool). Quiet (choose is_zero (throws DivisionByZero) (pure (value.Int left))) state (Ok (value.Int (to_z w32 (of_z w32 c.wrapping_rem.result)))) state) (sym by_number)
    (int_quiet left c.wrapping_rem.result state fits is)
