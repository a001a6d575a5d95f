use Rattle.std.proofs.Common.{Ok, sym, subst}
use Rattle.std.specs.Int.{w32, int_wrapping_sub, int_wrapping_mul}
use Rattle.kt_tree.specs.declared.ast.part.Arithmetic.{Arithmetic}
use Rattle.kt_mean.specs.declared.states.Value.TheVariants as value
use Rattle.kt_mean.specs.Evaluation.{arithmetic_of}
use Rattle.kt_run.specs.Scene.{Quiet}
use Rattle.kt_run.proofs.Chain.{pure_quiet}
use Rattle.kt_run.proofs.operators.calculate.Goals as goal

pub returns-in-Subtract : goal.returns-in-Subtract
returns-in-Subtract c =
    let state = c.args.state.now in
    let difference = int_wrapping_sub w32 c.args.a c.args.b in
    subst (λ (o : Arithmetic). Quiet (arithmetic_of o c.args.a c.args.b) state (Ok (value.Int difference)) state) (sym c.in-Subtract.is) (pure_quiet (value.Int difference) state)

pub returns-in-Multiply : goal.returns-in-Multiply
returns-in-Multiply c =
    let state = c.args.state.now in
    let product = int_wrapping_mul w32 c.args.a c.args.b in
    subst (λ (o : Arithmetic). Quiet (arithmetic_of o c.args.a c.args.b) state (Ok (value.Int product)) state) (sym c.in-Multiply.is) (pure_quiet (value.Int product) state)
