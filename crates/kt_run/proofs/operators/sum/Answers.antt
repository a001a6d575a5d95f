use Rattle.std.proofs.Common.{Ok, ◌∙◌}
use Rattle.std.specs.Int.{w32, int_wrapping_add}
use Rattle.kt_mean.specs.declared.states.Value.TheVariants as value
use Rattle.kt_run.proofs.Chain.{pure_quiet, same_right, same_quiet}
use Rattle.kt_run.proofs.Steps.{added, sum_of_numbers, numbers_there, on_numbers}
use Rattle.kt_run.proofs.operators.sum.Goals as goal

pub number-requires : goal.number-requires
number-requires c =
    let a = c.args.a.now in
    let b = c.args.b.now in
    (numbers_there added a b c.args.state.now (same_right _ _ c.args.state.now (sum_of_numbers a b c.in_default.not-Text) c.requires.right)).left

pub number-requires-in_default : goal.number-requires-in_default
number-requires-in_default c =
    let a = c.args.a.now in
    let b = c.args.b.now in
    (numbers_there added a b c.args.state.now (same_right _ _ c.args.state.now (sum_of_numbers a b c.in_default.not-Text) c.requires.right)).right

pub returns-in_default : goal.returns-in_default
returns-in_default c =
    let a = c.args.a.now in
    let b = c.args.b.now in
    let state = c.args.state.now in
    let k = c.number.result in
    let l = c.number-in_default.result in
    let end = value.Int (int_wrapping_add w32 k l) in
    same_quiet _ _ state (Ok end) state (sum_of_numbers a b c.in_default.not-Text ∙ on_numbers added a b k l c.number.ensures c.number-in_default.ensures) (pure_quiet end state)
