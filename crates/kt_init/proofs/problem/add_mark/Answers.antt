use Rattle.std.proofs.Common.{ap}
use Rattle.kt_solve.specs.Flow.{Flow}
use Rattle.kt_init.proofs.Push.{mark_there}
use Rattle.kt_init.proofs.problem.add_mark.Goals as goal

pub returns-in_ok-effect-2-clause-mark : goal.returns-in_ok-effect-2-clause-mark
returns-in_ok-effect-2-clause-mark c =
    let e1 = rw c.transfer_to.ensures at (ap (λ (f : Flow). f.effects) c.in_ok-effect.ensures.ok) in
    let e2 = rw (c.transfer_to-in-Some.ensures, c.len-count.ensures) at (ap (λ (f : Flow). f.effects) c.in_ok-effect-2.ensures.ok) in
    mark_there c.args.numbers.now.variables.keys c.args.node c.in-Some.place c.args.variable c.args.assigns c.args.problem.now c.effect.new.self c.effect-in-Some.new.self c.requires.once c.in-Some.ensures e1 e2
