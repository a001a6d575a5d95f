use Rattle.std.proofs.Common.{◌≡◌, ◌<◌, length, subst, arith}
use Rattle.kt_check.specs.Phases.{AreBefore}
use Rattle.kt_check.proofs.BodyFindings.{none_too_large, one_more, put_in_order}
use Rattle.kt_check.proofs.bodies.all_bodies.Goals as goal

pub at_body-requires-clause-sized : goal.at_body-requires-clause-sized
at_body-requires-clause-sized c =
    let within : c.loop-place.place < length c.args.file.now.functions = omega (arith, c.loop-place-test.true, c.in-Ok.ensures, c.in-Ok.is, c.len.ensures) in
    none_too_large c.args.file.now c.args.uses.now (length c.args.table.now) c.loop-place.place c.requires.sized within

pub loop-place-preserved : goal.loop-place-preserved
loop-place-preserved c =
    one_more c.args.file.now c.args.uses.now c.loop-place.place c.loop-place.found.items _ c.loop-place.invariant c.in_ok-at_body.ensures

pub returns-clause-found : goal.returns-clause-found
returns-clause-found c =
    let end : c.loop-place.place ≡ length c.args.file.now.functions = omega (arith, c.loop-place-test.false, c.loop-place.auto.place-end, c.in-Ok.ensures, c.in-Ok.is, c.len.ensures) in
    put_in_order c.args.file.now c.args.uses.now (length c.args.file.now.functions) c.loop-place.found.items c.in_order.result
    (subst (λ n. AreBefore c.args.file.now c.args.uses.now n c.loop-place.found.items) end c.loop-place.invariant) c.in_order.ensures
