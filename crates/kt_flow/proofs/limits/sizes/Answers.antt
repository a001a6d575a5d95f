use Rattle.std.proofs.Common.{◌≡◌, [], ◌<◌, Contains, subst, arith}
use Rattle.kt_flow.proofs.limits.sizes.Goals as goal

pub returns-then-is_empty-clause-accepted : goal.returns-then-is_empty-clause-accepted
returns-then-is_empty-clause-accepted c f v =
    let empty : c.in_ok-found.found ≡ [] = c.is_empty.ensures.0 c.if-is_empty.true in
    let there = subst (λ l. Contains l f) empty (c.in_ok-found.ensures.all f v) in
    let below : there.0 < 0 = there.1 in absurd (omega arith)
