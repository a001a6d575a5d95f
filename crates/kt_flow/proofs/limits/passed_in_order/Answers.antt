use Rattle.kt_flow.proofs.Adding.{findings_of_walk}
use Rattle.kt_flow.proofs.limits.passed_in_order.Goals as goal

pub returns : goal.returns
returns c = findings_of_walk _ _ c.in_ok-found.found.items c.in_order.result (λ f h. h) (λ f h. h) c.in_ok-found.ensures c.in_order.ensures
