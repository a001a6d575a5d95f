use Rattle.kt_flow.proofs.Sized.{passed_on}
use Rattle.kt_flow.proofs.limits.add_passed.Goals as goal

pub returns : goal.returns
returns c =
    passed_on c.add_if-2.result c.in_ok-many.many c.is_too_large-large.result _ _ _ _ _ c.add_if.new.found.items _ c.in_ok-many.ensures c.is_too_large-large.ensures c.in_ok-add_if.ensures c.add_if-2.ensures
