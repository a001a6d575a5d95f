use Rattle.std.proofs.Common.{subst, Contains}
use Rattle.kt_model.specs.Findings.{AreFindings}
use Rattle.kt_scope.proofs.uses.all_found.Goals as goal

pub returns : goal.returns
returns c = subst (λ z. AreFindings (Contains z) c.in_order.result) c.requires c.in_order.ensures
