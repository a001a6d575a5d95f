use Rattle.std.proofs.Common.{Contains, List, subst}
use Rattle.kt_model.specs.declared.finding.Finding.{Finding}
use Rattle.kt_model.specs.Findings.{AreFindings}
use Rattle.kt_shape.proofs.findings.found_in_order.Goals as goal

pub returns : goal.returns
returns c = subst (λ (xs : List Finding). AreFindings (Contains xs) c.in_order.result) c.in_ok-found.ensures c.in_order.ensures
