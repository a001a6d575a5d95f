use Rattle.std.proofs.Common.{subst, Contains}
use Rattle.kt_model.specs.Classes.{outlines, written}
use Rattle.kt_model.specs.Findings.{AreFindings}
use Rattle.kt_infer.specs.Left.{is_in}
use Rattle.kt_infer.proofs.Whole.{body_findings}
use Rattle.kt_infer.proofs.bodies.type_body.Goals as goal

pub returns-clause-findings : goal.returns-clause-findings
returns-clause-findings c =
    subst (λ l. AreFindings (Contains l) c.in_order.result)
    (body_findings c.args.body.now.file.now (written (outlines c.args.body.now.table.now)) c.args.body.now.uses.now (is_in c.args.left.now) c.args.body.now.owner _ _ _
    c.in_ok-bring.ensures c.in_ok-trees.ensures c.new-3.ensures.items c.new.ensures.empty c.parameters.ensures c.written-gives.ensures.ways c.written-gives.ensures.trees) c.in_order.ensures
