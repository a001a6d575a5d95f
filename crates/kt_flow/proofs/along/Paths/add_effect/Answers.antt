use Rattle.std.proofs.Common.{ap, ◌∙◌}
use Rattle.kt_model.specs.declared.graph.FlowEffect.TheVariants as effect
use Rattle.kt_flow.proofs.AtNode.{of_effect}
use Rattle.kt_flow.proofs.along.Paths.add_effect.Goals as goal

pub returns-in-Local : goal.returns-in-Local
returns-in-Local c =
    of_effect c.args.self.now.graph.now c.args.node c.args.note.now c.add_read.result _ _ _ _ (c.in-Read.is ∙ ap effect.Read c.in-Local.is) c.add_read.ensures

pub returns-in-Local-variable : goal.returns-in-Local-variable
returns-in-Local-variable c =
    of_effect c.args.self.now.graph.now c.args.node c.args.note.now c.add_assignment.result _ _ _ _ (c.in-Assign.is ∙ ap (λ v. effect.Assign v c.in-Assign.field-1) c.in-Local-variable.is) (c.add_assignment.ensures c.in-Assign.field-1)
