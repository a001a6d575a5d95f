use Rattle.std.proofs.Common.{ap, length, ◌∙◌}
use Rattle.std.specs.List.{count_by}
use Rattle.kt_model.specs.Bodies.{owner_trees, owner_parameters}
use Rattle.kt_flow.specs.declared.notes.TreeNote.{TreeNote}
use Rattle.kt_flow.proofs.Locals.{locals_are, many_locals}
use Rattle.kt_flow.proofs.limits.has_many_locals.Goals as goal

pub returns : goal.returns
returns c =
    let body = c.args.body.now in
    many_locals c.saturating_add.ensures
    (locals_are (owner_parameters body.uses.now body.owner) (owner_trees body.file.now body.uses.now body.owner))
    (ap length c.parameters.ensures) (c.declared-declared.ensures ∙ ap (count_by (λ (n : TreeNote). n.declares)) (c.as_slice.ensures.value ∙ c.in_ok-notes.ensures))
