use Rattle.std.proofs.Common.{sym, ap, ◌∙◌}
use Rattle.kt_typing.specs.Typing.{name_claim}
use Rattle.kt_model.specs.BodyTrees.{name_tree, whole}
use Rattle.kt_infer.specs.Noting.{typing_of}
use Rattle.kt_infer.proofs.Passing.{same_tree}
use Rattle.kt_infer.proofs.Forms.{opens_name, opens_shut}
use Rattle.kt_infer.proofs.OtherNames.{no_name}
use Rattle.kt_infer.proofs.notes.Notes.name.Goals as goal

pub returns-in-Variable : goal.returns-in-Variable
returns-in-Variable c =
    same_tree (ap (λ m. name_tree m c.args.number c.args.span) (sym c.in-Variable.ensures))
    (opens_name (typing_of c.args.body.now) c.args.self.now c.args.number c.args.span _ (c.name_claim-claim.ensures ∙ ap (name_claim c.args.span) c.look_up.ensures) c.opened_tree.ensures)

pub returns-in_default : goal.returns-in_default
returns-in_default c =
    same_tree (ap (λ m. name_tree m c.args.number c.args.span) (sym c.named.ensures) ∙ no_name c.named.result c.args.number c.args.span c.in_default.not-Variable) (opens_shut (typing_of c.args.body.now) c.args.self.now (whole c.args.number c.args.span) c.shut.ensures)
