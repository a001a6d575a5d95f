use Rattle.std.proofs.Common.{ap, sym, ◌∙◌}
use Rattle.kt_tree.specs.declared.ast.body.ExprKind.TheVariants as e
use Rattle.kt_model.specs.NameUses.{named_at}
use Rattle.kt_model.proofs.BodyFolds.{tree_of_kind, kind_name}
use Rattle.kt_flow.specs.Notes.{note}
use Rattle.kt_flow.proofs.PartNotes.{note_call, note_call_with, plain_expr}
use Rattle.kt_flow.proofs.notes.of_expr.Goals as goal

pub returns-in-Name : goal.returns-in-Name
returns-in-Name c =
    let uses = named_at c.args.uses.now in
    c.of_name.ensures ∙ sym (ap note (tree_of_kind uses c.args.e.now _ _ c.in-Name.is (kind_name uses c.in-Name.field-0)))

pub returns-in-None : goal.returns-in-None
returns-in-None c =
    c.plain.ensures ∙ sym (note_call (named_at c.args.uses.now) c.args.e.now _ _ (c.in-Call.is ∙ ap (e.Call c.in-Call.callee c.in-Call.arguments) c.in-None.is))

pub returns-in-Some : goal.returns-in-Some
returns-in-Some c =
    c.plain-in-Some.ensures ∙ sym (note_call_with (named_at c.args.uses.now) c.args.e.now _ _ _ (c.in-Call.is ∙ ap (e.Call c.in-Call.callee c.in-Call.arguments) c.in-Some.is))

pub returns-in_default : goal.returns-in_default
returns-in_default c =
    c.plain-in_default.ensures ∙ sym (plain_expr (named_at c.args.uses.now) c.args.e.now c.in_default.not-Name c.in_default.not-Call)
