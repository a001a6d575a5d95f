use Rattle.std.proofs.Common.{ap, sym, ◌∙◌}
use Rattle.std.specs.List.{flat_map}
use Rattle.std.specs.Option.{option_copied}
use Rattle.kt_model.specs.NameUses.{named_at}
use Rattle.kt_model.specs.Bodies.{body_trees_of, written_trees}
use Rattle.kt_model.proofs.BodyFolds.{block_list}
use Rattle.kt_flow.specs.Notes.{trees_notes, stmt_notes}
use Rattle.kt_flow.proofs.NoteLemmas.{notes_none, notes_one}
use Rattle.kt_flow.proofs.PartNotes.{stmts_notes}
use Rattle.kt_flow.proofs.Puts.{put_in, put_none}
use Rattle.kt_flow.proofs.walk.written_notes.Goals as goal

pub returns-in-Expr : goal.returns-in-Expr
returns-in-Expr c =
    let uses = named_at c.args.uses.now in
    put_in c.expr.result _ _ (ap (λ w. trees_notes (body_trees_of uses (option_copied w))) c.in-Some.is ∙ ap (λ w. trees_notes (written_trees uses w)) c.in-Expr.is ∙ notes_one _) c.expr.ensures

pub returns-in-Block : goal.returns-in-Block
returns-in-Block c =
    let uses = named_at c.args.uses.now in
    put_in c.stmts.result _ _ (ap (λ w. trees_notes (body_trees_of uses (option_copied w))) c.in-Some.is ∙ ap (λ w. trees_notes (written_trees uses w)) c.in-Block.is ∙ ap trees_notes (block_list uses _) ∙ stmts_notes uses _ ∙ ap (flat_map (stmt_notes uses)) (sym c.as_slice.ensures)) c.stmts.ensures

pub returns-in-None : goal.returns-in-None
returns-in-None c = put_none (ap (λ w. trees_notes (body_trees_of (named_at c.args.uses.now) (option_copied w))) c.in-None.is ∙ notes_none)
