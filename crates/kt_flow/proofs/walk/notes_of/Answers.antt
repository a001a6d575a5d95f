use Rattle.std.proofs.Common.{ap, sym, ◌++◌, ◌∙◌}
use Rattle.std.specs.Option.{option_copied}
use Rattle.kt_model.specs.NameUses.{named_at}
use Rattle.kt_model.specs.Bodies.{body_trees_of}
use Rattle.kt_flow.specs.Notes.{trees_notes}
use Rattle.kt_flow.proofs.walk.notes_of.Goals as goal

pub returns : goal.returns
returns c =
    c.in_ok-written_notes.ensures ∙ ap (λ l. l ++ trees_notes (body_trees_of (named_at c.args.body.now.uses.now) (option_copied c.written.result))) c.new-out.ensures.items ∙ ap trees_notes (sym c.written.ensures)
