use Rattle.std.proofs.Common.{◌∷◌, [], ◌++◌, ap, sym, ◌∙◌}
use Rattle.kt_flow.specs.Notes.{plain_note}
use Rattle.kt_flow.proofs.PartNotes.{shut_notes}
use Rattle.kt_flow.proofs.walk.shut.Goals as goal

pub returns : goal.returns
returns c m number word =
    c.in_ok-push.ensures.items
    ∙ ap (λ n. c.args.out.now.items ++ n ∷ []) (c.plain.ensures ∙ ap (λ k. plain_note k c.args.word) (sym number) ∙ ap (plain_note m.number) (sym word))
    ∙ ap (λ l. c.args.out.now.items ++ l) (sym (shut_notes m))
