use Rattle.std.proofs.Common.{refl, sym, ap, ◌∙◌, nat_eq}
use Rattle.indexmap.proofs.CallerLemmas.{insert_entry-new}
use Rattle.kt_typing.specs.Typing.{bound_unless}
use Rattle.kt_infer.proofs.notes.Notes.bind.Goals as goal

pub returns-in_ok-insert-in-None : goal.returns-in_ok-insert-in-None
returns-in_ok-insert-in-None c = record {
  kept_rows = refl;
  kept_findings = refl;
  new_locals =
      c.in_ok-insert-in-None.ensures.entries ∙ insert_entry-new nat_eq c.args.self.now.locals c.args.local c.args.t (sym c.in-None.ensures)
      ∙ ap (λ o. bound_unless o c.args.self.now.locals.entries c.args.local c.args.t) c.in-None.ensures;
}
