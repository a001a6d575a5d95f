use Rattle.std.proofs.Common.{rules}
use Rattle.std.proofs.lemmas.Fn.{always_returns_same}
use Rattle.kt_flow.proofs.Lookup.{searchable, search_found, search_failed}
use Rattle.kt_flow.proofs.along.note_of.Goals as goal

pub returns-in-Ok : goal.returns-in-Ok
returns-in-Ok c =
    let found = c.in-Ok.ensures.position (λ n. n.tree) (always_returns_same _ _ _ (λ a r h called. search rules)) in
    search_found c.args.tree c.args.notes.now c.in-Ok.place _ c.in-Ok.ensures.bound (found _)

pub returns-in-Err : goal.returns-in-Err
returns-in-Err c =
    let found = c.in-Err.ensures.position (λ n. n.tree) (always_returns_same _ _ _ (λ a r h called. search rules)) in
    search_failed c.args.tree c.args.notes.now c.in-Err.field-0 (found (searchable c.args.tree c.args.notes.now c.requires))
