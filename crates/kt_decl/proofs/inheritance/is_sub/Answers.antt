use Rattle.kt_model.specs.Classes.{outlines, supers, written}
use Rattle.kt_model.proofs.ListLemmas.{contains_tested}
use Rattle.kt_decl.proofs.inheritance.is_sub.Goals as goal

pub returns : goal.returns
returns c =
    let tested = contains_tested (supers (written (outlines c.args.t.now)) c.args.c) c.args.d in
    let both = c.is_complete.ensures c.args.c c.args.d in
    rw (c.contains.ensures.value, c.above.ensures) (λ t. both.0 (tested.0 t), λ s. tested.1 (both.1 s))
