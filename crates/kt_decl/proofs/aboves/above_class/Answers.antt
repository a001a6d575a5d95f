use Rattle.std.proofs.Common.{◌≡◌, IfOk, subst, ◌∙◌, List, ℕ}
use Rattle.kt_decl.proofs.SearchLemmas.{known_supers}
use Rattle.kt_decl.proofs.AboveLemmas.{climb_known, climb_lists}
use Rattle.kt_decl.proofs.aboves.above_class.Goals as goal
use Rattle.kt_decl.proofs.aboves.above_class.Goals.{In_ok-climb}

pub climb_from-requires : goal.climb_from-requires
climb_from-requires c =
    rw c.supers_at.ensures (known_supers c.args.classes.now c.requires.closed c.args.class _ c.requires.len)

pub each_class_once-requires-clause-known : goal.each_class_once-requires-clause-known
each_class_once-requires-clause-known c =
    let r = c.requires in
    climb_known c.args.classes.now c.args.aboves.now r.closed c.args.class r.known r.filled _ (c.deref.ensures.value ∙ rw c.supers_at.ensures at c.in_ok-climb.ensures)

pub returns : goal.returns
returns c =
    let r = c.requires in
    let is = climb_lists c.args.classes.now c.args.aboves.now r.closed c.args.class r.known r.filled r.ranked _ (c.deref.ensures.value ∙ rw c.supers_at.ensures at c.in_ok-climb.ensures) in
    subst (λ (xs : List ℕ). IfOk c.each_class_once.result (λ above. above ≡ xs)) is c.each_class_once.ensures
