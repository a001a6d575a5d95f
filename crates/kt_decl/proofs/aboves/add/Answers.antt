use Rattle.std.proofs.Common.{◌∷◌, ◌++◌, [], ap, cond, arith, true, false, sym, ◌∙◌}
use Rattle.std.proofs.lemmas.Option.{slice_get_read}
use Rattle.kt_model.specs.Classes.{any}
use Rattle.kt_decl.proofs.MarkLemmas.{marks_more}
use Rattle.kt_decl.proofs.AboveLemmas.{unmarked_new, marked_old}
use Rattle.kt_decl.proofs.aboves.add.Goals as goal

pub returns-in_ok-push-clause-marked : goal.returns-in_ok-push-clause-marked
returns-in_ok-push-clause-marked c =
    let s = c.args.search.now in
    rw c.in_ok-push.ensures.items (marks_more s.marks.items (any ∷ s.found.items) c.args.class (omega (arith, s.marks.ok.0)) c.requires.marked)

pub returns-in_ok-push-clause-found : goal.returns-in_ok-push-clause-found
returns-in_ok-push-clause-found c =
    let s = c.args.search.now in
    let read = c.index.ensures in
    let is = c.if-not-index.true in
    let fresh = unmarked_new s.marks.items (any ∷ s.found.items) c.args.class c.requires.marked (slice_get_read s.marks.items _ c.args.class false s.marks.ok.0 c.requires.known (rw is at read)) in
    c.in_ok-push.ensures.items ∙ ap (λ b. cond b s.found.items (s.found.items ++ c.args.class ∷ [])) (sym fresh)

pub returns-else-not-index-clause-found : goal.returns-else-not-index-clause-found
returns-else-not-index-clause-found c =
    let s = c.args.search.now in
    let read = c.index.ensures in
    let is = c.if-not-index.false in
    let there = marked_old s.marks.items (any ∷ s.found.items) c.args.class c.requires.marked (slice_get_read s.marks.items _ c.args.class true s.marks.ok.0 c.requires.known (rw is at read)) in
    ap (λ b. cond b s.found.items (s.found.items ++ c.args.class ∷ [])) (sym there)
