use Rattle.std.proofs.Common.{◌≡◌, ℕ, ◌-◌, ◌++◌, List, length, take, refl, sym, ap, ◌∙◌, arith, length-append, subst}
use Rattle.std.proofs.lemmas.List.{take_at}
use Rattle.std.proofs.lemmas.Str.{IsCharBoundary-at_seam}
use Rattle.std.specs.Str.{IsCharBoundary}
use Rattle.kt_lex.proofs.words.front_before.Goals as goal

-- how long the front is
at_front : (s front rest : List ℕ) → s ≡ front ++ rest → length s - length rest ≡ length front
at_front s front rest e = omega (arith, ap length e, length-append front rest)

pub split_at-requires : goal.split_at-requires
split_at-requires c =
    let (front, cut) = c.requires in
    let boundary = IsCharBoundary-at_seam c.args.s.now front c.args.rest.now cut c.utf8.rest in
    subst (IsCharBoundary c.args.s.now) (sym (at_front c.args.s.now front c.args.rest.now cut)) boundary

pub returns : goal.returns
returns c =
    let s = c.args.s.now in
    let rest = c.args.rest.now in
    let (front, cut) = c.requires in
    let here : c.split_at.result.0.now ≡ front = c.split_at.ensures.front ∙ ap (λ n. take n s) (at_front s front rest cut) ∙ ap (take (length front)) cut ∙ take_at front rest (length front) refl in
    cut ∙ ap (λ t. t ++ rest) (sym here)
