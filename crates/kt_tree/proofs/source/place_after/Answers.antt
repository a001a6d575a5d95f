use Rattle.std.proofs.Common.{◌≡◌, ◌∷◌, ◌++◌, sym, ap, ◌∙◌, rules, arith}
use Rattle.std.specs.Str.{chars}
use Rattle.std.proofs.lemmas.Str.{len_utf8_bounds}
use Rattle.kt_tree.specs.Text.{first}
use Rattle.kt_tree.specs.Places as spec
use Rattle.kt_tree.proofs.source.place_after.Goals as goal

pub characters-preserved : goal.characters-preserved
characters-preserved c =
    let l = c.characters in
    let rest = chars c.args.rest.now in
    let after = chars c.in-Some.after.now in
    let here : chars l.left.now ≡ c.in-Some.c ∷ after = search rules in
    let p = c.next_place.result in
    let e : p ≡ spec.next_place l.line l.column c.in-Some.c (first (after ++ rest)) = search rules in
    record {
      text = search rules;
      line = grind (arith, len_utf8_bounds c.in-Some.c, c.in-Some.ensures.lens);
      column = grind (arith, len_utf8_bounds c.in-Some.c, c.in-Some.ensures.lens);
      place = ap (λ (q : _ × _). spec.place_after q.0 q.1 after rest) e ∙ sym (ap (λ t. spec.place_after l.line l.column t rest) here) ∙ l.invariant.place;
    }
