use Rattle.std.proofs.Common.{◌≡◌, true, false, ◌∷◌, [], ◌&&◌, ◌==◌, None, sym, ap, ◌∙◌, rules, arith}
use Rattle.std.specs.Str.{chars}
use Rattle.std.proofs.lemmas.Str.{len_utf8_bounds}
use Rattle.std.proofs.lemmas.Grind.{common_steps}
use Rattle.kt_tree.specs.Moves.{comment_end}
use Rattle.kt_lex.proofs.Comments.{comment_end-nil, comment_end-one, comment_end-last, comment_end-inner, comment_end-open, comment_end-other}
use Rattle.kt_lex.proofs.moves.comment_end.Goals as goal

pub returns-in_err-c : goal.returns-in_err-c
returns-in_err-c c =
    let l = c.characters in
    let end : chars l.rest.now ≡ [] = search rules in
    let none = comment_end-nil l.inner (chars l.rest.now) end in
    let got : c.from_residual.result ≡ None = search rules in
    rw got (sym none ∙ l.invariant.same)

pub returns-in_err-d : goal.returns-in_err-d
returns-in_err-d c =
    let l = c.characters in
    let end : chars c.in_ok-c.after.now ≡ [] = search rules in
    let one : chars l.rest.now ≡ c.in_ok-c.c ∷ chars c.in_ok-c.after.now = search rules in
    let none = comment_end-one l.inner c.in_ok-c.c (chars l.rest.now) (one ∙ ap (λ t. c.in_ok-c.c ∷ t) end) in
    let got : c.from_residual-in_err-d.result ≡ None = search rules in
    rw got (sym none ∙ l.invariant.same)

pub returns-then-inner-eq0 : goal.returns-then-inner-eq0
returns-then-inner-eq0 c =
    let l = c.characters in
    let two : chars l.rest.now ≡ c.in_ok-c.c ∷ c.in_ok-d.d ∷ chars c.in_ok-d.after_two.now = grind (arith, common_steps) in
    let closes : (c.in_ok-c.c == 42 && c.in_ok-d.d == 47) ≡ true = search rules in
    sym (comment_end-last l.inner c.in_ok-c.c c.in_ok-d.d (chars l.rest.now) (chars c.in_ok-d.after_two.now) two closes (omega arith)) ∙ l.invariant.same

pub characters-preserved-then-closes_comment : goal.characters-preserved-then-closes_comment
characters-preserved-then-closes_comment c =
    let l = c.characters in
    let two : chars l.rest.now ≡ c.in_ok-c.c ∷ c.in_ok-d.d ∷ chars c.in_ok-d.after_two.now = grind (arith, common_steps) in
    let closes : (c.in_ok-c.c == 42 && c.in_ok-d.d == 47) ≡ true = search rules in
    record {
      text = search rules;
      within = omega (arith, l.invariant.within, c.in_ok-c.ensures.lens, c.in_ok-d.ensures.lens);
      same = sym (comment_end-inner l.inner c.in_ok-c.c c.in_ok-d.d (chars l.rest.now) (chars c.in_ok-d.after_two.now) two closes (omega arith)) ∙ l.invariant.same;
    }

pub characters-preserved-then-opens_comment : goal.characters-preserved-then-opens_comment
characters-preserved-then-opens_comment c =
    let l = c.characters in
    let two : chars l.rest.now ≡ c.in_ok-c.c ∷ c.in_ok-d.d ∷ chars c.in_ok-d.after_two.now = grind (arith, common_steps) in
    let other : (c.in_ok-c.c == 42 && c.in_ok-d.d == 47) ≡ false = search rules in
    let opens : (c.in_ok-c.c == 47 && c.in_ok-d.d == 42) ≡ true = search rules in
    record {
      text = search rules;
      within = omega (arith, l.invariant.within, c.in_ok-c.ensures.lens, c.in_ok-d.ensures.lens, len_utf8_bounds c.in_ok-c.c, len_utf8_bounds c.in_ok-d.d);
      same = sym (comment_end-open l.inner c.in_ok-c.c c.in_ok-d.d (chars l.rest.now) (chars c.in_ok-d.after_two.now) two other opens) ∙ l.invariant.same;
    }

pub characters-preserved : goal.characters-preserved
characters-preserved c =
    let l = c.characters in
    let two : chars l.rest.now ≡ c.in_ok-c.c ∷ c.in_ok-d.d ∷ chars c.in_ok-d.after_two.now = grind (arith, common_steps) in
    let one : chars c.in_ok-c.after.now ≡ c.in_ok-d.d ∷ chars c.in_ok-d.after_two.now = search rules in
    let other : (c.in_ok-c.c == 42 && c.in_ok-d.d == 47) ≡ false = search rules in
    let plain : (c.in_ok-c.c == 47 && c.in_ok-d.d == 42) ≡ false = search rules in
    record {
      text = search rules;
      within = omega (arith, l.invariant.within, c.in_ok-c.ensures.lens);
      same = ap (comment_end l.inner) one ∙ sym (comment_end-other l.inner c.in_ok-c.c c.in_ok-d.d (chars l.rest.now) (chars c.in_ok-d.after_two.now) two other plain) ∙ l.invariant.same;
    }
