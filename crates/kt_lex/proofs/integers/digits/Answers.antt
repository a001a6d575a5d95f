use Rattle.std.proofs.Common.{◌≡◌, true, false, ◌&&◌, nat_lt, None, Some, sym, ap, ◌∙◌, inl, inr, rules}
use Rattle.std.proofs.lemmas.Bool.{and_left}
use Rattle.std.proofs.lemmas.Bool.Decides.{nat_tests}
use Rattle.std.specs.Str.{chars}
use Rattle.kt_tree.specs.Text.{first}
use Rattle.kt_lex.specs.Steps.{push_digit}
use Rattle.kt_tree.specs.Integers.{is_digit_of, end_in_digit, value_after, integer_limit}
use Rattle.kt_lex.proofs.Digits.{push-some, push-none, digits-some, digits-none}
use Rattle.kt_lex.proofs.integers.digits.Goals as goal

pub returns-then-not-is_digit : goal.returns-then-not-is_digit
returns-then-not-is_digit c =
    let miss : is_digit_of c.args.base (first (chars c.args.text.now)) ≡ false = search (rules, nat_tests) in
    sym (digits-none c.args.base (chars c.args.text.now) (inl miss))

pub returns-in_err-value : goal.returns-in_err-value
returns-in_err-value c =
    let l = c.digits in
    let text = chars c.args.text.now in
    let here = c.in-Some.ensures.some in
    let none : push_digit c.args.base l.value c.in-Some.c ≡ None = search rules in
    let stop = push-none c.args.base l.value c.in-Some.c l.ends_in_digit (chars c.in-Some.after.now) c.requires.low none in
    let whole : (end_in_digit c.args.base false text && nat_lt (value_after c.args.base 0 text) integer_limit) ≡ false =
    rw (l.invariant.ends, l.invariant.value, here) stop in
    let got : c.from_residual.result ≡ None = search rules in
    got ∙ sym (digits-none c.args.base text (inr whole))

pub digits-preserved : goal.digits-preserved
digits-preserved c =
    let l = c.digits in
    let here = c.in-Some.ensures.some in
    let some : push_digit c.args.base l.value c.in-Some.c ≡ Some c.in_ok-value.value = search rules in
    let step = push-some c.args.base l.value c.in_ok-value.value c.in-Some.c l.ends_in_digit (chars c.in-Some.after.now) c.requires.high l.invariant.limit some in
    record {
      text = search rules;
      limit = step.limit;
      value = l.invariant.value ∙ ap (value_after c.args.base l.value) here ∙ step.value;
      ends = l.invariant.ends ∙ ap (end_in_digit c.args.base l.ends_in_digit) here ∙ step.ends;
    }

pub returns-then-ends_in_digit : goal.returns-then-ends_in_digit
returns-then-ends_in_digit c =
    let l = c.digits in
    let end = c.in_default.ensures.none in
    let begins : is_digit_of c.args.base (first (chars c.args.text.now)) ≡ true = search (rules, nat_tests) in
    sym (digits-some c.args.base l.value (chars c.args.text.now) begins
    (l.invariant.ends ∙ ap (end_in_digit c.args.base l.ends_in_digit) end ∙ c.if-ends_in_digit.true)
    (l.invariant.value ∙ ap (value_after c.args.base l.value) end) l.invariant.limit)

pub returns-else-ends_in_digit : goal.returns-else-ends_in_digit
returns-else-ends_in_digit c =
    let l = c.digits in
    let text = chars c.args.text.now in
    let end = c.in_default.ensures.none in
    let ends : end_in_digit c.args.base false text ≡ false = l.invariant.ends ∙ ap (end_in_digit c.args.base l.ends_in_digit) end ∙ c.if-ends_in_digit.false in
    sym (digits-none c.args.base text (inr (and_left (end_in_digit c.args.base false text) (nat_lt (value_after c.args.base 0 text) integer_limit) ends)))
