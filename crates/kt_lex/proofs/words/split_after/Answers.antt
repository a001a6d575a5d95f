use Rattle.std.proofs.Common.{◌≡◌, ℕ, zero, suc, ◌<◌, ◌++◌, ◌∷◌, List, [], length, Some, None, refl, sym, ap, ◌∙◌, rules, arith, append_assoc, append-nil, length-append}
use Rattle.std.specs.Char.{encode_utf8}
use Rattle.std.specs.Str.{chars}
use Rattle.kt_lex.specs.Steps.{split_after, longer_front}
use Rattle.kt_lex.proofs.Runs.{chars-front}
use Rattle.kt_lex.proofs.words.split_after.Goals as goal

-- a front of n characters
split_after-some : (n : ℕ) (front cs : List ℕ) → length front ≡ n → split_after n (front ++ cs) ≡ Some (front, cs)
split_after-some zero [] cs e = refl
split_after-some zero (c ∷ front) cs e = absurd (omega arith)
split_after-some (suc n) [] cs e = absurd (omega arith)
split_after-some (suc n) (c ∷ front) cs e = ap (longer_front c) (split_after-some n front cs (omega arith))

-- a text that is too short
split_after-none : (n : ℕ) (cs : List ℕ) → length cs < n → split_after n cs ≡ None
split_after-none zero cs h = absurd (omega arith)
split_after-none (suc n) [] h = refl
split_after-none (suc n) (c ∷ cs) h = ap (longer_front c) (split_after-none n cs (omega arith))

pub loop-preserved : goal.loop-preserved
loop-preserved c =
    let l = c.loop in
    let d = c.in_ok-after.field-0-0 in
    let after = c.in_ok-after.after.now in
    let (front, cut) = l.invariant.cut in
    let (cs, parts, len) = l.invariant.front in
    record {
      text = search rules;
      cut = (front ++ encode_utf8 d, cut ∙ ap (λ t. front ++ t) c.in_ok-after.ensures.bytes ∙ sym (append_assoc front (encode_utf8 d) after));
      front = (cs ++ d ∷ [], parts ∙ ap (λ t. cs ++ t) c.in_ok-after.ensures.some ∙ sym (append_assoc cs (d ∷ []) (chars after)), omega (arith, length-append cs (d ∷ []), len));
    }

pub returns-in_err-after : goal.returns-in_err-after
returns-in_err-after c =
    let l = c.loop in
    let s = chars c.args.s.now in
    let (cs, parts, len) = l.invariant.front in
    let whole : s ≡ cs = parts ∙ ap (λ t. cs ++ t) c.in_err-after.ensures.none ∙ append-nil cs in
    let none : split_after c.args.n s ≡ None = split_after-none c.args.n s (omega (arith, ap length whole, len, c.loop-test.true)) in
    let got : c.from_residual.result ≡ None = search rules in
    rw got (sym none)

pub returns : goal.returns
returns c =
    let s = c.args.s.now in
    let rest = c.loop.rest.now in
    let (cs, parts, len) = c.loop.invariant.front in
    let same = chars-front s c.front_before.result.now rest cs c.utf8.s c.loop.invariant.text c.front_before.ensures parts in
    let n : length cs ≡ c.args.n = omega (arith, len, c.loop-test.false, c.loop.auto.counter-end) in
    ap (λ t. Some (t, chars rest)) same ∙ sym (split_after-some c.args.n cs (chars rest) n) ∙ ap (split_after c.args.n) (sym parts)
