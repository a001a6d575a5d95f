use Rattle.std.proofs.Common.{◌≡◌, ◌++◌, length, ap, arith, length-append, rules}
use Rattle.std.specs.Char.{encode_utf8}
use Rattle.std.proofs.lemmas.Str.{chars_past_char, length-encode}
use Rattle.kt_tree.proofs.text.split_first.Goals as goal

pub returns-in-Some-clause-some : goal.returns-in-Some-clause-some
returns-in-Some-clause-some c =
    let front : c.args.s.now ≡ encode_utf8 c.in-Some.c ++ c.as_str.result.now = search rules in
    chars_past_char c.args.s.now c.as_str.result.now c.in-Some.c c.utf8.s front

pub returns-in-Some-clause-lens : goal.returns-in-Some-clause-lens
returns-in-Some-clause-lens c =
    let front : c.args.s.now ≡ encode_utf8 c.in-Some.c ++ c.as_str.result.now = search rules in
    omega (arith, ap length front, length-append (encode_utf8 c.in-Some.c) c.as_str.result.now, length-encode c.in-Some.c)
