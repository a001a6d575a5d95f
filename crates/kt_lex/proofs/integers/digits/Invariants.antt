use Rattle.std.proofs.Common.{◌≡◌, ◌<◌, length, false}
use denote.Text.{Utf8}
use denote.Shadow.{shadow}
use Rattle.std.specs.Str.{chars}
use Rattle.kt_tree.specs.Integers.{integer_limit, value_after, end_in_digit}
use Rattle.kt_lex.proofs.integers.digits.Given as goal

abbrev pub invariant-digits : goal.invariant-digits
invariant-digits l = record {
  text : shadow (Utf8 l.rest);
  limit : l.value < integer_limit;
  value : value_after l.base 0 (chars l.text) ≡ value_after l.base l.value (chars l.rest);
  ends : end_in_digit l.base false (chars l.text) ≡ end_in_digit l.base l.ends_in_digit (chars l.rest);
}

abbrev pub decreases-digits : goal.decreases-digits
decreases-digits l = length l.rest
