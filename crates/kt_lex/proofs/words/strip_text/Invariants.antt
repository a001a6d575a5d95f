use Rattle.std.proofs.Common.{◌≡◌, length}
use denote.Text.{Utf8}
use denote.Shadow.{shadow}
use Rattle.std.specs.Str.{chars}
use Rattle.kt_lex.specs.Steps as steps
use Rattle.kt_lex.proofs.words.strip_text.Given as goal

abbrev pub invariant-characters : goal.invariant-characters
invariant-characters l = record {
  text : shadow (Utf8 l.rest);
  front : shadow (Utf8 l.left);
  same : steps.strip_text (chars l.left) (chars l.rest) ≡ steps.strip_text (chars l.fn.front) (chars l.s);
}

abbrev pub decreases-characters : goal.decreases-characters
decreases-characters l = length (chars l.left)
