use Rattle.std.proofs.Common.{◌≡◌, ◌+◌, ◌≤◌, length}
use denote.Text.{Utf8}
use denote.Shadow.{shadow}
use Rattle.std.specs.Str.{chars}
use Rattle.kt_tree.specs.Moves.{comment_end}
use Rattle.kt_lex.proofs.moves.comment_end.Given as goal

abbrev pub invariant-characters : goal.invariant-characters
invariant-characters l = record {
  text : shadow (Utf8 l.rest);
  within : l.inner + length l.rest ≤ length l.fn.s;
  same : comment_end l.inner (chars l.rest) ≡ comment_end 0 (chars l.fn.s);
}

abbrev pub decreases-characters : goal.decreases-characters
decreases-characters l = length (chars l.rest)
