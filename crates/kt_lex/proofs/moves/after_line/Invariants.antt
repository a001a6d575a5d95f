use Rattle.std.proofs.Common.{◌≡◌, length}
use denote.Text.{Utf8}
use denote.Shadow.{shadow}
use Rattle.std.specs.Str.{chars}
use Rattle.kt_tree.specs.Moves.{is_in_line}
use Rattle.kt_tree.specs.Text.{after_run}
use Rattle.kt_lex.proofs.moves.after_line.Given as goal

abbrev pub invariant-characters : goal.invariant-characters
invariant-characters l = record {
  text : shadow (Utf8 l.rest);
  same : after_run is_in_line (chars l.rest) ≡ after_run is_in_line (chars l.s);
}

abbrev pub decreases-characters : goal.decreases-characters
decreases-characters l = length (chars l.rest)
