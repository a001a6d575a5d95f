use Rattle.std.proofs.Common.{length, string_bytes}
use denote.Text.{Utf8}
use denote.Shadow.{shadow}
use Rattle.std.specs.Str.{chars}
use Rattle.kt_lex.specs.Units.{AreUnits}
use Rattle.kt_lex.proofs.strings.piece_move.Given as goal

abbrev pub invariant-units : goal.invariant-units
invariant-units l = record {
  text : shadow (Utf8 l.rest);
  units : AreUnits (chars l.s) (chars (string_bytes l.value)) (chars l.rest);
}

abbrev pub decreases-units : goal.decreases-units
decreases-units l = length l.rest
