use Rattle.std.proofs.Common.{◌≡◌, ◌+◌, ◌≤◌, length}
use denote.Text.{Utf8}
use denote.Shadow.{shadow}
use Rattle.std.specs.Str.{chars}
use Rattle.kt_tree.specs.Places as spec
use Rattle.kt_tree.proofs.source.place_after.Given as goal

abbrev pub invariant-characters : goal.invariant-characters
invariant-characters l = record {
  text : shadow (Utf8 l.left);
  line : l.line + length l.left ≤ 1 + length l.fn.front;
  column : l.column + length l.left ≤ 1 + length l.fn.front;
  place : spec.place_after l.line l.column (chars l.left) (chars l.rest) ≡ spec.place_after 1 1 (chars l.fn.front) (chars l.rest);
}

abbrev pub decreases-characters : goal.decreases-characters
decreases-characters l = length l.left
