use Rattle.std.proofs.Common.{◌≡◌, ◌+◌, ◌≤◌, length}
use Rattle.kt_report.specs.Report as spec
use Rattle.kt_report.proofs.place_behind.Given as goal

abbrev pub invariant-bytes : goal.invariant-bytes
invariant-bytes l = record {
  line : l.place.line + length l.left ≤ 1 + length l.fn.front;
  column : l.place.column + length l.left ≤ 1 + length l.fn.front;
  place : spec.place_behind l.place.line l.place.column l.left l.rest ≡ spec.place_behind 1 1 l.fn.front l.rest;
}

abbrev pub decreases-bytes : goal.decreases-bytes
decreases-bytes l = length l.left
