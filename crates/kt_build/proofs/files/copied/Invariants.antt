use Rattle.std.proofs.Common.{◌≡◌, ◌≤◌, [], length, drop}
use Rattle.kt_tree.specs.BuiltIn.{with_texts}
use Rattle.kt_build.proofs.files.copied.Given as goal

abbrev pub invariant-loop-number : goal.invariant-loop-number
invariant-loop-number l = record {
  names : with_texts l.copy (drop l.number l.names) ≡ with_texts [] l.names;
  room : length l.copy ≤ l.number;
}
