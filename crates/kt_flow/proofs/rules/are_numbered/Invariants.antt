use Rattle.std.proofs.Common.{◌≡◌, ◌+◌, ◌<◌, ℕ, get_or}
use Rattle.kt_flow.proofs.Ordered.{numbers}
use Rattle.kt_flow.proofs.rules.are_numbered.Given as goal

abbrev pub invariant-loop-note : goal.invariant-loop-note
invariant-loop-note l = record {
  last : l.last ≡ get_or (numbers l.notes) l.note-index 0;
  rises : (k : ℕ) → k < l.note-index → get_or (numbers l.notes) k 0 < get_or (numbers l.notes) (k + 1) 0;
}
