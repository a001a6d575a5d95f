use Rattle.std.proofs.Common.{◌≡◌, ◌<◌, ◌↔◌, ℕ, vec_len, slice_index}
use Rattle.kt_model.specs.Classes.{IsProperlyAbove}
use Rattle.kt_decl.specs.Marks.{CountsAbove, IsMarked}
use Rattle.kt_decl.proofs.hierarchy.search_all.Given as goal

abbrev pub invariant-loop-i : goal.invariant-loop-i
invariant-loop-i l = record {
  counts : (c : ℕ) → c < l.i → CountsAbove l.classes c (slice_index l.counts.items c);
  len : vec_len l.counts ≡ l.i;
  cycles : (c : ℕ) → c < l.i → IsMarked l.cycles.items c ↔ IsProperlyAbove l.classes c c;
  marks : vec_len l.cycles ≡ l.i;
}
