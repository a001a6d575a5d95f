use Rattle.std.proofs.Common.{◌≡◌, vec_len, length}
use Rattle.kt_decl.specs.Marks.{IsFilled, IsFilledTo}
use Rattle.kt_decl.proofs.aboves.fill_count.Given as goal

abbrev pub invariant-loop-i : goal.invariant-loop-i
invariant-loop-i l = record {
  len : vec_len l.aboves ≡ length l.classes;
  filled : IsFilled l.classes l.counts l.count l.aboves.items;
  here : IsFilledTo l.classes l.counts l.count l.i l.aboves.items;
}
