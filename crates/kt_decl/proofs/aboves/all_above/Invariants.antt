use Rattle.std.proofs.Common.{◌≡◌, vec_len, length}
use Rattle.kt_decl.specs.Marks.{IsFilled}
use Rattle.kt_decl.proofs.aboves.all_above.Given as goal

abbrev pub invariant-loop-count : goal.invariant-loop-count
invariant-loop-count l = record {
  len : vec_len l.aboves ≡ length l.classes;
  filled : IsFilled l.classes l.counts l.count l.aboves.items;
}
