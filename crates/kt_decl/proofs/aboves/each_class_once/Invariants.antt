use Rattle.std.proofs.Common.{◌≡◌, ◌∷◌, [], take, vec_len}
use Rattle.kt_model.specs.Classes.{any, each_once}
use Rattle.kt_decl.specs.Marks.{MarksMembers}
use Rattle.kt_decl.proofs.aboves.each_class_once.Given as goal

abbrev pub invariant-loop-c : goal.invariant-loop-c
invariant-loop-c l = record {
  marked : MarksMembers l.search.marks.items (any ∷ l.search.found.items);
  len : vec_len l.search.marks ≡ l.len;
  found : l.search.found.items ≡ each_once (any ∷ []) (take l.c-index l.climb);
}
