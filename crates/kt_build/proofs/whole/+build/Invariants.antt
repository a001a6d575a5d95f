use Rattle.std.proofs.Common.{◌≡◌, ◌++◌, map, drop}
use Rattle.kt_tree.specs.Trees.{built, all_built}
use Rattle.kt_build.proofs.whole.+build.Given as goal

abbrev pub invariant-build_all-loop-phrase : goal.invariant-build_all-loop-phrase
invariant-build_all-loop-phrase l = record {
  made : l.made ++ (all_built (map (built l.tokens) (drop l.phrase-index l.phrases)) l.next).0 ≡ l.fn.made ++ (all_built (map (built l.tokens) l.phrases) l.fn.next).0;
  next : (all_built (map (built l.tokens) (drop l.phrase-index l.phrases)) l.next).1 ≡ (all_built (map (built l.tokens) l.phrases) l.fn.next).1;
}
