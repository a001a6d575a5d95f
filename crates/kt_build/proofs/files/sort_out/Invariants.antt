use Rattle.std.proofs.Common.{◌≡◌, ◌++◌, length}
use Rattle.kt_tree.specs.Trees.{classes_in, functions_in}
use Rattle.kt_build.proofs.files.sort_out.Given as goal

abbrev pub invariant-declarations : goal.invariant-declarations
invariant-declarations l = record {
  classes : l.classes ++ classes_in l.made ≡ l.fn.classes ++ classes_in l.fn.made;
  functions : l.functions ++ functions_in l.made ≡ l.fn.functions ++ functions_in l.fn.made;
}

abbrev pub decreases-declarations : goal.decreases-declarations
decreases-declarations l = length l.made
