use Rattle.std.proofs.Common.{◌≡◌, ◌++◌, map, take}
use Rattle.kt_decl.proofs.settle.push_names.Given as goal

abbrev pub invariant-loop-m : goal.invariant-loop-m
invariant-loop-m l = l.names.items ≡ l.fn.names.items ++ map (λ m. m.name) (take l.m-index l.members)
