use Rattle.std.proofs.Common.{◌≡◌, take, false}
use Rattle.std.specs.List.{list_any}
use Rattle.kt_model.specs.Outlines as spec
use Rattle.kt_decl.proofs.outlines.has_function_named.Given as goal

abbrev pub invariant-loop-m : goal.invariant-loop-m
invariant-loop-m l = list_any (spec.is_function_of l.name) (take l.m-index l.members) ≡ false
