use Rattle.std.proofs.Common.{◌≡◌, ◌++◌, take}
use Rattle.std.specs.List.{filter_map}
use Rattle.kt_model.specs.Outlines as spec
use Rattle.kt_decl.proofs.rows.push_declared.Given as goal

abbrev pub invariant-loop-m : goal.invariant-loop-m
invariant-loop-m l =
    l.out ≡ l.fn.out ++ filter_map (spec.member_row (record { file = l.around.file.now; above = l.around.above.now; parameters = l.around.parameters.now }) l.in_interface) (take l.m-index l.members)
