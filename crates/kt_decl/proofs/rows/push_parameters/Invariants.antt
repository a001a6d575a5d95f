use Rattle.std.proofs.Common.{◌≡◌, ◌++◌, take}
use Rattle.std.specs.List.{filter_map}
use Rattle.kt_model.specs.Outlines as spec
use Rattle.kt_decl.proofs.rows.push_parameters.Given as goal

abbrev pub invariant-loop-p : goal.invariant-loop-p
invariant-loop-p l = l.out ≡ l.fn.out ++ filter_map (spec.parameter_row l.tops) (take l.p-index l.parameters)
