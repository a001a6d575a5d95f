use Rattle.std.proofs.Common.{◌≡◌, map, take}
use Rattle.kt_model.specs.Outlines as spec
use Rattle.kt_decl.proofs.outlines.result_types.Given as goal

abbrev pub invariant-loop-f : goal.invariant-loop-f
invariant-loop-f l = l.out.items ≡ map (spec.function_result l.tops) (take l.f-index l.functions)
