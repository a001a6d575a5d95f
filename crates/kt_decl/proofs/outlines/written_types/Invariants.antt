use Rattle.std.proofs.Common.{◌≡◌, map, take}
use Rattle.kt_model.specs.Outlines as spec
use Rattle.kt_decl.proofs.outlines.written_types.Given as goal

abbrev pub invariant-loop-w : goal.invariant-loop-w
invariant-loop-w l = l.out ≡ map (spec.written_type l.tops) (take l.w-index l.types)
