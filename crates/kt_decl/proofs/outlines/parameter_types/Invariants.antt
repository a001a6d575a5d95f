use Rattle.std.proofs.Common.{◌≡◌, map, take}
use Rattle.kt_model.specs.Outlines as spec
use Rattle.kt_decl.proofs.outlines.parameter_types.Given as goal

abbrev pub invariant-loop-p : goal.invariant-loop-p
invariant-loop-p l = l.out ≡ map (λ p. spec.parameter_type l.tops p.kind) (take l.p-index l.parameters)
