use Rattle.std.proofs.Common.{◌≡◌, map, take}
use Rattle.kt_model.proofs.top_names.function_names.Given as goal

abbrev pub invariant-loop-f : goal.invariant-loop-f
invariant-loop-f l = l.names.items ≡ map (λ d. d.name.name) (take l.f-index l.functions)
