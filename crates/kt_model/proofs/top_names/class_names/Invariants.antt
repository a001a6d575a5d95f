use Rattle.std.proofs.Common.{◌≡◌, map, take}
use Rattle.kt_model.proofs.top_names.class_names.Given as goal

abbrev pub invariant-loop-c : goal.invariant-loop-c
invariant-loop-c l = l.names.items ≡ map (λ d. d.name.name) (take l.c-index l.classes)
