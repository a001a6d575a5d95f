use Rattle.std.proofs.Common.{◌≡◌, ◌++◌, take}
use Rattle.std.specs.List.{flat_map}
use Rattle.kt_model.specs.Sites.{sites_in_function}
use Rattle.kt_bodies.proofs.bodies.in_functions.Given as goal

abbrev pub invariant-loop-f : goal.invariant-loop-f
invariant-loop-f l = l.out.items ≡ l.fn.out.items ++ flat_map (λ f. sites_in_function f.body) (take l.f-index l.functions)
