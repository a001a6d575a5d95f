use Rattle.std.proofs.Common.{◌≡◌, ◌++◌, drop}
use Rattle.kt_model.specs.Scopes.{parameters_from}
use Rattle.kt_scope.proofs.declarations.parameters.Given as goal

abbrev pub invariant-loop-f : goal.invariant-loop-f
invariant-loop-f l = l.lists ++ parameters_from l.next (drop l.f-index l.functions) ≡ parameters_from l.first l.functions
