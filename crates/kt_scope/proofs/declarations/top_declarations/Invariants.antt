use Rattle.std.proofs.Common.{◌≡◌, ◌++◌, ◌+◌, map, drop, length}
use Rattle.kt_model.specs.BuiltIns.{built_in_functions}
use Rattle.kt_model.specs.Scopes.{built_in_declaration, function_declarations, first_function}
use Rattle.kt_scope.proofs.declarations.top_declarations.Given as goal

abbrev pub invariant-loop-f : goal.invariant-loop-f
invariant-loop-f l = record {
  place : l.place ≡ l.f-index;
  count : length l.declared.items ≡ first_function + l.f-index;
  left : l.declared.items ++ function_declarations l.tops l.f-index (drop l.f-index l.functions) ≡ map built_in_declaration built_in_functions ++ function_declarations l.tops 0 l.functions;
}
