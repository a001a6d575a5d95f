use Rattle.std.proofs.Common.{◌∙◌, ◌++◌, ap, map}
use Rattle.std.specs.List.{flat_map}
use Rattle.kt_model.specs.BuiltIns.{built_in_functions}
use Rattle.kt_model.specs.NameEvents.{function_events}
use Rattle.kt_model.specs.Scopes.{built_in_declaration, function_declarations}
use Rattle.kt_scope.proofs.Whole.{whole, whole_declared, whole_rows, whole_found}
use Rattle.kt_scope.proofs.uses.resolved.Goals as goal

pub returns-clause-declared : goal.returns-clause-declared
returns-clause-declared c =
    whole_declared c.args.file.now c.in_ok-resolver.resolver (whole c.args.file.now c.args.tops.now _ _ c.in_ok-resolver.resolver c.requires (c.in_ok-declared.ensures.declared ∙ ap (λ fs. map built_in_declaration built_in_functions ++ function_declarations c.args.tops.now 0 fs) c.as_slice-functions.ensures) (c.deref.ensures.value ∙ c.in_ok-events.ensures ∙ ap (flat_map function_events) c.as_slice-functions.ensures) c.in_ok-resolver.ensures)

pub returns-clause-rows : goal.returns-clause-rows
returns-clause-rows c =
    whole_rows c.args.file.now c.in_ok-resolver.resolver (whole c.args.file.now c.args.tops.now _ _ c.in_ok-resolver.resolver c.requires (c.in_ok-declared.ensures.declared ∙ ap (λ fs. map built_in_declaration built_in_functions ++ function_declarations c.args.tops.now 0 fs) c.as_slice-functions.ensures) (c.deref.ensures.value ∙ c.in_ok-events.ensures ∙ ap (flat_map function_events) c.as_slice-functions.ensures) c.in_ok-resolver.ensures)

pub returns-clause-found : goal.returns-clause-found
returns-clause-found c =
    whole_found c.args.file.now c.in_ok-resolver.resolver (whole c.args.file.now c.args.tops.now _ _ c.in_ok-resolver.resolver c.requires (c.in_ok-declared.ensures.declared ∙ ap (λ fs. map built_in_declaration built_in_functions ++ function_declarations c.args.tops.now 0 fs) c.as_slice-functions.ensures) (c.deref.ensures.value ∙ c.in_ok-events.ensures ∙ ap (flat_map function_events) c.as_slice-functions.ensures) c.in_ok-resolver.ensures)
