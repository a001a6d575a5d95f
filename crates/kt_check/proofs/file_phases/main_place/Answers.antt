use Rattle.std.proofs.Common.{◌≡◌, List, None, position, sym, ◌∙◌, subst}
use Rattle.kt_tree.specs.declared.ast.declaration.FunctionDecl.{FunctionDecl}
use Rattle.kt_model.specs.DeclarationRules.{is_main}
use Rattle.kt_model.specs.TopNames.{Tops}
use Rattle.kt_check.proofs.MainFound.{none_found}
use Rattle.kt_check.proofs.file_phases.main_place.Goals as goal

pub unreachable-requires : goal.unreachable-requires
unreachable-requires c =
    let none : position (is_main c.in_ok-tops.tops) c.as_slice.result.now ≡ None = sym c.place_of_main.ensures ∙ c.in-None.is in
    let here = subst (λ (fs : List FunctionDecl). position (is_main c.in_ok-tops.tops) fs ≡ None) c.as_slice.ensures none in
    c.requires _ (none_found c.args.file.now (subst (λ (t : Tops). position (is_main t) c.args.file.now.functions ≡ None) c.in_ok-tops.ensures here))
