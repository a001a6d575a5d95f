use Rattle.std.proofs.Common.{sym, ap, ◌∙◌}
use Rattle.kt_model.specs.NameUses.{declaration_type, parameters_at}
use Rattle.std.specs.Prelude.{slice_get}
use Rattle.std.specs.Option.{option_and_then}
use Rattle.kt_typing.specs.Typing.{first_way, value_way}
use Rattle.kt_infer.specs.Demands.{as_ways, ways_from}
use Rattle.kt_infer.proofs.WaysFrom.{way_of_each, way_of_parameter}
use Rattle.kt_infer.proofs.calls.Ways.at.Goals as goal

pub returns-in-Each : goal.returns-in-Each
returns-in-Each c =
    sym (ap (λ w. first_way (ways_from c.args.place (as_ways c.args.uses.now w))) c.in-Each.is ∙ way_of_each c.in-Each.way c.args.place)

pub returns-in-Parameters : goal.returns-in-Parameters
returns-in-Parameters c =
    let written = declaration_type c.args.uses.now in
    c.value_way.ensures
    ∙ ap value_way (c.parameter_type.ensures ∙ ap (λ xs. option_and_then written (slice_get xs c.args.place)) c.parameters.ensures)
    ∙ sym (ap (λ w. first_way (ways_from c.args.place (as_ways c.args.uses.now w))) c.in-Parameters.is
    ∙ way_of_parameter written (parameters_at c.args.uses.now c.in-Parameters.f) c.args.place)
