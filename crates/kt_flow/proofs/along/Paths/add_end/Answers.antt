use Rattle.std.proofs.Common.{◌≡◌, Some, None, slice_get, refl, ap, sym, ◌∙◌}
use Rattle.std.proofs.lemmas.Option.{slice_get_read, slice_get_past}
use Rattle.kt_flow.proofs.Adding.{adds_none}
use Rattle.kt_flow.proofs.Ended.{end_on, no_body, no_function}
use Rattle.kt_flow.proofs.along.Paths.add_end.Goals as goal

pub returns-in-Some-body : goal.returns-in-Some-body
returns-in-Some-body c =
    let body = c.args.body.now in
    let place = c.in-Function.place in
    let lookup = c.in-Some.ensures.lookup in
    let there : slice_get body.file.now.functions place ≡ Some c.in-Some.function.now = ap (λ fs. slice_get fs place) (sym c.as_slice.ensures) ∙ slice_get_read c.as_slice.result.now _ place c.in-Some.function.now refl lookup.3.0 lookup.1 in
    end_on body.file.now body.uses.now c.args.self.now.graph.now body.owner place c.in-Function.is c.add_if.result c.in-Some.function.now c.in-Some-body.written c.falls_through-falls.result _ _
    there c.in-Some-body.is c.falls_through-falls.ensures c.add_if.ensures

pub returns-in-None-body : goal.returns-in-None-body
returns-in-None-body c =
    let body = c.args.body.now in
    let place = c.in-Function.place in
    let lookup = c.in-Some.ensures.lookup in
    let there : slice_get body.file.now.functions place ≡ Some c.in-Some.function.now = ap (λ fs. slice_get fs place) (sym c.as_slice.ensures) ∙ slice_get_read c.as_slice.result.now _ place c.in-Some.function.now refl lookup.3.0 lookup.1 in
    adds_none _ _ (no_body body.file.now body.uses.now c.args.self.now.graph.now body.owner place c.in-Function.is c.in-Some.function.now there c.in-None-body.is)

pub returns-in-None : goal.returns-in-None
returns-in-None c =
    let body = c.args.body.now in
    let place = c.in-Function.place in
    let there : slice_get body.file.now.functions place ≡ None = ap (λ fs. slice_get fs place) (sym c.as_slice.ensures) ∙ slice_get_past c.as_slice.result.now place c.in-None.ensures.lookup.3 in
    adds_none _ _ (no_function body.file.now body.uses.now c.args.self.now.graph.now body.owner place c.in-Function.is there)
