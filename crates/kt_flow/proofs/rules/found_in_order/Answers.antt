use Rattle.std.proofs.Common.{◌≡◌, ◌⊎◌, [], length, sym, subst, arith}
use Rattle.kt_model.specs.Findings.{Adds}
use Rattle.kt_model.specs.declared.finding.Finding.{Finding}
use Rattle.kt_flow.specs.Against.{IsAgainstBefore}
use Rattle.kt_flow.specs.Ends.{IsAgainstEnd, IsAgainstBody}
use Rattle.kt_flow.proofs.Adding.{adds_both, findings_of_walk}
use Rattle.kt_flow.proofs.rules.found_in_order.Goals as goal

pub returns : goal.returns
returns c =
    let notes = c.args.notes.now in
    let g = c.args.graph.now in
    let body = c.args.body.now in
    let e : c.in-Ok.end ≡ length g.nodes = omega (arith, c.in-Ok.ensures) in
    findings_of_walk (λ (f : Finding). IsAgainstBefore notes g c.in-Ok.end f ⊎ IsAgainstEnd body.file.now body.uses.now g body.owner f) (IsAgainstBody body.file.now body.uses.now body.owner notes g) c.add_end.new.found.items c.in_order.result
    (λ (f : Finding) h. subst (λ k. IsAgainstBefore notes g k f ⊎ IsAgainstEnd body.file.now body.uses.now g body.owner f) e h)
    (λ (f : Finding) h. subst (λ k. IsAgainstBefore notes g k f ⊎ IsAgainstEnd body.file.now body.uses.now g body.owner f) (sym e) h)
    (adds_both (IsAgainstBefore notes g c.in-Ok.end) (IsAgainstEnd body.file.now body.uses.now g body.owner) [] c.add_nodes.new.found.items c.add_end.new.found.items
    (subst (λ l. Adds (IsAgainstBefore notes g c.in-Ok.end) l c.add_nodes.new.found.items) c.new-found.ensures.items c.in_ok-add_nodes.ensures) c.in_ok-add_end.ensures)
    c.in_order.ensures
