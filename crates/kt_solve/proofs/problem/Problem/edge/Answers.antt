use Rattle.std.proofs.Common.{◌≡◌, ◌+◌, ◌<◌, length, get_or, arith, rules, ap, ◌∙◌}
use Rattle.std.proofs.lemmas.List.{get_or_default}
use Rattle.kt_solve.specs.Flow.{Flow}
use Rattle.kt_solve.proofs.Links.{problem_push}
use Rattle.kt_solve.proofs.problem.Problem.edge.Goals as goal

pub invariant_of-self-2 : goal.invariant_of-self-2
invariant_of-self-2 c =
    let i = c.self.inside in
    let n : c.self.inside.nodes ≡ c.args.self.now.nodes = ap (λ (f : Flow). f.nodes) c.self.view_is in
    let h : c.args.from < length c.self.inside.last.items = omega (arith, c.self.invariant.lasts, n, c.requires.from) in
    let b : c.index-before.result.now ≡ get_or c.self.inside.last.items c.args.from 0 = c.index-before.ensures ∙ get_or_default c.self.inside.last.items c.args.from c.index-before.result.now 0 h in
    let l : c.len.result ≡ length c.self.inside.edges.items + 1 = search rules in
    rw (c.in_ok-push.ensures.items, b, l) (problem_push i.nodes i.pairs i.entry i.edges.items i.last.items i.effects.items c.args.from c.args.to c.self.invariant (omega (arith, n, c.requires.from)) (omega (arith, n, c.requires.to)))
