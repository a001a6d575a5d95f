use Rattle.std.proofs.Common.{◌≡◌, get_or, ap}
use Rattle.kt_model.specs.NodePaths.{entry_of}
use Rattle.kt_init.proofs.Built.{built}
use Rattle.kt_init.proofs.problem.problem_of.Goals as goal

pub returns : goal.returns
returns c =
    let q = c.requires in
    let e0 = rw (q.nodes, q.count) at c.in_ok-problem.ensures in
    let e1 = c.in_ok-add_edges.ensures in
    let entry : get_or c.as_slice-2.result.now 0 0 ≡ entry_of c.args.g.now = ap (λ xs. get_or xs 0 0) c.as_slice-2.ensures in
    let e2 = rw (q.nodes, entry) at c.in_ok-edge.ensures.ok in
    let e3 = rw (q.nodes, q.count) at c.in_ok-effect_range.ensures.ok in
    let e4 = rw (q.nodes, q.count) at c.in_ok-add_copies.ensures.copies in
    built c.args.g.now c.in_ok-problem.problem c.add_edges.new.problem c.edge.new.self c.effect_range.new.self c.add_copies.new.problem c.add_nodes.new.problem
    e0 e1 e2 e3 c.in_ok-add_copies.ensures.frame e4 c.in_ok-add_nodes.ensures.frame c.in_ok-add_nodes.ensures.nodes
