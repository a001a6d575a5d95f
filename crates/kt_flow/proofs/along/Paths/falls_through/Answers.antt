use Rattle.std.proofs.Common.{◌↔◌, map, subst, IsTrue}
use Rattle.kt_model.specs.BodyTrees.{listed, stmt_tree}
use Rattle.kt_model.specs.NameUses.{named_at}
use Rattle.kt_flow.specs.Ends.{IsEndAt}
use Rattle.kt_flow.proofs.Ended.{falls_by}
use Rattle.kt_flow.proofs.along.Paths.falls_through.Goals as goal

pub returns-then-gives_value : goal.returns-then-gives_value
returns-then-gives_value c =
    let g = c.args.self.now.graph.now in
    let uses = c.args.uses.now in
    falls_by g uses c.args.place c.args.body.now c.in-Block.contract c.in-Block.block c.is_end_reached.result c.in-Block.is (c.gives_value.ensures.0 c.if-gives_value.true)
    (subst (λ ss. IsTrue c.is_end_reached.result ↔ IsEndAt g (listed (map (stmt_tree (named_at uses)) ss))) c.as_slice.ensures (c.is_end_reached.ensures (named_at uses)))
