use Rattle.std.proofs.Common.{◌≡◌, ◌+◌, ◌<◌, ℕ, length, arith, ap, sym, ◌∙◌, refl, subst, true}
use Rattle.kt_model.specs.declared.graph.NodeRow.{NodeRow}
use Rattle.kt_model.specs.Bodies.{node_at}
use Rattle.kt_init.specs.Statuses.{Statuses}
use Rattle.kt_init.specs.Marks.{AreMarked, marked}
use Rattle.kt_init.proofs.Analysed.{told_nodes}
use Rattle.kt_init.proofs.Marking.{all_marked, none_marked, one_marked_as}
use Rattle.kt_init.proofs.init.Init.marks.Goals as goal

pub reached-reached-requires : goal.reached-reached-requires
reached-reached-requires c =
    let l = told_nodes c.self.inside.nodes c.self.inside.variables c.self.inside.rows c.args.self.now c.self.view_is in
    omega (arith, l)

pub bounds-rows-node : goal.bounds-rows-node
bounds-rows-node c =
    let l = told_nodes c.self.inside.nodes c.self.inside.variables c.self.inside.rows c.args.self.now c.self.view_is in
    omega (arith, l, c.requires.nodes, ap length c.as_slice-rows.ensures)

pub loop-node-preserved : goal.loop-node-preserved
loop-node-preserved c =
    let l = told_nodes c.self.inside.nodes c.self.inside.variables c.self.inside.rows c.args.self.now c.self.view_is in
    one_marked_as c.args.g.now c.args.self.now c.loop-node.node c.as_slice-rows.result.now c.index-rows-node.result c.reached-reached.result c.loop-node.marks.begun.keys c.loop-node.marks.entered.keys
    (omega (arith, l, c.requires.nodes)) c.as_slice-rows.ensures c.index-rows-node.is c.reached-reached.ensures
    c.loop-node.invariant c.in_ok-mark.ensures.begun c.in_ok-mark.ensures.entered

pub returns : goal.returns
returns c =
    let l = told_nodes c.self.inside.nodes c.self.inside.variables c.self.inside.rows c.args.self.now c.self.view_is in
    all_marked c.args.g.now c.args.self.now c.loop-node.node (length c.args.g.now.nodes) _ _ (omega (arith, l, c.requires.nodes)) c.loop-node.invariant
