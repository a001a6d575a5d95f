use Rattle.std.proofs.Common.{arith, sym, ◌∙◌}
use Rattle.kt_init.proofs.Analysed.{node_within, reached_told}
use Rattle.kt_init.proofs.init.Init.reached.Goals as goal

pub reached-requires : goal.reached-requires
reached-requires c =
    let i = c.self.inside in
    let l = node_within c.self.inside.nodes c.self.inside.variables c.self.inside.rows c.args.self.now c.self.view_is c.args.node c.requires in
    omega (arith, l, c.self.invariant.nodes_within)

pub returns : goal.returns
returns c = c.reached.ensures ∙ sym (reached_told c.self.inside.nodes c.self.inside.variables c.self.inside.rows c.args.self.now c.self.view_is c.args.node c.requires)
