use Rattle.std.proofs.Common.{◌+◌, ◌*◌, true, false, arith, sym, ◌∙◌}
use Rattle.kt_solve.specs.Table.{reached_at, holds_at}
use Rattle.kt_init.proofs.Analysed.{assigned_is, node_within, status_is, status_told, unreached_is}
use Rattle.kt_init.proofs.init.Init.status.Goals as goal

pub reached-requires : goal.reached-requires
reached-requires c =
    let l = node_within c.self.inside.nodes c.self.inside.variables c.self.inside.rows c.args.self.now c.self.view_is c.args.node c.requires.node in
    omega (arith, l, c.self.invariant.nodes_within)

pub returns-then-not-reached : goal.returns-then-not-reached
returns-then-not-reached c =
    let told = status_told c.self.inside.nodes c.self.inside.variables c.self.inside.rows c.args.self.now c.self.view_is c.args.node c.args.variable c.requires.node c.requires.variable in
    sym (told ∙ unreached_is (reached_at c.self.inside.rows c.args.node) (holds_at c.self.inside.rows c.args.node (2 * c.self.inside.variables + c.args.variable)) (holds_at c.self.inside.rows c.args.node (3 * c.self.inside.variables + c.args.variable)) (sym c.reached.ensures ∙ c.if-not-reached.true))

pub returns-then-holds : goal.returns-then-holds
returns-then-holds c =
    let told = status_told c.self.inside.nodes c.self.inside.variables c.self.inside.rows c.args.self.now c.self.view_is c.args.node c.args.variable c.requires.node c.requires.variable in
    sym (told ∙ assigned_is (reached_at c.self.inside.rows c.args.node) (holds_at c.self.inside.rows c.args.node (2 * c.self.inside.variables + c.args.variable)) (holds_at c.self.inside.rows c.args.node (3 * c.self.inside.variables + c.args.variable)) (sym c.reached.ensures ∙ c.if-not-reached.false) (sym c.holds.ensures ∙ c.if-holds.true))

pub returns-then-holds-2 : goal.returns-then-holds-2
returns-then-holds-2 c =
    let told = status_told c.self.inside.nodes c.self.inside.variables c.self.inside.rows c.args.self.now c.self.view_is c.args.node c.args.variable c.requires.node c.requires.variable in
    sym (told ∙ status_is (reached_at c.self.inside.rows c.args.node) (holds_at c.self.inside.rows c.args.node (2 * c.self.inside.variables + c.args.variable)) (holds_at c.self.inside.rows c.args.node (3 * c.self.inside.variables + c.args.variable)) true false true (sym c.reached.ensures ∙ c.if-not-reached.false) (sym c.holds.ensures ∙ c.if-holds.false) (sym c.holds-else-holds.ensures ∙ c.if-holds-2.true))

pub returns-else-holds-2 : goal.returns-else-holds-2
returns-else-holds-2 c =
    let told = status_told c.self.inside.nodes c.self.inside.variables c.self.inside.rows c.args.self.now c.self.view_is c.args.node c.args.variable c.requires.node c.requires.variable in
    sym (told ∙ status_is (reached_at c.self.inside.rows c.args.node) (holds_at c.self.inside.rows c.args.node (2 * c.self.inside.variables + c.args.variable)) (holds_at c.self.inside.rows c.args.node (3 * c.self.inside.variables + c.args.variable)) true false false (sym c.reached.ensures ∙ c.if-not-reached.false) (sym c.holds.ensures ∙ c.if-holds.false) (sym c.holds-else-holds.ensures ∙ c.if-holds-2.false))
