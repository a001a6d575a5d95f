use Rattle.std.proofs.Common.{ℕ, ◌≡◌, ◌↔◌, Contains, length, sym, subst, ◌∙◌, arith}
use Rattle.kt_flow.specs.Ends.{IsLeftBefore}
use Rattle.kt_flow.proofs.Leaving.{none_left, left_more}
use Rattle.kt_flow.proofs.left.left_trees.Goals as goal

pub loop-node-init : goal.loop-node-init
loop-node-init c = subst (λ l. (tree : ℕ) → Contains l tree ↔ IsLeftBefore c.args.graph.now tree 0) (sym c.new-left.ensures.items) (none_left c.args.graph.now)

pub loop-node-preserved : goal.loop-node-preserved
loop-node-preserved c = left_more c.args.graph.now c.loop-node.node c.loop-node.left.items _ c.loop-node.invariant c.in_ok-add_left.ensures

pub returns : goal.returns
returns c =
    let last : c.loop-node.node ≡ c.in-Ok.end = omega arith in
    let e : c.in-Ok.end ≡ length c.args.graph.now.nodes = omega (arith, c.in-Ok.ensures) in
    subst (λ k. (tree : ℕ) → Contains c.loop-node.left.items tree ↔ IsLeftBefore c.args.graph.now tree k) (last ∙ e) c.loop-node.invariant
