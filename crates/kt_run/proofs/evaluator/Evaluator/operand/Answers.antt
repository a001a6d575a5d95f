use Rattle.std.proofs.Common.{Ok, Option, option_map, pos, sym, subst}
use Rattle.kt_mean.specs.declared.states.Value.TheVariants as value
use Rattle.kt_tree.specs.declared.ast.body.Expr.{Expr}
use Rattle.kt_model.specs.BodyTrees.{expr_tree}
use Rattle.kt_run.specs.Scene.{scene, Runs}
use Rattle.kt_run.specs.Running.{program_seen, part, names, operand_run}
use Rattle.kt_run.proofs.Chain.{pure_runs}
use Rattle.kt_run.proofs.evaluator.Evaluator.operand.Goals as goal

pub returns-in-None : goal.returns-in-None
returns-in-None g c =
    let resolved = c.args.self.now.resolved.now in
    let depth = c.args.self.now.depth in
    let state = c.args.state.now in
    let out = g.O.Output.state c.args.out.now in
    let p = program_seen resolved in
    let go = part resolved depth in
    let here = scene state out in
    subst (λ (o : Option Expr). Runs (operand_run p go (option_map (expr_tree (names resolved)) o)) here (Ok (value.Int (pos 1))) here) (sym c.in-None.is) (pure_runs (value.Int (pos 1)) here)
