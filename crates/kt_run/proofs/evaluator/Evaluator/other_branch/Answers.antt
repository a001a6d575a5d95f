use Rattle.std.proofs.Common.{Option, option_map, Ok, sym, subst}
use Rattle.kt_tree.specs.declared.ast.body.Branch.{Branch}
use Rattle.kt_model.specs.BodyTrees.{branch_trees, otherwise}
use Rattle.kt_mean.specs.declared.states.Value.TheVariants as value
use Rattle.kt_mean.specs.Evaluation.{block}
use Rattle.kt_run.specs.Scene.{scene, Runs}
use Rattle.kt_run.specs.Running.{program_seen, part, names}
use Rattle.kt_run.proofs.Chain.{pure_runs}
use Rattle.kt_run.proofs.evaluator.Evaluator.other_branch.Goals as goal

pub returns-in-None : goal.returns-in-None
returns-in-None g c =
    let resolved = c.args.self.now.resolved.now in
    let depth = c.args.self.now.depth in
    let state = c.args.state.now in
    let out = g.O.Output.state c.args.out.now in
    let p = program_seen resolved in
    let go = part resolved depth in
    let uses = names resolved in
    let here = scene state out in
    subst (λ (o : Option Branch). Runs (block p go (otherwise (option_map (branch_trees uses) o))) here (Ok value.Unit) here) (sym c.in-None.is) (pure_runs value.Unit here)
