use Rattle.std.proofs.Common.{map, sym, ap, subst, ◌∙◌}
use Rattle.kt_model.specs.BodyTrees.{Trees, stmt_tree, branch_trees, listed}
use Rattle.kt_model.proofs.BodyFolds.{branch_braced, branch_single, block_list}
use Rattle.kt_mean.specs.Evaluation.{block}
use Rattle.kt_run.specs.Scene.{scene, Right, Runs}
use Rattle.kt_run.specs.Running.{program_seen, part, names}
use Rattle.kt_run.proofs.Chain.{first_right, bind_pure, same_runs}
use Rattle.kt_run.proofs.evaluator.Evaluator.branch_taken.Goals as goal

pub statements-requires-clause-right : goal.statements-requires-clause-right
statements-requires-clause-right g c =
    let resolved = c.args.self.now.resolved.now in
    let depth = c.args.self.now.depth in
    let state = c.args.state.now in
    let out = g.O.Output.state c.args.out.now in
    let p = program_seen resolved in
    let go = part resolved depth in
    let uses = names resolved in
    let same = ap (branch_trees uses) (sym c.get.ensures ∙ c.in-Braced.is) ∙ branch_braced uses _ ∙ block_list uses _ ∙ ap (λ l. listed (map (stmt_tree uses) l)) (sym c.as_slice.ensures) in
    subst (λ (ts : Trees). Right (block p go ts) state) same c.requires.right

pub returns-in-Braced : goal.returns-in-Braced
returns-in-Braced g c =
    let resolved = c.args.self.now.resolved.now in
    let depth = c.args.self.now.depth in
    let state = c.args.state.now in
    let out = g.O.Output.state c.args.out.now in
    let p = program_seen resolved in
    let go = part resolved depth in
    let uses = names resolved in
    let same = ap (branch_trees uses) (sym c.get.ensures ∙ c.in-Braced.is) ∙ branch_braced uses _ ∙ block_list uses _ ∙ ap (λ l. listed (map (stmt_tree uses) l)) (sym c.as_slice.ensures) in
    subst (λ (ts : Trees). Runs (block p go ts) (scene state out) c.statements.result (scene c.statements.new.state (g.O.Output.state c.statements.new.out))) (sym same) c.statements.ensures

pub part-requires-clause-right : goal.part-requires-clause-right
part-requires-clause-right g c =
    let resolved = c.args.self.now.resolved.now in
    let depth = c.args.self.now.depth in
    let state = c.args.state.now in
    let out = g.O.Output.state c.args.out.now in
    let p = program_seen resolved in
    let go = part resolved depth in
    let uses = names resolved in
    let same = ap (branch_trees uses) (sym c.get.ensures ∙ c.in-Single.is) ∙ branch_single uses _ in
    first_right _ _ _ (subst (λ (ts : Trees). Right (block p go ts) state) same c.requires.right)

pub returns-in-Single : goal.returns-in-Single
returns-in-Single g c =
    let resolved = c.args.self.now.resolved.now in
    let depth = c.args.self.now.depth in
    let state = c.args.state.now in
    let out = g.O.Output.state c.args.out.now in
    let p = program_seen resolved in
    let go = part resolved depth in
    let uses = names resolved in
    let same = ap (branch_trees uses) (sym c.get.ensures ∙ c.in-Single.is) ∙ branch_single uses _ in
    let here = scene state out in
    let end = scene c.part.new.state (g.O.Output.state c.part.new.out) in
    subst (λ (ts : Trees). Runs (block p go ts) here c.part.result end) (sym same)
    (same_runs _ _ here c.part.result end (bind_pure (go (stmt_tree uses c.in-Single.s))) c.part.ensures)
