use Rattle.std.proofs.Common.{Ok, Option, Some, map, sym, ap, subst, ◌∙◌}
use Rattle.kt_mean.specs.declared.states.Value.TheVariants as value
use Rattle.kt_tree.specs.declared.ast.declaration.FunctionBody.{FunctionBody}
use Rattle.kt_model.specs.BodyTrees.{Trees, stmt_tree, expr_tree, listed}
use Rattle.kt_model.specs.Bodies.{body_trees_of, written_trees}
use Rattle.kt_model.proofs.BodyFolds.{block_list}
use Rattle.kt_mean.specs.Evaluation.{block}
use Rattle.kt_run.specs.Scene.{scene, Right, Runs}
use Rattle.kt_run.specs.Running.{program_seen, part, names}
use Rattle.kt_run.proofs.Chain.{first_right, bind_pure, same_runs, pure_runs}
use Rattle.kt_run.proofs.evaluator.Evaluator.body.Goals as goal

pub part-requires-clause-right : goal.part-requires-clause-right
part-requires-clause-right g c =
    let resolved = c.args.self.now.resolved.now in
    let depth = c.args.self.now.depth in
    let state = c.args.state.now in
    let out = g.O.Output.state c.args.out.now in
    let p = program_seen resolved in
    let go = part resolved depth in
    first_right _ _ _ (subst (λ (b : Option FunctionBody). Right (block p go (body_trees_of (names resolved) b)) state) (c.in-Some.is ∙ ap (λ b. Some b) c.in-Expr.is) c.requires.right)

pub returns-in-Expr : goal.returns-in-Expr
returns-in-Expr g c =
    let resolved = c.args.self.now.resolved.now in
    let depth = c.args.self.now.depth in
    let state = c.args.state.now in
    let out = g.O.Output.state c.args.out.now in
    let p = program_seen resolved in
    let go = part resolved depth in
    let here = scene state out in
    let end = scene c.part.new.state (g.O.Output.state c.part.new.out) in
    subst (λ (b : Option FunctionBody). Runs (block p go (body_trees_of (names resolved) b)) here c.part.result end) (sym (c.in-Some.is ∙ ap (λ b. Some b) c.in-Expr.is))
    (same_runs _ _ here c.part.result end (bind_pure (go (expr_tree (names resolved) c.in-Expr.e))) c.part.ensures)

pub statements-requires-clause-right : goal.statements-requires-clause-right
statements-requires-clause-right g c =
    let resolved = c.args.self.now.resolved.now in
    let depth = c.args.self.now.depth in
    let state = c.args.state.now in
    let out = g.O.Output.state c.args.out.now in
    let p = program_seen resolved in
    let go = part resolved depth in
    let uses = names resolved in
    let same = ap (body_trees_of uses) c.in-Some.is ∙ ap (written_trees uses) c.in-Block.is ∙ block_list uses _ ∙ ap (λ l. listed (map (stmt_tree uses) l)) (sym c.as_slice.ensures) in
    subst (λ (ts : Trees). Right (block p go ts) state) same c.requires.right

pub returns-in-Block : goal.returns-in-Block
returns-in-Block g c =
    let resolved = c.args.self.now.resolved.now in
    let depth = c.args.self.now.depth in
    let state = c.args.state.now in
    let out = g.O.Output.state c.args.out.now in
    let p = program_seen resolved in
    let go = part resolved depth in
    let uses = names resolved in
    let same = ap (body_trees_of uses) c.in-Some.is ∙ ap (written_trees uses) c.in-Block.is ∙ block_list uses _ ∙ ap (λ l. listed (map (stmt_tree uses) l)) (sym c.as_slice.ensures) in
    subst (λ (ts : Trees). Runs (block p go ts) (scene state out) c.statements.result (scene c.statements.new.state (g.O.Output.state c.statements.new.out))) (sym same) c.statements.ensures

pub returns-in-None : goal.returns-in-None
returns-in-None g c =
    let resolved = c.args.self.now.resolved.now in
    let depth = c.args.self.now.depth in
    let state = c.args.state.now in
    let out = g.O.Output.state c.args.out.now in
    let p = program_seen resolved in
    let go = part resolved depth in
    let here = scene state out in
    subst (λ (b : Option FunctionBody). Runs (block p go (body_trees_of (names resolved) b)) here (Ok value.Unit) here) (sym c.in-None.is) (pure_runs value.Unit here)
