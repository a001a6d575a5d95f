use Rattle.std.proofs.Common.{sym, ap, subst, ◌∙◌}
use Rattle.kt_model.specs.BodyTrees.{Tree, stmt_tree, named_there, seen as seen_in}
use Rattle.kt_model.proofs.BodyFolds.{stmt_expr, stmt_local_any, stmt_assign_any, stmt_while, stmt_do_while, stmt_for}
use Rattle.kt_run.specs.Scene.{scene, Right, Runs}
use Rattle.kt_run.specs.Running.{program_seen, part, names, shape}
use Rattle.kt_run.proofs.Chain.{same_right, same_runs}
use Rattle.kt_run.proofs.Steps.{wrong_comes}
use Rattle.kt_run.proofs.FormSteps.{local_is, assign_is}
use Rattle.kt_run.proofs.evaluator.Evaluator.stmt.Goals as goal

pub unreachable-requires : goal.unreachable-requires
unreachable-requires g c =
    let resolved = c.args.self.now.resolved.now in
    let depth = c.args.self.now.depth in
    let state = c.args.state.now in
    let out = g.O.Output.state c.args.out.now in
    let p = program_seen resolved in
    let go = part resolved depth in
    let uses = names resolved in
    wrong_comes state (subst (λ (t : Tree). Right (shape resolved depth t) state) (ap (stmt_tree uses) c.in-While.is ∙ stmt_while uses _ _ _ _) c.requires.right)

pub unreachable-requires-in-DoWhile : goal.unreachable-requires-in-DoWhile
unreachable-requires-in-DoWhile g c =
    let resolved = c.args.self.now.resolved.now in
    let depth = c.args.self.now.depth in
    let state = c.args.state.now in
    let out = g.O.Output.state c.args.out.now in
    let p = program_seen resolved in
    let go = part resolved depth in
    let uses = names resolved in
    wrong_comes state (subst (λ (t : Tree). Right (shape resolved depth t) state) (ap (stmt_tree uses) c.in-DoWhile.is ∙ stmt_do_while uses _ _ _ _) c.requires.right)

pub unreachable-requires-in-For : goal.unreachable-requires-in-For
unreachable-requires-in-For g c =
    let resolved = c.args.self.now.resolved.now in
    let depth = c.args.self.now.depth in
    let state = c.args.state.now in
    let out = g.O.Output.state c.args.out.now in
    let p = program_seen resolved in
    let go = part resolved depth in
    let uses = names resolved in
    wrong_comes state (subst (λ (t : Tree). Right (shape resolved depth t) state) (ap (stmt_tree uses) c.in-For.is ∙ stmt_for uses _ _ _ _ _ _ _ _) c.requires.right)

pub expr-requires-clause-right : goal.expr-requires-clause-right
expr-requires-clause-right g c =
    let resolved = c.args.self.now.resolved.now in
    let depth = c.args.self.now.depth in
    let state = c.args.state.now in
    let out = g.O.Output.state c.args.out.now in
    let p = program_seen resolved in
    let go = part resolved depth in
    let uses = names resolved in
    (subst (λ (t : Tree). Right (shape resolved depth t) state) (ap (stmt_tree uses) c.in-Expr.is ∙ stmt_expr uses _) c.requires.right)

pub returns-in-Expr : goal.returns-in-Expr
returns-in-Expr g c =
    let resolved = c.args.self.now.resolved.now in
    let depth = c.args.self.now.depth in
    let state = c.args.state.now in
    let out = g.O.Output.state c.args.out.now in
    let p = program_seen resolved in
    let go = part resolved depth in
    let uses = names resolved in
    let here = scene state out in
    let end = scene c.expr.new.state (g.O.Output.state c.expr.new.out) in
    subst (λ (t : Tree). Runs (shape resolved depth t) here c.expr.result end) (sym (ap (stmt_tree uses) c.in-Expr.is ∙ stmt_expr uses _)) c.expr.ensures

pub local-requires-clause-right : goal.local-requires-clause-right
local-requires-clause-right g c =
    let resolved = c.args.self.now.resolved.now in
    let depth = c.args.self.now.depth in
    let state = c.args.state.now in
    let out = g.O.Output.state c.args.out.now in
    let p = program_seen resolved in
    let go = part resolved depth in
    let uses = names resolved in
    same_right _ _ state (local_is p go uses (uses c.in-Local.number) (named_there c.in-Local.number c.in-Local.span c.in-Local.name.span) c.in-Local.value) (subst (λ (t : Tree). Right (shape resolved depth t) state) (ap (stmt_tree uses) c.in-Local.is ∙ stmt_local_any uses _ _ _ _ _ _) c.requires.right)

pub returns-in-Local : goal.returns-in-Local
returns-in-Local g c =
    let resolved = c.args.self.now.resolved.now in
    let depth = c.args.self.now.depth in
    let state = c.args.state.now in
    let out = g.O.Output.state c.args.out.now in
    let p = program_seen resolved in
    let go = part resolved depth in
    let uses = names resolved in
    let here = scene state out in
    let end = scene c.local.new.state (g.O.Output.state c.local.new.out) in
    subst (λ (t : Tree). Runs (shape resolved depth t) here c.local.result end) (sym (ap (stmt_tree uses) c.in-Local.is ∙ stmt_local_any uses _ _ _ _ _ _))
    (same_runs _ _ here c.local.result end (local_is p go uses (uses c.in-Local.number) (named_there c.in-Local.number c.in-Local.span c.in-Local.name.span) c.in-Local.value) c.local.ensures)

pub assign-requires-clause-right : goal.assign-requires-clause-right
assign-requires-clause-right g c =
    let resolved = c.args.self.now.resolved.now in
    let depth = c.args.self.now.depth in
    let state = c.args.state.now in
    let out = g.O.Output.state c.args.out.now in
    let p = program_seen resolved in
    let go = part resolved depth in
    let uses = names resolved in
    let right = (subst (λ (t : Tree). Right (shape resolved depth t) state) (ap (stmt_tree uses) c.in-Assign.is ∙ stmt_assign_any uses _ _ _ _ _) c.requires.right) in
    same_right _ _ state (assign_is p go uses (uses c.in-Assign.number) c.in-Assign.number c.in-Assign.span (seen_in uses c.in-Assign.target).name c.in-Assign.assignment c.in-Assign.value state right) right

pub returns-in-Assign : goal.returns-in-Assign
returns-in-Assign g c =
    let resolved = c.args.self.now.resolved.now in
    let depth = c.args.self.now.depth in
    let state = c.args.state.now in
    let out = g.O.Output.state c.args.out.now in
    let p = program_seen resolved in
    let go = part resolved depth in
    let uses = names resolved in
    let here = scene state out in
    let end = scene c.assign.new.state (g.O.Output.state c.assign.new.out) in
    let right = (subst (λ (t : Tree). Right (shape resolved depth t) state) (ap (stmt_tree uses) c.in-Assign.is ∙ stmt_assign_any uses _ _ _ _ _) c.requires.right) in
    subst (λ (t : Tree). Runs (shape resolved depth t) here c.assign.result end) (sym (ap (stmt_tree uses) c.in-Assign.is ∙ stmt_assign_any uses _ _ _ _ _))
    (same_runs _ _ here c.assign.result end (assign_is p go uses (uses c.in-Assign.number) c.in-Assign.number c.in-Assign.span (seen_in uses c.in-Assign.target).name c.in-Assign.assignment c.in-Assign.value state right) c.assign.ensures)
