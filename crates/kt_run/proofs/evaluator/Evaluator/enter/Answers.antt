use Rattle.std.proofs.Common.{Ok, Err, sym, subst}
use Rattle.kt_run.specs.declared.evaluator.Node.{Node}
use Rattle.kt_mean.specs.Evaluation.{spend, entered}
use Rattle.kt_run.specs.Scene.{scene, Right, Runs}
use Rattle.kt_run.specs.Running.{shape, tree_seen}
use Rattle.kt_run.proofs.Chain.{exit_by, quiet_right, quiet_runs, then_runs}
use Rattle.kt_run.proofs.evaluator.Evaluator.enter.Goals as goal

pub returns-in_err-spend : goal.returns-in_err-spend
unfolding entered
returns-in_err-spend g c =
    let resolved = c.args.self.now.resolved.now in
    let depth = c.args.self.now.depth in
    let state = c.args.state.now in
    let out = g.O.Output.state c.args.out.now in
    exit_by {A = Unit {0}} spend (λ u. shape resolved depth (tree_seen resolved c.args.node)) _ _ _ _ c.from_residual.ensures.1 (quiet_runs spend _ (Err c.in_err-spend.field-0.0) _ out c.in_err-spend.ensures)

pub expr-requires : goal.expr-requires
unfolding entered
expr-requires g c =
    let resolved = c.args.self.now.resolved.now in
    let depth = c.args.self.now.depth in
    let state = c.args.state.now in
    let out = g.O.Output.state c.args.out.now in
    let right = quiet_right spend (λ u. shape resolved depth (tree_seen resolved c.args.node)) tt state c.spend.new.state c.requires.right c.in_ok-spend.ensures in
    record { nests = c.requires.nests; right = subst (λ (n : Node). Right (shape resolved depth (tree_seen resolved n)) c.spend.new.state) c.in-Expr.is right }

pub stmt-requires : goal.stmt-requires
unfolding entered
stmt-requires g c =
    let resolved = c.args.self.now.resolved.now in
    let depth = c.args.self.now.depth in
    let state = c.args.state.now in
    let out = g.O.Output.state c.args.out.now in
    let right = quiet_right spend (λ u. shape resolved depth (tree_seen resolved c.args.node)) tt state c.spend.new.state c.requires.right c.in_ok-spend.ensures in
    record { nests = c.requires.nests; right = subst (λ (n : Node). Right (shape resolved depth (tree_seen resolved n)) c.spend.new.state) c.in-Stmt.is right }

pub returns-in-Expr : goal.returns-in-Expr
unfolding entered
returns-in-Expr g c =
    let resolved = c.args.self.now.resolved.now in
    let depth = c.args.self.now.depth in
    let state = c.args.state.now in
    let out = g.O.Output.state c.args.out.now in
    let here = scene c.spend.new.state out in
    let end = scene c.expr.new.state (g.O.Output.state c.expr.new.out) in
    then_runs {A = Unit {0}} spend (λ u. shape resolved depth (tree_seen resolved c.args.node)) tt (scene state out) here c.expr.result end (quiet_runs spend state (Ok tt) c.spend.new.state out c.in_ok-spend.ensures)
    (subst (λ (n : Node). Runs (shape resolved depth (tree_seen resolved n)) here c.expr.result end) (sym c.in-Expr.is) c.expr.ensures)

pub returns-in-Stmt : goal.returns-in-Stmt
unfolding entered
returns-in-Stmt g c =
    let resolved = c.args.self.now.resolved.now in
    let depth = c.args.self.now.depth in
    let state = c.args.state.now in
    let out = g.O.Output.state c.args.out.now in
    let here = scene c.spend.new.state out in
    let end = scene c.stmt.new.state (g.O.Output.state c.stmt.new.out) in
    then_runs {A = Unit {0}} spend (λ u. shape resolved depth (tree_seen resolved c.args.node)) tt (scene state out) here c.stmt.result end (quiet_runs spend state (Ok tt) c.spend.new.state out c.in_ok-spend.ensures)
    (subst (λ (n : Node). Runs (shape resolved depth (tree_seen resolved n)) here c.stmt.result end) (sym c.in-Stmt.is) c.stmt.ensures)
