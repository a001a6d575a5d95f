use Rattle.std.proofs.Common.{Option, option_map, sym, subst}
use Rattle.kt_model.specs.declared.uses.Named.{Named}
use Rattle.kt_model.specs.declared.uses.Named.TheVariants as named
use Rattle.kt_tree.specs.declared.ast.body.Expr.{Expr}
use Rattle.kt_model.specs.BodyTrees.{expr_tree}
use Rattle.kt_run.specs.Scene.{scene, Right, Runs}
use Rattle.kt_run.specs.Running.{program_seen, part, names, local_run}
use Rattle.kt_run.proofs.Chain.{quiet_runs}
use Rattle.kt_run.proofs.FormSteps.{no_local_here}
use Rattle.kt_run.proofs.evaluator.Evaluator.local.Goals as goal

pub unreachable-requires : goal.unreachable-requires
unreachable-requires g c =
    let resolved = c.args.self.now.resolved.now in
    let depth = c.args.self.now.depth in
    let state = c.args.state.now in
    let out = g.O.Output.state c.args.out.now in
    let p = program_seen resolved in
    let go = part resolved depth in
    let e = option_map (expr_tree (names resolved)) c.args.value.now in
    no_local_here p go (names resolved) c.named.result e state c.in_default.not-Variable (subst (λ (n : Named). Right (local_run p go n e) state) (sym c.named.ensures) c.requires.right)

pub returns-in-None : goal.returns-in-None
returns-in-None g c =
    let resolved = c.args.self.now.resolved.now in
    let depth = c.args.self.now.depth in
    let state = c.args.state.now in
    let out = g.O.Output.state c.args.out.now in
    let p = program_seen resolved in
    let go = part resolved depth in
    let end = scene c.store.new.state out in
    subst (λ (n : Named). Runs (local_run p go n (option_map (expr_tree (names resolved)) c.args.value.now)) (scene state out) c.store.result end) c.in-Variable.ensures
    (subst (λ (o : Option Expr). Runs (local_run p go (named.Variable c.in-Variable.local c.in-Variable.field-1) (option_map (expr_tree (names resolved)) o)) (scene state out) c.store.result end) (sym c.in-None.is)
    (quiet_runs _ state c.store.result c.store.new.state out c.store.ensures))
