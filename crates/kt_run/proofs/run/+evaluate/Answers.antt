use Rattle.std.proofs.Common.{sym, subst, ◌≡◌, arith}
use Rattle.kt_mean.specs.declared.states.Value.{Value}
use Rattle.kt_mean.specs.Frames.{Run}
use Rattle.kt_run.specs.Scene.{scene, Right, Runs}
use Rattle.kt_run.specs.Running.{program_seen, tree_seen}
use Rattle.kt_run.proofs.Steps.{no_depth, deeper}
use Rattle.kt_run.proofs.run.+evaluate.Goals as goal

pub returns-then-depth-eq0 : goal.returns-then-depth-eq0
returns-then-depth-eq0 g t c =
    let resolved = c.args.resolved.now in
    let none : c.args.depth ≡ 0 = omega arith in
    no_depth (program_seen resolved) c.args.depth (tree_seen resolved c.args.node) c.args.state.now (g.O.Output.state c.args.out.now) none

pub enter-requires-clause-right : goal.enter-requires-clause-right
enter-requires-clause-right g t c =
    let resolved = c.args.resolved.now in
    subst (λ (r : Run Value). Right r c.args.state.now) (deeper (program_seen resolved) c.args.depth (tree_seen resolved c.args.node) (omega arith)) c.requires.right

pub returns : goal.returns
returns g t c =
    let resolved = c.args.resolved.now in
    subst (λ (r : Run Value). Runs r (scene c.args.state.now (g.O.Output.state c.args.out.now)) c.enter.result (scene c.enter.new.state (g.O.Output.state c.enter.new.out)))
    (sym (deeper (program_seen resolved) c.args.depth (tree_seen resolved c.args.node) (omega arith))) c.enter.ensures
