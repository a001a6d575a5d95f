use Rattle.std.proofs.Common.{Bool, true, Ok, sym, subst}
use Rattle.kt_mean.specs.declared.states.Value.{Value}
use Rattle.kt_mean.specs.declared.states.Value.TheVariants as value
use Rattle.kt_model.specs.BodyTrees.{expr_tree}
use Rattle.kt_mean.specs.Frames.{pure}
use Rattle.kt_mean.specs.Evaluation.{choose, truth_tree}
use Rattle.kt_run.specs.Scene.{scene, Right, Runs}
use Rattle.kt_run.specs.Running.{program_seen, part, names}
use Rattle.kt_run.proofs.Chain.{first_right, next_right, then_runs, exit_by, pure_runs}
use Rattle.kt_run.proofs.evaluator.Evaluator.disjunction.Goals as goal

pub asked-requires-clause-right : goal.asked-requires-clause-right
asked-requires-clause-right g c =
    let resolved = c.args.self.now.resolved.now in
    let depth = c.args.self.now.depth in
    let state = c.args.state.now in
    let out = g.O.Output.state c.args.out.now in
    let p = program_seen resolved in
    let go = part resolved depth in
    let uses = names resolved in
    let next = λ (holds : Bool). choose holds (pure (value.Bool true)) (truth_tree p go (expr_tree uses c.args.b.now)) in
    first_right _ next _ c.requires.right

pub returns-in_err-holds : goal.returns-in_err-holds
returns-in_err-holds g c =
    let resolved = c.args.self.now.resolved.now in
    let depth = c.args.self.now.depth in
    let state = c.args.state.now in
    let out = g.O.Output.state c.args.out.now in
    let p = program_seen resolved in
    let go = part resolved depth in
    let uses = names resolved in
    let next = λ (holds : Bool). choose holds (pure (value.Bool true)) (truth_tree p go (expr_tree uses c.args.b.now)) in
    exit_by {A = Bool} {B = Value} _ next _ _ _ c.from_residual.result c.from_residual.ensures.1 c.in_err-holds.ensures

pub returns-then-holds : goal.returns-then-holds
returns-then-holds g c =
    let resolved = c.args.self.now.resolved.now in
    let depth = c.args.self.now.depth in
    let state = c.args.state.now in
    let out = g.O.Output.state c.args.out.now in
    let p = program_seen resolved in
    let go = part resolved depth in
    let uses = names resolved in
    let next = λ (holds : Bool). choose holds (pure (value.Bool true)) (truth_tree p go (expr_tree uses c.args.b.now)) in
    let here = scene c.asked.new.state (g.O.Output.state c.asked.new.out) in
    then_runs {A = Bool} {B = Value} _ next _ _ here (Ok (value.Bool true)) here c.in_ok-holds.ensures
    (subst (λ (holds : Bool). Runs (next holds) here (Ok (value.Bool true)) here) (sym c.if-holds.true) (pure_runs (value.Bool true) here))

pub truth_value-requires-clause-right : goal.truth_value-requires-clause-right
truth_value-requires-clause-right g c =
    let resolved = c.args.self.now.resolved.now in
    let depth = c.args.self.now.depth in
    let state = c.args.state.now in
    let out = g.O.Output.state c.args.out.now in
    let p = program_seen resolved in
    let go = part resolved depth in
    let uses = names resolved in
    let next = λ (holds : Bool). choose holds (pure (value.Bool true)) (truth_tree p go (expr_tree uses c.args.b.now)) in
    subst (λ (holds : Bool). Right (next holds) c.asked.new.state) c.if-holds.false (next_right _ next _ _ _ c.requires.right c.in_ok-holds.ensures)

pub returns : goal.returns
returns g c =
    let resolved = c.args.self.now.resolved.now in
    let depth = c.args.self.now.depth in
    let state = c.args.state.now in
    let out = g.O.Output.state c.args.out.now in
    let p = program_seen resolved in
    let go = part resolved depth in
    let uses = names resolved in
    let next = λ (holds : Bool). choose holds (pure (value.Bool true)) (truth_tree p go (expr_tree uses c.args.b.now)) in
    let here = scene c.asked.new.state (g.O.Output.state c.asked.new.out) in
    let end = scene c.truth_value.new.state (g.O.Output.state c.truth_value.new.out) in
    then_runs {A = Bool} {B = Value} _ next _ _ here c.truth_value.result end c.in_ok-holds.ensures
    (subst (λ (holds : Bool). Runs (next holds) here c.truth_value.result end) (sym c.if-holds.false) c.truth_value.ensures)
