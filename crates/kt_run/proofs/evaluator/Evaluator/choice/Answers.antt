use Rattle.std.proofs.Common.{Bool, option_map, sym, subst}
use Rattle.kt_mean.specs.declared.states.Value.{Value}
use Rattle.kt_model.specs.BodyTrees.{branch_trees, otherwise}
use Rattle.kt_mean.specs.Evaluation.{choose, block}
use Rattle.kt_run.specs.Scene.{scene, Right, Runs}
use Rattle.kt_run.specs.Running.{program_seen, part, names}
use Rattle.kt_run.proofs.Chain.{first_right, next_right, then_runs, exit_by}
use Rattle.kt_run.proofs.evaluator.Evaluator.choice.Goals as goal

pub asked-requires-clause-right : goal.asked-requires-clause-right
asked-requires-clause-right g c =
    let resolved = c.args.self.now.resolved.now in
    let depth = c.args.self.now.depth in
    let state = c.args.state.now in
    let out = g.O.Output.state c.args.out.now in
    let p = program_seen resolved in
    let go = part resolved depth in
    let uses = names resolved in
    let next = λ (holds : Bool). choose holds (block p go (branch_trees uses c.args.then.now)) (block p go (otherwise (option_map (branch_trees uses) c.args.otherwise.now))) in
    first_right _ next _ c.requires.right

pub returns-in_err-holds : goal.returns-in_err-holds
returns-in_err-holds g c =
    let resolved = c.args.self.now.resolved.now in
    let depth = c.args.self.now.depth in
    let state = c.args.state.now in
    let out = g.O.Output.state c.args.out.now in
    let p = program_seen resolved in
    let go = part resolved depth in
    let uses = names resolved in
    let next = λ (holds : Bool). choose holds (block p go (branch_trees uses c.args.then.now)) (block p go (otherwise (option_map (branch_trees uses) c.args.otherwise.now))) in
    exit_by {A = Bool} {B = Value} _ next _ _ _ c.from_residual.result c.from_residual.ensures.1 c.in_err-holds.ensures

pub branch_taken-requires-clause-right : goal.branch_taken-requires-clause-right
branch_taken-requires-clause-right g c =
    let resolved = c.args.self.now.resolved.now in
    let depth = c.args.self.now.depth in
    let state = c.args.state.now in
    let out = g.O.Output.state c.args.out.now in
    let p = program_seen resolved in
    let go = part resolved depth in
    let uses = names resolved in
    let next = λ (holds : Bool). choose holds (block p go (branch_trees uses c.args.then.now)) (block p go (otherwise (option_map (branch_trees uses) c.args.otherwise.now))) in
    subst (λ (holds : Bool). Right (next holds) c.asked.new.state) c.if-holds.true (next_right _ next _ _ _ c.requires.right c.in_ok-holds.ensures)

pub returns-then-holds : goal.returns-then-holds
returns-then-holds g c =
    let resolved = c.args.self.now.resolved.now in
    let depth = c.args.self.now.depth in
    let state = c.args.state.now in
    let out = g.O.Output.state c.args.out.now in
    let p = program_seen resolved in
    let go = part resolved depth in
    let uses = names resolved in
    let next = λ (holds : Bool). choose holds (block p go (branch_trees uses c.args.then.now)) (block p go (otherwise (option_map (branch_trees uses) c.args.otherwise.now))) in
    let here = scene c.asked.new.state (g.O.Output.state c.asked.new.out) in
    let end = scene c.branch_taken.new.state (g.O.Output.state c.branch_taken.new.out) in
    then_runs {A = Bool} {B = Value} _ next _ _ here c.branch_taken.result end c.in_ok-holds.ensures
    (subst (λ (holds : Bool). Runs (next holds) here c.branch_taken.result end) (sym c.if-holds.true) c.branch_taken.ensures)

pub other_branch-requires-clause-right : goal.other_branch-requires-clause-right
other_branch-requires-clause-right g c =
    let resolved = c.args.self.now.resolved.now in
    let depth = c.args.self.now.depth in
    let state = c.args.state.now in
    let out = g.O.Output.state c.args.out.now in
    let p = program_seen resolved in
    let go = part resolved depth in
    let uses = names resolved in
    let next = λ (holds : Bool). choose holds (block p go (branch_trees uses c.args.then.now)) (block p go (otherwise (option_map (branch_trees uses) c.args.otherwise.now))) in
    subst (λ (holds : Bool). Right (next holds) c.asked.new.state) c.if-holds.false (next_right _ next _ _ _ c.requires.right c.in_ok-holds.ensures)

pub returns : goal.returns
returns g c =
    let resolved = c.args.self.now.resolved.now in
    let depth = c.args.self.now.depth in
    let state = c.args.state.now in
    let out = g.O.Output.state c.args.out.now in
    let p = program_seen resolved in
    let go = part resolved depth in
    let uses = names resolved in
    let next = λ (holds : Bool). choose holds (block p go (branch_trees uses c.args.then.now)) (block p go (otherwise (option_map (branch_trees uses) c.args.otherwise.now))) in
    let here = scene c.asked.new.state (g.O.Output.state c.asked.new.out) in
    let end = scene c.other_branch.new.state (g.O.Output.state c.other_branch.new.out) in
    then_runs {A = Bool} {B = Value} _ next _ _ here c.other_branch.result end c.in_ok-holds.ensures
    (subst (λ (holds : Bool). Runs (next holds) here c.other_branch.result end) (sym c.if-holds.false) c.other_branch.ensures)
