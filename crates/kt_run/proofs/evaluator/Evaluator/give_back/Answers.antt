use Rattle.std.proofs.Common.{[], ◌∷◌, Option, option_map, Err, sym, subst}
use Rattle.kt_tree.specs.declared.ast.body.Expr.{Expr}
use Rattle.kt_model.specs.BodyTrees.{seen as seen_in, seen_optional}
use Rattle.kt_mean.specs.declared.states.Value.{Value}
use Rattle.kt_mean.specs.declared.states.Value.TheVariants as value
use Rattle.kt_mean.specs.declared.states.Way.TheVariants as way
use Rattle.kt_mean.specs.Evaluation.{with_values, returned}
use Rattle.kt_run.specs.declared.state.Halt.TheVariants as halt
use Rattle.kt_run.specs.Scene.{scene, Right, Runs}
use Rattle.kt_run.specs.Running.{program_seen, part, names}
use Rattle.kt_run.proofs.Chain.{first_right, then_runs, exit_by, leave_runs}
use Rattle.kt_run.proofs.evaluator.Evaluator.give_back.Goals as goal

pub boxed-requires-clause-right : goal.boxed-requires-clause-right
boxed-requires-clause-right g c =
    let resolved = c.args.self.now.resolved.now in
    let depth = c.args.self.now.depth in
    let state = c.args.state.now in
    let out = g.O.Output.state c.args.out.now in
    let p = program_seen resolved in
    let go = part resolved depth in
    let uses = names resolved in
    let run = λ (e : Option Expr). with_values p go (seen_optional (option_map (seen_in uses) e)) returned in
    let next = λ (v : Value). returned (v ∷ []) in
    first_right _ next _ (subst (λ e. Right (run e) state) c.in-Some.is c.requires.right)

pub returns-in_err-given-in-Some : goal.returns-in_err-given-in-Some
returns-in_err-given-in-Some g c =
    let resolved = c.args.self.now.resolved.now in
    let depth = c.args.self.now.depth in
    let state = c.args.state.now in
    let out = g.O.Output.state c.args.out.now in
    let p = program_seen resolved in
    let go = part resolved depth in
    let uses = names resolved in
    let run = λ (e : Option Expr). with_values p go (seen_optional (option_map (seen_in uses) e)) returned in
    let next = λ (v : Value). returned (v ∷ []) in
    let end = scene c.boxed.new.state (g.O.Output.state c.boxed.new.out) in
    subst (λ e. Runs (run e) (scene state out) c.from_residual.result end) (sym c.in-Some.is)
    (exit_by {A = Value} {B = Value} _ next _ _ _ c.from_residual.result c.from_residual.ensures.1 c.in_err-given-in-Some.ensures)

pub returns-in_ok-given-in-Some : goal.returns-in_ok-given-in-Some
returns-in_ok-given-in-Some g c =
    let resolved = c.args.self.now.resolved.now in
    let depth = c.args.self.now.depth in
    let state = c.args.state.now in
    let out = g.O.Output.state c.args.out.now in
    let p = program_seen resolved in
    let go = part resolved depth in
    let uses = names resolved in
    let run = λ (e : Option Expr). with_values p go (seen_optional (option_map (seen_in uses) e)) returned in
    let next = λ (v : Value). returned (v ∷ []) in
    let end = scene c.boxed.new.state (g.O.Output.state c.boxed.new.out) in
    let left = Err (halt.Way (way.Return c.in_ok-given-in-Some.given)) in
    subst (λ e. Runs (run e) (scene state out) left end) (sym c.in-Some.is)
    (then_runs {A = Value} {B = Value} _ next _ _ end left end c.in_ok-given-in-Some.ensures (leave_runs (way.Return c.in_ok-given-in-Some.given) end))

pub returns-in-None : goal.returns-in-None
returns-in-None g c =
    let resolved = c.args.self.now.resolved.now in
    let depth = c.args.self.now.depth in
    let state = c.args.state.now in
    let out = g.O.Output.state c.args.out.now in
    let p = program_seen resolved in
    let go = part resolved depth in
    let uses = names resolved in
    let run = λ (e : Option Expr). with_values p go (seen_optional (option_map (seen_in uses) e)) returned in
    let here = scene state out in
    subst (λ e. Runs (run e) here (Err (halt.Way (way.Return value.Unit))) here) (sym c.in-None.is) (leave_runs (way.Return value.Unit) here)
