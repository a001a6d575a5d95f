use Rattle.std.proofs.Common.{sym, subst, map}
use Rattle.kt_model.specs.declared.uses.Named.{Named}
use Rattle.kt_model.specs.BodyTrees.{seen as seen_in, seen_trees}
use Rattle.kt_run.specs.Scene.{Right}
use Rattle.kt_run.specs.Running.{program_seen, part, names, call_run}
use Rattle.kt_run.proofs.FormSteps.{no_call}
use Rattle.kt_run.proofs.evaluator.Evaluator.call.Goals as goal

pub unreachable-requires : goal.unreachable-requires
unreachable-requires g c =
    let resolved = c.args.self.now.resolved.now in
    let depth = c.args.self.now.depth in
    let state = c.args.state.now in
    let out = g.O.Output.state c.args.out.now in
    let p = program_seen resolved in
    let go = part resolved depth in
    let arguments = seen_trees (map (seen_in (names resolved)) c.args.arguments.now) in
    no_call p go c.named.result arguments state c.in_default.not-Function c.in_default.not-BuiltIn
    (subst (λ (n : Named). Right (call_run p go n arguments) state) (sym c.named.ensures) c.requires.right)

pub call_built_in-requires-clause-right : goal.call_built_in-requires-clause-right
call_built_in-requires-clause-right g c =
    let resolved = c.args.self.now.resolved.now in
    let depth = c.args.self.now.depth in
    let state = c.args.state.now in
    let out = g.O.Output.state c.args.out.now in
    let p = program_seen resolved in
    let go = part resolved depth in
    let arguments = seen_trees (map (seen_in (names resolved)) c.args.arguments.now) in
    subst (λ (n : Named). Right (call_run p go n arguments) state) (sym c.in-BuiltIn.ensures) c.requires.right
