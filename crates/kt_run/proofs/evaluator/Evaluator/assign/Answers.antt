use Rattle.std.proofs.Common.{sym, subst, option_map}
use Rattle.kt_model.specs.declared.uses.Named.{Named}
use Rattle.kt_model.specs.BodyTrees.{expr_tree}
use Rattle.kt_run.specs.Scene.{Right}
use Rattle.kt_run.specs.Running.{program_seen, part, names, assign_run}
use Rattle.kt_run.proofs.FormSteps.{no_assigned}
use Rattle.kt_run.proofs.evaluator.Evaluator.assign.Goals as goal

pub unreachable-requires : goal.unreachable-requires
unreachable-requires g c =
    let resolved = c.args.self.now.resolved.now in
    let depth = c.args.self.now.depth in
    let state = c.args.state.now in
    let out = g.O.Output.state c.args.out.now in
    let p = program_seen resolved in
    let go = part resolved depth in
    let e = option_map (expr_tree (names resolved)) c.args.value.now in
    no_assigned p go (names resolved) c.named.result c.args.assignment e state c.in_default.not-Variable (subst (λ (n : Named). Right (assign_run p go n c.args.assignment e) state) (sym c.named.ensures) c.requires.right)
