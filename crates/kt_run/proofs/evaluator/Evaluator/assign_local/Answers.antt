use Rattle.std.proofs.Common.{Option, option_map, subst}
use Rattle.kt_model.specs.declared.uses.Named.TheVariants as named
use Rattle.kt_tree.specs.declared.ast.part.Assignment.{Assignment}
use Rattle.kt_tree.specs.declared.ast.part.Assignment.TheVariants as assignment
use Rattle.kt_tree.specs.declared.ast.body.Expr.{Expr}
use Rattle.kt_model.specs.BodyTrees.{expr_tree}
use Rattle.kt_run.specs.Scene.{Right}
use Rattle.kt_run.specs.Running.{program_seen, part, names, assign_run}
use Rattle.kt_run.proofs.Steps.{wrong_comes}
use Rattle.kt_run.proofs.evaluator.Evaluator.assign_local.Goals as goal

pub unreachable-requires : goal.unreachable-requires
unreachable-requires g c =
    let resolved = c.args.self.now.resolved.now in
    let depth = c.args.self.now.depth in
    let state = c.args.state.now in
    let out = g.O.Output.state c.args.out.now in
    let p = program_seen resolved in
    let go = part resolved depth in
    let n = named.Variable c.args.target.local c.args.target.fixed in
    let plain = subst (λ (a : Assignment). Right (assign_run p go n a (option_map (expr_tree (names resolved)) c.args.value.now)) state) c.in-Plain.is c.requires.right in
    wrong_comes state (subst (λ (o : Option Expr). Right (assign_run p go n assignment.Plain (option_map (expr_tree (names resolved)) o)) state) c.in-None.is plain)
