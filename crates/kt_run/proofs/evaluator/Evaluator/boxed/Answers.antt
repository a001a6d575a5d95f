use Rattle.std.proofs.Common.{sym, subst}
use Rattle.kt_tree.specs.declared.ast.body.Expr.{Expr}
use Rattle.kt_model.specs.BodyTrees.{expr_tree}
use Rattle.kt_run.specs.Scene.{scene, Right, Runs}
use Rattle.kt_run.specs.Running.{part, names}
use Rattle.kt_run.proofs.evaluator.Evaluator.boxed.Goals as goal

pub part-requires : goal.part-requires
part-requires g c =
    let resolved = c.args.self.now.resolved.now in
    let depth = c.args.self.now.depth in
    let state = c.args.state.now in
    let out = g.O.Output.state c.args.out.now in
    record {
      nests = c.requires.nests;
      right = subst (λ (x : Expr). Right (part resolved depth (expr_tree (names resolved) x)) state) (sym c.get.ensures) c.requires.right;
    }

pub returns : goal.returns
returns g c =
    let resolved = c.args.self.now.resolved.now in
    let depth = c.args.self.now.depth in
    let state = c.args.state.now in
    let out = g.O.Output.state c.args.out.now in
    subst (λ (x : Expr). Runs (part resolved depth (expr_tree (names resolved) x)) (scene state out) c.part.result (scene c.part.new.state (g.O.Output.state c.part.new.out))) c.get.ensures c.part.ensures
