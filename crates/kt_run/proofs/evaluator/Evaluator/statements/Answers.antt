use Rattle.std.proofs.Common.{sym, subst, map, length, Ok, arith, ◌≤◌}
use Rattle.std.proofs.lemmas.List.{drop_all}
use Rattle.kt_mean.specs.declared.states.Value.{Value}
use Rattle.kt_model.specs.BodyTrees.{stmt_tree, listed}
use Rattle.kt_mean.specs.Evaluation.{block, block_from}
use Rattle.kt_run.specs.Scene.{scene, Runs}
use Rattle.kt_run.specs.Running.{program_seen, part, names}
use Rattle.kt_run.proofs.Chain.{rest_begins, rest_same, rest_next, first_right, exit_by, pure_runs}
use Rattle.kt_run.proofs.FormSteps.{statements_next}
use Rattle.kt_run.proofs.evaluator.Evaluator.statements.Goals as goal

pub loop-s-init : goal.loop-s-init
loop-s-init g c =
    let resolved = c.args.self.now.resolved.now in
    let depth = c.args.self.now.depth in
    let state = c.args.state.now in
    let out = g.O.Output.state c.args.out.now in
    let p = program_seen resolved in
    let go = part resolved depth in
    let uses = names resolved in
    let xs = c.args.statements.now in
    let whole = block p go (listed (map (stmt_tree uses) xs)) in
    let start = scene state out in
    rest_begins whole start c.requires.right

pub part-requires : goal.part-requires
part-requires g c =
    let resolved = c.args.self.now.resolved.now in
    let depth = c.args.self.now.depth in
    let state = c.args.state.now in
    let out = g.O.Output.state c.args.out.now in
    let p = program_seen resolved in
    let go = part resolved depth in
    let uses = names resolved in
    let xs = c.args.statements.now in
    let whole = block p go (listed (map (stmt_tree uses) xs)) in
    let start = scene state out in
    let here = scene c.loop-s.state (g.O.Output.state c.loop-s.out) in
    let i = c.loop-s.s-index in
    let rest = rest_same whole _ _ start here (statements_next p go uses c.loop-s.last xs i c.s-item.result c.loop-s-test.true c.s-item.is) c.loop-s.invariant in
    record { nests = c.requires.nests; right = first_right _ _ _ rest.right }

pub returns-in_err-last : goal.returns-in_err-last
returns-in_err-last g c =
    let resolved = c.args.self.now.resolved.now in
    let depth = c.args.self.now.depth in
    let state = c.args.state.now in
    let out = g.O.Output.state c.args.out.now in
    let p = program_seen resolved in
    let go = part resolved depth in
    let uses = names resolved in
    let xs = c.args.statements.now in
    let whole = block p go (listed (map (stmt_tree uses) xs)) in
    let start = scene state out in
    let here = scene c.loop-s.state (g.O.Output.state c.loop-s.out) in
    let i = c.loop-s.s-index in
    let rest = rest_same whole _ _ start here (statements_next p go uses c.loop-s.last xs i c.s-item.result c.loop-s-test.true c.s-item.is) c.loop-s.invariant in
    rest.on _ _ (exit_by {B = Value} _ _ here _ _ _ c.from_residual.ensures.1 c.in_err-last.ensures)

pub loop-s-preserved : goal.loop-s-preserved
loop-s-preserved g c =
    let resolved = c.args.self.now.resolved.now in
    let depth = c.args.self.now.depth in
    let state = c.args.state.now in
    let out = g.O.Output.state c.args.out.now in
    let p = program_seen resolved in
    let go = part resolved depth in
    let uses = names resolved in
    let xs = c.args.statements.now in
    let whole = block p go (listed (map (stmt_tree uses) xs)) in
    let start = scene state out in
    let here = scene c.loop-s.state (g.O.Output.state c.loop-s.out) in
    let i = c.loop-s.s-index in
    let rest = rest_same whole _ _ start here (statements_next p go uses c.loop-s.last xs i c.s-item.result c.loop-s-test.true c.s-item.is) c.loop-s.invariant in
    rest_next whole _ _ c.in_ok-last.last start here (scene c.part.new.state (g.O.Output.state c.part.new.out)) rest c.in_ok-last.ensures

pub returns : goal.returns
returns g c =
    let resolved = c.args.self.now.resolved.now in
    let depth = c.args.self.now.depth in
    let state = c.args.state.now in
    let out = g.O.Output.state c.args.out.now in
    let p = program_seen resolved in
    let go = part resolved depth in
    let uses = names resolved in
    let xs = c.args.statements.now in
    let whole = block p go (listed (map (stmt_tree uses) xs)) in
    let start = scene state out in
    let here = scene c.loop-s.state (g.O.Output.state c.loop-s.out) in
    let i = c.loop-s.s-index in
    let past : length xs ≤ i = omega arith in
    c.loop-s.invariant.on (Ok c.loop-s.last) here
    (subst (λ l. Runs (block_from p go c.loop-s.last (listed (map (stmt_tree uses) l))) here (Ok c.loop-s.last) here) (sym (drop_all i xs past)) (pure_runs c.loop-s.last here))
