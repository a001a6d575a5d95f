use Rattle.std.proofs.Common.{Ok, map, refl, sym, ap, subst, ◌∙◌}
use Rattle.kt_tree.specs.declared.ast.body.ExprKind.TheVariants as e
use Rattle.kt_model.specs.BodyTrees.{Template', Tree, seen as seen_in, seen_trees, piece, inserted_of, texts_of, named_there, shut}
use Rattle.kt_model.proofs.BodyFolds.{tree_of_kind, kind_int, kind_bool, kind_null, kind_name, kind_template, kind_paren, kind_call, kind_call_with, kind_sign, kind_not, kind_sum, kind_arithmetic, kind_compare, kind_equal, kind_and, kind_or, kind_if_any, kind_return_any, kind_return_at_any, kind_throw, kind_other}
use Rattle.kt_mean.specs.Evaluation.{with_values, operated}
use Rattle.kt_mean.specs.declared.states.Value.TheVariants as value
use Rattle.kt_run.specs.Scene.{scene, Right, Runs}
use Rattle.kt_run.specs.Running.{program_seen, part, names, shape, call_run}
use Rattle.kt_run.proofs.Chain.{same_right, same_runs, quiet_runs, pure_runs}
use Rattle.kt_run.proofs.Steps.{wrong_comes, int_runs}
use Rattle.kt_run.proofs.FormSteps.{name_is, call_is}
use Rattle.kt_run.proofs.evaluator.Evaluator.expr.Goals as goal

pub unreachable-requires : goal.unreachable-requires
unreachable-requires g c =
    let resolved = c.args.self.now.resolved.now in
    let depth = c.args.self.now.depth in
    let state = c.args.state.now in
    let out = g.O.Output.state c.args.out.now in
    let p = program_seen resolved in
    let go = part resolved depth in
    let uses = names resolved in
    wrong_comes state (subst (λ (t : Tree). Right (shape resolved depth t) state) (tree_of_kind uses c.args.e.now _ _ c.in-Null.is (kind_null uses)) c.requires.right)

pub unreachable-requires-in-Throw : goal.unreachable-requires-in-Throw
unreachable-requires-in-Throw g c =
    let resolved = c.args.self.now.resolved.now in
    let depth = c.args.self.now.depth in
    let state = c.args.state.now in
    let out = g.O.Output.state c.args.out.now in
    let p = program_seen resolved in
    let go = part resolved depth in
    let uses = names resolved in
    wrong_comes state (subst (λ (t : Tree). Right (shape resolved depth t) state) (tree_of_kind uses c.args.e.now _ _ c.in-Throw.is (kind_throw uses _)) c.requires.right)

pub unreachable-requires-in-Some : goal.unreachable-requires-in-Some
unreachable-requires-in-Some g c =
    let resolved = c.args.self.now.resolved.now in
    let depth = c.args.self.now.depth in
    let state = c.args.state.now in
    let out = g.O.Output.state c.args.out.now in
    let p = program_seen resolved in
    let go = part resolved depth in
    let uses = names resolved in
    wrong_comes state (subst (λ (t : Tree). Right (shape resolved depth t) state) (tree_of_kind uses c.args.e.now _ _ (c.in-Call.is ∙ ap (e.Call c.in-Call.callee c.in-Call.arguments) c.in-Some.is) (kind_call_with uses _ _ _)) c.requires.right)

pub unreachable-requires-in_default : goal.unreachable-requires-in_default
unreachable-requires-in_default g c =
    let resolved = c.args.self.now.resolved.now in
    let depth = c.args.self.now.depth in
    let state = c.args.state.now in
    let out = g.O.Output.state c.args.out.now in
    let p = program_seen resolved in
    let go = part resolved depth in
    let uses = names resolved in
    wrong_comes state (subst (λ (t : Tree). Right (shape resolved depth t) state) (tree_of_kind uses c.args.e.now c.args.e.now.kind shut refl (kind_other uses c.args.e.now.kind c.in_default.not-Int c.in_default.not-Bool c.in_default.not-Null c.in_default.not-Name c.in_default.not-Template c.in_default.not-Paren c.in_default.not-Call c.in_default.not-Sign c.in_default.not-Not c.in_default.not-Sum c.in_default.not-Arithmetic c.in_default.not-Compare c.in_default.not-Equal c.in_default.not-And c.in_default.not-Or c.in_default.not-If c.in_default.not-Return c.in_default.not-Throw)) c.requires.right)

pub returns-in-Int : goal.returns-in-Int
returns-in-Int g c =
    let resolved = c.args.self.now.resolved.now in
    let depth = c.args.self.now.depth in
    let state = c.args.state.now in
    let out = g.O.Output.state c.args.out.now in
    let p = program_seen resolved in
    let go = part resolved depth in
    let uses = names resolved in
    let here = scene state out in
    subst (λ (t : Tree). Runs (shape resolved depth t) here c.int_value.result here) (sym (tree_of_kind uses c.args.e.now _ _ c.in-Int.is (kind_int uses _))) (int_runs c.in-Int.number c.int_value.result state out c.int_value.ensures)

pub read_name-requires : goal.read_name-requires
read_name-requires g c =
    let resolved = c.args.self.now.resolved.now in
    let depth = c.args.self.now.depth in
    let state = c.args.state.now in
    let out = g.O.Output.state c.args.out.now in
    let p = program_seen resolved in
    let go = part resolved depth in
    let uses = names resolved in
    record { right = same_right _ _ state (name_is p go _ _ _) (subst (λ (t : Tree). Right (shape resolved depth t) state) (tree_of_kind uses c.args.e.now _ _ c.in-Name.is (kind_name uses _)) c.requires.right) }

pub returns-in-Name : goal.returns-in-Name
returns-in-Name g c =
    let resolved = c.args.self.now.resolved.now in
    let depth = c.args.self.now.depth in
    let state = c.args.state.now in
    let out = g.O.Output.state c.args.out.now in
    let p = program_seen resolved in
    let go = part resolved depth in
    let uses = names resolved in
    let here = scene state out in
    let end = scene c.read_name.new.state out in
    subst (λ (t : Tree). Runs (shape resolved depth t) here c.read_name.result end) (sym (tree_of_kind uses c.args.e.now _ _ c.in-Name.is (kind_name uses _)))
    (same_runs _ _ here c.read_name.result end (name_is p go _ _ _) (quiet_runs _ state c.read_name.result c.read_name.new.state out c.read_name.ensures))

pub template-requires-clause-right : goal.template-requires-clause-right
template-requires-clause-right g c =
    let resolved = c.args.self.now.resolved.now in
    let depth = c.args.self.now.depth in
    let state = c.args.state.now in
    let out = g.O.Output.state c.args.out.now in
    let p = program_seen resolved in
    let go = part resolved depth in
    let uses = names resolved in
    subst (λ xs. Right (with_values p go (inserted_of (map (piece uses) xs)) (operated (Template' (texts_of (map (piece uses) xs))))) state) (sym c.as_slice.ensures) (subst (λ (t : Tree). Right (shape resolved depth t) state) (tree_of_kind uses c.args.e.now _ _ c.in-Template.is (kind_template uses _)) c.requires.right)

pub returns-in-Template : goal.returns-in-Template
returns-in-Template g c =
    let resolved = c.args.self.now.resolved.now in
    let depth = c.args.self.now.depth in
    let state = c.args.state.now in
    let out = g.O.Output.state c.args.out.now in
    let p = program_seen resolved in
    let go = part resolved depth in
    let uses = names resolved in
    let here = scene state out in
    let end = scene c.template.new.state (g.O.Output.state c.template.new.out) in
    subst (λ (t : Tree). Runs (shape resolved depth t) here c.template.result end) (sym (tree_of_kind uses c.args.e.now _ _ c.in-Template.is (kind_template uses _)))
    (subst (λ xs. Runs (with_values p go (inserted_of (map (piece uses) xs)) (operated (Template' (texts_of (map (piece uses) xs))))) here c.template.result end) c.as_slice.ensures c.template.ensures)

pub boxed-requires-clause-right : goal.boxed-requires-clause-right
boxed-requires-clause-right g c =
    let resolved = c.args.self.now.resolved.now in
    let depth = c.args.self.now.depth in
    let state = c.args.state.now in
    let out = g.O.Output.state c.args.out.now in
    let p = program_seen resolved in
    let go = part resolved depth in
    let uses = names resolved in
    (subst (λ (t : Tree). Right (shape resolved depth t) state) (tree_of_kind uses c.args.e.now _ _ c.in-Paren.is (kind_paren uses _)) c.requires.right)

pub returns-in-Paren : goal.returns-in-Paren
returns-in-Paren g c =
    let resolved = c.args.self.now.resolved.now in
    let depth = c.args.self.now.depth in
    let state = c.args.state.now in
    let out = g.O.Output.state c.args.out.now in
    let p = program_seen resolved in
    let go = part resolved depth in
    let uses = names resolved in
    let here = scene state out in
    let end = scene c.boxed.new.state (g.O.Output.state c.boxed.new.out) in
    subst (λ (t : Tree). Runs (shape resolved depth t) here c.boxed.result end) (sym (tree_of_kind uses c.args.e.now _ _ c.in-Paren.is (kind_paren uses _))) c.boxed.ensures

pub call-requires-clause-right : goal.call-requires-clause-right
call-requires-clause-right g c =
    let resolved = c.args.self.now.resolved.now in
    let depth = c.args.self.now.depth in
    let state = c.args.state.now in
    let out = g.O.Output.state c.args.out.now in
    let p = program_seen resolved in
    let go = part resolved depth in
    let uses = names resolved in
    subst (λ xs. Right (call_run p go (uses c.args.e.now.number) (seen_trees (map (seen_in uses) xs))) state) (sym c.as_slice-in-None.ensures)
    (same_right _ _ state (call_is p go (uses c.args.e.now.number) (seen_trees (map (seen_in uses) c.in-Call.arguments)) (named_there c.args.e.now.number c.args.e.now.span c.in-Call.callee.span)) (subst (λ (t : Tree). Right (shape resolved depth t) state) (tree_of_kind uses c.args.e.now _ _ (c.in-Call.is ∙ ap (e.Call c.in-Call.callee c.in-Call.arguments) c.in-None.is) (kind_call uses _ _)) c.requires.right))

pub returns-in-None : goal.returns-in-None
returns-in-None g c =
    let resolved = c.args.self.now.resolved.now in
    let depth = c.args.self.now.depth in
    let state = c.args.state.now in
    let out = g.O.Output.state c.args.out.now in
    let p = program_seen resolved in
    let go = part resolved depth in
    let uses = names resolved in
    let here = scene state out in
    let end = scene c.call.new.state (g.O.Output.state c.call.new.out) in
    subst (λ (t : Tree). Runs (shape resolved depth t) here c.call.result end) (sym (tree_of_kind uses c.args.e.now _ _ (c.in-Call.is ∙ ap (e.Call c.in-Call.callee c.in-Call.arguments) c.in-None.is) (kind_call uses _ _)))
    (same_runs _ _ here c.call.result end (call_is p go (uses c.args.e.now.number) (seen_trees (map (seen_in uses) c.in-Call.arguments)) (named_there c.args.e.now.number c.args.e.now.span c.in-Call.callee.span))
    (subst (λ xs. Runs (call_run p go (uses c.args.e.now.number) (seen_trees (map (seen_in uses) xs))) here c.call.result end) c.as_slice-in-None.ensures c.call.ensures))

pub signed-requires-clause-right : goal.signed-requires-clause-right
signed-requires-clause-right g c =
    let resolved = c.args.self.now.resolved.now in
    let depth = c.args.self.now.depth in
    let state = c.args.state.now in
    let out = g.O.Output.state c.args.out.now in
    let p = program_seen resolved in
    let go = part resolved depth in
    let uses = names resolved in
    (subst (λ (t : Tree). Right (shape resolved depth t) state) (tree_of_kind uses c.args.e.now _ _ c.in-Sign.is (kind_sign uses _ _)) c.requires.right)

pub returns-in-Sign : goal.returns-in-Sign
returns-in-Sign g c =
    let resolved = c.args.self.now.resolved.now in
    let depth = c.args.self.now.depth in
    let state = c.args.state.now in
    let out = g.O.Output.state c.args.out.now in
    let p = program_seen resolved in
    let go = part resolved depth in
    let uses = names resolved in
    let here = scene state out in
    let end = scene c.signed.new.state (g.O.Output.state c.signed.new.out) in
    subst (λ (t : Tree). Runs (shape resolved depth t) here c.signed.result end) (sym (tree_of_kind uses c.args.e.now _ _ c.in-Sign.is (kind_sign uses _ _))) c.signed.ensures

pub binary-requires-clause-right : goal.binary-requires-clause-right
binary-requires-clause-right g c =
    let resolved = c.args.self.now.resolved.now in
    let depth = c.args.self.now.depth in
    let state = c.args.state.now in
    let out = g.O.Output.state c.args.out.now in
    let p = program_seen resolved in
    let go = part resolved depth in
    let uses = names resolved in
    (subst (λ (t : Tree). Right (shape resolved depth t) state) (tree_of_kind uses c.args.e.now _ _ c.in-Sum.is (kind_sum uses _ _)) c.requires.right)

pub returns-in-Sum : goal.returns-in-Sum
returns-in-Sum g c =
    let resolved = c.args.self.now.resolved.now in
    let depth = c.args.self.now.depth in
    let state = c.args.state.now in
    let out = g.O.Output.state c.args.out.now in
    let p = program_seen resolved in
    let go = part resolved depth in
    let uses = names resolved in
    let here = scene state out in
    let end = scene c.binary.new.state (g.O.Output.state c.binary.new.out) in
    subst (λ (t : Tree). Runs (shape resolved depth t) here c.binary.result end) (sym (tree_of_kind uses c.args.e.now _ _ c.in-Sum.is (kind_sum uses _ _))) c.binary.ensures

pub binary-requires-in-Arithmetic-clause-right : goal.binary-requires-in-Arithmetic-clause-right
binary-requires-in-Arithmetic-clause-right g c =
    let resolved = c.args.self.now.resolved.now in
    let depth = c.args.self.now.depth in
    let state = c.args.state.now in
    let out = g.O.Output.state c.args.out.now in
    let p = program_seen resolved in
    let go = part resolved depth in
    let uses = names resolved in
    (subst (λ (t : Tree). Right (shape resolved depth t) state) (tree_of_kind uses c.args.e.now _ _ c.in-Arithmetic.is (kind_arithmetic uses _ _ _)) c.requires.right)

pub returns-in-Arithmetic : goal.returns-in-Arithmetic
returns-in-Arithmetic g c =
    let resolved = c.args.self.now.resolved.now in
    let depth = c.args.self.now.depth in
    let state = c.args.state.now in
    let out = g.O.Output.state c.args.out.now in
    let p = program_seen resolved in
    let go = part resolved depth in
    let uses = names resolved in
    let here = scene state out in
    let end = scene c.binary-in-Arithmetic.new.state (g.O.Output.state c.binary-in-Arithmetic.new.out) in
    subst (λ (t : Tree). Runs (shape resolved depth t) here c.binary-in-Arithmetic.result end) (sym (tree_of_kind uses c.args.e.now _ _ c.in-Arithmetic.is (kind_arithmetic uses _ _ _))) c.binary-in-Arithmetic.ensures

pub binary-requires-in-Compare-clause-right : goal.binary-requires-in-Compare-clause-right
binary-requires-in-Compare-clause-right g c =
    let resolved = c.args.self.now.resolved.now in
    let depth = c.args.self.now.depth in
    let state = c.args.state.now in
    let out = g.O.Output.state c.args.out.now in
    let p = program_seen resolved in
    let go = part resolved depth in
    let uses = names resolved in
    (subst (λ (t : Tree). Right (shape resolved depth t) state) (tree_of_kind uses c.args.e.now _ _ c.in-Compare.is (kind_compare uses _ _ _)) c.requires.right)

pub returns-in-Compare : goal.returns-in-Compare
returns-in-Compare g c =
    let resolved = c.args.self.now.resolved.now in
    let depth = c.args.self.now.depth in
    let state = c.args.state.now in
    let out = g.O.Output.state c.args.out.now in
    let p = program_seen resolved in
    let go = part resolved depth in
    let uses = names resolved in
    let here = scene state out in
    let end = scene c.binary-in-Compare.new.state (g.O.Output.state c.binary-in-Compare.new.out) in
    subst (λ (t : Tree). Runs (shape resolved depth t) here c.binary-in-Compare.result end) (sym (tree_of_kind uses c.args.e.now _ _ c.in-Compare.is (kind_compare uses _ _ _))) c.binary-in-Compare.ensures

pub binary-requires-in-Equal-clause-right : goal.binary-requires-in-Equal-clause-right
binary-requires-in-Equal-clause-right g c =
    let resolved = c.args.self.now.resolved.now in
    let depth = c.args.self.now.depth in
    let state = c.args.state.now in
    let out = g.O.Output.state c.args.out.now in
    let p = program_seen resolved in
    let go = part resolved depth in
    let uses = names resolved in
    (subst (λ (t : Tree). Right (shape resolved depth t) state) (tree_of_kind uses c.args.e.now _ _ c.in-Equal.is (kind_equal uses _ _ _)) c.requires.right)

pub returns-in-Equal : goal.returns-in-Equal
returns-in-Equal g c =
    let resolved = c.args.self.now.resolved.now in
    let depth = c.args.self.now.depth in
    let state = c.args.state.now in
    let out = g.O.Output.state c.args.out.now in
    let p = program_seen resolved in
    let go = part resolved depth in
    let uses = names resolved in
    let here = scene state out in
    let end = scene c.binary-in-Equal.new.state (g.O.Output.state c.binary-in-Equal.new.out) in
    subst (λ (t : Tree). Runs (shape resolved depth t) here c.binary-in-Equal.result end) (sym (tree_of_kind uses c.args.e.now _ _ c.in-Equal.is (kind_equal uses _ _ _))) c.binary-in-Equal.ensures

pub returns-in-Bool : goal.returns-in-Bool
returns-in-Bool g c =
    let resolved = c.args.self.now.resolved.now in
    let depth = c.args.self.now.depth in
    let state = c.args.state.now in
    let out = g.O.Output.state c.args.out.now in
    let p = program_seen resolved in
    let go = part resolved depth in
    let uses = names resolved in
    let here = scene state out in
    subst (λ (t : Tree). Runs (shape resolved depth t) here (Ok (value.Bool c.in-Bool.truth)) here) (sym (tree_of_kind uses c.args.e.now _ _ c.in-Bool.is (kind_bool uses _))) (pure_runs (value.Bool c.in-Bool.truth) here)

pub negation-requires-clause-right : goal.negation-requires-clause-right
negation-requires-clause-right g c =
    let resolved = c.args.self.now.resolved.now in
    let depth = c.args.self.now.depth in
    let state = c.args.state.now in
    let out = g.O.Output.state c.args.out.now in
    let p = program_seen resolved in
    let go = part resolved depth in
    let uses = names resolved in
    (subst (λ (t : Tree). Right (shape resolved depth t) state) (tree_of_kind uses c.args.e.now _ _ c.in-Not.is (kind_not uses _)) c.requires.right)

pub returns-in-Not : goal.returns-in-Not
returns-in-Not g c =
    let resolved = c.args.self.now.resolved.now in
    let depth = c.args.self.now.depth in
    let state = c.args.state.now in
    let out = g.O.Output.state c.args.out.now in
    let p = program_seen resolved in
    let go = part resolved depth in
    let uses = names resolved in
    let here = scene state out in
    let end = scene c.negation.new.state (g.O.Output.state c.negation.new.out) in
    subst (λ (t : Tree). Runs (shape resolved depth t) here c.negation.result end) (sym (tree_of_kind uses c.args.e.now _ _ c.in-Not.is (kind_not uses _))) c.negation.ensures

pub conjunction-requires-clause-right : goal.conjunction-requires-clause-right
conjunction-requires-clause-right g c =
    let resolved = c.args.self.now.resolved.now in
    let depth = c.args.self.now.depth in
    let state = c.args.state.now in
    let out = g.O.Output.state c.args.out.now in
    let p = program_seen resolved in
    let go = part resolved depth in
    let uses = names resolved in
    (subst (λ (t : Tree). Right (shape resolved depth t) state) (tree_of_kind uses c.args.e.now _ _ c.in-And.is (kind_and uses _ _)) c.requires.right)

pub returns-in-And : goal.returns-in-And
returns-in-And g c =
    let resolved = c.args.self.now.resolved.now in
    let depth = c.args.self.now.depth in
    let state = c.args.state.now in
    let out = g.O.Output.state c.args.out.now in
    let p = program_seen resolved in
    let go = part resolved depth in
    let uses = names resolved in
    let here = scene state out in
    let end = scene c.conjunction.new.state (g.O.Output.state c.conjunction.new.out) in
    subst (λ (t : Tree). Runs (shape resolved depth t) here c.conjunction.result end) (sym (tree_of_kind uses c.args.e.now _ _ c.in-And.is (kind_and uses _ _))) c.conjunction.ensures

pub disjunction-requires-clause-right : goal.disjunction-requires-clause-right
disjunction-requires-clause-right g c =
    let resolved = c.args.self.now.resolved.now in
    let depth = c.args.self.now.depth in
    let state = c.args.state.now in
    let out = g.O.Output.state c.args.out.now in
    let p = program_seen resolved in
    let go = part resolved depth in
    let uses = names resolved in
    (subst (λ (t : Tree). Right (shape resolved depth t) state) (tree_of_kind uses c.args.e.now _ _ c.in-Or.is (kind_or uses _ _)) c.requires.right)

pub returns-in-Or : goal.returns-in-Or
returns-in-Or g c =
    let resolved = c.args.self.now.resolved.now in
    let depth = c.args.self.now.depth in
    let state = c.args.state.now in
    let out = g.O.Output.state c.args.out.now in
    let p = program_seen resolved in
    let go = part resolved depth in
    let uses = names resolved in
    let here = scene state out in
    let end = scene c.disjunction.new.state (g.O.Output.state c.disjunction.new.out) in
    subst (λ (t : Tree). Runs (shape resolved depth t) here c.disjunction.result end) (sym (tree_of_kind uses c.args.e.now _ _ c.in-Or.is (kind_or uses _ _))) c.disjunction.ensures

pub choice-requires-clause-right : goal.choice-requires-clause-right
choice-requires-clause-right g c =
    let resolved = c.args.self.now.resolved.now in
    let depth = c.args.self.now.depth in
    let state = c.args.state.now in
    let out = g.O.Output.state c.args.out.now in
    let p = program_seen resolved in
    let go = part resolved depth in
    let uses = names resolved in
    (subst (λ (t : Tree). Right (shape resolved depth t) state) (tree_of_kind uses c.args.e.now _ _ c.in-If.is (kind_if_any uses _ _ _)) c.requires.right)

pub returns-in-If : goal.returns-in-If
returns-in-If g c =
    let resolved = c.args.self.now.resolved.now in
    let depth = c.args.self.now.depth in
    let state = c.args.state.now in
    let out = g.O.Output.state c.args.out.now in
    let p = program_seen resolved in
    let go = part resolved depth in
    let uses = names resolved in
    let here = scene state out in
    let end = scene c.choice.new.state (g.O.Output.state c.choice.new.out) in
    subst (λ (t : Tree). Runs (shape resolved depth t) here c.choice.result end) (sym (tree_of_kind uses c.args.e.now _ _ c.in-If.is (kind_if_any uses _ _ _))) c.choice.ensures

pub give_back-requires-clause-right : goal.give_back-requires-clause-right
give_back-requires-clause-right g c =
    let resolved = c.args.self.now.resolved.now in
    let depth = c.args.self.now.depth in
    let state = c.args.state.now in
    let out = g.O.Output.state c.args.out.now in
    let p = program_seen resolved in
    let go = part resolved depth in
    let uses = names resolved in
    (subst (λ (t : Tree). Right (shape resolved depth t) state) (tree_of_kind uses c.args.e.now _ _ (c.in-Return.is ∙ ap (λ l. e.Return l c.in-Return.value) c.in-None-label.is) (kind_return_any uses _)) c.requires.right)

pub returns-in-None-label : goal.returns-in-None-label
returns-in-None-label g c =
    let resolved = c.args.self.now.resolved.now in
    let depth = c.args.self.now.depth in
    let state = c.args.state.now in
    let out = g.O.Output.state c.args.out.now in
    let p = program_seen resolved in
    let go = part resolved depth in
    let uses = names resolved in
    let here = scene state out in
    let end = scene c.give_back.new.state (g.O.Output.state c.give_back.new.out) in
    subst (λ (t : Tree). Runs (shape resolved depth t) here c.give_back.result end) (sym (tree_of_kind uses c.args.e.now _ _ (c.in-Return.is ∙ ap (λ l. e.Return l c.in-Return.value) c.in-None-label.is) (kind_return_any uses _))) c.give_back.ensures

pub unreachable-requires-in-Some-label : goal.unreachable-requires-in-Some-label
unreachable-requires-in-Some-label g c =
    let resolved = c.args.self.now.resolved.now in
    let depth = c.args.self.now.depth in
    let state = c.args.state.now in
    let out = g.O.Output.state c.args.out.now in
    let p = program_seen resolved in
    let go = part resolved depth in
    let uses = names resolved in
    wrong_comes state (subst (λ (t : Tree). Right (shape resolved depth t) state) (tree_of_kind uses c.args.e.now _ _ (c.in-Return.is ∙ ap (λ l. e.Return l c.in-Return.value) c.in-Some-label.is) (kind_return_at_any uses _ _)) c.requires.right)
