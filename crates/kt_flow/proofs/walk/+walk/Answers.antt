use Rattle.std.proofs.Common.{◌++◌, ◌∷◌, [], Some, ap, sym, ◌∙◌, refl, map, option_map}
use Rattle.std.specs.List.{flat_map}
use Rattle.kt_tree.specs.declared.ast.body.ExprKind.TheVariants as e
use Rattle.kt_model.specs.NameUses.{named_at}
use Rattle.kt_model.specs.BodyTrees.{expr_tree, branch_trees, seen, seen_trees, seen_optional, inserted_of, otherwise, call_tree, local_tree, assign_tree, named_there, compound_of}
use Rattle.kt_model.proofs.BodyFolds.{stmt_expr, stmt_local_any, stmt_assign_any, stmt_while, stmt_do_while, stmt_for, branch_braced, branch_single, piece_text, piece_inserted, block_list}
use Rattle.kt_flow.specs.Notes.{tree_notes, trees_notes, part_notes, expr_notes, stmt_notes, piece_notes, branch_notes}
use Rattle.kt_flow.proofs.NoteLemmas.{note_first, notes_none, notes_one}
use Rattle.kt_flow.proofs.PartNotes as part
use Rattle.kt_flow.proofs.Puts.{put_in, put_both, put_three, put_none}
use Rattle.kt_flow.proofs.walk.+walk.Goals as goal

pub expr-returns : goal.expr-returns
expr-returns t c =
    put_both c.parts.result _ _ c.push.new.self.items _ _ (note_first (expr_tree (named_at c.args.uses.now) c.args.e.now))
    (c.in_ok-push.ensures.items ∙ ap (λ n. c.args.out.now.items ++ n ∷ []) c.of_expr.ensures) c.parts.ensures

pub piece-returns-in-Text : goal.piece-returns-in-Text
piece-returns-in-Text t c =
    put_none (ap (piece_notes (named_at c.args.uses.now)) c.in-Text.is ∙ ap (λ w. trees_notes (inserted_of (w ∷ []))) (piece_text (named_at c.args.uses.now) _) ∙ notes_none)

pub piece-returns-in-Inserted : goal.piece-returns-in-Inserted
piece-returns-in-Inserted t c =
    put_in c.expr.result _ _ (ap (piece_notes (named_at c.args.uses.now)) c.in-Inserted.is ∙ ap (λ w. trees_notes (inserted_of (w ∷ []))) (piece_inserted (named_at c.args.uses.now) _) ∙ notes_one _) c.expr.ensures

pub returned-returns-in-Some : goal.returned-returns-in-Some
returned-returns-in-Some t c =
    put_in c.expr.result _ _ (ap (λ w. trees_notes (seen_optional (option_map (seen (named_at c.args.uses.now)) w))) c.in-Some.is ∙ notes_one _ ∙ ap (expr_notes (named_at c.args.uses.now)) (sym c.get.ensures)) c.expr.ensures

pub returned-returns-in-None : goal.returned-returns-in-None
returned-returns-in-None t c =
    put_none (ap (λ w. trees_notes (seen_optional (option_map (seen (named_at c.args.uses.now)) w))) c.in-None.is ∙ notes_none)

pub value-returns-in-Some : goal.value-returns-in-Some
value-returns-in-Some t c =
    put_in c.expr.result _ _ (ap (λ w. trees_notes (seen_optional (option_map (seen (named_at c.args.uses.now)) w))) c.in-Some.is ∙ notes_one _) c.expr.ensures

pub value-returns-in-None : goal.value-returns-in-None
value-returns-in-None t c =
    put_none (ap (λ w. trees_notes (seen_optional (option_map (seen (named_at c.args.uses.now)) w))) c.in-None.is ∙ notes_none)

pub branch-returns-in-Braced : goal.branch-returns-in-Braced
branch-returns-in-Braced t c =
    put_in c.stmts.result _ _ (ap (branch_notes (named_at c.args.uses.now)) c.in-Braced.is ∙ ap trees_notes (branch_braced (named_at c.args.uses.now) _ ∙ block_list (named_at c.args.uses.now) _) ∙ part.stmts_notes (named_at c.args.uses.now) _ ∙ ap (flat_map (stmt_notes (named_at c.args.uses.now))) (sym c.as_slice.ensures)) c.stmts.ensures

pub branch-returns-in-Single : goal.branch-returns-in-Single
branch-returns-in-Single t c =
    put_in c.stmt.result _ _ (ap (branch_notes (named_at c.args.uses.now)) c.in-Single.is ∙ ap trees_notes (branch_single (named_at c.args.uses.now) _) ∙ notes_one _) c.stmt.ensures

pub alternative-returns-in-Some : goal.alternative-returns-in-Some
alternative-returns-in-Some t c =
    put_in c.branch-uses.result _ _ (ap (λ w. trees_notes (otherwise (option_map (branch_trees (named_at c.args.uses.now)) w))) c.in-Some.is ∙ ap (branch_notes (named_at c.args.uses.now)) (sym c.get.ensures)) c.branch-uses.ensures

pub alternative-returns-in-None : goal.alternative-returns-in-None
alternative-returns-in-None t c =
    put_none (ap (λ w. trees_notes (otherwise (option_map (branch_trees (named_at c.args.uses.now)) w))) c.in-None.is ∙ notes_none)

pub stmt-returns-in-Expr : goal.stmt-returns-in-Expr
stmt-returns-in-Expr t c =
    put_in c.expr.result _ _ (ap (stmt_notes (named_at c.args.uses.now)) c.in-Expr.is ∙ ap tree_notes (stmt_expr (named_at c.args.uses.now) _)) c.expr.ensures

pub stmt-returns-in-Local : goal.stmt-returns-in-Local
stmt-returns-in-Local t c =
    put_in c.local.result _ _ (ap (stmt_notes (named_at c.args.uses.now)) c.in-Local.is ∙ ap tree_notes (stmt_local_any (named_at c.args.uses.now) _ _ _ _ _ _)) (c.local.ensures _)

pub stmt-returns-in-While : goal.stmt-returns-in-While
stmt-returns-in-While t c =
    put_in c.shut.result _ _ (ap (stmt_notes (named_at c.args.uses.now)) c.in-While.is ∙ ap tree_notes (stmt_while (named_at c.args.uses.now) _ _ _ _)) (c.shut.ensures _ refl refl)

pub stmt-returns-in-DoWhile : goal.stmt-returns-in-DoWhile
stmt-returns-in-DoWhile t c =
    put_in c.shut-in-DoWhile.result _ _ (ap (stmt_notes (named_at c.args.uses.now)) c.in-DoWhile.is ∙ ap tree_notes (stmt_do_while (named_at c.args.uses.now) _ _ _ _)) (c.shut-in-DoWhile.ensures _ refl refl)

pub stmt-returns-in-For : goal.stmt-returns-in-For
stmt-returns-in-For t c =
    put_in c.shut-in-For.result _ _ (ap (stmt_notes (named_at c.args.uses.now)) c.in-For.is ∙ ap tree_notes (stmt_for (named_at c.args.uses.now) _ _ _ _ _ _ _ _)) (c.shut-in-For.ensures _ refl refl)

pub call-returns-in-Function : goal.call-returns-in-Function
call-returns-in-Function t c at word =
    put_in c.exprs.result _ _ (ap (λ m. part_notes (call_tree m (seen_trees (map (seen (named_at c.args.uses.now)) c.args.arguments.now)) (named_there c.args.tree at word))) (sym c.in-Function.ensures) ∙ part.parts_called (named_at c.args.uses.now) c.args.arguments.now _ _ _) c.exprs.ensures

pub call-returns-in-BuiltIn : goal.call-returns-in-BuiltIn
call-returns-in-BuiltIn t c at word =
    put_in c.exprs-in-BuiltIn.result _ _ (ap (λ m. part_notes (call_tree m (seen_trees (map (seen (named_at c.args.uses.now)) c.args.arguments.now)) (named_there c.args.tree at word))) (sym c.in-BuiltIn.ensures) ∙ part.parts_built_in (named_at c.args.uses.now) c.args.arguments.now _ _ _) c.exprs-in-BuiltIn.ensures

pub call-returns-in_default : goal.call-returns-in_default
call-returns-in_default t c at word =
    put_none (part.parts_uncalled (named_at c.args.uses.now c.args.tree) _ _ (λ f r e. c.in_default.not-Function f r (c.named.ensures ∙ e)) (λ f r e. c.in_default.not-BuiltIn f r (c.named.ensures ∙ e)))

pub stmt-returns-in-Assign : goal.stmt-returns-in-Assign
stmt-returns-in-Assign t c =
    let uses = named_at c.args.uses.now in
    put_in c.assign.result _ _ (ap (stmt_notes uses) c.in-Assign.is ∙ ap tree_notes (stmt_assign_any uses _ _ _ _ _) ∙ ap (λ w. tree_notes (assign_tree (uses c.in-Assign.number) c.in-Assign.number c.in-Assign.span w c.in-Assign.assignment (option_map (seen uses) c.in-Assign.value))) (c.name_of-name.ensures uses)) c.assign.ensures

pub local-returns-in_ok-push-in-Variable : goal.local-returns-in_ok-push-in-Variable
local-returns-in_ok-push-in-Variable t c at =
    let uses = named_at c.args.uses.now in
    put_both c.value.result _ _ c.push.new.self.items _ _
    (ap (λ m. tree_notes (local_tree m (named_there c.args.tree at c.args.word) (option_map (seen uses) c.args.held.now))) (sym c.in-Variable.ensures) ∙ part.local_notes uses c.args.held.now c.in-Variable.field-0 c.in-Variable.field-1 (named_there c.args.tree at c.args.word))
    (c.in_ok-push-in-Variable.ensures.items ∙ ap (λ n. c.args.out.now.items ++ n ∷ []) (c.of_local.ensures at c.in-Variable.field-0 c.in-Variable.field-1 (option_map (seen uses) c.args.held.now))) c.value.ensures

pub assign-returns-in_ok-push-in-Variable : goal.assign-returns-in_ok-push-in-Variable
assign-returns-in_ok-push-in-Variable t c =
    let uses = named_at c.args.uses.now in
    put_both c.value.result _ _ c.push.new.self.items _ _
    (ap (λ w. tree_notes (assign_tree (uses c.args.tree) c.args.tree c.args.span w c.args.assignment (option_map (seen uses) c.args.held.now))) c.in-Some.is
    ∙ ap (λ m. tree_notes (assign_tree m c.args.tree c.args.span (Some c.in-Some.word) c.args.assignment (option_map (seen uses) c.args.held.now))) (sym c.in-Variable.ensures)
    ∙ part.assigned_notes uses c.args.held.now (compound_of c.args.assignment) c.in-Variable.x c.in-Variable.is_fixed (named_there c.args.tree c.args.span c.in-Some.word))
    (c.in_ok-push-in-Variable.ensures.items ∙ ap (λ n. c.args.out.now.items ++ n ∷ []) (c.of_assignment.ensures c.args.span uses)) c.value.ensures

pub parts-returns-in-Template : goal.parts-returns-in-Template
parts-returns-in-Template t c =
    let uses = named_at c.args.uses.now in
    put_in c.pieces.result _ _ (part.parts_template uses c.args.e.now _ c.in-Template.is ∙ ap (flat_map (piece_notes uses)) (sym c.as_slice.ensures)) c.pieces.ensures

pub parts-returns-in-None : goal.parts-returns-in-None
parts-returns-in-None t c =
    let uses = named_at c.args.uses.now in
    let x = c.args.e.now in
    put_in c.call.result _ _ (part.parts_call uses x _ _ (c.in-Call.is ∙ ap (e.Call c.in-Call.callee c.in-Call.arguments) c.in-None.is) ∙ ap (λ l. part_notes (call_tree (uses x.number) (seen_trees (map (seen uses) l)) (named_there x.number x.span c.in-Call.callee.span))) (sym c.as_slice-in-None.ensures)) (c.call.ensures _ _)

pub parts-returns-in-Some : goal.parts-returns-in-Some
parts-returns-in-Some t c =
    put_none (part.parts_call_with (named_at c.args.uses.now) c.args.e.now _ _ _ (c.in-Call.is ∙ ap (e.Call c.in-Call.callee c.in-Call.arguments) c.in-Some.is))

pub parts-returns-in-None-label : goal.parts-returns-in-None-label
parts-returns-in-None-label t c =
    put_in c.returned.result _ _ (part.parts_return (named_at c.args.uses.now) c.args.e.now _ (c.in-Return.is ∙ ap (λ l. e.Return l c.in-Return.value) c.in-None-label.is)) c.returned.ensures

pub parts-returns-in-Some-label : goal.parts-returns-in-Some-label
parts-returns-in-Some-label t c =
    put_none (part.parts_return_at (named_at c.args.uses.now) c.args.e.now _ _ (c.in-Return.is ∙ ap (λ l. e.Return l c.in-Return.value) c.in-Some-label.is))

pub parts-returns-in_default : goal.parts-returns-in_default
parts-returns-in_default t c =
    let d = c.in_default in
    put_none (part.no_parts (named_at c.args.uses.now) c.args.e.now d.not-Template d.not-Paren d.not-Sign d.not-Not d.not-Throw d.not-Sum d.not-Arithmetic d.not-Compare d.not-Equal d.not-And d.not-Or d.not-Call d.not-If d.not-Return)

pub parts-returns-in_ok-branch-in-If : goal.parts-returns-in_ok-branch-in-If
parts-returns-in_ok-branch-in-If t c =
    let uses = named_at c.args.uses.now in
    let rest = trees_notes (otherwise (option_map (branch_trees uses) c.in-If.otherwise)) in
    put_three c.alternative.result _ _ c.expr.new.out.items c.branch-uses.new.out.items _ _ _
    (part.parts_if uses c.args.e.now _ _ _ c.in-If.is
    ∙ ap (λ x. expr_notes uses x ++ (branch_notes uses c.in-If.then ++ rest)) (sym c.get.ensures)
    ∙ ap (λ x. expr_notes uses c.get.result.now ++ (branch_notes uses x ++ rest)) (sym c.get-in-If.ensures))
    c.in_ok-expr-in-If.ensures c.in_ok-branch-in-If.ensures c.alternative.ensures

pub parts-returns-in-Paren : goal.parts-returns-in-Paren
parts-returns-in-Paren t c =
    let uses = named_at c.args.uses.now in
    put_in c.expr-in-Paren.result _ _ (part.one_part uses c.args.e.now c.in-Paren.a c.in-Paren.is ∙ ap (expr_notes uses) (sym c.get-in-Paren.ensures)) c.expr-in-Paren.ensures

pub parts-returns-in_ok-expr-in-Sum : goal.parts-returns-in_ok-expr-in-Sum
parts-returns-in_ok-expr-in-Sum t c =
    let uses = named_at c.args.uses.now in
    put_both c.expr-in-Sum-2.result _ _ c.expr-in-Sum.new.out.items _ _
    (part.two_parts uses c.args.e.now c.in-Sum.a c.in-Sum.b c.in-Sum.is
    ∙ ap (λ x. expr_notes uses x ++ expr_notes uses c.in-Sum.b) (sym c.get-in-Sum.ensures)
    ∙ ap (λ x. expr_notes uses c.get-in-Sum.result.now ++ expr_notes uses x) (sym c.get-in-Sum-2.ensures))
    c.in_ok-expr-in-Sum.ensures c.expr-in-Sum-2.ensures
