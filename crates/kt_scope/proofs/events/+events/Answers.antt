use Rattle.std.proofs.Common.{◌≡◌, ◌++◌, ◌∷◌, [], ap, sym, ◌∙◌, refl, option_map, append_assoc, arith}
use Rattle.std.specs.List.{flat_map}
use Rattle.kt_tree.specs.declared.ast.body.ExprKind.TheVariants as e
use Rattle.kt_model.specs.declared.name_events.NameEvent.TheVariants.{Calls, Opens, Closes}
use Rattle.kt_model.specs.NameEvents.{within, seen_events_kind, expr_events, stmt_events, branch_events, piece_events, if_there}
use Rattle.kt_scope.proofs.EventFolds as fold
use Rattle.kt_scope.proofs.Puts.{put_in, put_both, put_three, put_none}
use Rattle.kt_scope.proofs.events.+events.Goals as goal

pub in_expr-returns-in-Name : goal.in_expr-returns-in-Name
in_expr-returns-in-Name t c =
    put_in c.in_name.result _ _ (fold.events_by c.args.e.now c.in-Name.is (fold.kind_name _)) c.in_name.ensures

pub in_expr-returns-in-Template : goal.in_expr-returns-in-Template
in_expr-returns-in-Template t c =
    put_in c.in_pieces.result _ _ (fold.events_by c.args.e.now c.in-Template.is (fold.kind_template _) ∙ ap (flat_map piece_events) (sym c.as_slice.ensures)) c.in_pieces.ensures

pub in_expr-returns-in-Paren : goal.in_expr-returns-in-Paren
in_expr-returns-in-Paren t c =
    let one : seen_events_kind c.args.e.now.kind ≡ within (expr_events c.in-Paren.a) = grind (arith, fold.of_one) in
    put_in c.in_expr-in-Paren.result _ _ (fold.events_by c.args.e.now refl one ∙ ap expr_events (sym c.get-in-Paren.ensures)) c.in_expr-in-Paren.ensures

pub in_expr-returns-in_ok-in_expr-in-Sum : goal.in_expr-returns-in_ok-in_expr-in-Sum
in_expr-returns-in_ok-in_expr-in-Sum t c =
    let two : seen_events_kind c.args.e.now.kind ≡ within (expr_events c.in-Sum.a ++ expr_events c.in-Sum.b) = grind (arith, fold.of_two) in
    put_both c.in_expr-in-Sum-2.result _ _ c.in_expr-in-Sum.new.out.items _ _ (fold.events_by c.args.e.now refl two ∙ ap (λ x. expr_events x ++ expr_events c.in-Sum.b) (sym c.get-in-Sum.ensures) ∙ ap (λ x. expr_events c.get-in-Sum.result.now ++ expr_events x) (sym c.get-in-Sum-2.ensures)) c.in_ok-in_expr-in-Sum.ensures c.in_expr-in-Sum-2.ensures

pub in_expr-returns-in-None : goal.in_expr-returns-in-None
in_expr-returns-in-None t c =
    put_in c.in_call.result _ _ (fold.events_by c.args.e.now (c.in-Call.is ∙ ap (e.Call c.in-Call.callee c.in-Call.arguments) c.in-None.is) (fold.kind_call c.in-Call.callee c.in-Call.arguments) ∙ ap (λ l. Calls c.args.e.now.number c.in-Call.callee ∷ flat_map expr_events l) (sym c.as_slice-in-None.ensures)) c.in_call.ensures

pub in_expr-returns-in-Some : goal.in_expr-returns-in-Some
in_expr-returns-in-Some t c =
    put_none (fold.events_by c.args.e.now (c.in-Call.is ∙ ap (e.Call c.in-Call.callee c.in-Call.arguments) c.in-Some.is) (fold.kind_call_with c.in-Call.callee c.in-Call.arguments _))

pub in_expr-returns-in_ok-in_branch-in-If : goal.in_expr-returns-in_ok-in_branch-in-If
in_expr-returns-in_ok-in_branch-in-If t c =
    put_three c.in_otherwise.result _ _ c.in_expr.new.out.items c.in_branch.new.out.items _ _ _ (fold.events_by c.args.e.now c.in-If.is (fold.kind_if_any c.in-If.condition c.in-If.then c.in-If.otherwise) ∙ ap (λ x. expr_events x ++ branch_events c.in-If.then ++ if_there (option_map branch_events c.in-If.otherwise)) (sym c.get.ensures) ∙ ap (λ x. expr_events c.get.result.now ++ branch_events x ++ if_there (option_map branch_events c.in-If.otherwise)) (sym c.get-in-If.ensures) ∙ append_assoc (expr_events c.get.result.now) (branch_events c.get-in-If.result.now) (if_there (option_map branch_events c.in-If.otherwise))) c.in_ok-in_expr-in-If.ensures c.in_ok-in_branch-in-If.ensures c.in_otherwise.ensures

pub in_expr-returns-in-None-label : goal.in_expr-returns-in-None-label
in_expr-returns-in-None-label t c =
    put_in c.in_returned.result _ _ (fold.events_by c.args.e.now (c.in-Return.is ∙ ap (λ l. e.Return l c.in-Return.value) c.in-None-label.is) (fold.kind_return_any c.in-Return.value)) c.in_returned.ensures

pub in_expr-returns-in-Some-label : goal.in_expr-returns-in-Some-label
in_expr-returns-in-Some-label t c =
    put_none (fold.events_by c.args.e.now (c.in-Return.is ∙ ap (λ l. e.Return l c.in-Return.value) c.in-Some-label.is) (fold.kind_return_at_any _ c.in-Return.value))

pub in_expr-returns-in_default : goal.in_expr-returns-in_default
in_expr-returns-in_default t c =
    put_none (fold.events_by c.args.e.now refl (fold.kind_other c.args.e.now.kind c.in_default.not-Name c.in_default.not-Template c.in_default.not-Paren c.in_default.not-Call c.in_default.not-Sign c.in_default.not-Not c.in_default.not-Sum c.in_default.not-Arithmetic c.in_default.not-Compare c.in_default.not-Equal c.in_default.not-And c.in_default.not-Or c.in_default.not-If c.in_default.not-Return c.in_default.not-Throw))

pub in_block-returns : goal.in_block-returns
in_block-returns t c =
    put_three c.put-2.result _ _ c.put.new.out.items c.in_stmts.new.out.items _ _ _ (fold.block_parts _ ∙ ap (λ l. Opens ∷ flat_map stmt_events l ++ Closes ∷ []) (sym c.as_slice.ensures)) c.in_ok-put.ensures c.in_ok-in_stmts.ensures c.put-2.ensures

pub in_branch-returns-in-Braced : goal.in_branch-returns-in-Braced
in_branch-returns-in-Braced t c =
    put_in c.in_block.result _ _ (ap branch_events c.in-Braced.is ∙ fold.branch_braced _) c.in_block.ensures

pub in_branch-returns-in-Single : goal.in_branch-returns-in-Single
in_branch-returns-in-Single t c =
    put_in c.in_stmt.result _ _ (ap branch_events c.in-Single.is ∙ fold.branch_single _) c.in_stmt.ensures

pub in_left-returns-in-Name : goal.in_left-returns-in-Name
in_left-returns-in-Name t c =
    put_in c.put.result _ _ (fold.left_name c.args.tree c.args.target.now (fold.name_by c.args.target.now c.in-Name.is (fold.kind_name _))) c.put.ensures

pub in_left-returns-in_default : goal.in_left-returns-in_default
in_left-returns-in_default t c =
    put_in c.in_expr.result _ _ (fold.left_other c.args.tree c.args.target.now (fold.not_name c.args.target.now c.in_default.not-Name)) c.in_expr.ensures

pub in_piece-returns-in-Text : goal.in_piece-returns-in-Text
in_piece-returns-in-Text t c =
    put_none (ap piece_events c.in-Text.is ∙ fold.piece_text _)

pub in_piece-returns-in-Inserted : goal.in_piece-returns-in-Inserted
in_piece-returns-in-Inserted t c =
    put_in c.in_expr.result _ _ (ap piece_events c.in-Inserted.is ∙ fold.piece_inserted _) c.in_expr.ensures

pub in_stmt-returns-in-Expr : goal.in_stmt-returns-in-Expr
in_stmt-returns-in-Expr t c =
    put_in c.in_expr.result _ _ (ap stmt_events c.in-Expr.is ∙ fold.stmt_expr _) c.in_expr.ensures

pub in_stmt-returns-in_ok-in_value-in-Local : goal.in_stmt-returns-in_ok-in_value-in-Local
in_stmt-returns-in_ok-in_value-in-Local t c =
    put_both c.put.result _ _ c.in_value.new.out.items _ _ (ap stmt_events c.in-Local.is ∙ fold.stmt_local_any _ _ _ _ _ _) c.in_ok-in_value-in-Local.ensures c.put.ensures

pub in_stmt-returns-in_ok-in_left-in-Assign : goal.in_stmt-returns-in_ok-in_left-in-Assign
in_stmt-returns-in_ok-in_left-in-Assign t c =
    put_both c.in_value-in-Assign.result _ _ c.in_left.new.out.items _ _ (ap stmt_events c.in-Assign.is ∙ fold.stmt_assign_any _ _ _ _ _) c.in_ok-in_left-in-Assign.ensures c.in_value-in-Assign.ensures

pub in_stmt-returns-in-While : goal.in_stmt-returns-in-While
in_stmt-returns-in-While t c =
    put_none (ap stmt_events c.in-While.is ∙ fold.stmt_while _ _ _ _)

pub in_stmt-returns-in-DoWhile : goal.in_stmt-returns-in-DoWhile
in_stmt-returns-in-DoWhile t c =
    put_none (ap stmt_events c.in-DoWhile.is ∙ fold.stmt_do_while _ _ _ _)

pub in_stmt-returns-in-For : goal.in_stmt-returns-in-For
in_stmt-returns-in-For t c =
    put_none (ap stmt_events c.in-For.is ∙ fold.stmt_for _ _ _ _ _ _ _ _)
