use Rattle.std.proofs.Common.{◌≡◌, ◌++◌, [], Bool, not, false, ap, sym, ◌∙◌, refl, map, option_map, ◌&&◌, ◌==◌, ◌+◌, length, drop, append_assoc, append-nil, drop_of_length-le, arith}
use Rattle.std.specs.List.{flat_map}
use Rattle.kt_tree.specs.declared.ast.body.WhenBranch.{out-WhenBranch}
use Rattle.kt_model.specs.DeclarationRules.{where_}
use Rattle.kt_model.specs.declared.finding.Rule.TheVariants.{AssignTarget, NoElse, ValueExpected}
use Rattle.kt_shape.specs.Operations.{in_operation}
use Rattle.kt_shape.specs.ShapeRules.{ByUse, StmtShape, expr_shape, kind_shape, stmt_shape, block_shape, branch_shape, piece_shape, condition_shape, catch_shape, lambda_shape, subject_shape, case_shape, in_part, in_turn, taken_if, given_if, whole_if}
use Rattle.kt_shape.proofs.ShapeFolds as fold
use Rattle.kt_shape.proofs.Puts.{put_in, put_both, put_three, put_none}
use Rattle.kt_shape.proofs.walk.+shapes.Goals as goal
use Rattle.kt_shape.proofs.walk.+shapes.Goals.{in_expr-then-valued, in_expr-else-valued, in_branch-then-valued, in_branch-else-valued, in_stmts-then-valued, in_stmts-else-valued}

pub in_kind-returns-in_ok-in_exprs-in-Call : goal.in_kind-returns-in_ok-in_exprs-in-Call
in_kind-returns-in_ok-in_exprs-in-Call t c =
    put_both c.in_lambda_if.result _ _ c.in_exprs.new.out.items _ _ (ap (λ k. (kind_shape k).inside c.args.valued) c.in-Call.is ∙ fold.kind_call _ _ _ c.args.valued ∙ ap (λ l. flat_map in_part l ++ given_if (option_map lambda_shape c.in-Call.lambda)) (sym c.as_slice.ensures)) c.in_ok-in_exprs-in-Call.ensures c.in_lambda_if.ensures

pub in_kind-returns-in_ok-in_expr-in-MemberCall : goal.in_kind-returns-in_ok-in_expr-in-MemberCall
in_kind-returns-in_ok-in_expr-in-MemberCall t c =
    put_both c.in_exprs-in-MemberCall.result _ _ c.in_expr.new.out.items _ _ (ap (λ k. (kind_shape k).inside c.args.valued) c.in-MemberCall.is ∙ fold.kind_member_call _ _ _ _ c.args.valued ∙ ap (λ x. in_part x ++ flat_map in_part c.in-MemberCall.arguments) (sym c.get.ensures) ∙ ap (λ l. in_part c.get.result.now ++ flat_map in_part l) (sym c.as_slice-in-MemberCall.ensures)) c.in_ok-in_expr-in-MemberCall.ensures c.in_exprs-in-MemberCall.ensures

pub in_kind-returns-in_ok-in_branch-in-If : goal.in_kind-returns-in_ok-in_branch-in-If
in_kind-returns-in_ok-in_branch-in-If t c =
    put_three c.in_branch_if.result _ _ c.in_expr-in-If.new.out.items c.in_branch.new.out.items _ _ _ (ap (λ k. (kind_shape k).inside c.args.valued) c.in-If.is ∙ fold.kind_if _ _ _ c.args.valued ∙ ap (λ x. in_part x ++ branch_shape c.in-If.then c.args.valued ++ whole_if (option_map branch_shape c.in-If.otherwise) c.args.valued) (sym c.get-in-If.ensures) ∙ ap (λ x. in_part c.get-in-If.result.now ++ branch_shape x c.args.valued ++ whole_if (option_map branch_shape c.in-If.otherwise) c.args.valued) (sym c.get-in-If-2.ensures)) c.in_ok-in_expr-in-If.ensures c.in_ok-in_branch-in-If.ensures c.in_branch_if.ensures

pub in_kind-returns-in_ok-in_subject_if-in-When : goal.in_kind-returns-in_ok-in_subject_if-in-When
in_kind-returns-in_ok-in_subject_if-in-When t c =
    put_both c.in_when_branches.result _ _ c.in_subject_if.new.out.items _ _ (ap (λ k. (kind_shape k).inside c.args.valued) c.in-When.is ∙ fold.kind_when _ _ c.args.valued ∙ ap (λ l. given_if (option_map subject_shape c.in-When.subject) ++ flat_map (λ b. (case_shape b).whole c.args.valued) l) (sym c.as_slice-in-When.ensures)) c.in_ok-in_subject_if-in-When.ensures c.in_when_branches.ensures

pub in_kind-returns-in_ok-in_catches-in-Try : goal.in_kind-returns-in_ok-in_catches-in-Try
in_kind-returns-in_ok-in_catches-in-Try t c =
    put_three c.in_finally.result _ _ c.in_block.new.out.items c.in_catches.new.out.items _ _ _ (ap (λ k. (kind_shape k).inside c.args.valued) c.in-Try.is ∙ fold.kind_try _ _ _ c.args.valued ∙ ap (λ x. block_shape x c.args.valued ++ flat_map (λ k. catch_shape k c.args.valued) c.in-Try.catches ++ whole_if (option_map block_shape c.in-Try.finally) false) (sym c.get-in-Try.ensures) ∙ ap (λ l. block_shape c.get-in-Try.result.now c.args.valued ++ flat_map (λ k. catch_shape k c.args.valued) l ++ whole_if (option_map block_shape c.in-Try.finally) false) (sym c.as_slice-in-Try.ensures)) c.in_ok-in_block-in-Try.ensures c.in_ok-in_catches-in-Try.ensures c.in_finally.ensures

pub in_kind-returns-in_default : goal.in_kind-returns-in_default
in_kind-returns-in_default t c =
    put_in c.in_operation.result _ _ (fold.operation_whole c.args.kind.now c.in_default.not-Call c.in_default.not-MemberCall c.in_default.not-If c.in_default.not-When c.in_default.not-Try c.args.valued) c.in_operation.ensures

pub in_operation-returns-in-Template : goal.in_operation-returns-in-Template
in_operation-returns-in-Template t c =
    put_in c.in_pieces.result _ _ (ap in_operation c.in-Template.is ∙ fold.operation_template _ ∙ ap (flat_map piece_shape) (sym c.as_slice.ensures)) c.in_pieces.ensures

pub in_operation-returns-in-Return : goal.in_operation-returns-in-Return
in_operation-returns-in-Return t c =
    put_in c.in_returned.result _ _ (ap in_operation c.in-Return.is ∙ fold.operation_return _ _) c.in_returned.ensures

pub in_piece-returns-in-Text : goal.in_piece-returns-in-Text
in_piece-returns-in-Text t c =
    put_none (ap piece_shape c.in-Text.is ∙ fold.piece_text _)

pub in_piece-returns-in-Inserted : goal.in_piece-returns-in-Inserted
in_piece-returns-in-Inserted t c =
    put_in c.in_expr.result _ _ (ap piece_shape c.in-Inserted.is ∙ fold.piece_inserted _) c.in_expr.ensures

pub in_condition-returns-in-Is : goal.in_condition-returns-in-Is
in_condition-returns-in-Is t c =
    put_none (ap condition_shape c.in-Is.is ∙ fold.condition_is _ _)

pub in_condition-returns-in-IsNot : goal.in_condition-returns-in-IsNot
in_condition-returns-in-IsNot t c =
    put_none (ap condition_shape c.in-IsNot.is ∙ fold.condition_is_not _ _)

pub in_condition-returns-in-Value : goal.in_condition-returns-in-Value
in_condition-returns-in-Value t c =
    put_in c.in_expr.result _ _ (ap condition_shape c.in-Value.is ∙ fold.condition_value _) c.in_expr.ensures

pub in_catch-returns : goal.in_catch-returns
in_catch-returns t c =
    put_in c.in_block.result _ _ (ap (λ (f : ByUse). f c.args.valued) (fold.catch_parts _)) c.in_block.ensures

pub in_lambda-returns : goal.in_lambda-returns
in_lambda-returns t c =
    put_in c.in_block.result _ _ (fold.lambda_parts _) c.in_block.ensures

pub in_subject-returns : goal.in_subject-returns
in_subject-returns t c =
    put_in c.in_expr.result _ _ (fold.subject_parts _) c.in_expr.ensures

pub in_branch-returns-in-Braced : goal.in_branch-returns-in-Braced
in_branch-returns-in-Braced t c =
    put_in c.in_block.result _ _ (ap (λ b. branch_shape b c.args.valued) c.in-Braced.is ∙ ap (λ (f : ByUse). f c.args.valued) (fold.branch_braced _)) c.in_block.ensures

pub in_block-returns : goal.in_block-returns
in_block-returns t c =
    put_in c.in_stmts.result _ _ (ap (λ (f : ByUse). f c.args.valued) (fold.block_parts _) ∙ ap (λ l. in_turn (map stmt_shape l) c.args.valued) (sym c.as_slice.ensures)) c.in_stmts.ensures

pub in_when_branch-returns-in_ok-in_conditions-in-Some : goal.in_when_branch-returns-in_ok-in_conditions-in-Some
in_when_branch-returns-in_ok-in_conditions-in-Some t c =
    put_both c.in_branch.result _ _ c.in_conditions.new.out.items _ _ (fold.case_tested_whole _ _ c.in-Some.is c.args.valued ∙ ap (λ l. flat_map condition_shape l ++ branch_shape (out-WhenBranch c.args.branch.now).body c.args.valued) (sym c.as_slice.ensures)) c.in_ok-in_conditions-in-Some.ensures c.in_branch.ensures

pub in_when_branch-returns-in-None : goal.in_when_branch-returns-in-None
in_when_branch-returns-in-None t c =
    put_in c.in_branch-in-None.result _ _ (fold.case_else_whole _ c.in-None.is c.args.valued) c.in_branch-in-None.ensures

pub in_stmt-returns-in-Expr : goal.in_stmt-returns-in-Expr
in_stmt-returns-in-Expr t c =
    put_in c.in_expr.result _ _ (ap (λ s. (stmt_shape s).whole c.args.valued) c.in-Expr.is ∙ ap (λ (s : StmtShape). s.whole c.args.valued) (fold.stmt_expr _)) c.in_expr.ensures

pub in_stmt-returns-in-Local : goal.in_stmt-returns-in-Local
in_stmt-returns-in-Local t c =
    put_in c.in_value.result _ _ (ap (λ s. (stmt_shape s).whole c.args.valued) c.in-Local.is ∙ ap (λ (s : StmtShape). s.whole c.args.valued) (fold.stmt_local _ _ _ _ _ _)) c.in_value.ensures

pub in_stmt-returns-in_ok-in_left-in-Assign : goal.in_stmt-returns-in_ok-in_left-in-Assign
in_stmt-returns-in_ok-in_left-in-Assign t c =
    put_both c.in_value-in-Assign.result _ _ c.in_left.new.out.items _ _ (ap (λ s. (stmt_shape s).whole c.args.valued) c.in-Assign.is ∙ ap (λ (s : StmtShape). s.whole c.args.valued) (fold.stmt_assign _ _ _ _ _)) c.in_ok-in_left-in-Assign.ensures c.in_value-in-Assign.ensures

pub in_stmt-returns-in_ok-in_expr-in-While : goal.in_stmt-returns-in_ok-in_expr-in-While
in_stmt-returns-in_ok-in_expr-in-While t c =
    put_both c.in_branch.result _ _ c.in_expr-in-While.new.out.items _ _ (ap (λ s. (stmt_shape s).whole c.args.valued) c.in-While.is ∙ ap (λ (s : StmtShape). s.whole c.args.valued) (fold.stmt_while _ _ _ _) ∙ ap (λ x. in_part c.in-While.condition ++ branch_shape x false) (sym c.get.ensures)) c.in_ok-in_expr-in-While.ensures c.in_branch.ensures

pub in_stmt-returns-in_ok-in_block-in-DoWhile : goal.in_stmt-returns-in_ok-in_block-in-DoWhile
in_stmt-returns-in_ok-in_block-in-DoWhile t c =
    put_both c.in_expr-in-DoWhile.result _ _ c.in_block.new.out.items _ _ (ap (λ s. (stmt_shape s).whole c.args.valued) c.in-DoWhile.is ∙ ap (λ (s : StmtShape). s.whole c.args.valued) (fold.stmt_do_while _ _ _ _)) c.in_ok-in_block-in-DoWhile.ensures c.in_expr-in-DoWhile.ensures

pub in_stmt-returns-in_ok-in_expr-in-For-2 : goal.in_stmt-returns-in_ok-in_expr-in-For-2
in_stmt-returns-in_ok-in_expr-in-For-2 t c =
    put_three c.in_branch-in-For.result _ _ c.in_expr-in-For.new.out.items c.in_expr-in-For-2.new.out.items _ _ _ (ap (λ s. (stmt_shape s).whole c.args.valued) c.in-For.is ∙ ap (λ (s : StmtShape). s.whole c.args.valued) (fold.stmt_for _ _ _ _ _ _ _ _) ∙ ap (λ x. in_part c.in-For.low ++ in_part c.in-For.high ++ branch_shape x false) (sym c.get-in-For.ensures)) c.in_ok-in_expr-in-For.ensures c.in_ok-in_expr-in-For-2.ensures c.in_branch-in-For.ensures

pub in_operation-returns-in-Int : goal.in_operation-returns-in-Int
in_operation-returns-in-Int t c =
    let e : in_operation c.args.kind.now ≡ [] = grind (arith, fold.operations) in put_none e

pub in_operation-returns-in-Int-2 : goal.in_operation-returns-in-Int-2
in_operation-returns-in-Int-2 t c =
    let e : in_operation c.args.kind.now ≡ [] = grind (arith, fold.operations) in put_none e

pub in_operation-returns-in-Int-3 : goal.in_operation-returns-in-Int-3
in_operation-returns-in-Int-3 t c =
    let e : in_operation c.args.kind.now ≡ [] = grind (arith, fold.operations) in put_none e

pub in_operation-returns-in-Int-4 : goal.in_operation-returns-in-Int-4
in_operation-returns-in-Int-4 t c =
    let e : in_operation c.args.kind.now ≡ [] = grind (arith, fold.operations) in put_none e

pub in_operation-returns-in-Int-5 : goal.in_operation-returns-in-Int-5
in_operation-returns-in-Int-5 t c =
    let e : in_operation c.args.kind.now ≡ [] = grind (arith, fold.operations) in put_none e

pub in_operation-returns-in-Int-6 : goal.in_operation-returns-in-Int-6
in_operation-returns-in-Int-6 t c =
    let e : in_operation c.args.kind.now ≡ [] = grind (arith, fold.operations) in put_none e

pub in_operation-returns-in-Int-7 : goal.in_operation-returns-in-Int-7
in_operation-returns-in-Int-7 t c =
    let e : in_operation c.args.kind.now ≡ [] = grind (arith, fold.operations) in put_none e

pub in_operation-returns-in-Int-8 : goal.in_operation-returns-in-Int-8
in_operation-returns-in-Int-8 t c =
    let e : in_operation c.args.kind.now ≡ [] = grind (arith, fold.operations) in put_none e

pub in_operation-returns-in-Int-9 : goal.in_operation-returns-in-Int-9
in_operation-returns-in-Int-9 t c =
    let e : in_operation c.args.kind.now ≡ [] = grind (arith, fold.operations) in put_none e

pub in_operation-returns-in-Int-10 : goal.in_operation-returns-in-Int-10
in_operation-returns-in-Int-10 t c =
    let e : in_operation c.args.kind.now ≡ [] = grind (arith, fold.operations) in put_none e

pub in_operation-returns-in-Int-11 : goal.in_operation-returns-in-Int-11
in_operation-returns-in-Int-11 t c =
    let e : in_operation c.args.kind.now ≡ [] = grind (arith, fold.operations) in put_none e

pub in_operation-returns-in-Int-12 : goal.in_operation-returns-in-Int-12
in_operation-returns-in-Int-12 t c =
    let e : in_operation c.args.kind.now ≡ [] = grind (arith, fold.operations) in put_none e

pub in_operation-returns-in-Paren : goal.in_operation-returns-in-Paren
in_operation-returns-in-Paren t c =
    let e : in_operation c.args.kind.now ≡ in_part c.get-in-Paren.result.now = grind (arith, fold.operations) in
    put_in c.in_expr-in-Paren.result _ _ e c.in_expr-in-Paren.ensures

pub in_operation-returns-in_ok-in_expr-in-Sum : goal.in_operation-returns-in_ok-in_expr-in-Sum
in_operation-returns-in_ok-in_expr-in-Sum t c =
    let e : in_operation c.args.kind.now ≡ in_part c.get.result.now ++ in_part c.get-in-Sum.result.now = grind (arith, fold.operations) in
    put_both c.in_expr-in-Sum.result _ _ c.in_expr.new.out.items _ _ e c.in_ok-in_expr-in-Sum.ensures c.in_expr-in-Sum.ensures

pub in_expr-returns : goal.in_expr-returns
in_expr-returns t c =
    let kind = kind_shape c.args.e.now.kind in
    let e : c.if-valued.push_if ≡ (c.args.valued && kind.lacks_else) = elim c.if-valued.branch [
      | in_expr-then-valued w ↦ w.push_if-is ∙ w.lacks_else.ensures ∙ ap (λ v. v && kind.lacks_else) (sym w.if-valued.true)
      | in_expr-else-valued w ↦ w.push_if-is ∙ w.if-valued.false ∙ ap (λ v. v && kind.lacks_else) (sym w.if-valued.false)
    ] in
    put_both c.in_kind.result _ _ c.push_if.new.out.items _ _ (fold.expr_whole c.args.e.now c.args.valued ∙ ap (λ lacks. where_ lacks NoElse c.args.e.now.span ++ kind.inside c.args.valued) (sym e)) c.in_ok-push_if.ensures c.in_kind.ensures

pub in_left-returns : goal.in_left-returns
in_left-returns t c =
    let x = c.args.target.now in
    put_both c.in_expr.result _ _ c.push_if.new.out.items _ _ (ap (λ b. where_ (not b) AssignTarget (expr_shape x).span ++ (expr_shape x).whole false) (fold.expr_target x ∙ sym c.is_target.ensures) ∙ ap (λ span. where_ (not c.is_target.result) AssignTarget span ++ (expr_shape x).whole false) (fold.expr_span x)) c.in_ok-push_if.ensures c.in_expr.ensures

pub in_branch-returns-in_ok-push_if-in-Single : goal.in_branch-returns-in_ok-push_if-in-Single
in_branch-returns-in_ok-push_if-in-Single t c =
    let s = stmt_shape c.in-Single.s in
    let e : c.if-valued.push_if ≡ (c.args.valued && not s.is_value) = elim c.if-valued.branch [
      | in_branch-then-valued w ↦ w.push_if-is ∙ ap not w.is_value.ensures ∙ ap (λ v. v && not s.is_value) (sym w.if-valued.true)
      | in_branch-else-valued w ↦ w.push_if-is ∙ w.if-valued.false ∙ ap (λ v. v && not s.is_value) (sym w.if-valued.false)
    ] in
    put_both c.in_stmt.result _ _ c.push_if.new.out.items _ _ (ap (λ b. branch_shape b c.args.valued) c.in-Single.is ∙ ap (λ (f : ByUse). f c.args.valued) (fold.branch_single _) ∙ ap (λ lacks. where_ lacks ValueExpected s.span ++ s.whole c.args.valued) (sym e) ∙ ap (λ span. where_ c.if-valued.push_if ValueExpected span ++ s.whole c.args.valued) (sym c.span_of.ensures)) c.in_ok-push_if-in-Single.ensures c.in_stmt.ensures

pub in_stmts-loop-place-preserved : goal.in_stmts-loop-place-preserved
in_stmts-loop-place-preserved t c =
    let ss = c.args.statements.now in
    let x = c.index-statements-place.result in
    let is_last = c.loop-place.place + 1 == length ss in
    let rest = in_turn (map stmt_shape (drop (c.loop-place.place + 1) ss)) c.args.valued in
    let e : c.if-valued.in_stmt ≡ (c.args.valued && is_last) = elim c.if-valued.branch [
      | in_stmts-then-valued w ↦ w.in_stmt-is ∙ ap (λ v. v && is_last) (sym w.if-valued.true)
      | in_stmts-else-valued w ↦ w.in_stmt-is ∙ w.if-valued.false ∙ ap (λ v. v && is_last) (sym w.if-valued.false)
    ] in
    ap (λ out. out ++ rest) c.in_ok-in_stmt.ensures
    ∙ append_assoc c.loop-place.out.items ((stmt_shape x).whole c.if-valued.in_stmt) rest
    ∙ ap (λ z. c.loop-place.out.items ++ z) (ap (λ last. (stmt_shape x).whole last ++ rest) e ∙ sym (fold.turn_at ss c.loop-place.place x c.args.valued (omega arith) c.index-statements-place.is))
    ∙ c.loop-place.invariant

pub in_stmts-returns : goal.in_stmts-returns
in_stmts-returns t c =
    let none : drop c.loop-place.place c.args.statements.now ≡ [] = drop_of_length-le c.args.statements.now c.loop-place-test.false in
    sym (ap (λ rest. c.loop-place.out.items ++ in_turn (map stmt_shape rest) c.args.valued) none ∙ append-nil c.loop-place.out.items) ∙ c.loop-place.invariant
