use Rattle.std.proofs.Common.{◌++◌, ◌∷◌, [], ap, sym, ◌∙◌, option_map}
use Rattle.std.specs.List.{flat_map}
use Rattle.kt_tree.specs.declared.ast.part.LambdaParameter.{LambdaParameter}
use Rattle.kt_tree.specs.declared.ast.body.Lambda.{out-Lambda}
use Rattle.kt_tree.specs.declared.ast.body.WhenBranch.{out-WhenBranch}
use Rattle.kt_model.specs.declared.body_site.BodySite.TheVariants.{Written}
use Rattle.kt_model.specs.TreeSites.{expr_sites, kind_sites, stmt_sites, block_sites, branch_sites, piece_sites, lambda_sites, subject_sites, condition_sites, when_branch_sites, catch_sites, held, written_type}
use Rattle.kt_bodies.proofs.TreeFolds as fold
use Rattle.kt_bodies.proofs.walk.+walk.Goals as goal

pub in_kind-returns-in-Int : goal.in_kind-returns-in-Int
in_kind-returns-in-Int t c =
    fold.put_nothing _ (ap kind_sites c.in-Int.is ∙ fold.kind_int _)

pub in_kind-returns-in-Bool : goal.in_kind-returns-in-Bool
in_kind-returns-in-Bool t c =
    fold.put_nothing _ (ap kind_sites c.in-Bool.is ∙ fold.kind_bool _)

pub in_kind-returns-in-Null : goal.in_kind-returns-in-Null
in_kind-returns-in-Null t c =
    fold.put_nothing _ (ap kind_sites c.in-Null.is ∙ fold.kind_null)

pub in_kind-returns-in-This : goal.in_kind-returns-in-This
in_kind-returns-in-This t c =
    fold.put_nothing _ (ap kind_sites c.in-This.is ∙ fold.kind_this)

pub in_kind-returns-in-Name : goal.in_kind-returns-in-Name
in_kind-returns-in-Name t c =
    fold.put_nothing _ (ap kind_sites c.in-Name.is ∙ fold.kind_name _)

pub in_kind-returns-in-Break : goal.in_kind-returns-in-Break
in_kind-returns-in-Break t c =
    fold.put_nothing _ (ap kind_sites c.in-Break.is ∙ fold.kind_break)

pub in_kind-returns-in-Continue : goal.in_kind-returns-in-Continue
in_kind-returns-in-Continue t c =
    fold.put_nothing _ (ap kind_sites c.in-Continue.is ∙ fold.kind_continue)

pub in_kind-returns-in-Template : goal.in_kind-returns-in-Template
in_kind-returns-in-Template t c =
    fold.put_in c.in_pieces.result _ _ (ap kind_sites c.in-Template.is ∙ fold.kind_template _ ∙ ap (flat_map piece_sites) (sym c.as_slice.ensures)) c.in_pieces.ensures

pub in_kind-returns-in-Paren : goal.in_kind-returns-in-Paren
in_kind-returns-in-Paren t c =
    fold.put_in c.in_expr.result _ _ (ap kind_sites c.in-Paren.is ∙ fold.kind_paren _ ∙ ap expr_sites (sym c.get.ensures)) c.in_expr.ensures

pub in_kind-returns-in-NotNull : goal.in_kind-returns-in-NotNull
in_kind-returns-in-NotNull t c =
    fold.put_in c.in_expr-in-NotNull.result _ _ (ap kind_sites c.in-NotNull.is ∙ fold.kind_not_null _ ∙ ap expr_sites (sym c.get-in-NotNull.ensures)) c.in_expr-in-NotNull.ensures

pub in_kind-returns-in-Sign : goal.in_kind-returns-in-Sign
in_kind-returns-in-Sign t c =
    fold.put_in c.in_expr-in-Sign.result _ _ (ap kind_sites c.in-Sign.is ∙ fold.kind_sign _ _ ∙ ap expr_sites (sym c.get-in-Sign.ensures)) c.in_expr-in-Sign.ensures

pub in_kind-returns-in-Not : goal.in_kind-returns-in-Not
in_kind-returns-in-Not t c =
    fold.put_in c.in_expr-in-Not.result _ _ (ap kind_sites c.in-Not.is ∙ fold.kind_not _ ∙ ap expr_sites (sym c.get-in-Not.ensures)) c.in_expr-in-Not.ensures

pub in_kind-returns-in-Throw : goal.in_kind-returns-in-Throw
in_kind-returns-in-Throw t c =
    fold.put_in c.in_expr-in-Throw.result _ _ (ap kind_sites c.in-Throw.is ∙ fold.kind_throw _ ∙ ap expr_sites (sym c.get-in-Throw.ensures)) c.in_expr-in-Throw.ensures

pub in_kind-returns-in-Member : goal.in_kind-returns-in-Member
in_kind-returns-in-Member t c =
    fold.put_in c.in_expr-in-Member.result _ _ (ap kind_sites c.in-Member.is ∙ fold.kind_member _ _ _ ∙ ap expr_sites (sym c.get-in-Member.ensures)) c.in_expr-in-Member.ensures

pub in_kind-returns-in-Return : goal.in_kind-returns-in-Return
in_kind-returns-in-Return t c =
    fold.put_in c.in_held_expr.result _ _ (ap kind_sites c.in-Return.is ∙ fold.kind_return _ _) c.in_held_expr.ensures

pub in_kind-returns-in-As : goal.in_kind-returns-in-As
in_kind-returns-in-As t c =
    fold.put_in c.in_typed.result _ _ (ap kind_sites c.in-As.is ∙ fold.kind_as _ _ ∙ ap (λ x. expr_sites x ++ Written c.in-As.w ∷ []) (sym c.get-in-As.ensures)) c.in_typed.ensures

pub in_kind-returns-in-AsSafe : goal.in_kind-returns-in-AsSafe
in_kind-returns-in-AsSafe t c =
    fold.put_in c.in_typed-in-AsSafe.result _ _ (ap kind_sites c.in-AsSafe.is ∙ fold.kind_as_safe _ _ ∙ ap (λ x. expr_sites x ++ Written c.in-AsSafe.w ∷ []) (sym c.get-in-AsSafe.ensures)) c.in_typed-in-AsSafe.ensures

pub in_kind-returns-in-Is : goal.in_kind-returns-in-Is
in_kind-returns-in-Is t c =
    fold.put_in c.in_typed-in-Is.result _ _ (ap kind_sites c.in-Is.is ∙ fold.kind_is _ _ ∙ ap (λ x. expr_sites x ++ Written c.in-Is.w ∷ []) (sym c.get-in-Is.ensures)) c.in_typed-in-Is.ensures

pub in_kind-returns-in-IsNot : goal.in_kind-returns-in-IsNot
in_kind-returns-in-IsNot t c =
    fold.put_in c.in_typed-in-IsNot.result _ _ (ap kind_sites c.in-IsNot.is ∙ fold.kind_is_not _ _ ∙ ap (λ x. expr_sites x ++ Written c.in-IsNot.w ∷ []) (sym c.get-in-IsNot.ensures)) c.in_typed-in-IsNot.ensures

pub in_kind-returns-in_ok-in_expr-in-Sum : goal.in_kind-returns-in_ok-in_expr-in-Sum
in_kind-returns-in_ok-in_expr-in-Sum t c =
    fold.put_both c.in_expr-in-Sum-2.result _ _ c.in_expr-in-Sum.new.out.items _ _ (ap kind_sites c.in-Sum.is ∙ fold.kind_sum _ _ ∙ ap (λ x. expr_sites x ++ expr_sites c.in-Sum.b) (sym c.get-in-Sum.ensures) ∙ ap (λ x. expr_sites c.get-in-Sum.result.now ++ expr_sites x) (sym c.get-in-Sum-2.ensures)) c.in_ok-in_expr-in-Sum.ensures c.in_expr-in-Sum-2.ensures

pub in_kind-returns-in_ok-in_expr-in-Arithmetic : goal.in_kind-returns-in_ok-in_expr-in-Arithmetic
in_kind-returns-in_ok-in_expr-in-Arithmetic t c =
    fold.put_both c.in_expr-in-Arithmetic-2.result _ _ c.in_expr-in-Arithmetic.new.out.items _ _ (ap kind_sites c.in-Arithmetic.is ∙ fold.kind_arithmetic _ _ _ ∙ ap (λ x. expr_sites x ++ expr_sites c.in-Arithmetic.b) (sym c.get-in-Arithmetic.ensures) ∙ ap (λ x. expr_sites c.get-in-Arithmetic.result.now ++ expr_sites x) (sym c.get-in-Arithmetic-2.ensures)) c.in_ok-in_expr-in-Arithmetic.ensures c.in_expr-in-Arithmetic-2.ensures

pub in_kind-returns-in_ok-in_expr-in-Compare : goal.in_kind-returns-in_ok-in_expr-in-Compare
in_kind-returns-in_ok-in_expr-in-Compare t c =
    fold.put_both c.in_expr-in-Compare-2.result _ _ c.in_expr-in-Compare.new.out.items _ _ (ap kind_sites c.in-Compare.is ∙ fold.kind_compare _ _ _ ∙ ap (λ x. expr_sites x ++ expr_sites c.in-Compare.b) (sym c.get-in-Compare.ensures) ∙ ap (λ x. expr_sites c.get-in-Compare.result.now ++ expr_sites x) (sym c.get-in-Compare-2.ensures)) c.in_ok-in_expr-in-Compare.ensures c.in_expr-in-Compare-2.ensures

pub in_kind-returns-in_ok-in_expr-in-Equal : goal.in_kind-returns-in_ok-in_expr-in-Equal
in_kind-returns-in_ok-in_expr-in-Equal t c =
    fold.put_both c.in_expr-in-Equal-2.result _ _ c.in_expr-in-Equal.new.out.items _ _ (ap kind_sites c.in-Equal.is ∙ fold.kind_equal _ _ _ ∙ ap (λ x. expr_sites x ++ expr_sites c.in-Equal.b) (sym c.get-in-Equal.ensures) ∙ ap (λ x. expr_sites c.get-in-Equal.result.now ++ expr_sites x) (sym c.get-in-Equal-2.ensures)) c.in_ok-in_expr-in-Equal.ensures c.in_expr-in-Equal-2.ensures

pub in_kind-returns-in_ok-in_expr-in-And : goal.in_kind-returns-in_ok-in_expr-in-And
in_kind-returns-in_ok-in_expr-in-And t c =
    fold.put_both c.in_expr-in-And-2.result _ _ c.in_expr-in-And.new.out.items _ _ (ap kind_sites c.in-And.is ∙ fold.kind_and _ _ ∙ ap (λ x. expr_sites x ++ expr_sites c.in-And.b) (sym c.get-in-And.ensures) ∙ ap (λ x. expr_sites c.get-in-And.result.now ++ expr_sites x) (sym c.get-in-And-2.ensures)) c.in_ok-in_expr-in-And.ensures c.in_expr-in-And-2.ensures

pub in_kind-returns-in_ok-in_expr-in-Or : goal.in_kind-returns-in_ok-in_expr-in-Or
in_kind-returns-in_ok-in_expr-in-Or t c =
    fold.put_both c.in_expr-in-Or-2.result _ _ c.in_expr-in-Or.new.out.items _ _ (ap kind_sites c.in-Or.is ∙ fold.kind_or _ _ ∙ ap (λ x. expr_sites x ++ expr_sites c.in-Or.b) (sym c.get-in-Or.ensures) ∙ ap (λ x. expr_sites c.get-in-Or.result.now ++ expr_sites x) (sym c.get-in-Or-2.ensures)) c.in_ok-in_expr-in-Or.ensures c.in_expr-in-Or-2.ensures

pub in_kind-returns-in_ok-in_expr-in-Elvis : goal.in_kind-returns-in_ok-in_expr-in-Elvis
in_kind-returns-in_ok-in_expr-in-Elvis t c =
    fold.put_both c.in_expr-in-Elvis-2.result _ _ c.in_expr-in-Elvis.new.out.items _ _ (ap kind_sites c.in-Elvis.is ∙ fold.kind_elvis _ _ ∙ ap (λ x. expr_sites x ++ expr_sites c.in-Elvis.b) (sym c.get-in-Elvis.ensures) ∙ ap (λ x. expr_sites c.get-in-Elvis.result.now ++ expr_sites x) (sym c.get-in-Elvis-2.ensures)) c.in_ok-in_expr-in-Elvis.ensures c.in_expr-in-Elvis-2.ensures

pub in_kind-returns-in_ok-in_exprs-in-Call : goal.in_kind-returns-in_ok-in_exprs-in-Call
in_kind-returns-in_ok-in_exprs-in-Call t c =
    fold.put_both c.in_held_lambda.result _ _ c.in_exprs.new.out.items _ _ (ap kind_sites c.in-Call.is ∙ fold.kind_call _ _ _ ∙ ap (λ z. flat_map expr_sites z ++ held (option_map lambda_sites c.in-Call.lambda)) (sym c.as_slice-in-Call.ensures)) c.in_ok-in_exprs-in-Call.ensures c.in_held_lambda.ensures

pub in_kind-returns-in_ok-in_expr-in-MemberCall : goal.in_kind-returns-in_ok-in_expr-in-MemberCall
in_kind-returns-in_ok-in_expr-in-MemberCall t c =
    fold.put_both c.in_exprs-in-MemberCall.result _ _ c.in_expr-in-MemberCall.new.out.items _ _ (ap kind_sites c.in-MemberCall.is ∙ fold.kind_member_call _ _ _ _ ∙ ap (λ z. expr_sites z ++ flat_map expr_sites c.in-MemberCall.arguments) (sym c.get-in-MemberCall.ensures) ∙ ap (λ z. expr_sites c.get-in-MemberCall.result.now ++ flat_map expr_sites z) (sym c.as_slice-in-MemberCall.ensures)) c.in_ok-in_expr-in-MemberCall.ensures c.in_exprs-in-MemberCall.ensures

pub in_kind-returns-in_ok-in_branch-in-If : goal.in_kind-returns-in_ok-in_branch-in-If
in_kind-returns-in_ok-in_branch-in-If t c =
    fold.put_both c.in_held_branch.result _ _ c.in_branch.new.out.items _ _ (ap kind_sites c.in-If.is ∙ fold.kind_if _ _ _ ∙ ap (λ z. expr_sites z ++ branch_sites c.in-If.then ++ held (option_map branch_sites c.in-If.otherwise)) (sym c.get-in-If.ensures) ∙ ap (λ z. expr_sites c.get-in-If.result.now ++ branch_sites z ++ held (option_map branch_sites c.in-If.otherwise)) (sym c.get-in-If-2.ensures)) (fold.two _ _ _ _ _ c.in_ok-in_expr-in-If.ensures c.in_ok-in_branch-in-If.ensures) c.in_held_branch.ensures

pub in_kind-returns-in_ok-in_held_subject-in-When : goal.in_kind-returns-in_ok-in_held_subject-in-When
in_kind-returns-in_ok-in_held_subject-in-When t c =
    fold.put_both c.in_when_branches.result _ _ c.in_held_subject.new.out.items _ _ (ap kind_sites c.in-When.is ∙ fold.kind_when _ _ ∙ ap (λ z. held (option_map subject_sites c.in-When.subject) ++ flat_map when_branch_sites z) (sym c.as_slice-in-When.ensures)) c.in_ok-in_held_subject-in-When.ensures c.in_when_branches.ensures

pub in_kind-returns-in_ok-in_catches-in-Try : goal.in_kind-returns-in_ok-in_catches-in-Try
in_kind-returns-in_ok-in_catches-in-Try t c =
    fold.put_both c.in_held_block.result _ _ c.in_catches.new.out.items _ _ (ap kind_sites c.in-Try.is ∙ fold.kind_try _ _ _ ∙ ap (λ z. block_sites z ++ flat_map catch_sites c.in-Try.catches ++ held (option_map block_sites c.in-Try.finally)) (sym c.get-in-Try.ensures) ∙ ap (λ z. block_sites c.get-in-Try.result.now ++ flat_map catch_sites z ++ held (option_map block_sites c.in-Try.finally)) (sym c.as_slice-in-Try.ensures)) (fold.two _ _ _ _ _ c.in_ok-in_block-in-Try.ensures c.in_ok-in_catches-in-Try.ensures) c.in_held_block.ensures

pub in_expr-returns : goal.in_expr-returns
in_expr-returns t c =
    fold.put_in c.in_kind.result _ _ (fold.expr_of_kind c.args.e.now) c.in_kind.ensures

pub in_block-returns : goal.in_block-returns
in_block-returns t c =
    fold.put_in c.in_stmts.result _ _ (fold.block_parts c.args.block.now ∙ ap (flat_map stmt_sites) (sym c.as_slice.ensures)) c.in_stmts.ensures

pub in_branch-returns-in-Braced : goal.in_branch-returns-in-Braced
in_branch-returns-in-Braced t c =
    fold.put_in c.in_block.result _ _ (ap branch_sites c.in-Braced.is ∙ fold.branch_braced _) c.in_block.ensures

pub in_branch-returns-in-Single : goal.in_branch-returns-in-Single
in_branch-returns-in-Single t c =
    fold.put_in c.in_stmt.result _ _ (ap branch_sites c.in-Single.is ∙ fold.branch_single _) c.in_stmt.ensures

pub in_condition-returns-in-Is : goal.in_condition-returns-in-Is
in_condition-returns-in-Is t c =
    fold.put_in c.in_type.result _ _ (ap condition_sites c.in-Is.is ∙ fold.condition_is _ _) c.in_type.ensures

pub in_condition-returns-in-IsNot : goal.in_condition-returns-in-IsNot
in_condition-returns-in-IsNot t c =
    fold.put_in c.in_type-in-IsNot.result _ _ (ap condition_sites c.in-IsNot.is ∙ fold.condition_is_not _ _) c.in_type-in-IsNot.ensures

pub in_condition-returns-in-Value : goal.in_condition-returns-in-Value
in_condition-returns-in-Value t c =
    fold.put_in c.in_expr.result _ _ (ap condition_sites c.in-Value.is ∙ fold.condition_value _) c.in_expr.ensures

pub in_piece-returns-in-Inserted : goal.in_piece-returns-in-Inserted
in_piece-returns-in-Inserted t c =
    fold.put_in c.in_expr.result _ _ (ap piece_sites c.in-Inserted.is ∙ fold.piece_inserted _) c.in_expr.ensures

pub in_piece-returns-in-Text : goal.in_piece-returns-in-Text
in_piece-returns-in-Text t c =
    fold.put_nothing _ (ap piece_sites c.in-Text.is ∙ fold.piece_text _)

pub in_catch-returns : goal.in_catch-returns
in_catch-returns t c =
    fold.put_both c.in_block.result _ _ c.in_type.new.out.items _ _ (fold.catch_parts c.args.c.now) c.in_ok-in_type.ensures c.in_block.ensures

pub in_lambda-returns : goal.in_lambda-returns
in_lambda-returns t c =
    fold.put_both c.in_block.result _ _ c.in_parameters.new.out.items _ _ (fold.lambda_parts c.args.lambda.now ∙ ap (λ z. flat_map (λ (p : LambdaParameter). written_type p.written) z ++ block_sites (out-Lambda c.args.lambda.now).body) (sym c.as_slice.ensures)) c.in_ok-in_parameters.ensures c.in_block.ensures

pub in_subject-returns : goal.in_subject-returns
in_subject-returns t c =
    fold.put_both c.in_expr.result _ _ c.in_written.new.out.items _ _ (fold.subject_parts c.args.s.now) c.in_ok-in_written.ensures c.in_expr.ensures

pub in_stmt-returns-in-Expr : goal.in_stmt-returns-in-Expr
in_stmt-returns-in-Expr t c =
    fold.put_in c.in_expr.result _ _ (ap stmt_sites c.in-Expr.is ∙ fold.stmt_expr _) c.in_expr.ensures

pub in_stmt-returns-in_ok-in_declared-in-Local : goal.in_stmt-returns-in_ok-in_declared-in-Local
in_stmt-returns-in_ok-in_declared-in-Local t c =
    fold.put_both c.in_value.result _ _ c.in_declared.new.out.items _ _ (ap stmt_sites c.in-Local.is ∙ fold.stmt_local _ _ _ _ _ _) (c.in_ok-in_declared-in-Local.ensures (option_map expr_sites c.in-Local.value) (c.is_some.ensures ∙ sym (fold.is_some_map expr_sites c.in-Local.value))) c.in_value.ensures

pub in_stmt-returns-in_ok-in_expr-in-Assign : goal.in_stmt-returns-in_ok-in_expr-in-Assign
in_stmt-returns-in_ok-in_expr-in-Assign t c =
    fold.put_both c.in_value-in-Assign.result _ _ c.in_expr-in-Assign.new.out.items _ _ (ap stmt_sites c.in-Assign.is ∙ fold.stmt_assign _ _ _ _ _) c.in_ok-in_expr-in-Assign.ensures c.in_value-in-Assign.ensures

pub in_stmt-returns-in_ok-in_expr-in-While : goal.in_stmt-returns-in_ok-in_expr-in-While
in_stmt-returns-in_ok-in_expr-in-While t c =
    fold.put_both c.in_branch.result _ _ c.in_expr-in-While.new.out.items _ _ (ap stmt_sites c.in-While.is ∙ fold.stmt_while _ _ _ _ ∙ ap (λ z. expr_sites c.in-While.condition ++ branch_sites z) (sym c.get.ensures)) c.in_ok-in_expr-in-While.ensures c.in_branch.ensures

pub in_stmt-returns-in_ok-in_block-in-DoWhile : goal.in_stmt-returns-in_ok-in_block-in-DoWhile
in_stmt-returns-in_ok-in_block-in-DoWhile t c =
    fold.put_both c.in_expr-in-DoWhile.result _ _ c.in_block.new.out.items _ _ (ap stmt_sites c.in-DoWhile.is ∙ fold.stmt_do_while _ _ _ _) c.in_ok-in_block-in-DoWhile.ensures c.in_expr-in-DoWhile.ensures

pub in_stmt-returns-in_ok-in_expr-in-For-2 : goal.in_stmt-returns-in_ok-in_expr-in-For-2
in_stmt-returns-in_ok-in_expr-in-For-2 t c =
    fold.put_both c.in_branch-in-For.result _ _ c.in_expr-in-For-2.new.out.items _ _ (ap stmt_sites c.in-For.is ∙ fold.stmt_for _ _ _ _ _ _ _ _ ∙ ap (λ z. written_type c.in-For.written ++ expr_sites c.in-For.low ++ expr_sites c.in-For.high ++ branch_sites z) (sym c.get-in-For.ensures)) (fold.two _ _ _ _ _ (fold.two _ _ _ _ _ c.in_ok-in_written-in-For.ensures c.in_ok-in_expr-in-For.ensures) c.in_ok-in_expr-in-For-2.ensures) c.in_branch-in-For.ensures

pub in_when_branch-returns-in-None : goal.in_when_branch-returns-in-None
in_when_branch-returns-in-None t c =
    fold.put_in c.in_branch-in-None.result _ _ (fold.else_parts c.args.b.now c.in-None.is) c.in_branch-in-None.ensures

pub in_when_branch-returns-in_ok-in_conditions-in-Some : goal.in_when_branch-returns-in_ok-in_conditions-in-Some
in_when_branch-returns-in_ok-in_conditions-in-Some t c =
    fold.put_both c.in_branch.result _ _ c.in_conditions.new.out.items _ _ (fold.conditions_parts c.args.b.now _ c.in-Some.is ∙ ap (λ z. flat_map condition_sites z ++ branch_sites (out-WhenBranch c.args.b.now).body) (sym c.as_slice.ensures)) c.in_ok-in_conditions-in-Some.ensures c.in_branch.ensures
