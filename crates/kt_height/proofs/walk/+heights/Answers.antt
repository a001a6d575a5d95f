use Rattle.std.proofs.Common.{◌≡◌, max, map, option_map, ap, ◌∙◌, arith}
use Rattle.kt_height.specs.Height.{kind_parts, expr_height, branch_height, block_height, catch_height, greatest, height_if}
use Rattle.kt_height.proofs.HeightFolds as fold
use Rattle.kt_height.proofs.walk.+heights.Goals as goal

pub of_block-returns : goal.of_block-returns
of_block-returns t c = grind (arith, fold.heights)

pub of_branch-returns-in-Braced : goal.of_branch-returns-in-Braced
of_branch-returns-in-Braced t c = grind (arith, fold.heights)

pub of_branch-returns-in-Single : goal.of_branch-returns-in-Single
of_branch-returns-in-Single t c = grind (arith, fold.heights)

pub of_branching-returns-in-If : goal.of_branching-returns-in-If
of_branching-returns-in-If t c =
    let e : (kind_parts c.args.kind.now).height ≡ max (max (expr_height c.in-If.condition) (branch_height c.in-If.then)) (height_if (option_map branch_height c.in-If.otherwise)) = ap (λ k. (kind_parts k).height) c.in-If.is ∙ fold.kind_if _ _ _ in
    cc

pub of_branching-returns-in-When : goal.of_branching-returns-in-When
of_branching-returns-in-When t c = grind (arith, fold.heights)

pub of_branching-returns-in-Try : goal.of_branching-returns-in-Try
of_branching-returns-in-Try t c =
    let e : (kind_parts c.args.kind.now).height ≡ max (max (block_height c.in-Try.body) (greatest (map catch_height c.in-Try.catches))) (height_if (option_map block_height c.in-Try.finally)) = ap (λ k. (kind_parts k).height) c.in-Try.is ∙ fold.kind_try _ _ _ in
    cc

pub of_catch-returns : goal.of_catch-returns
of_catch-returns t c = grind (arith, fold.heights)

pub of_condition-returns-in-Value : goal.of_condition-returns-in-Value
of_condition-returns-in-Value t c = grind (arith, fold.heights)

pub of_condition-returns-in-Is : goal.of_condition-returns-in-Is
of_condition-returns-in-Is t c = grind (arith, fold.heights)

pub of_condition-returns-in-Is-2 : goal.of_condition-returns-in-Is-2
of_condition-returns-in-Is-2 t c = grind (arith, fold.heights)

pub of_expr-returns : goal.of_expr-returns
of_expr-returns t c = grind (arith, fold.heights)

pub of_kind-returns-in-Template : goal.of_kind-returns-in-Template
of_kind-returns-in-Template t c = grind (arith, fold.heights)

pub of_kind-returns-in-Return : goal.of_kind-returns-in-Return
of_kind-returns-in-Return t c = grind (arith, fold.heights)

pub of_kind-returns-in-Call : goal.of_kind-returns-in-Call
of_kind-returns-in-Call t c = grind (arith, fold.heights)

pub of_kind-returns-in-MemberCall : goal.of_kind-returns-in-MemberCall
of_kind-returns-in-MemberCall t c = grind (arith, fold.heights)

pub of_kind-returns-in-Int : goal.of_kind-returns-in-Int
of_kind-returns-in-Int t c = grind (arith, fold.heights)

pub of_kind-returns-in-Int-2 : goal.of_kind-returns-in-Int-2
of_kind-returns-in-Int-2 t c = grind (arith, fold.heights)

pub of_kind-returns-in-Int-3 : goal.of_kind-returns-in-Int-3
of_kind-returns-in-Int-3 t c = grind (arith, fold.heights)

pub of_kind-returns-in-Null : goal.of_kind-returns-in-Null
of_kind-returns-in-Null t c = grind (arith, fold.heights)

pub of_kind-returns-in-Null-2 : goal.of_kind-returns-in-Null-2
of_kind-returns-in-Null-2 t c = grind (arith, fold.heights)

pub of_kind-returns-in-Null-3 : goal.of_kind-returns-in-Null-3
of_kind-returns-in-Null-3 t c = grind (arith, fold.heights)

pub of_kind-returns-in-Null-4 : goal.of_kind-returns-in-Null-4
of_kind-returns-in-Null-4 t c = grind (arith, fold.heights)

pub of_kind-returns-in-Sum : goal.of_kind-returns-in-Sum
of_kind-returns-in-Sum t c = grind (arith, fold.heights)

pub of_kind-returns-in-Paren : goal.of_kind-returns-in-Paren
of_kind-returns-in-Paren t c = grind (arith, fold.heights)

pub of_lambda-returns : goal.of_lambda-returns
of_lambda-returns t c = grind (arith, fold.heights)

pub of_left-returns-then-is_target : goal.of_left-returns-then-is_target
of_left-returns-then-is_target t c = grind (arith, fold.left_expr)

pub of_left-returns-else-is_target : goal.of_left-returns-else-is_target
of_left-returns-else-is_target t c = grind (arith, fold.left_expr)

pub of_piece-returns-in-Text : goal.of_piece-returns-in-Text
of_piece-returns-in-Text t c = grind (arith, fold.heights)

pub of_piece-returns-in-Inserted : goal.of_piece-returns-in-Inserted
of_piece-returns-in-Inserted t c = grind (arith, fold.heights)

pub of_stmt-returns-in-Expr : goal.of_stmt-returns-in-Expr
of_stmt-returns-in-Expr t c = grind (arith, fold.heights)

pub of_stmt-returns-in-Local : goal.of_stmt-returns-in-Local
of_stmt-returns-in-Local t c = grind (arith, fold.heights)

pub of_stmt-returns-in-Assign : goal.of_stmt-returns-in-Assign
of_stmt-returns-in-Assign t c = grind (arith, fold.heights)

pub of_stmt-returns-in-While : goal.of_stmt-returns-in-While
of_stmt-returns-in-While t c = grind (arith, fold.heights)

pub of_stmt-returns-in-DoWhile : goal.of_stmt-returns-in-DoWhile
of_stmt-returns-in-DoWhile t c = grind (arith, fold.heights)

pub of_stmt-returns-in-For : goal.of_stmt-returns-in-For
of_stmt-returns-in-For t c = grind (arith, fold.heights)

pub of_subject-returns : goal.of_subject-returns
of_subject-returns t c = grind (arith, fold.heights)

pub of_when_branch-returns-in-Some : goal.of_when_branch-returns-in-Some
of_when_branch-returns-in-Some t c = grind (arith, fold.heights)

pub of_when_branch-returns-in-None : goal.of_when_branch-returns-in-None
of_when_branch-returns-in-None t c = grind (arith, fold.heights)
