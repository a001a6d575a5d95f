use Rattle.std.proofs.Common.{◌≡◌, ◌∙◌, ◌++◌, ap, sym, refl, map, Option, Some, None, option_map, List, [], ◌∷◌, arith}
use Rattle.kt_model.specs.DeadTrees.{all_optional, block_dead, branch_dead, catch_dead, condition_dead, expr_dead, joined, kind_dead, lambda_dead, optional, outermost, piece_dead, stmt_dead, subject_dead, when_dead}
use Rattle.kt_init.specs.Marks.{dead_by}
use Rattle.kt_init.specs.DeadParts.{compound_dead, parts_dead}
use Rattle.kt_tree.specs.declared.ast.body.Subject.{Subject}
use Rattle.kt_init.proofs.DeadFolds as fold
use Rattle.kt_init.proofs.DeadParts as part
use Rattle.kt_init.proofs.Found.{nothing_found, same_found, found_after, found_two, found_three, found_inside, found_dead, found_more, found_all}
use Rattle.kt_init.proofs.dead.+dead.Goals as goal

pub kind-returns-in-Template : goal.kind-returns-in-Template
kind-returns-in-Template t c =
    let dead = dead_by c.args.marks.now in
    same_found c.pieces.result c.args.found.now c.pieces.new.found (ap (λ l. joined (map (piece_dead dead) l)) c.as_slice.ensures ∙ sym (ap (kind_dead dead) c.in-Template.is ∙ fold.kind_template dead _)) c.pieces.ensures

pub kind-returns-in-Return : goal.kind-returns-in-Return
kind-returns-in-Return t c =
    let dead = dead_by c.args.marks.now in
    same_found c.value_of.result c.args.found.now c.value_of.new.found (sym (ap (kind_dead dead) c.in-Return.is ∙ fold.kind_return_any dead _ _)) c.value_of.ensures

pub kind-returns-in-Paren : goal.kind-returns-in-Paren
kind-returns-in-Paren t c =
    let dead = dead_by c.args.marks.now in
    let e : kind_dead dead c.args.k.now ≡ expr_dead dead c.in-Paren.a = grind (arith, fold.operations) in
    same_found c.expr-in-Paren.result c.args.found.now c.expr-in-Paren.new.found (ap (expr_dead dead) c.get-in-Paren.ensures ∙ sym e) c.expr-in-Paren.ensures

pub kind-returns-in_ok-expr-in-Sum : goal.kind-returns-in_ok-expr-in-Sum
kind-returns-in_ok-expr-in-Sum t c =
    let dead = dead_by c.args.marks.now in
    let e : kind_dead dead c.args.k.now ≡ expr_dead dead c.in-Sum.a ++ expr_dead dead c.in-Sum.b = grind (arith, fold.operations) in
    found_two c.expr-in-Sum.result c.args.found.now c.expr.new.found c.expr-in-Sum.new.found _ _
    (ap (λ y. expr_dead dead y ++ expr_dead dead c.get-in-Sum.result.now) c.get.ensures
    ∙ ap (λ y. expr_dead dead c.in-Sum.a ++ expr_dead dead y) c.get-in-Sum.ensures ∙ sym e)
    c.in_ok-expr-in-Sum.ensures c.expr-in-Sum.ensures

pub kind-returns-in-Call : goal.kind-returns-in-Call
kind-returns-in-Call t c =
    let dead = dead_by c.args.marks.now in
    let e : compound_dead dead c.args.k.now ≡ kind_dead dead c.args.k.now = grind (arith, part.compounds) in
    same_found c.compound.result c.args.found.now c.compound.new.found e c.compound.ensures

pub compound-returns-in_ok-exprs-in-Call : goal.compound-returns-in_ok-exprs-in-Call
compound-returns-in_ok-exprs-in-Call t c =
    let dead = dead_by c.args.marks.now in
    let e : compound_dead dead c.args.k.now ≡ joined (map (expr_dead dead) c.in-Call.arguments) ++ optional (option_map (lambda_dead dead) c.in-Call.lambda) =
    ap (compound_dead dead) c.in-Call.is ∙ part.compound_call dead _ _ _ ∙ fold.kind_call_any dead _ _ _ in
    found_two c.inner.result c.args.found.now c.exprs.new.found c.inner.new.found _ _
    (ap (λ l. joined (map (expr_dead dead) l) ++ optional (option_map (lambda_dead dead) c.in-Call.lambda)) c.as_slice.ensures ∙ sym e)
    c.in_ok-exprs-in-Call.ensures c.inner.ensures

pub compound-returns-in_ok-expr-in-MemberCall : goal.compound-returns-in_ok-expr-in-MemberCall
compound-returns-in_ok-expr-in-MemberCall t c =
    let dead = dead_by c.args.marks.now in
    let e : compound_dead dead c.args.k.now ≡ expr_dead dead c.in-MemberCall.receiver ++ joined (map (expr_dead dead) c.in-MemberCall.arguments) =
    ap (compound_dead dead) c.in-MemberCall.is ∙ part.compound_member_call dead _ _ _ _ ∙ fold.kind_member_call dead _ _ _ _ in
    found_two c.exprs-in-MemberCall.result c.args.found.now c.expr.new.found c.exprs-in-MemberCall.new.found _ _
    (ap (λ y. expr_dead dead y ++ joined (map (expr_dead dead) c.as_slice-in-MemberCall.result.now)) c.get.ensures
    ∙ ap (λ l. expr_dead dead c.in-MemberCall.receiver ++ joined (map (expr_dead dead) l)) c.as_slice-in-MemberCall.ensures ∙ sym e)
    c.in_ok-expr-in-MemberCall.ensures c.exprs-in-MemberCall.ensures

pub compound-returns-in_ok-branch-in-If : goal.compound-returns-in_ok-branch-in-If
compound-returns-in_ok-branch-in-If t c =
    let dead = dead_by c.args.marks.now in
    let rest = optional (option_map (branch_dead dead) c.in-If.otherwise) in
    let e : compound_dead dead c.args.k.now ≡ expr_dead dead c.in-If.condition ++ (branch_dead dead c.in-If.then ++ rest) =
    ap (compound_dead dead) c.in-If.is ∙ part.compound_if dead _ _ _ ∙ fold.kind_if_any dead _ _ _ in
    found_three c.alternative.result c.args.found.now c.expr-in-If.new.found c.branch-marks.new.found c.alternative.new.found _ _ _
    (ap (λ y. expr_dead dead y ++ (branch_dead dead c.get-in-If-2.result.now ++ rest)) c.get-in-If.ensures
    ∙ ap (λ y. expr_dead dead c.in-If.condition ++ (branch_dead dead y ++ rest)) c.get-in-If-2.ensures ∙ sym e)
    c.in_ok-expr-in-If.ensures c.in_ok-branch-in-If.ensures c.alternative.ensures

pub compound-returns-in_ok-looked_at-in-When : goal.compound-returns-in_ok-looked_at-in-When
compound-returns-in_ok-looked_at-in-When t c =
    let dead = dead_by c.args.marks.now in
    let front = optional (option_map (subject_dead dead) c.in-When.subject) in
    let e : compound_dead dead c.args.k.now ≡ front ++ joined (map (when_dead dead) c.in-When.branches) =
    ap (compound_dead dead) c.in-When.is ∙ part.compound_when dead _ _ ∙ fold.kind_when_any dead _ _ in
    found_two c.cases.result c.args.found.now c.looked_at.new.found c.cases.new.found _ _
    (ap (λ l. front ++ joined (map (when_dead dead) l)) c.as_slice-in-When.ensures ∙ sym e)
    c.in_ok-looked_at-in-When.ensures c.cases.ensures

pub compound-returns-in_ok-caught-in-Try : goal.compound-returns-in_ok-caught-in-Try
compound-returns-in_ok-caught-in-Try t c =
    let dead = dead_by c.args.marks.now in
    let rest = optional (option_map (block_dead dead) c.in-Try.finally) in
    let e : compound_dead dead c.args.k.now ≡ block_dead dead c.in-Try.body ++ (joined (map (catch_dead dead) c.in-Try.catches) ++ rest) =
    ap (compound_dead dead) c.in-Try.is ∙ part.compound_try dead _ _ _ ∙ fold.kind_try_any dead _ _ _ in
    found_three c.last.result c.args.found.now c.block.new.found c.caught.new.found c.last.new.found _ _ _
    (ap (λ y. block_dead dead y ++ (joined (map (catch_dead dead) c.as_slice-in-Try.result.now) ++ rest)) c.get-in-Try.ensures
    ∙ ap (λ l. block_dead dead c.in-Try.body ++ (joined (map (catch_dead dead) l) ++ rest)) c.as_slice-in-Try.ensures ∙ sym e)
    c.in_ok-block-in-Try.ensures c.in_ok-caught-in-Try.ensures c.last.ensures

pub compound-returns-in_default : goal.compound-returns-in_default
compound-returns-in_default t c =
    let d = c.in_default in
    nothing_found c.args.found.now (part.compound_other (dead_by c.args.marks.now) c.args.k.now d.not-Call d.not-MemberCall d.not-If d.not-When d.not-Try)

pub stmt-returns-in-Expr : goal.stmt-returns-in-Expr
stmt-returns-in-Expr t c =
    let dead = dead_by c.args.marks.now in
    same_found c.expr.result c.args.found.now c.expr.new.found (sym (ap (stmt_dead dead) c.in-Expr.is ∙ fold.stmt_expr dead _)) c.expr.ensures

pub stmt-returns-then-dead : goal.stmt-returns-then-dead
stmt-returns-then-dead t c =
    let dead = dead_by c.args.marks.now in
    let e : stmt_dead dead c.args.s.now ≡ outermost dead c.in-Local.number c.in-Local.span (parts_dead dead c.args.s.now) = grind (arith, part.statements) in
    found_dead c.args.found.now c.tell.new.found dead c.in-Local.number c.in-Local.span c.in_ok-dead-in-Local.dead (parts_dead dead c.args.s.now)
    c.in_ok-dead-in-Local.ensures.dead c.if-dead.true c.in_ok-dead-in-Local.ensures.found ∙ ap (λ x. c.args.found.now ++ x) (sym e)

pub stmt-returns-else-dead : goal.stmt-returns-else-dead
stmt-returns-else-dead t c =
    let dead = dead_by c.args.marks.now in
    let e : stmt_dead dead c.args.s.now ≡ outermost dead c.in-Local.number c.in-Local.span (parts_dead dead c.args.s.now) = grind (arith, part.statements) in
    same_found c.parts.result c.args.found.now c.parts.new.found (sym e)
    (found_inside c.parts.result c.args.found.now c.tell.new.found c.parts.new.found dead c.in-Local.number c.in-Local.span c.in_ok-dead-in-Local.dead (parts_dead dead c.args.s.now)
    c.in_ok-dead-in-Local.ensures.dead c.if-dead.false c.in_ok-dead-in-Local.ensures.found c.parts.ensures)

pub parts-returns-in-Expr : goal.parts-returns-in-Expr
parts-returns-in-Expr t c =
    let dead = dead_by c.args.marks.now in
    same_found c.expr.result c.args.found.now c.expr.new.found (sym (ap (parts_dead dead) c.in-Expr.is ∙ part.parts_expr dead _)) c.expr.ensures

pub parts-returns-in-Local : goal.parts-returns-in-Local
parts-returns-in-Local t c =
    let dead = dead_by c.args.marks.now in
    same_found c.initial.result c.args.found.now c.initial.new.found (sym (ap (parts_dead dead) c.in-Local.is ∙ part.parts_local dead _ _ _ _ _ _)) c.initial.ensures

pub parts-returns-in_ok-expr-in-Assign : goal.parts-returns-in_ok-expr-in-Assign
parts-returns-in_ok-expr-in-Assign t c =
    let dead = dead_by c.args.marks.now in
    found_two c.initial-in-Assign.result c.args.found.now c.expr-in-Assign.new.found c.initial-in-Assign.new.found _ _
    (sym (ap (parts_dead dead) c.in-Assign.is ∙ part.parts_assign dead _ _ _ _ _))
    c.in_ok-expr-in-Assign.ensures c.initial-in-Assign.ensures

pub parts-returns-in_ok-expr-in-While : goal.parts-returns-in_ok-expr-in-While
parts-returns-in_ok-expr-in-While t c =
    let dead = dead_by c.args.marks.now in
    found_two c.branch-marks.result c.args.found.now c.expr-in-While.new.found c.branch-marks.new.found _ _
    (ap (λ y. expr_dead dead c.in-While.condition ++ branch_dead dead y) c.get.ensures ∙ sym (ap (parts_dead dead) c.in-While.is ∙ part.parts_while dead _ _ _ _))
    c.in_ok-expr-in-While.ensures c.branch-marks.ensures

pub parts-returns-in_ok-block-in-DoWhile : goal.parts-returns-in_ok-block-in-DoWhile
parts-returns-in_ok-block-in-DoWhile t c =
    let dead = dead_by c.args.marks.now in
    found_two c.expr-in-DoWhile.result c.args.found.now c.block.new.found c.expr-in-DoWhile.new.found _ _
    (sym (ap (parts_dead dead) c.in-DoWhile.is ∙ part.parts_do_while dead _ _ _ _))
    c.in_ok-block-in-DoWhile.ensures c.expr-in-DoWhile.ensures

pub parts-returns-in_ok-expr-in-For-2 : goal.parts-returns-in_ok-expr-in-For-2
parts-returns-in_ok-expr-in-For-2 t c =
    let dead = dead_by c.args.marks.now in
    found_three c.branch-marks-in-For.result c.args.found.now c.expr-in-For.new.found c.expr-in-For-2.new.found c.branch-marks-in-For.new.found _ _ _
    (ap (λ y. expr_dead dead c.in-For.low ++ (expr_dead dead c.in-For.high ++ branch_dead dead y)) c.get-in-For.ensures
    ∙ sym (ap (parts_dead dead) c.in-For.is ∙ part.parts_for dead _ _ _ _ _ _ _ _))
    c.in_ok-expr-in-For.ensures c.in_ok-expr-in-For-2.ensures c.branch-marks-in-For.ensures

pub expr-returns-then-dead : goal.expr-returns-then-dead
expr-returns-then-dead t c =
    found_dead c.args.found.now c.tell.new.found (dead_by c.args.marks.now) c.args.e.now.number c.args.e.now.span c.in_ok-dead.dead (kind_dead (dead_by c.args.marks.now) c.args.e.now.kind) c.in_ok-dead.ensures.dead c.if-dead.true c.in_ok-dead.ensures.found ∙ ap (λ x. c.args.found.now ++ x) (sym (fold.expr_is (dead_by c.args.marks.now) c.args.e.now))

pub expr-returns : goal.expr-returns
expr-returns t c =
    same_found c.kind.result c.args.found.now c.kind.new.found (sym (fold.expr_is (dead_by c.args.marks.now) c.args.e.now)) (found_inside c.kind.result c.args.found.now c.tell.new.found c.kind.new.found (dead_by c.args.marks.now) c.args.e.now.number c.args.e.now.span c.in_ok-dead.dead (kind_dead (dead_by c.args.marks.now) c.args.e.now.kind) c.in_ok-dead.ensures.dead c.if-dead.false c.in_ok-dead.ensures.found (c.kind.ensures))

pub within-returns-then-dead : goal.within-returns-then-dead
within-returns-then-dead t c =
    found_dead c.args.found.now c.tell.new.found (dead_by c.args.marks.now) c.args.l.now.number c.args.l.now.span c.in_ok-dead.dead (block_dead (dead_by c.args.marks.now) c.args.l.now.body) c.in_ok-dead.ensures.dead c.if-dead.true c.in_ok-dead.ensures.found ∙ ap (λ x. c.args.found.now ++ x) (sym (fold.lambda_is (dead_by c.args.marks.now) c.args.l.now))

pub within-returns : goal.within-returns
within-returns t c =
    same_found c.block.result c.args.found.now c.block.new.found (sym (fold.lambda_is (dead_by c.args.marks.now) c.args.l.now)) (found_inside c.block.result c.args.found.now c.tell.new.found c.block.new.found (dead_by c.args.marks.now) c.args.l.now.number c.args.l.now.span c.in_ok-dead.dead (block_dead (dead_by c.args.marks.now) c.args.l.now.body) c.in_ok-dead.ensures.dead c.if-dead.false c.in_ok-dead.ensures.found (c.block.ensures))

pub block-loop-s-preserved : goal.block-loop-s-preserved
block-loop-s-preserved t c =
    found_more (stmt_dead (dead_by c.args.marks.now)) c.as_slice-s-items.result.now c.loop-s.s-index c.s-item.result c.args.found.now c.loop-s.found c.stmt.new.found c.loop-s-test.true c.s-item.is c.loop-s.invariant c.in_ok-stmt.ensures

pub block-returns : goal.block-returns
block-returns t c =
    found_all (stmt_dead (dead_by c.args.marks.now)) c.as_slice-s-items.result.now c.loop-s.s-index c.args.found.now c.loop-s.found c.loop-s-test.false c.loop-s.invariant ∙ ap (λ l. c.args.found.now ++ joined (map (stmt_dead (dead_by c.args.marks.now)) l)) c.as_slice-s-items.ensures ∙ ap (λ l. c.args.found.now ++ l) (sym (fold.block_is (dead_by c.args.marks.now) c.args.b.now))

pub exprs-loop-e-preserved : goal.exprs-loop-e-preserved
exprs-loop-e-preserved t c =
    found_more (expr_dead (dead_by c.args.marks.now)) c.args.list.now c.loop-e.e-index c.e-item.result c.args.found.now c.loop-e.found c.expr.new.found c.loop-e-test.true c.e-item.is c.loop-e.invariant c.in_ok-expr.ensures

pub exprs-returns : goal.exprs-returns
exprs-returns t c =
    found_all (expr_dead (dead_by c.args.marks.now)) c.args.list.now c.loop-e.e-index c.args.found.now c.loop-e.found c.loop-e-test.false c.loop-e.invariant

pub caught-loop-c-preserved : goal.caught-loop-c-preserved
caught-loop-c-preserved t c =
    found_more (catch_dead (dead_by c.args.marks.now)) c.args.catches.now c.loop-c.c-index c.c-item.result c.args.found.now c.loop-c.found c.block.new.found c.loop-c-test.true c.c-item.is c.loop-c.invariant (c.in_ok-block.ensures ∙ ap (λ y. c.loop-c.found ++ y) (sym (fold.catch_is (dead_by c.args.marks.now) c.c-item.result)))

pub caught-returns : goal.caught-returns
caught-returns t c =
    found_all (catch_dead (dead_by c.args.marks.now)) c.args.catches.now c.loop-c.c-index c.args.found.now c.loop-c.found c.loop-c-test.false c.loop-c.invariant

pub pieces-loop-part-preserved : goal.pieces-loop-part-preserved
pieces-loop-part-preserved t c =
    found_more (piece_dead (dead_by c.args.marks.now)) c.args.parts.now c.loop-part.part-index c.part-item.result c.args.found.now c.loop-part.found c.piece.new.found c.loop-part-test.true c.part-item.is c.loop-part.invariant c.in_ok-piece.ensures

pub pieces-returns : goal.pieces-returns
pieces-returns t c =
    found_all (piece_dead (dead_by c.args.marks.now)) c.args.parts.now c.loop-part.part-index c.args.found.now c.loop-part.found c.loop-part-test.false c.loop-part.invariant

pub tests-loop-condition-preserved : goal.tests-loop-condition-preserved
tests-loop-condition-preserved t c =
    found_more (condition_dead (dead_by c.args.marks.now)) c.args.list.now c.loop-condition.condition-index c.condition-item.result c.args.found.now c.loop-condition.found c.test.new.found c.loop-condition-test.true c.condition-item.is c.loop-condition.invariant c.in_ok-test.ensures

pub tests-returns : goal.tests-returns
tests-returns t c =
    found_all (condition_dead (dead_by c.args.marks.now)) c.args.list.now c.loop-condition.condition-index c.args.found.now c.loop-condition.found c.loop-condition-test.false c.loop-condition.invariant

pub cases-loop-b-preserved : goal.cases-loop-b-preserved
cases-loop-b-preserved t c =
    found_more (when_dead (dead_by c.args.marks.now)) c.args.branches.now c.loop-b.b-index c.b-item.result c.args.found.now c.loop-b.found c.case.new.found c.loop-b-test.true c.b-item.is c.loop-b.invariant c.in_ok-case.ensures

pub cases-returns : goal.cases-returns
cases-returns t c =
    found_all (when_dead (dead_by c.args.marks.now)) c.args.branches.now c.loop-b.b-index c.args.found.now c.loop-b.found c.loop-b-test.false c.loop-b.invariant

pub case-returns-in_ok-tests-in-Some : goal.case-returns-in_ok-tests-in-Some
case-returns-in_ok-tests-in-Some t c =
    found_two c.branch-marks.result c.args.found.now c.tests.new.found c.branch-marks.new.found (joined (map (condition_dead (dead_by c.args.marks.now)) c.as_slice.result.now)) (branch_dead (dead_by c.args.marks.now) c.args.b.now.body) (ap (λ l. joined (map (condition_dead (dead_by c.args.marks.now)) l) ++ branch_dead (dead_by c.args.marks.now) c.args.b.now.body) c.as_slice.ensures ∙ sym (ap (λ o. all_optional (option_map (map (condition_dead (dead_by c.args.marks.now))) o) ++ branch_dead (dead_by c.args.marks.now) c.args.b.now.body) c.in-Some.is) ∙ sym (fold.when_is (dead_by c.args.marks.now) c.args.b.now)) c.in_ok-tests-in-Some.ensures c.branch-marks.ensures

pub case-returns-in-None : goal.case-returns-in-None
case-returns-in-None t c =
    same_found c.branch-marks-in-None.result c.args.found.now c.branch-marks-in-None.new.found (sym (ap (λ o. all_optional (option_map (map (condition_dead (dead_by c.args.marks.now))) o) ++ branch_dead (dead_by c.args.marks.now) c.args.b.now.body) c.in-None.is) ∙ sym (fold.when_is (dead_by c.args.marks.now) c.args.b.now)) c.branch-marks-in-None.ensures

pub looked_at-returns-in-Some : goal.looked_at-returns-in-Some
looked_at-returns-in-Some t c =
    same_found c.expr.result c.args.found.now c.expr.new.found (ap (λ (x : Subject). expr_dead (dead_by c.args.marks.now) x.value) c.get.ensures ∙ sym (fold.subject_is (dead_by c.args.marks.now) c.in-Some.s) ∙ sym (ap (λ o. optional (option_map (subject_dead (dead_by c.args.marks.now)) o)) c.in-Some.is)) c.expr.ensures

pub branch-returns-in-Braced : goal.branch-returns-in-Braced
branch-returns-in-Braced t c =
    same_found c.block.result c.args.found.now c.block.new.found (sym (ap (branch_dead (dead_by c.args.marks.now)) c.in-Braced.is ∙ fold.branch_braced (dead_by c.args.marks.now) _)) c.block.ensures

pub branch-returns-in-Single : goal.branch-returns-in-Single
branch-returns-in-Single t c =
    same_found c.stmt.result c.args.found.now c.stmt.new.found (sym (ap (branch_dead (dead_by c.args.marks.now)) c.in-Single.is ∙ fold.branch_single (dead_by c.args.marks.now) _)) c.stmt.ensures

pub piece-returns-in-Text : goal.piece-returns-in-Text
piece-returns-in-Text t c =
    nothing_found c.args.found.now (ap (piece_dead (dead_by c.args.marks.now)) c.in-Text.is ∙ fold.piece_text (dead_by c.args.marks.now) _)

pub piece-returns-in-Inserted : goal.piece-returns-in-Inserted
piece-returns-in-Inserted t c =
    same_found c.expr.result c.args.found.now c.expr.new.found (sym (ap (piece_dead (dead_by c.args.marks.now)) c.in-Inserted.is ∙ fold.piece_inserted (dead_by c.args.marks.now) _)) c.expr.ensures

pub test-returns-in-Is : goal.test-returns-in-Is
test-returns-in-Is t c =
    nothing_found c.args.found.now (ap (condition_dead (dead_by c.args.marks.now)) c.in-Is.is ∙ fold.condition_is (dead_by c.args.marks.now) _ _)

pub test-returns-in-IsNot : goal.test-returns-in-IsNot
test-returns-in-IsNot t c =
    nothing_found c.args.found.now (ap (condition_dead (dead_by c.args.marks.now)) c.in-IsNot.is ∙ fold.condition_is_not (dead_by c.args.marks.now) _ _)

pub test-returns-in-Value : goal.test-returns-in-Value
test-returns-in-Value t c =
    same_found c.expr.result c.args.found.now c.expr.new.found (sym (ap (condition_dead (dead_by c.args.marks.now)) c.in-Value.is ∙ fold.condition_value (dead_by c.args.marks.now) _)) c.expr.ensures
