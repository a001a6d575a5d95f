use Rattle.std.proofs.Common.{◌≡◌, ◌∙◌, ◌-◌, ℕ, ap, sym, refl, map, [], ◌∷◌, ◌++◌, Option, Some, None, option_map, arith, length, drop}
use Rattle.std.proofs.lemmas.List.{drop_all}
use Rattle.kt_tree.specs.declared.ast.body.ExprKind.TheVariants as e
use Rattle.kt_tree.specs.declared.ast.body.Stmt.TheVariants as s
use Rattle.kt_model.specs.declared.uses.Named.TheVariants as named
use Rattle.kt_model.specs.declared.graph.Tag.TheVariants as tag
use Rattle.kt_graph.specs.declared.building.Exits.TheVariants as exits
use Rattle.kt_model.specs.ControlFlow.{bring}
use Rattle.kt_model.proofs.BodyFolds.{tree_of_kind, kind_name, kind_template, kind_paren, kind_call, kind_call_with, kind_sign, kind_not, kind_and, kind_or, kind_if_any, kind_return_any, kind_return_at_any, kind_throw, kind_other, stmt_expr, stmt_local_any, stmt_assign_any, stmt_while, stmt_do_while, stmt_for, branch_braced, branch_single, piece_text, piece_inserted, block_list}
use Rattle.kt_model.specs.NameUses.{named_at}
use Rattle.kt_model.specs.BodyTrees.{Template', Sign', BuiltIn', Return', Throw', Compound', whole, texts_of, inserted_of, seen_optional, shut, expr_tree, branch_trees, stmt_tree, piece, seen, seen_trees, listed, otherwise, call_tree, local_tree, assign_tree, assigned_tree, name_span, named_there}
use Rattle.kt_graph.proofs.KindGroups.{no_part, two_parts}
use Rattle.kt_graph.proofs.Walks.{walked, same_tree, same_trees, same_next, expr_at, branch_at, walk_operation, walk_unary, walk_binary, walk_paren, walk_not, walk_and, walk_or, walk_if, walk_throw, walk_return, walk_one, walk_first, walk_empty, walk_call, walk_name, walk_local, walk_assign, walk_compound, walk_declare, walk_piece, stmts_more, exprs_more, pieces_more, leaves_effects, steps_effects, unnamed}
use Rattle.kt_graph.proofs.building.Builder.+walk.Goals as goal

pub expr-returns-in_ok-a-in-Not : goal.expr-returns-in_ok-a-in-Not
expr-returns-in_ok-a-in-Not t c =
    let uses = named_at c.args.uses.now in
    let x = c.args.e.now in
    walked c.enter.result (tree_of_kind uses x _ _ c.in-Not.is (kind_not uses c.in-Not.a)) c.enter.ensures
    (λ n i. walk_not c.in_ok-on_true-in-Not.ensures (expr_at uses c.get.ensures c.in_ok-a-in-Not.ensures) i)

pub expr-returns-in_ok-a-in-And : goal.expr-returns-in_ok-a-in-And
expr-returns-in_ok-a-in-And t c =
    let uses = named_at c.args.uses.now in
    let x = c.args.e.now in
    walked c.enter-in-And.result (tree_of_kind uses x _ _ c.in-And.is (kind_and uses c.in-And.a c.in-And.b)) c.enter-in-And.ensures
    (λ n i. walk_and c.in_ok-on_true-in-And.ensures (expr_at uses c.get-in-And.ensures c.in_ok-b-in-And.ensures) (expr_at uses c.get-in-And-2.ensures c.in_ok-a-in-And.ensures) i)

pub expr-returns-in_ok-a-in-Or : goal.expr-returns-in_ok-a-in-Or
expr-returns-in_ok-a-in-Or t c =
    let uses = named_at c.args.uses.now in
    let x = c.args.e.now in
    walked c.enter-in-Or.result (tree_of_kind uses x _ _ c.in-Or.is (kind_or uses c.in-Or.a c.in-Or.b)) c.enter-in-Or.ensures
    (λ n i. walk_or c.in_ok-on_true-in-Or.ensures (expr_at uses c.get-in-Or.ensures c.in_ok-b-in-Or.ensures) (expr_at uses c.get-in-Or-2.ensures c.in_ok-a-in-Or.ensures) i)

pub expr-returns-in_ok-c-in-If : goal.expr-returns-in_ok-c-in-If
expr-returns-in_ok-c-in-If t c =
    let uses = named_at c.args.uses.now in
    let x = c.args.e.now in
    walked c.enter-in-If.result (tree_of_kind uses x _ _ c.in-If.is (kind_if_any uses c.in-If.condition c.in-If.then c.in-If.otherwise)) c.enter-in-If.ensures
    (λ n i. walk_if c.in_ok-out-in-If.ensures c.in_ok-on_false-in-If.ensures (branch_at uses c.get-in-If.ensures c.in_ok-on_true-in-If.ensures) (expr_at uses c.get-in-If-2.ensures c.in_ok-c-in-If.ensures) i)

pub expr-returns-in-None : goal.expr-returns-in-None
expr-returns-in-None t c =
    let uses = named_at c.args.uses.now in
    let x = c.args.e.now in
    walked c.returned.result (tree_of_kind uses x _ _ (c.in-Return.is ∙ ap (λ l. e.Return l c.in-Return.value) c.in-None.is) (kind_return_any uses c.in-Return.value)) c.returned.ensures (λ n w. w _ _)

pub expr-returns-in-Some : goal.expr-returns-in-Some
expr-returns-in-Some t c =
    let uses = named_at c.args.uses.now in
    let x = c.args.e.now in
    walked c.shut.result (tree_of_kind uses x _ _ (c.in-Return.is ∙ ap (λ l. e.Return l c.in-Return.value) c.in-Some.is) (kind_return_at_any uses _ c.in-Return.value)) c.shut.ensures (λ n w. w _ _)

pub expr-returns-in-Throw : goal.expr-returns-in-Throw
expr-returns-in-Throw t c =
    let uses = named_at c.args.uses.now in
    let x = c.args.e.now in
    walked c.thrown.result (tree_of_kind uses x _ _ c.in-Throw.is (kind_throw uses c.in-Throw.a) ∙ ap (λ y. Throw' (whole x.number x.span) (expr_tree uses y)) (sym c.get-in-Throw.ensures)) c.thrown.ensures (λ n w. w c.args.exits _ _)

pub expr-returns-in_default : goal.expr-returns-in_default
expr-returns-in_default t c =
    let d = c.in_default in
    c.straight.ensures (record { no_negation = d.not-Not; no_conjunction = d.not-And; no_disjunction = d.not-Or; no_choice = d.not-If; no_return = d.not-Return; no_throw = d.not-Throw })

pub straight-returns-in-Int : goal.straight-returns-in-Int
straight-returns-in-Int t c s =
    let uses = named_at c.args.uses.now in
    let x = c.args.e.now in
    let leaf = no_part uses x c.in-Int.is in
    walked c.leaf.result leaf.is c.leaf.ensures (λ n w. w _ _ leaf.operation leaf.returns)

pub straight-returns-in-Name : goal.straight-returns-in-Name
straight-returns-in-Name t c s =
    let uses = named_at c.args.uses.now in
    let x = c.args.e.now in
    walked c.name.result (tree_of_kind uses x _ _ c.in-Name.is (kind_name uses c.in-Name.field-0)) c.name.ensures (λ n w. w x.span)

pub straight-returns-in_ok-first-in-Template : goal.straight-returns-in_ok-first-in-Template
straight-returns-in_ok-first-in-Template t c s =
    let uses = named_at c.args.uses.now in
    let x = c.args.e.now in
    walked c.enter.result (tree_of_kind uses x _ _ c.in-Template.is (kind_template uses c.in-Template.parts)) c.enter.ensures
    (λ n i. walk_operation (Template' (texts_of (map (piece uses) c.in-Template.parts))) c.in_ok-out-in-Template.ensures (same_trees (ap (λ l. inserted_of (map (piece uses) l)) (sym c.as_slice.ensures)) c.in_ok-first-in-Template.ensures) i)

pub straight-returns-in_ok-a-in-Paren : goal.straight-returns-in_ok-a-in-Paren
straight-returns-in_ok-a-in-Paren t c s =
    let uses = named_at c.args.uses.now in
    let x = c.args.e.now in
    walked c.enter-in-Paren.result (tree_of_kind uses x _ _ c.in-Paren.is (kind_paren uses c.in-Paren.a)) c.enter-in-Paren.ensures
    (λ n i. walk_paren c.in_ok-inner-in-Paren.ensures (expr_at uses c.get.ensures c.in_ok-a-in-Paren.ensures) i)

pub straight-returns-in-None : goal.straight-returns-in-None
straight-returns-in-None t c s =
    let uses = named_at c.args.uses.now in
    let x = c.args.e.now in
    walked c.call.result (tree_of_kind uses x _ _ (c.in-Call.is ∙ ap (e.Call c.in-Call.callee c.in-Call.arguments) c.in-None.is) (kind_call uses c.in-Call.callee c.in-Call.arguments) ∙ ap (λ l. call_tree (uses x.number) (seen_trees (map (seen uses) l)) (named_there x.number x.span c.in-Call.callee.span)) (sym c.as_slice-in-None.ensures)) c.call.ensures (λ n w. w _ _)

pub straight-returns-in-Some : goal.straight-returns-in-Some
straight-returns-in-Some t c s =
    let uses = named_at c.args.uses.now in
    let x = c.args.e.now in
    walked c.shut.result (tree_of_kind uses x _ _ (c.in-Call.is ∙ ap (e.Call c.in-Call.callee c.in-Call.arguments) c.in-Some.is) (kind_call_with uses c.in-Call.callee c.in-Call.arguments _)) c.shut.ensures (λ n w. w _ _)

pub straight-returns-in_ok-a-in-Sign : goal.straight-returns-in_ok-a-in-Sign
straight-returns-in_ok-a-in-Sign t c s =
    let uses = named_at c.args.uses.now in
    let x = c.args.e.now in
    walked c.enter-in-Sign.result (tree_of_kind uses x _ _ c.in-Sign.is (kind_sign uses c.in-Sign.field-0 c.in-Sign.a)) c.enter-in-Sign.ensures
    (λ n i. walk_unary c.in_ok-out-in-Sign.ensures (expr_at uses c.get-in-Sign.ensures c.in_ok-a-in-Sign.ensures) i (Sign' c.in-Sign.field-0) refl)

pub straight-returns-in_ok-a-in-Sum : goal.straight-returns-in_ok-a-in-Sum
straight-returns-in_ok-a-in-Sum t c s =
    let uses = named_at c.args.uses.now in
    let x = c.args.e.now in
    let both = two_parts uses x c.in-Sum.a c.in-Sum.b c.in-Sum.is in
    walked c.enter-in-Sum.result both.is c.enter-in-Sum.ensures
    (λ n i. walk_binary c.in_ok-out-in-Sum.ensures (expr_at uses c.get-in-Sum.ensures c.in_ok-b-in-Sum.ensures) (expr_at uses c.get-in-Sum-2.ensures c.in_ok-a-in-Sum.ensures) i both.operation both.returns)

pub straight-returns-in_default : goal.straight-returns-in_default
straight-returns-in_default t c s =
    let uses = named_at c.args.uses.now in
    let x = c.args.e.now in
    let d = c.in_default in
    walked c.shut-in_default.result (tree_of_kind uses x x.kind shut refl (kind_other uses x.kind d.not-Int d.not-Bool d.not-Null d.not-Name d.not-Template d.not-Paren d.not-Call d.not-Sign s.no_negation d.not-Sum d.not-Arithmetic d.not-Compare d.not-Equal s.no_conjunction s.no_disjunction s.no_choice s.no_return s.no_throw)) c.shut-in_default.ensures (λ n w. w _ _)

pub thrown-returns : goal.thrown-returns
thrown-returns t c exits at word =
    walk_throw c.in_ok-out.ensures c.in_ok-a.ensures c.in_ok-n.ensures

pub statements-loop-i-init : goal.statements-loop-i-init
statements-loop-i-init t c = record {
  in_range = omega arith;
  walked = same_trees (ap (λ l. listed (map (stmt_tree (named_at c.args.uses.now)) l)) (drop_all (length c.args.statements.now) c.args.statements.now (omega arith))) (walk_empty c.args.self.now c.args.context c.args.next);
}

pub statements-loop-i-preserved : goal.statements-loop-i-preserved
statements-loop-i-preserved t c = record {
  in_range = omega arith;
  walked = same_trees (stmts_more (named_at c.args.uses.now) c.args.statements.now c.loop-i.i (c.loop-i.i - 1) c.index-statements-i.result (omega arith) (omega arith) c.index-statements-i.is) (walk_first c.loop-i.invariant.walked c.in_ok-n.ensures);
}

pub arguments-loop-i-init : goal.arguments-loop-i-init
arguments-loop-i-init t c = record {
  in_range = omega arith;
  walked = same_trees (ap (λ l. seen_trees (map (seen (named_at c.args.uses.now)) l)) (drop_all (length c.args.arguments.now) c.args.arguments.now (omega arith))) (walk_empty c.args.self.now c.args.context c.args.next);
}

pub arguments-loop-i-preserved : goal.arguments-loop-i-preserved
arguments-loop-i-preserved t c = record {
  in_range = omega arith;
  walked = same_trees (exprs_more (named_at c.args.uses.now) c.args.arguments.now c.loop-i.i (c.loop-i.i - 1) c.index-arguments-i.result (omega arith) (omega arith) c.index-arguments-i.is) (walk_first c.loop-i.invariant.walked c.in_ok-n.ensures);
}

pub pieces-loop-i-init : goal.pieces-loop-i-init
pieces-loop-i-init t c = record {
  in_range = omega arith;
  walked = same_trees (ap (λ l. inserted_of (map (piece (named_at c.args.uses.now)) l)) (drop_all (length c.args.parts.now) c.args.parts.now (omega arith))) (walk_empty c.args.self.now c.args.context c.args.next);
}

pub pieces-loop-i-preserved : goal.pieces-loop-i-preserved
pieces-loop-i-preserved t c = record {
  in_range = omega arith;
  walked = same_trees (pieces_more (named_at c.args.uses.now) c.args.parts.now c.loop-i.i (c.loop-i.i - 1) c.index-parts-i.result (omega arith) (omega arith) c.index-parts-i.is) (walk_piece _ _ c.loop-i.invariant.walked c.in_ok-place.ensures);
}

pub call-returns-in_ok-n-in-Function : goal.call-returns-in_ok-n-in-Function
call-returns-in_ok-n-in-Function t c at word =
    same_tree (ap (λ m. call_tree m (seen_trees (map (seen (named_at c.args.uses.now)) c.args.arguments.now)) (named_there c.args.tree at word)) (sym c.in-Function.ensures)) (walk_call c.in-Function.field-0 c.in-Function.returns c.in_ok-out-in-Function.ensures (same_next c.place_if-next.ensures c.in_ok-first-in-Function.ensures) c.in_ok-n-in-Function.ensures)

pub call-returns-in_ok-n-in-BuiltIn : goal.call-returns-in_ok-n-in-BuiltIn
call-returns-in_ok-n-in-BuiltIn t c at word =
    same_tree (ap (λ m. call_tree m (seen_trees (map (seen (named_at c.args.uses.now)) c.args.arguments.now)) (named_there c.args.tree at word)) (sym c.in-BuiltIn.ensures)) (walk_operation (BuiltIn' c.in-BuiltIn.field-0 c.in-BuiltIn.returns) c.in_ok-out-in-BuiltIn.ensures (same_next c.place_if-next-in-BuiltIn.ensures c.in_ok-first-in-BuiltIn.ensures) c.in_ok-n-in-BuiltIn.ensures)

pub returned-returns-in_ok-n-in-None : goal.returned-returns-in_ok-n-in-None
returned-returns-in_ok-n-in-None t c at word =
    same_tree (ap (λ w. Return' (named_there c.args.tree at word) (seen_optional (option_map (seen (named_at c.args.uses.now)) w))) c.in-None.is) (walk_return c.in_ok-out.ensures (walk_empty c.jump.new.self c.args.context (Some c.in_ok-out.out)) c.in_ok-n-in-None.ensures)

pub returned-returns-in_ok-n-in-Some : goal.returned-returns-in_ok-n-in-Some
returned-returns-in_ok-n-in-Some t c at word =
    same_tree (ap (λ w. Return' (named_there c.args.tree at word) (seen_optional (option_map (seen (named_at c.args.uses.now)) w))) c.in-Some.is) (walk_return c.in_ok-out.ensures (walk_one (expr_at (named_at c.args.uses.now) c.get.ensures c.in_ok-a-in-Some.ensures)) c.in_ok-n-in-Some.ensures)

pub branch-returns-in_ok-n-in-Braced : goal.branch-returns-in_ok-n-in-Braced
branch-returns-in_ok-n-in-Braced t c =
    same_trees (ap (branch_trees (named_at c.args.uses.now)) c.in-Braced.is ∙ branch_braced (named_at c.args.uses.now) _ ∙ block_list (named_at c.args.uses.now) _) (same_trees (ap (λ l. listed (map (stmt_tree (named_at c.args.uses.now)) l)) (sym c.as_slice.ensures)) c.in_ok-n-in-Braced.ensures)

pub branch-returns-in_ok-n-in-Single : goal.branch-returns-in_ok-n-in-Single
branch-returns-in_ok-n-in-Single t c =
    same_trees (ap (branch_trees (named_at c.args.uses.now)) c.in-Single.is ∙ branch_single (named_at c.args.uses.now) _) (walk_one c.in_ok-n-in-Single.ensures)

pub otherwise-returns-in_ok-n-in-Some : goal.otherwise-returns-in_ok-n-in-Some
otherwise-returns-in_ok-n-in-Some t c =
    same_trees (ap (λ w. otherwise (option_map (branch_trees (named_at c.args.uses.now)) w)) c.in-Some.is) (branch_at (named_at c.args.uses.now) c.get.ensures c.in_ok-n-in-Some.ensures)

pub piece-returns-in_ok-n-in-Inserted : goal.piece-returns-in_ok-n-in-Inserted
piece-returns-in_ok-n-in-Inserted t c =
    same_trees (ap (λ w. inserted_of (piece (named_at c.args.uses.now) w ∷ [])) c.in-Inserted.is ∙ ap (λ w. inserted_of (w ∷ [])) (piece_inserted (named_at c.args.uses.now) _)) (walk_one c.in_ok-n-in-Inserted.ensures)

pub stmt-returns-in_ok-n-in-Expr : goal.stmt-returns-in_ok-n-in-Expr
stmt-returns-in_ok-n-in-Expr t c =
    same_tree (ap (stmt_tree (named_at c.args.uses.now)) c.in-Expr.is ∙ stmt_expr (named_at c.args.uses.now) _) c.in_ok-n-in-Expr.ensures

pub stmt-returns-in_ok-n-in-Local : goal.stmt-returns-in_ok-n-in-Local
stmt-returns-in_ok-n-in-Local t c =
    same_tree (ap (stmt_tree (named_at c.args.uses.now)) c.in-Local.is ∙ stmt_local_any (named_at c.args.uses.now) _ _ _ _ _ _) (c.in_ok-n-in-Local.ensures _ _)

pub stmt-returns-in_ok-n-in-Assign : goal.stmt-returns-in_ok-n-in-Assign
stmt-returns-in_ok-n-in-Assign t c =
    same_tree (ap (stmt_tree (named_at c.args.uses.now)) c.in-Assign.is ∙ stmt_assign_any (named_at c.args.uses.now) _ _ _ _ _ ∙ ap (λ w. assign_tree (named_at c.args.uses.now c.in-Assign.number) c.in-Assign.number c.in-Assign.span w c.in-Assign.assignment (option_map (seen (named_at c.args.uses.now)) c.in-Assign.value)) (c.is_name-is_name.ensures (named_at c.args.uses.now))) (c.in_ok-n-in-Assign.ensures _ _)

pub stmt-returns-in_ok-n-in-While : goal.stmt-returns-in_ok-n-in-While
stmt-returns-in_ok-n-in-While t c =
    same_tree (ap (stmt_tree (named_at c.args.uses.now)) c.in-While.is ∙ stmt_while (named_at c.args.uses.now) _ _ _ _) (c.in_ok-n-in-While.ensures _ _)

pub stmt-returns-in_ok-n-in-DoWhile : goal.stmt-returns-in_ok-n-in-DoWhile
stmt-returns-in_ok-n-in-DoWhile t c =
    same_tree (ap (stmt_tree (named_at c.args.uses.now)) c.in-DoWhile.is ∙ stmt_do_while (named_at c.args.uses.now) _ _ _ _) (c.in_ok-n-in-DoWhile.ensures _ _)

pub stmt-returns-in_ok-n-in-For : goal.stmt-returns-in_ok-n-in-For
stmt-returns-in_ok-n-in-For t c =
    same_tree (ap (stmt_tree (named_at c.args.uses.now)) c.in-For.is ∙ stmt_for (named_at c.args.uses.now) _ _ _ _ _ _ _ _) (c.in_ok-n-in-For.ensures _ _)

pub compound-returns-in_ok-n-in-Some : goal.compound-returns-in_ok-n-in-Some
compound-returns-in_ok-n-in-Some t c at word fixed o =
    same_tree (ap (λ w. Compound' (named_there c.args.tree at word) word c.args.local fixed o (seen_optional (option_map (seen (named_at c.args.uses.now)) w))) c.in-Some.is) (walk_compound word c.args.local fixed o (leaves_effects _ _ _ _ _ _ c.args.context (exits.Then c.args.next) c.in_ok-effects.ensures c.in_ok-out.ensures) (walk_one c.in_ok-a-in-Some.ensures) (steps_effects _ _ _ _ tag.In _ _ c.args.context (Some c.in_ok-a-in-Some.a) c.in_ok-old.ensures c.in_ok-n-in-Some.ensures))

pub compound-returns-in_ok-n-in-None : goal.compound-returns-in_ok-n-in-None
compound-returns-in_ok-n-in-None t c at word fixed o =
    same_tree (ap (λ w. Compound' (named_there c.args.tree at word) word c.args.local fixed o (seen_optional (option_map (seen (named_at c.args.uses.now)) w))) c.in-None.is) (walk_compound word c.args.local fixed o (leaves_effects _ _ _ _ _ _ c.args.context (exits.Then c.args.next) c.in_ok-effects.ensures c.in_ok-out.ensures) (walk_empty c.leave.new.self c.args.context (Some c.in_ok-out.out)) (steps_effects _ _ _ _ tag.In _ _ c.args.context (Some c.in_ok-out.out) c.in_ok-old.ensures c.in_ok-n-in-None.ensures))

pub plain-returns-in_ok-n-in-Some : goal.plain-returns-in_ok-n-in-Some
plain-returns-in_ok-n-in-Some t c at word fixed =
    same_tree (ap (λ w. assigned_tree (named_there c.args.tree at word) c.args.local fixed None (option_map (seen (named_at c.args.uses.now)) w)) c.in-Some.is) (walk_assign word c.args.local fixed (leaves_effects _ _ _ _ _ _ c.args.context (exits.Then c.args.next) c.in_ok-effects-in-Some.ensures c.in_ok-out-in-Some.ensures) c.in_ok-a-in-Some.ensures c.in_ok-n-in-Some.ensures)

pub local-returns-in_ok-n-in-None : goal.local-returns-in_ok-n-in-None
local-returns-in_ok-n-in-None t c at word =
    same_tree (ap (λ w. local_tree w (named_there c.args.tree at word) (option_map (seen (named_at c.args.uses.now)) c.args.value.now)) (sym c.in-Variable.ensures) ∙ ap (λ w. local_tree (named.Variable c.in-Variable.local c.in-Variable.field-1) (named_there c.args.tree at word) (option_map (seen (named_at c.args.uses.now)) w)) c.in-None.is) (walk_declare c.in-Variable.local (leaves_effects _ _ _ _ _ _ c.args.context (exits.Then c.args.next) c.in_ok-effects-in-None.ensures c.in_ok-out-in-None.ensures) c.in_ok-n-in-None.ensures)

pub local-returns-in_ok-n-in-Some : goal.local-returns-in_ok-n-in-Some
local-returns-in_ok-n-in-Some t c at word =
    same_tree (ap (λ w. local_tree w (named_there c.args.tree at word) (option_map (seen (named_at c.args.uses.now)) c.args.value.now)) (sym c.in-Variable.ensures) ∙ ap (λ w. local_tree (named.Variable c.in-Variable.local c.in-Variable.field-1) (named_there c.args.tree at word) (option_map (seen (named_at c.args.uses.now)) w)) c.in-Some.is) (walk_local word c.in-Variable.local (leaves_effects _ _ _ _ _ _ c.args.context (exits.Then c.args.next) (c.in_ok-bring-in-Some.ensures ∙ ap (λ l. l ++ bring c.in-Variable.local) c.new-effects.ensures) c.in_ok-out-in-Some.ensures) c.in_ok-a-in-Some.ensures c.in_ok-n-in-Some.ensures)

pub otherwise-returns-in-None : goal.otherwise-returns-in-None
otherwise-returns-in-None t c =
    same_trees (ap (λ w. otherwise (option_map (branch_trees (named_at c.args.uses.now)) w)) c.in-None.is) (walk_empty c.args.self.now c.args.context c.args.next)

pub piece-returns-in-Text : goal.piece-returns-in-Text
piece-returns-in-Text t c =
    same_trees (ap (λ w. inserted_of (piece (named_at c.args.uses.now) w ∷ [])) c.in-Text.is ∙ ap (λ w. inserted_of (w ∷ [])) (piece_text (named_at c.args.uses.now) _)) (walk_empty c.args.self.now c.args.context c.args.next)

pub assign-returns-then-not-is_name : goal.assign-returns-then-not-is_name
assign-returns-then-not-is_name t c at word =
    same_tree (unnamed (named_at c.args.uses.now c.args.tree) c.args.tree at word c.args.is_name c.args.assignment _ c.if-not-is_name.true) (c.in_ok-n.ensures at at)
