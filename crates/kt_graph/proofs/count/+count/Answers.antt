use Rattle.std.proofs.Common.{◌≡◌, ◌∙◌, ◌+◌, ◌-◌, ◌≤◌, ℕ, ap, sym, refl, map, [], ◌∷◌, Option, Some, None, option_map, arith, length, drop, true, false}
use Rattle.std.proofs.lemmas.List.{drop_all}
use Rattle.kt_tree.specs.declared.ast.body.ExprKind.TheVariants as e
use Rattle.kt_model.specs.declared.uses.Named.TheVariants as named
use Rattle.kt_model.proofs.BodyFolds.{tree_of_kind, kind_name, kind_template, kind_paren, kind_call, kind_call_with, kind_sign, kind_not, kind_if_any, kind_return_any, kind_return_at_any, kind_throw, kind_other, stmt_expr, stmt_local_any, stmt_assign_any, stmt_while, stmt_do_while, stmt_for, branch_braced, branch_single, piece_text, piece_inserted, block_list}
use Rattle.kt_model.specs.NameUses.{named_at}
use Rattle.kt_model.specs.BodyTrees.{shut, expr_tree, branch_trees, stmt_tree, piece, seen, seen_trees, seen_optional, inserted_of, listed, otherwise, call_tree, local_tree, assign_tree, assigned_tree, First', Empty', Sum', Arithmetic', name_span, named_there}
use Rattle.kt_graph.specs.Sizes.{size, all_size, own_size, capped}
use Rattle.kt_graph.proofs.Walks.{stmts_more, exprs_more, pieces_more}
use Rattle.kt_graph.proofs.KindGroups.{no_part, two_parts, two_conditions}
use Rattle.kt_graph.proofs.Counts.{counted, all_counted, expr_counted, count_one, count_two, count_piece, own_alone}
use Rattle.kt_graph.proofs.count.+count.Goals as goal

pub expr-returns-in-Int : goal.expr-returns-in-Int
expr-returns-in-Int t c =
    let uses = named_at c.args.uses.now in
    let x = c.args.e.now in
    let b = c.args.branching in
    let leaf = no_part uses x c.in-Int.is in
    counted b leaf.is (c.own-in-Int.ensures ∙ own_alone _)

pub expr-returns-in-Name : goal.expr-returns-in-Name
expr-returns-in-Name t c =
    let uses = named_at c.args.uses.now in
    let x = c.args.e.now in
    let b = c.args.branching in
    counted b (tree_of_kind uses x _ _ c.in-Name.is (kind_name uses c.in-Name.field-0)) (c.name.ensures x.span)

pub expr-returns-in-Template : goal.expr-returns-in-Template
expr-returns-in-Template t c =
    let uses = named_at c.args.uses.now in
    let x = c.args.e.now in
    let b = c.args.branching in
    counted b (tree_of_kind uses x _ _ c.in-Template.is (kind_template uses c.in-Template.parts)) (c.add.ensures (own_size b) (all_size (inserted_of (map (piece uses) c.in-Template.parts))) c.own.ensures (all_counted (ap (λ l. inserted_of (map (piece uses) l)) (sym c.as_slice.ensures)) c.pieces.ensures))

pub expr-returns-in-Paren : goal.expr-returns-in-Paren
expr-returns-in-Paren t c =
    let uses = named_at c.args.uses.now in
    let x = c.args.e.now in
    let b = c.args.branching in
    counted b (tree_of_kind uses x _ _ c.in-Paren.is (kind_paren uses c.in-Paren.a)) (c.add-in-Paren.ensures 2 (size b (expr_tree uses c.in-Paren.a)) refl (expr_counted uses b c.get.ensures c.expr.ensures))

pub expr-returns-in-None : goal.expr-returns-in-None
expr-returns-in-None t c =
    let uses = named_at c.args.uses.now in
    let x = c.args.e.now in
    let b = c.args.branching in
    counted b (tree_of_kind uses x _ _ (c.in-Call.is ∙ ap (e.Call c.in-Call.callee c.in-Call.arguments) c.in-None.is) (kind_call uses c.in-Call.callee c.in-Call.arguments) ∙ ap (λ l. call_tree (uses x.number) (seen_trees (map (seen uses) l)) (named_there x.number x.span c.in-Call.callee.span)) (sym c.as_slice-in-None.ensures)) (c.call.ensures _ _)

pub expr-returns-in-Some : goal.expr-returns-in-Some
expr-returns-in-Some t c =
    let uses = named_at c.args.uses.now in
    let x = c.args.e.now in
    let b = c.args.branching in
    counted b (tree_of_kind uses x _ _ (c.in-Call.is ∙ ap (e.Call c.in-Call.callee c.in-Call.arguments) c.in-Some.is) (kind_call_with uses c.in-Call.callee c.in-Call.arguments _)) refl

pub expr-returns-in-Sign : goal.expr-returns-in-Sign
expr-returns-in-Sign t c =
    let uses = named_at c.args.uses.now in
    let x = c.args.e.now in
    let b = c.args.branching in
    let part = expr_tree uses c.in-Sign.a in
    counted b (tree_of_kind uses x _ _ c.in-Sign.is (kind_sign uses c.in-Sign.field-0 c.in-Sign.a)) (c.add-in-Sign.ensures (own_size b) (all_size (First' part Empty')) c.own-in-Sign.ensures (count_one part (expr_counted uses false c.get-in-Sign.ensures c.expr-in-Sign.ensures)))

pub expr-returns-in-Not : goal.expr-returns-in-Not
expr-returns-in-Not t c =
    let uses = named_at c.args.uses.now in
    let x = c.args.e.now in
    let b = c.args.branching in
    counted b (tree_of_kind uses x _ _ c.in-Not.is (kind_not uses c.in-Not.a)) (c.add-in-Not.ensures 2 (size true (expr_tree uses c.in-Not.a)) refl (expr_counted uses true c.get-in-Not.ensures c.expr-in-Not.ensures))

pub expr-returns-in-Sum : goal.expr-returns-in-Sum
expr-returns-in-Sum t c =
    let uses = named_at c.args.uses.now in
    let x = c.args.e.now in
    let b = c.args.branching in
    let left = expr_tree uses c.in-Sum.a in
    let right = expr_tree uses c.in-Sum.b in
    let both = two_parts uses x c.in-Sum.a c.in-Sum.b c.in-Sum.is in
    counted b both.is (c.add-in-Sum.ensures (own_size b) (all_size (First' left (First' right Empty'))) c.own-in-Sum.ensures (count_two left right c.add-parts-in-Sum.ensures (expr_counted uses false c.get-in-Sum.ensures c.expr-in-Sum.ensures) (expr_counted uses false c.get-in-Sum-2.ensures c.expr-in-Sum-2.ensures)))

pub expr-returns-in-And : goal.expr-returns-in-And
expr-returns-in-And t c =
    let uses = named_at c.args.uses.now in
    let x = c.args.e.now in
    let b = c.args.branching in
    let left = size true (expr_tree uses c.in-And.a) in
    let right = size true (expr_tree uses c.in-And.b) in
    c.add-in-And-2.ensures 2 (left + right) refl (c.add-in-And.ensures left right (expr_counted uses true c.get-in-And.ensures c.expr-in-And.ensures) (expr_counted uses true c.get-in-And-2.ensures c.expr-in-And-2.ensures)) ∙ sym (ap capped (two_conditions uses b x c.in-And.a c.in-And.b c.in-And.is))

pub expr-returns-in-If : goal.expr-returns-in-If
expr-returns-in-If t c =
    let uses = named_at c.args.uses.now in
    let x = c.args.e.now in
    let b = c.args.branching in
    let condition = size true (expr_tree uses c.in-If.condition) in
    let then = all_size (branch_trees uses c.in-If.then) in
    let other = all_size (otherwise (option_map (branch_trees uses) c.in-If.otherwise)) in
    counted b (tree_of_kind uses x _ _ c.in-If.is (kind_if_any uses c.in-If.condition c.in-If.then c.in-If.otherwise)) (c.add-in-If.ensures (own_size b) (condition + (then + other)) c.own-in-If.ensures (c.add-parts.ensures condition (then + other) (expr_counted uses true c.get-in-If-2.ensures c.expr-in-If.ensures) (c.add-branches.ensures then other (all_counted (ap (branch_trees uses) (sym c.get-in-If.ensures)) c.branch-uses.ensures) c.alternative.ensures)))

pub expr-returns-in-None-label : goal.expr-returns-in-None-label
expr-returns-in-None-label t c =
    let uses = named_at c.args.uses.now in
    let x = c.args.e.now in
    let b = c.args.branching in
    counted b (tree_of_kind uses x _ _ (c.in-Return.is ∙ ap (λ l. e.Return l c.in-Return.value) c.in-None-label.is) (kind_return_any uses c.in-Return.value)) (c.add-in-None-label.ensures 2 (all_size (seen_optional (option_map (seen uses) c.in-Return.value))) refl c.optional.ensures)

pub expr-returns-in-Some-label : goal.expr-returns-in-Some-label
expr-returns-in-Some-label t c =
    let uses = named_at c.args.uses.now in
    let x = c.args.e.now in
    let b = c.args.branching in
    counted b (tree_of_kind uses x _ _ (c.in-Return.is ∙ ap (λ l. e.Return l c.in-Return.value) c.in-Some-label.is) (kind_return_at_any uses _ c.in-Return.value)) refl

pub expr-returns-in-Throw : goal.expr-returns-in-Throw
expr-returns-in-Throw t c =
    let uses = named_at c.args.uses.now in
    let x = c.args.e.now in
    let b = c.args.branching in
    counted b (tree_of_kind uses x _ _ c.in-Throw.is (kind_throw uses c.in-Throw.a)) (c.add-in-Throw.ensures 2 (size false (expr_tree uses c.in-Throw.a)) refl (expr_counted uses false c.get-in-Throw.ensures c.expr-in-Throw.ensures))

pub expr-returns-in_default : goal.expr-returns-in_default
expr-returns-in_default t c =
    let uses = named_at c.args.uses.now in
    let x = c.args.e.now in
    let b = c.args.branching in
    let d = c.in_default in
    counted b (tree_of_kind uses x x.kind shut refl (kind_other uses x.kind d.not-Int d.not-Bool d.not-Null d.not-Name d.not-Template d.not-Paren d.not-Call d.not-Sign d.not-Not d.not-Sum d.not-Arithmetic d.not-Compare d.not-Equal d.not-And d.not-Or d.not-If d.not-Return d.not-Throw)) refl

pub statements-loop-i-init : goal.statements-loop-i-init
statements-loop-i-init t c = record {
  in_range = omega arith;
  counted = all_counted (ap (λ l. listed (map (stmt_tree (named_at c.args.uses.now)) l)) (drop_all (length c.args.statements.now) c.args.statements.now (omega arith))) refl;
}

pub statements-loop-i-preserved : goal.statements-loop-i-preserved
statements-loop-i-preserved t c = record {
  in_range = omega arith;
  counted = all_counted (stmts_more (named_at c.args.uses.now) c.args.statements.now c.loop-i.i (c.loop-i.i - 1) c.index-statements-i.result (omega arith) (omega arith) c.index-statements-i.is) (c.add-total.ensures (size false (stmt_tree (named_at c.args.uses.now) c.index-statements-i.result)) (all_size (listed (map (stmt_tree (named_at c.args.uses.now)) (drop c.loop-i.i c.args.statements.now)))) c.stmt-one.ensures c.loop-i.invariant.counted);
}

pub arguments-loop-i-init : goal.arguments-loop-i-init
arguments-loop-i-init t c = record {
  in_range = omega arith;
  counted = all_counted (ap (λ l. seen_trees (map (seen (named_at c.args.uses.now)) l)) (drop_all (length c.args.arguments.now) c.args.arguments.now (omega arith))) refl;
}

pub arguments-loop-i-preserved : goal.arguments-loop-i-preserved
arguments-loop-i-preserved t c = record {
  in_range = omega arith;
  counted = all_counted (exprs_more (named_at c.args.uses.now) c.args.arguments.now c.loop-i.i (c.loop-i.i - 1) c.index-arguments-i.result (omega arith) (omega arith) c.index-arguments-i.is) (c.add-total.ensures (size false (expr_tree (named_at c.args.uses.now) c.index-arguments-i.result)) (all_size (seen_trees (map (seen (named_at c.args.uses.now)) (drop c.loop-i.i c.args.arguments.now)))) c.expr-one.ensures c.loop-i.invariant.counted);
}

pub pieces-loop-i-init : goal.pieces-loop-i-init
pieces-loop-i-init t c = record {
  in_range = omega arith;
  counted = all_counted (ap (λ l. inserted_of (map (piece (named_at c.args.uses.now)) l)) (drop_all (length c.args.parts.now) c.args.parts.now (omega arith))) refl;
}

pub pieces-loop-i-preserved : goal.pieces-loop-i-preserved
pieces-loop-i-preserved t c = record {
  in_range = omega arith;
  counted = all_counted (pieces_more (named_at c.args.uses.now) c.args.parts.now c.loop-i.i (c.loop-i.i - 1) c.index-parts-i.result (omega arith) (omega arith) c.index-parts-i.is) (count_piece (piece (named_at c.args.uses.now) c.index-parts-i.result) _ c.add-total.ensures c.inserted-one.ensures c.loop-i.invariant.counted);
}

pub call-returns-in-Function : goal.call-returns-in-Function
call-returns-in-Function t c at word =
    counted c.args.branching (ap (λ m. call_tree m (seen_trees (map (seen (named_at c.args.uses.now)) c.args.parts.now)) (named_there c.args.tree at word)) (sym c.in-Function.ensures)) (c.add.ensures (own_size c.args.branching) (all_size (seen_trees (map (seen (named_at c.args.uses.now)) c.args.parts.now))) c.own-own.ensures c.arguments-parts.ensures)

pub call-returns-in-BuiltIn : goal.call-returns-in-BuiltIn
call-returns-in-BuiltIn t c at word =
    counted c.args.branching (ap (λ m. call_tree m (seen_trees (map (seen (named_at c.args.uses.now)) c.args.parts.now)) (named_there c.args.tree at word)) (sym c.in-BuiltIn.ensures)) (c.add-in-BuiltIn.ensures (own_size c.args.branching) (all_size (seen_trees (map (seen (named_at c.args.uses.now)) c.args.parts.now))) c.own-own-in-BuiltIn.ensures c.arguments-parts-in-BuiltIn.ensures)

pub inserted-returns-in-Text : goal.inserted-returns-in-Text
inserted-returns-in-Text t c =
    all_counted (ap (λ w. inserted_of (piece (named_at c.args.uses.now) w ∷ [])) c.in-Text.is ∙ ap (λ w. inserted_of (w ∷ [])) (piece_text (named_at c.args.uses.now) _)) refl

pub inserted-returns-in-Inserted : goal.inserted-returns-in-Inserted
inserted-returns-in-Inserted t c =
    all_counted (ap (λ w. inserted_of (piece (named_at c.args.uses.now) w ∷ [])) c.in-Inserted.is ∙ ap (λ w. inserted_of (w ∷ [])) (piece_inserted (named_at c.args.uses.now) _)) (count_one _ c.expr.ensures)

pub optional-returns-in-None : goal.optional-returns-in-None
optional-returns-in-None t c =
    all_counted (ap (λ w. seen_optional (option_map (seen (named_at c.args.uses.now)) w)) c.in-None.is) refl

pub optional-returns-in-Some : goal.optional-returns-in-Some
optional-returns-in-Some t c =
    all_counted (ap (λ w. seen_optional (option_map (seen (named_at c.args.uses.now)) w)) c.in-Some.is) (count_one _ (counted false (ap (expr_tree (named_at c.args.uses.now)) (sym c.get.ensures)) c.expr.ensures))

pub branch-returns-in-Braced : goal.branch-returns-in-Braced
branch-returns-in-Braced t c =
    all_counted (ap (branch_trees (named_at c.args.uses.now)) c.in-Braced.is ∙ branch_braced (named_at c.args.uses.now) _ ∙ block_list (named_at c.args.uses.now) _ ∙ ap (λ l. listed (map (stmt_tree (named_at c.args.uses.now)) l)) (sym c.as_slice.ensures)) c.statements.ensures

pub branch-returns-in-Single : goal.branch-returns-in-Single
branch-returns-in-Single t c =
    all_counted (ap (branch_trees (named_at c.args.uses.now)) c.in-Single.is ∙ branch_single (named_at c.args.uses.now) _) (count_one _ c.stmt.ensures)

pub alternative-returns-in-None : goal.alternative-returns-in-None
alternative-returns-in-None t c =
    all_counted (ap (λ w. otherwise (option_map (branch_trees (named_at c.args.uses.now)) w)) c.in-None.is) refl

pub alternative-returns-in-Some : goal.alternative-returns-in-Some
alternative-returns-in-Some t c =
    all_counted (ap (λ w. otherwise (option_map (branch_trees (named_at c.args.uses.now)) w)) c.in-Some.is ∙ ap (branch_trees (named_at c.args.uses.now)) (sym c.get.ensures)) c.branch-uses.ensures

pub stmt-returns-in-Expr : goal.stmt-returns-in-Expr
stmt-returns-in-Expr t c =
    counted false (ap (stmt_tree (named_at c.args.uses.now)) c.in-Expr.is ∙ stmt_expr (named_at c.args.uses.now) _) c.expr.ensures

pub stmt-returns-in-Local : goal.stmt-returns-in-Local
stmt-returns-in-Local t c =
    counted false (ap (stmt_tree (named_at c.args.uses.now)) c.in-Local.is ∙ stmt_local_any (named_at c.args.uses.now) _ _ _ _ _ _) (c.local.ensures _ _)

pub stmt-returns-in-Assign : goal.stmt-returns-in-Assign
stmt-returns-in-Assign t c =
    counted false (ap (stmt_tree (named_at c.args.uses.now)) c.in-Assign.is ∙ stmt_assign_any (named_at c.args.uses.now) _ _ _ _ _ ∙ ap (λ w. assign_tree (named_at c.args.uses.now c.in-Assign.number) c.in-Assign.number c.in-Assign.span w c.in-Assign.assignment (option_map (seen (named_at c.args.uses.now)) c.in-Assign.value)) (c.is_name-is_name.ensures (named_at c.args.uses.now))) (c.assign.ensures _ _)

pub stmt-returns-in-While : goal.stmt-returns-in-While
stmt-returns-in-While t c =
    counted false (ap (stmt_tree (named_at c.args.uses.now)) c.in-While.is ∙ stmt_while (named_at c.args.uses.now) _ _ _ _) refl

pub stmt-returns-in-DoWhile : goal.stmt-returns-in-DoWhile
stmt-returns-in-DoWhile t c =
    counted false (ap (stmt_tree (named_at c.args.uses.now)) c.in-DoWhile.is ∙ stmt_do_while (named_at c.args.uses.now) _ _ _ _) refl

pub stmt-returns-in-For : goal.stmt-returns-in-For
stmt-returns-in-For t c =
    counted false (ap (stmt_tree (named_at c.args.uses.now)) c.in-For.is ∙ stmt_for (named_at c.args.uses.now) _ _ _ _ _ _ _ _) refl

pub local-returns-in-None : goal.local-returns-in-None
local-returns-in-None t c at word =
    counted false (ap (λ w. local_tree w (named_there c.args.tree at word) (option_map (seen (named_at c.args.uses.now)) c.args.value.now)) (sym c.in-Variable.ensures) ∙ ap (λ w. local_tree (named.Variable c.in-Variable.field-0 c.in-Variable.field-1) (named_there c.args.tree at word) (option_map (seen (named_at c.args.uses.now)) w)) c.in-None.is) refl

pub local-returns-in-Some : goal.local-returns-in-Some
local-returns-in-Some t c at word =
    counted false (ap (λ w. local_tree w (named_there c.args.tree at word) (option_map (seen (named_at c.args.uses.now)) c.args.value.now)) (sym c.in-Variable.ensures) ∙ ap (λ w. local_tree (named.Variable c.in-Variable.field-0 c.in-Variable.field-1) (named_there c.args.tree at word) (option_map (seen (named_at c.args.uses.now)) w)) c.in-Some.is) (c.add.ensures 2 (size false (expr_tree (named_at c.args.uses.now) c.in-Some.e)) refl c.expr-a.ensures)

pub plain-returns-in-None : goal.plain-returns-in-None
plain-returns-in-None t c m x fixed =
    counted false (ap (λ w. assigned_tree m x fixed None (option_map (seen (named_at c.args.uses.now)) w)) c.in-None.is) refl

pub plain-returns-in-Some : goal.plain-returns-in-Some
plain-returns-in-Some t c m x fixed =
    counted false (ap (λ w. assigned_tree m x fixed None (option_map (seen (named_at c.args.uses.now)) w)) c.in-Some.is) (c.add.ensures 2 (size false (expr_tree (named_at c.args.uses.now) c.in-Some.e)) refl c.expr-a.ensures)

pub compound-returns-in-None : goal.compound-returns-in-None
compound-returns-in-None t c m x fixed o =
    counted false (ap (λ w. assigned_tree m x fixed (Some o) (option_map (seen (named_at c.args.uses.now)) w)) c.in-None.is) refl

pub compound-returns-in-Some : goal.compound-returns-in-Some
compound-returns-in-Some t c m x fixed o =
    counted false (ap (λ w. assigned_tree m x fixed (Some o) (option_map (seen (named_at c.args.uses.now)) w)) c.in-Some.is) (c.add.ensures 2 (all_size (First' (expr_tree (named_at c.args.uses.now) c.in-Some.e) Empty')) refl (count_one _ c.expr-a.ensures))

pub assign-returns-in-Sum : goal.assign-returns-in-Sum
assign-returns-in-Sum t c at word =
    counted false (ap (λ m. assign_tree m c.args.tree at (name_span c.args.is_name word) c.args.assignment (option_map (seen (named_at c.args.uses.now)) c.args.value.now)) (sym c.in-Variable.ensures) ∙ ap (λ b. assign_tree (named.Variable c.in-Variable.field-0 c.in-Variable.field-1) c.args.tree at (name_span b word) c.args.assignment (option_map (seen (named_at c.args.uses.now)) c.args.value.now)) c.if-not-is_name.false ∙ ap (λ a. assign_tree (named.Variable c.in-Variable.field-0 c.in-Variable.field-1) c.args.tree at (Some word) a (option_map (seen (named_at c.args.uses.now)) c.args.value.now)) c.in-Sum.is) (c.compound.ensures (named_there c.args.tree at word) c.in-Variable.field-0 c.in-Variable.field-1 Sum')

pub assign-returns-in-Arithmetic : goal.assign-returns-in-Arithmetic
assign-returns-in-Arithmetic t c at word =
    counted false (ap (λ m. assign_tree m c.args.tree at (name_span c.args.is_name word) c.args.assignment (option_map (seen (named_at c.args.uses.now)) c.args.value.now)) (sym c.in-Variable.ensures) ∙ ap (λ b. assign_tree (named.Variable c.in-Variable.field-0 c.in-Variable.field-1) c.args.tree at (name_span b word) c.args.assignment (option_map (seen (named_at c.args.uses.now)) c.args.value.now)) c.if-not-is_name.false ∙ ap (λ a. assign_tree (named.Variable c.in-Variable.field-0 c.in-Variable.field-1) c.args.tree at (Some word) a (option_map (seen (named_at c.args.uses.now)) c.args.value.now)) c.in-Arithmetic.is) (c.compound-in-Arithmetic.ensures (named_there c.args.tree at word) c.in-Variable.field-0 c.in-Variable.field-1 (Arithmetic' c.in-Arithmetic.field-0))
