use Rattle.std.proofs.Common.{◌≡◌, ◌∙◌, ◌++◌, length, take, ap, sym, refl, map, [], ◌∷◌, Some, None, arith, option_map, ◌&&◌, is_some, true, false}
use Rattle.std.proofs.lemmas.List.{nil_from_length, length-take-le, get_or-take}
use Rattle.std.proofs.Math.Seq.{take-append_seam}
use Rattle.std.proofs.lemmas.Option.{MatchOption-at_none}
use Rattle.kt_model.specs.NameUses.{named_at, declaration_type}
use Rattle.kt_model.specs.BodyTrees.{whole, named_there, shut, expr_tree, piece, seen, seen_trees, inserted_of, call_tree, Int', Bool', Null', Sum', Arithmetic', stmt_tree, listed, assign_tree, local_tree, compound_of, assigned_tree, seen_optional, Return', braces_there, branch_trees, if_braces, otherwise, seen_branch, SeenBlock}
use Rattle.kt_typing.specs.Typing.{int, left_way, right_way, all_judged, Each, look_up, known_type, value_way, declared, initialised, declaration_claim, type_or_none, assign_claim, is_text, operator_of, count, compound_claim, boolean, bare_return, equality_demand, demand_if}
use Rattle.kt_typing.specs.declared.claims.Claim.TheVariants.{Gives, Breaks}
use Rattle.kt_typing.specs.declared.claims.Way.TheVariants.{Unvalued, Plain, Checked}
use Rattle.kt_model.specs.declared.finding.Rule.TheVariants.{Syntax}
use Rattle.kt_model.proofs.BodyFolds.{tree_of_kind, kind_int, kind_bool, kind_null, kind_name, kind_template, kind_paren, kind_call, kind_call_with, kind_sign, kind_sum, kind_arithmetic, kind_compare, kind_equal, kind_not, kind_and, kind_or, kind_if_any, kind_throw, kind_other, piece_text, piece_inserted, stmt_expr, stmt_local_any, stmt_assign_any, stmt_while, stmt_do_while, stmt_for, kind_return_any, kind_return_at_any, branch_braced, branch_single, block_list, seen_braced, seen_single, seen_list}
use Rattle.kt_infer.specs.Demands.{as_ways}
use Rattle.kt_infer.specs.Left.{never_left}
use Rattle.kt_infer.specs.Noting.{typing_of}
use Rattle.kt_infer.proofs.Passing.{judges_of, same_tree, every, same_such, same_judgements, same_complete_of, one, ends, ends_in, judges_in, opened_if, same_keeps, encloses, begin_branch, begin_leading, one_branch, no_branch, same_branch, same_leading, assigned_as, nothing, few, same_old, same_ways, as_valued}
use Rattle.kt_infer.proofs.Ends.{opens_joined, opens_going, opens_ended, last_more, last_alone, no_last, empty_last, same_last, trees_behind}
use Rattle.kt_infer.proofs.BlockEnds.{never_by_number}
use Rattle.kt_infer.proofs.Loops.{next_statement, no_statement_left, next_leading, no_leading_left, next_argument, no_argument_left, next_piece, no_piece_left}
use Rattle.kt_infer.proofs.OtherNames.{no_call, no_local, no_word, no_target}
use Rattle.kt_infer.proofs.Forms.{opens_shut, opens_leaf, opens_throw, opens_if, returns_bare, returns_value, opens_not, opens_and, opens_or, opens_compare, opens_equal, opens_sign, opens_template, opens_binary, text_operator, sum_valued, opens_call, opens_built_in, opens_declare, opens_local, opens_assign, opens_compound}
use Rattle.kt_tree.specs.declared.ast.body.ExprKind.TheVariants as e
use Rattle.kt_model.specs.declared.uses.Named.TheVariants as named
use Rattle.kt_infer.proofs.notes.Notes.+typing.Goals as goal

pub expr-returns : goal.expr-returns
expr-returns t c =
    ends c.args.way (sym c.is_valued.ensures) c.in_ok-expression.ensures c.in_ok-found.ensures

pub open-returns-in-Int : goal.open-returns-in-Int
open-returns-in-Int t c =
    let uses = named_at c.args.body.now.uses.now in
    every c.args.valued (tree_of_kind uses c.args.e.now _ _ c.in-Int.is (kind_int uses c.in-Int.field-0))
    (opens_leaf (typing_of c.args.body.now) c.args.self.now (whole c.args.e.now.number c.args.e.now.span) (Int' c.in-Int.field-0) (Gives int) (λ text far. refl) c.literal.ensures)

pub open-returns-in-Bool : goal.open-returns-in-Bool
open-returns-in-Bool t c =
    let uses = named_at c.args.body.now.uses.now in
    every c.args.valued (tree_of_kind uses c.args.e.now _ _ c.in-Bool.is (kind_bool uses c.in-Bool.field-0))
    (opens_leaf (typing_of c.args.body.now) c.args.self.now (whole c.args.e.now.number c.args.e.now.span) (Bool' c.in-Bool.field-0) (Gives boolean) (λ text far. refl) c.literal-in-Bool.ensures)

pub open-returns-in-Null : goal.open-returns-in-Null
open-returns-in-Null t c =
    let uses = named_at c.args.body.now.uses.now in
    every c.args.valued (tree_of_kind uses c.args.e.now _ _ c.in-Null.is (kind_null uses))
    (opens_leaf (typing_of c.args.body.now) c.args.self.now (whole c.args.e.now.number c.args.e.now.span) Null' (Breaks Syntax c.args.e.now.span) (λ text far. refl) c.shut.ensures)

pub open-returns-in-Name : goal.open-returns-in-Name
open-returns-in-Name t c =
    every c.args.valued (tree_of_kind (named_at c.args.body.now.uses.now) c.args.e.now _ _ c.in-Name.is (kind_name (named_at c.args.body.now.uses.now) c.in-Name.field-0)) c.name.ensures

pub open-returns-in_ok-complete-in-Template : goal.open-returns-in_ok-complete-in-Template
open-returns-in_ok-complete-in-Template t c =
    let uses = named_at c.args.body.now.uses.now in
    let cx = typing_of c.args.body.now in
    every c.args.valued (tree_of_kind uses c.args.e.now _ _ c.in-Template.is (kind_template uses c.in-Template.parts))
    (opens_template cx (whole c.args.e.now.number c.args.e.now.span) (map (piece uses) c.in-Template.parts)
    (same_judgements (ap (λ l. all_judged cx (Each Plain) c.args.self.now.locals.entries (inserted_of (map (piece uses) l))) (sym c.as_slice.ensures)) c.in_ok-complete-in-Template.ensures) c.opened_tree.ensures)

pub open-returns-in_ok-enclosed-in-Paren : goal.open-returns-in_ok-enclosed-in-Paren
open-returns-in_ok-enclosed-in-Paren t c =
    let uses = named_at c.args.body.now.uses.now in
    every c.args.valued (tree_of_kind uses c.args.e.now _ _ c.in-Paren.is (kind_paren uses c.in-Paren.a))
    (encloses (whole c.args.e.now.number c.args.e.now.span) (same_such (ap (expr_tree uses) (sym c.get.ensures)) c.in_ok-inner-in-Paren.ensures) refl c.in_ok-enclosed-in-Paren.ensures)

pub open-returns-in_ok-call-in-None : goal.open-returns-in_ok-call-in-None
open-returns-in_ok-call-in-None t c =
    let uses = named_at c.args.body.now.uses.now in
    every c.args.valued (tree_of_kind uses c.args.e.now _ _ (c.in-Call.is ∙ ap (e.Call c.in-Call.callee c.in-Call.arguments) c.in-None.is) (kind_call uses c.in-Call.callee c.in-Call.arguments))
    (same_tree (ap (λ l. call_tree (uses c.args.e.now.number) (seen_trees (map (seen uses) l)) (named_there c.args.e.now.number c.args.e.now.span c.in-Call.callee.span)) (sym c.as_slice-in-None.ensures)) c.in_ok-call-in-None.ensures)

pub open-returns-in-Some : goal.open-returns-in-Some
open-returns-in-Some t c =
    let uses = named_at c.args.body.now.uses.now in
    every c.args.valued (tree_of_kind uses c.args.e.now _ _ (c.in-Call.is ∙ ap (e.Call c.in-Call.callee c.in-Call.arguments) c.in-Some.is) (kind_call_with uses c.in-Call.callee c.in-Call.arguments _))
    (opens_shut (typing_of c.args.body.now) c.args.self.now (whole c.args.e.now.number c.args.e.now.span) c.shut-in-Some.ensures)

pub choice-returns-in-Throw : goal.choice-returns-in-Throw
choice-returns-in-Throw t c h k j =
    let uses = named_at c.args.body.now.uses.now in
    every c.args.valued (tree_of_kind uses c.args.e.now _ _ c.in-Throw.is (kind_throw uses c.in-Throw.field-0)) (opens_throw (typing_of c.args.body.now) c.args.self.now (whole c.args.e.now.number c.args.e.now.span) _ c.shut-in-Throw.ensures)

pub open-returns-in_ok-other-in_default : goal.open-returns-in_ok-other-in_default
open-returns-in_ok-other-in_default t c =
    c.in_ok-other-in_default.ensures (record {
      no_int = c.in_default.not-Int;
      no_bool = c.in_default.not-Bool;
      no_null = c.in_default.not-Null;
      no_name = c.in_default.not-Name;
      no_template = c.in_default.not-Template;
      no_paren = c.in_default.not-Paren;
      no_call = c.in_default.not-Call;
    })

pub operation-returns-in_ok-other-in_default : goal.operation-returns-in_ok-other-in_default
operation-returns-in_ok-other-in_default t c h =
    c.in_ok-other-in_default.ensures h (record {
      no_sign = c.in_default.not-Sign;
      no_sum = c.in_default.not-Sum;
      no_arithmetic = c.in_default.not-Arithmetic;
      no_compare = c.in_default.not-Compare;
      no_equal = c.in_default.not-Equal;
    })

pub logic-returns-in_ok-other-in_default : goal.logic-returns-in_ok-other-in_default
logic-returns-in_ok-other-in_default t c h k =
    c.in_ok-other-in_default.ensures h k (record { no_not = c.in_default.not-Not; no_and = c.in_default.not-And; no_or = c.in_default.not-Or })

pub choice-returns-in_default : goal.choice-returns-in_default
choice-returns-in_default t c h k j =
    let uses = named_at c.args.body.now.uses.now in
    every c.args.valued (tree_of_kind uses c.args.e.now c.args.e.now.kind shut refl (kind_other uses c.args.e.now.kind h.no_int h.no_bool h.no_null h.no_name h.no_template h.no_paren h.no_call k.no_sign j.no_not k.no_sum k.no_arithmetic k.no_compare k.no_equal j.no_and j.no_or c.in_default.not-If c.in_default.not-Return c.in_default.not-Throw))
    (opens_shut (typing_of c.args.body.now) c.args.self.now (whole c.args.e.now.number c.args.e.now.span) c.shut-in_default.ensures)

pub operation-returns-in_ok-found-in-Sign : goal.operation-returns-in_ok-found-in-Sign
operation-returns-in_ok-found-in-Sign t c h =
    let uses = named_at c.args.body.now.uses.now in
    every c.args.valued (tree_of_kind uses c.args.e.now _ _ c.in-Sign.is (kind_sign uses c.in-Sign.field-0 c.in-Sign.a))
    (opens_sign (typing_of c.args.body.now) (whole c.args.e.now.number c.args.e.now.span) c.in-Sign.field-0 (expr_tree uses c.in-Sign.a) (judges_of (typing_of c.args.body.now) uses (Checked int) c.get.ensures c.in_ok-found-in-Sign.ensures) c.unary.ensures)

pub logic-returns-in_ok-found-in-Not : goal.logic-returns-in_ok-found-in-Not
logic-returns-in_ok-found-in-Not t c h k =
    let uses = named_at c.args.body.now.uses.now in
    every c.args.valued (tree_of_kind uses c.args.e.now _ _ c.in-Not.is (kind_not uses c.in-Not.a))
    (opens_not (typing_of c.args.body.now) (whole c.args.e.now.number c.args.e.now.span) (expr_tree uses c.in-Not.a) (judges_of (typing_of c.args.body.now) uses (Checked boolean) c.get.ensures c.in_ok-found-in-Not.ensures) c.unary.ensures)

pub operation-returns-in_ok-right-in-Compare : goal.operation-returns-in_ok-right-in-Compare
operation-returns-in_ok-right-in-Compare t c h =
    let uses = named_at c.args.body.now.uses.now in
    every c.args.valued (tree_of_kind uses c.args.e.now _ _ c.in-Compare.is (kind_compare uses c.in-Compare.field-0 c.in-Compare.a c.in-Compare.b))
    (opens_compare (typing_of c.args.body.now) (whole c.args.e.now.number c.args.e.now.span) c.in-Compare.field-0 (expr_tree uses c.in-Compare.a) (expr_tree uses c.in-Compare.b)
    (judges_of (typing_of c.args.body.now) uses (Checked int) c.get-in-Compare.ensures c.in_ok-left-in-Compare.ensures)
    (judges_of (typing_of c.args.body.now) uses (Checked int) c.get-in-Compare-2.ensures c.in_ok-right-in-Compare.ensures)
    c.pair.ensures)

pub operation-returns-in_ok-right-in-Equal : goal.operation-returns-in_ok-right-in-Equal
operation-returns-in_ok-right-in-Equal t c h =
    let uses = named_at c.args.body.now.uses.now in
    let n = whole c.args.e.now.number c.args.e.now.span in
    every c.args.valued (tree_of_kind uses c.args.e.now _ _ c.in-Equal.is (kind_equal uses c.in-Equal.field-0 c.in-Equal.a c.in-Equal.b))
    (opens_equal (typing_of c.args.body.now) n c.in-Equal.field-0 (expr_tree uses c.in-Equal.a) (expr_tree uses c.in-Equal.b)
    (judges_of (typing_of c.args.body.now) uses (Plain) c.get-in-Equal.ensures c.in_ok-left-in-Equal.ensures)
    (judges_of (typing_of c.args.body.now) uses (Plain) c.get-in-Equal-2.ensures c.in_ok-right-in-Equal.ensures)
    (c.equality_claim-claim.ensures n refl ∙ ap (λ far. (equality_demand far (demand_if true n (Each Plain) boolean) n).claim) c.apart.ensures) c.pair-in-Equal.ensures)

pub logic-returns-in_ok-right-in-And : goal.logic-returns-in_ok-right-in-And
logic-returns-in_ok-right-in-And t c h k =
    let uses = named_at c.args.body.now.uses.now in
    every c.args.valued (tree_of_kind uses c.args.e.now _ _ c.in-And.is (kind_and uses c.in-And.a c.in-And.b))
    (opens_and (typing_of c.args.body.now) (whole c.args.e.now.number c.args.e.now.span) (expr_tree uses c.in-And.a) (expr_tree uses c.in-And.b)
    (judges_of (typing_of c.args.body.now) uses (Checked boolean) c.get-in-And.ensures c.in_ok-left-in-And.ensures)
    (judges_of (typing_of c.args.body.now) uses (Checked boolean) c.get-in-And-2.ensures c.in_ok-right-in-And.ensures)
    c.pair.ensures)

pub logic-returns-in_ok-right-in-Or : goal.logic-returns-in_ok-right-in-Or
logic-returns-in_ok-right-in-Or t c h k =
    let uses = named_at c.args.body.now.uses.now in
    every c.args.valued (tree_of_kind uses c.args.e.now _ _ c.in-Or.is (kind_or uses c.in-Or.a c.in-Or.b))
    (opens_or (typing_of c.args.body.now) (whole c.args.e.now.number c.args.e.now.span) (expr_tree uses c.in-Or.a) (expr_tree uses c.in-Or.b)
    (judges_of (typing_of c.args.body.now) uses (Checked boolean) c.get-in-Or.ensures c.in_ok-left-in-Or.ensures)
    (judges_of (typing_of c.args.body.now) uses (Checked boolean) c.get-in-Or-2.ensures c.in_ok-right-in-Or.ensures)
    c.pair-in-Or.ensures)

pub operation-returns-in_ok-right-in-Sum : goal.operation-returns-in_ok-right-in-Sum
operation-returns-in_ok-right-in-Sum t c h =
    let uses = named_at c.args.body.now.uses.now in
    let n = whole c.args.e.now.number c.args.e.now.span in
    every c.args.valued (tree_of_kind uses c.args.e.now _ _ c.in-Sum.is (kind_sum uses c.in-Sum.a c.in-Sum.b))
    (opens_binary (typing_of c.args.body.now) n Sum' c.sum_operator-operator.result (expr_tree uses c.in-Sum.a) (expr_tree uses c.in-Sum.b) (λ text far. refl)
    (text_operator (same_such (ap (expr_tree uses) (sym c.get-in-Sum.ensures)) c.in_ok-first-in-Sum.ensures) c.sum_operator-operator.ensures)
    (ends_in (left_way c.sum_operator-operator.result) (sum_valued _ c.sum_operator-operator.ensures) c.left_way.ensures (same_such (ap (expr_tree uses) (sym c.get-in-Sum.ensures)) c.in_ok-first-in-Sum.ensures) c.in_ok-left-in-Sum.ensures)
    (judges_in (typing_of c.args.body.now) (expr_tree uses c.in-Sum.b) (right_way c.sum_operator-operator.result) c.right_way.ensures (judges_of (typing_of c.args.body.now) uses _ c.get-in-Sum-2.ensures c.in_ok-right-in-Sum.ensures))
    (c.binary.ensures n refl refl))

pub operation-returns-in_ok-right-in-Arithmetic : goal.operation-returns-in_ok-right-in-Arithmetic
operation-returns-in_ok-right-in-Arithmetic t c h =
    let uses = named_at c.args.body.now.uses.now in
    let n = whole c.args.e.now.number c.args.e.now.span in
    every c.args.valued (tree_of_kind uses c.args.e.now _ _ c.in-Arithmetic.is (kind_arithmetic uses c.in-Arithmetic.o c.in-Arithmetic.a c.in-Arithmetic.b))
    (opens_binary (typing_of c.args.body.now) n (Arithmetic' c.in-Arithmetic.o) c.arithmetic_operator-operator.result (expr_tree uses c.in-Arithmetic.a) (expr_tree uses c.in-Arithmetic.b) (λ text far. refl)
    (c.arithmetic_operator-operator.ensures false)
    (judges_in (typing_of c.args.body.now) (expr_tree uses c.in-Arithmetic.a) (left_way c.arithmetic_operator-operator.result) c.left_way-in-Arithmetic.ensures (judges_of (typing_of c.args.body.now) uses _ c.get-in-Arithmetic.ensures c.in_ok-left-in-Arithmetic.ensures))
    (judges_in (typing_of c.args.body.now) (expr_tree uses c.in-Arithmetic.b) (right_way c.arithmetic_operator-operator.result) c.right_way-in-Arithmetic.ensures (judges_of (typing_of c.args.body.now) uses _ c.get-in-Arithmetic-2.ensures c.in_ok-right-in-Arithmetic.ensures))
    (c.binary-in-Arithmetic.ensures n refl refl))

pub choice-returns-then-valued : goal.choice-returns-then-valued
choice-returns-then-valued t c h k j =
    as_valued (sym c.if-valued.true) (c.in_ok-joined-in-If.ensures _ _ _ c.in-If.is)

pub joining-returns-in_ok-opened-in-If : goal.joining-returns-in_ok-opened-in-If
joining-returns-in_ok-opened-in-If t c d x y is =
    let uses = named_at c.args.body.now.uses.now in
    same_such (tree_of_kind uses c.args.e.now _ _ c.in-If.is (kind_if_any uses c.in-If.condition c.in-If.then c.in-If.otherwise))
    (opens_joined (typing_of c.args.body.now) c.args.e.now.number c.args.e.now.span (if_braces uses c.in-If.then c.in-If.otherwise) (expr_tree uses c.in-If.condition) (branch_trees uses c.in-If.then) (otherwise (option_map (branch_trees uses) c.in-If.otherwise))
    (judges_of (typing_of c.args.body.now) uses (Checked boolean) c.get.ensures c.in_ok-typed-in-If.ensures)
    (same_last (ap (λ b. (seen_branch uses b).braces) (sym c.get-in-If.ensures)) (ap (branch_trees uses) (sym c.get-in-If.ensures)) c.in_ok-first-in-If.ensures) c.exchange-before.ensures c.nothing_between-nothing.ensures.rows c.nothing_between-nothing.ensures.findings
    c.in_ok-second-in-If.ensures c.exchange-between.ensures c.is_some-complete.ensures c.in_ok-opened-in-If.ensures)

pub joining-returns-in_default : goal.joining-returns-in_default
joining-returns-in_default t c d x y is = absurd (c.in_default.not-If d x y is)

pub ending-returns-in_ok-last-in-Braced : goal.ending-returns-in_ok-last-in-Braced
ending-returns-in_ok-last-in-Braced t c =
    let uses = named_at c.args.body.now.uses.now in
    same_last (ap (λ b. (seen_branch uses b).braces) c.in-Braced.is ∙ ap (λ (s : SeenBlock). s.braces) (seen_braced uses _ ∙ seen_list uses _))
    (ap (branch_trees uses) c.in-Braced.is ∙ branch_braced uses _ ∙ block_list uses _ ∙ ap (λ l. listed (map (stmt_tree uses) l)) (sym c.as_slice.ensures)) c.in_ok-last-in-Braced.ensures

pub ending-returns-in_ok-last-in-Single : goal.ending-returns-in_ok-last-in-Single
ending-returns-in_ok-last-in-Single t c =
    let uses = named_at c.args.body.now.uses.now in
    same_last (ap (λ b. (seen_branch uses b).braces) c.in-Single.is ∙ ap (λ (s : SeenBlock). s.braces) (seen_single uses _))
    (ap (branch_trees uses) c.in-Single.is ∙ branch_single uses _) (last_alone (typing_of c.args.body.now) (stmt_tree uses c.in-Single.s) c.in_ok-last-in-Single.ensures)

pub other_ending-returns-in_ok-last-in-Some : goal.other_ending-returns-in_ok-last-in-Some
other_ending-returns-in_ok-last-in-Some t c =
    let uses = named_at c.args.body.now.uses.now in
    same_last (ap (λ w. braces_there (option_map (seen_branch uses) w)) c.in-Some.is ∙ ap (λ b. (seen_branch uses b).braces) (sym c.get.ensures))
    (ap (λ w. otherwise (option_map (branch_trees uses) w)) c.in-Some.is ∙ ap (branch_trees uses) (sym c.get.ensures)) c.in_ok-last-in-Some.ensures

pub other_ending-returns-in-None : goal.other_ending-returns-in-None
other_ending-returns-in-None t c =
    same_last (ap (λ w. braces_there (option_map (seen_branch (named_at c.args.body.now.uses.now)) w)) c.in-None.is)
    (ap (λ w. otherwise (option_map (branch_trees (named_at c.args.body.now.uses.now)) w)) c.in-None.is) (no_last (typing_of c.args.body.now) c.args.self.now)

pub last-returns-in-None : goal.last-returns-in-None
last-returns-in-None t c =
    same_last refl (ap (λ l. listed (map (stmt_tree (named_at c.args.body.now.uses.now)) l)) (nil_from_length c.args.statements.now (MatchOption-at_none _ _ c.in-None.is c.split_last.ensures.cases)))
    (empty_last (typing_of c.args.body.now) c.args.self.now c.args.braces)

pub last-returns-in_ok-last-in-Some : goal.last-returns-in_ok-last-in-Some
last-returns-in_ok-last-in-Some t c =
    let uses = named_at c.args.body.now.uses.now in
    let cx = typing_of c.args.body.now in
    let xs = c.args.statements.now in
    let before = c.in-Some.before.now in
    let s = c.in-Some.s.now in
    let is : xs ≡ before ++ s ∷ [] = c.in-Some.ensures.cases.0 in
    let front : take (length before) xs ≡ before = ap (take (length before)) is ∙ take-append_seam before (s ∷ []) in
    same_last refl (ap (λ l. listed (map (stmt_tree uses) l)) is ∙ ap listed (trees_behind uses before s))
    (last_more cx (map (stmt_tree uses) before) (stmt_tree uses s)
    (same_leading cx (ap (λ l. listed (map (stmt_tree uses) l)) (sym front)) c.in_ok-nothing-in-Some.ensures)
    c.in_ok-last-in-Some.ensures)

pub block_end-returns-in_ok-found : goal.block_end-returns-in_ok-found
block_end-returns-in_ok-found t c =
    let body = c.args.body.now in
    let tree = stmt_tree (named_at body.uses.now) c.args.s.now in
    opens_ended (typing_of body)
    (sym (never_by_number body c.args.nothing tree) ∙ ap (never_left body.left.now c.args.nothing) (sym c.declared_number-number.ensures) ∙ sym c.never_left.ensures ∙ c.if-never_left.true)
    c.in_ok-found.ensures

pub block_end-returns-in_ok-last : goal.block_end-returns-in_ok-last
block_end-returns-in_ok-last t c =
    let body = c.args.body.now in
    let tree = stmt_tree (named_at body.uses.now) c.args.s.now in
    opens_going (typing_of body)
    (sym (never_by_number body c.args.nothing tree) ∙ ap (never_left body.left.now c.args.nothing) (sym c.declared_number-number.ensures) ∙ sym c.never_left.ensures ∙ c.if-never_left.false)
    c.in_ok-last.ensures

pub leading-loop-place-init : goal.leading-loop-place-init
leading-loop-place-init t c = begin_leading c.args.self.now _

pub leading-loop-place-preserved : goal.leading-loop-place-preserved
leading-loop-place-preserved t c =
    let xs = take c.args.count c.args.statements.now in
    let i = c.loop-place.place in
    let x = c.index-statements-place.result in
    let long : length xs ≡ c.args.count = length-take-le c.args.count c.args.statements.now c.requires in
    next_leading (typing_of c.args.body.now) (named_at c.args.body.now.uses.now) xs i x (omega arith)
    (c.index-statements-place.is ∙ sym (get_or-take c.args.count c.args.statements.now i x (omega arith))) c.loop-place.invariant c.in_ok-found.ensures c.nothing_so_far-nothing.ensures

pub leading-returns : goal.leading-returns
leading-returns t c =
    let xs = take c.args.count c.args.statements.now in
    let long : length xs ≡ c.args.count = length-take-le c.args.count c.args.statements.now c.requires in
    no_leading_left (typing_of c.args.body.now) (named_at c.args.body.now.uses.now) xs c.loop-place.place (omega arith) c.loop-place.invariant

pub choice-returns-in_ok-second-in-If : goal.choice-returns-in_ok-second-in-If
choice-returns-in_ok-second-in-If t c h k j =
    let uses = named_at c.args.body.now.uses.now in
    same_such (tree_of_kind uses c.args.e.now _ _ c.in-If.is (kind_if_any uses c.in-If.condition c.in-If.then c.in-If.otherwise))
    (opens_if (typing_of c.args.body.now) (whole c.args.e.now.number c.args.e.now.span) (if_braces uses c.in-If.then c.in-If.otherwise) (expr_tree uses c.in-If.condition) (branch_trees uses c.in-If.then) (otherwise (option_map (branch_trees uses) c.in-If.otherwise)) c.if-valued.false
    (judges_of (typing_of c.args.body.now) uses (Checked boolean) c.get.ensures c.in_ok-found-in-If.ensures)
    (same_branch (typing_of c.args.body.now) (ap (branch_trees uses) (sym c.get-in-If.ensures)) c.in_ok-first-in-If.ensures)
    c.in_ok-second-in-If.ensures
    (opened_if (c.both-complete.ensures ∙ ap (λ k. k && c.both.result) c.is_some.ensures ∙ ap (λ k. is_some c.in_ok-found-in-If.found && k) c.both.ensures) c.opened_tree.ensures))

pub choice-returns-in_ok-leaving-in-None : goal.choice-returns-in_ok-leaving-in-None
choice-returns-in_ok-leaving-in-None t c h k j =
    let uses = named_at c.args.body.now.uses.now in
    every c.args.valued (tree_of_kind uses c.args.e.now _ _ (c.in-Return.is ∙ ap (λ l. e.Return l c.in-Return.value) c.in-None.is) (kind_return_any uses c.in-Return.value)) c.in_ok-leaving-in-None.ensures

pub choice-returns-in-Some : goal.choice-returns-in-Some
choice-returns-in-Some t c h k j =
    let uses = named_at c.args.body.now.uses.now in
    every c.args.valued (tree_of_kind uses c.args.e.now _ _ (c.in-Return.is ∙ ap (λ l. e.Return l c.in-Return.value) c.in-Some.is) (kind_return_at_any uses _ c.in-Return.value))
    (opens_shut (typing_of c.args.body.now) c.args.self.now (whole c.args.e.now.number c.args.e.now.span) c.shut.ensures)

pub call-returns-in_ok-complete-in-Function : goal.call-returns-in_ok-complete-in-Function
call-returns-in_ok-complete-in-Function t c =
    let uses = named_at c.args.body.now.uses.now in
    let n = named_there c.args.number c.args.span c.args.word in
    same_tree (ap (λ m. call_tree m (seen_trees (map (seen uses) c.args.arguments.now)) n) (sym c.in-Function.ensures))
    (opens_call (typing_of c.args.body.now) n c.in-Function.f c.in-Function.field-1 c.args.body.now.uses.now uses c.args.arguments.now c.function_signature-signature.result c.demanded-demand.result
    c.function_signature-signature.ensures (c.demanded-demand.ensures c.args.body.now.uses.now n refl refl) c.in_ok-complete-in-Function.ensures c.opened_tree.ensures)

pub call-returns-in_ok-complete-in-BuiltIn : goal.call-returns-in_ok-complete-in-BuiltIn
call-returns-in_ok-complete-in-BuiltIn t c =
    let uses = named_at c.args.body.now.uses.now in
    let n = named_there c.args.number c.args.span c.args.word in
    same_tree (ap (λ m. call_tree m (seen_trees (map (seen uses) c.args.arguments.now)) n) (sym c.in-BuiltIn.ensures))
    (opens_built_in (typing_of c.args.body.now) n c.in-BuiltIn.name c.in-BuiltIn.field-1 c.args.body.now.uses.now uses c.args.arguments.now c.built_in_signature-signature.result c.demanded-demand-in-BuiltIn.result
    (c.built_in_signature-signature.ensures c.args.body.now.uses.now) (c.demanded-demand-in-BuiltIn.ensures c.args.body.now.uses.now n refl refl) c.in_ok-complete-in-BuiltIn.ensures c.opened_tree-in-BuiltIn.ensures)

pub call-returns-in_default : goal.call-returns-in_default
call-returns-in_default t c =
    let parts = seen_trees (map (seen (named_at c.args.body.now.uses.now)) c.args.arguments.now) in
    let n = named_there c.args.number c.args.span c.args.word in
    same_tree (ap (λ m. call_tree m parts n) (sym c.named.ensures) ∙ no_call c.named.result parts n c.in_default.not-Function c.in_default.not-BuiltIn)
    (opens_shut (typing_of c.args.body.now) c.args.self.now (named_there c.args.number c.args.span c.args.word) c.shut.ensures)

pub arguments-loop-place-preserved : goal.arguments-loop-place-preserved
arguments-loop-place-preserved t c =
    next_argument (typing_of c.args.body.now) (named_at c.args.body.now.uses.now) c.args.arguments.now (as_ways c.args.body.now.uses.now c.args.ways) c.loop-place.place c.index-arguments-place.result (omega arith) c.index-arguments-place.is
    c.loop-place.invariant c.at-way.ensures c.in_ok-found.ensures c.still-complete.ensures

pub arguments-returns : goal.arguments-returns
arguments-returns t c =
    no_argument_left (typing_of c.args.body.now) (named_at c.args.body.now.uses.now) c.args.arguments.now (as_ways c.args.body.now.uses.now c.args.ways) c.loop-place.place (omega arith) c.loop-place.invariant

pub pieces-loop-part-preserved : goal.pieces-loop-part-preserved
pieces-loop-part-preserved t c =
    next_piece (typing_of c.args.body.now) (named_at c.args.body.now.uses.now) c.args.parts.now Plain c.loop-part.part-index c.part-item.result (omega arith) c.part-item.is c.loop-part.invariant c.in_ok-typed.ensures c.both-complete.ensures

pub pieces-returns : goal.pieces-returns
pieces-returns t c =
    no_piece_left (typing_of c.args.body.now) (named_at c.args.body.now.uses.now) c.args.parts.now Plain c.loop-part.part-index (omega arith) c.loop-part.invariant

pub inserted-returns-in-Text : goal.inserted-returns-in-Text
inserted-returns-in-Text t c =
    let uses = named_at c.args.body.now.uses.now in
    let cx = typing_of c.args.body.now in
    same_judgements (ap (λ p. all_judged cx (Each Plain) c.args.self.now.locals.entries (inserted_of (p ∷ []))) (ap (piece uses) c.in-Text.is ∙ piece_text uses _)) (nothing cx c.args.self.now (Each Plain))

pub inserted-returns-in_ok-found-in-Inserted : goal.inserted-returns-in_ok-found-in-Inserted
inserted-returns-in_ok-found-in-Inserted t c =
    let uses = named_at c.args.body.now.uses.now in
    let cx = typing_of c.args.body.now in
    same_judgements (ap (λ p. all_judged cx (Each Plain) c.args.self.now.locals.entries (inserted_of (p ∷ []))) (ap (piece uses) c.in-Inserted.is ∙ piece_inserted uses _))
    (same_complete_of c.is_some.ensures (one cx (expr_tree uses c.in-Inserted.e) (Each Plain) c.in_ok-found-in-Inserted.ensures))

pub leave-returns-in-None : goal.leave-returns-in-None
leave-returns-in-None t c =
    same_tree (ap (λ w. Return' (whole c.args.number c.args.span) (seen_optional (option_map (seen (named_at c.args.body.now.uses.now)) w))) c.in-None.is)
    (returns_bare (typing_of c.args.body.now) c.args.self.now (whole c.args.number c.args.span)
    (c.bare_return-claim.ensures (whole c.args.number c.args.span) refl ∙ ap (λ r. bare_return r (whole c.args.number c.args.span)) c.owner_result-gives.ensures) c.opened_tree.ensures)

pub leave-returns-in_ok-found-in-Some : goal.leave-returns-in_ok-found-in-Some
leave-returns-in_ok-found-in-Some t c =
    let uses = named_at c.args.body.now.uses.now in
    let cx = typing_of c.args.body.now in
    same_tree (ap (λ w. Return' (whole c.args.number c.args.span) (seen_optional (option_map (seen uses) w))) c.in-Some.is)
    (returns_value cx (whole c.args.number c.args.span) (expr_tree uses c.in-Some.e)
    (judges_in cx (expr_tree uses c.in-Some.e) (value_way cx.result) (c.value_way.ensures ∙ ap value_way c.owner_result-gives.ensures) (judges_of cx uses _ c.get.ensures c.in_ok-found-in-Some.ensures)) c.unary.ensures)

pub branch-returns-in_ok-typed-in-Braced : goal.branch-returns-in_ok-typed-in-Braced
branch-returns-in_ok-typed-in-Braced t c =
    let uses = named_at c.args.body.now.uses.now in
    same_branch (typing_of c.args.body.now) (ap (branch_trees uses) c.in-Braced.is ∙ branch_braced uses _ ∙ block_list uses _ ∙ ap (λ l. listed (map (stmt_tree uses) l)) (sym c.as_slice.ensures)) c.in_ok-typed-in-Braced.ensures

pub branch-returns-in_ok-found-in-Single : goal.branch-returns-in_ok-found-in-Single
branch-returns-in_ok-found-in-Single t c =
    let uses = named_at c.args.body.now.uses.now in
    let cx = typing_of c.args.body.now in
    same_branch cx (ap (branch_trees uses) c.in-Single.is ∙ branch_single uses _)
    (same_complete_of c.is_some.ensures (one_branch cx (stmt_tree uses c.in-Single.s) (Each Unvalued) c.in_ok-found-in-Single.ensures))

pub otherwise-returns-in_ok-typed-in-Some : goal.otherwise-returns-in_ok-typed-in-Some
otherwise-returns-in_ok-typed-in-Some t c =
    let uses = named_at c.args.body.now.uses.now in
    same_branch (typing_of c.args.body.now) (ap (λ w. otherwise (option_map (branch_trees uses) w)) c.in-Some.is ∙ ap (branch_trees uses) (sym c.get.ensures)) c.in_ok-typed-in-Some.ensures

pub otherwise-returns-in-None : goal.otherwise-returns-in-None
otherwise-returns-in-None t c =
    let cx = typing_of c.args.body.now in
    same_branch cx (ap (λ w. otherwise (option_map (branch_trees (named_at c.args.body.now.uses.now)) w)) c.in-None.is) (no_branch cx c.args.self.now (Each Unvalued))

pub statements-loop-s-preserved : goal.statements-loop-s-preserved
statements-loop-s-preserved t c =
    next_statement (typing_of c.args.body.now) (named_at c.args.body.now.uses.now) c.args.statements.now c.loop-s.s-index c.s-item.result (omega arith) c.s-item.is c.loop-s.invariant c.in_ok-found.ensures c.is_some-complete.ensures

pub statements-returns : goal.statements-returns
statements-returns t c =
    no_statement_left (typing_of c.args.body.now) (named_at c.args.body.now.uses.now) c.args.statements.now c.loop-s.s-index (omega arith) c.loop-s.invariant

pub statements-loop-s-init : goal.statements-loop-s-init
statements-loop-s-init t c =
    begin_branch c.args.self.now _

pub stmt-returns : goal.stmt-returns
stmt-returns t c =
    ends Unvalued refl c.in_ok-statement.ensures c.in_ok-found.ensures

pub statement-returns-in_ok-expression-in-Expr : goal.statement-returns-in_ok-expression-in-Expr
statement-returns-in_ok-expression-in-Expr t c =
    let uses = named_at c.args.body.now.uses.now in same_such (ap (stmt_tree uses) c.in-Expr.is ∙ stmt_expr uses _) c.in_ok-expression-in-Expr.ensures

pub statement-returns-in_ok-local-in-Local : goal.statement-returns-in_ok-local-in-Local
statement-returns-in_ok-local-in-Local t c =
    let uses = named_at c.args.body.now.uses.now in every c.args.valued (ap (stmt_tree uses) c.in-Local.is ∙ stmt_local_any uses _ _ _ _ _ _) c.in_ok-local-in-Local.ensures

pub statement-returns-in_ok-assigned-in-Assign : goal.statement-returns-in_ok-assigned-in-Assign
statement-returns-in_ok-assigned-in-Assign t c =
    let uses = named_at c.args.body.now.uses.now in
    every c.args.valued (ap (stmt_tree uses) c.in-Assign.is ∙ stmt_assign_any uses _ _ _ _ _
    ∙ ap (λ w. assign_tree (uses c.in-Assign.number) c.in-Assign.number c.in-Assign.span w c.in-Assign.assignment (option_map (seen uses) c.in-Assign.value)) (c.name_of-word.ensures uses)) c.in_ok-assigned-in-Assign.ensures

pub statement-returns-in-While : goal.statement-returns-in-While
statement-returns-in-While t c =
    let uses = named_at c.args.body.now.uses.now in
    every c.args.valued (ap (stmt_tree uses) c.in-While.is ∙ stmt_while uses _ _ _ _) (opens_shut (typing_of c.args.body.now) c.args.self.now (whole c.in-While.number c.in-While.span) c.shut.ensures)

pub statement-returns-in-DoWhile : goal.statement-returns-in-DoWhile
statement-returns-in-DoWhile t c =
    let uses = named_at c.args.body.now.uses.now in
    every c.args.valued (ap (stmt_tree uses) c.in-DoWhile.is ∙ stmt_do_while uses _ _ _ _) (opens_shut (typing_of c.args.body.now) c.args.self.now (whole c.in-DoWhile.number c.in-DoWhile.span) c.shut-in-DoWhile.ensures)

pub statement-returns-in-For : goal.statement-returns-in-For
statement-returns-in-For t c =
    let uses = named_at c.args.body.now.uses.now in
    every c.args.valued (ap (stmt_tree uses) c.in-For.is ∙ stmt_for uses _ _ _ _ _ _ _ _) (opens_shut (typing_of c.args.body.now) c.args.self.now (whole c.in-For.number c.in-For.span) c.shut-in-For.ensures)

pub local-returns-in_ok-declare-in-None : goal.local-returns-in_ok-declare-in-None
local-returns-in_ok-declare-in-None t c =
    let uses = named_at c.args.body.now.uses.now in
    let n = named_there c.args.number c.args.span c.args.word in
    same_tree (ap (λ m. local_tree m n (option_map (seen uses) c.args.value.now)) (sym c.in-Variable.ensures) ∙ ap (λ w. local_tree (named.Variable c.in-Variable.x c.in-Variable.field-1) n (option_map (seen uses) w)) c.in-None.is)
    (opens_declare (typing_of c.args.body.now) n c.in-Variable.x
    (same_keeps (ap (declared c.args.self.now.locals.entries c.in-Variable.x) c.written-written.ensures) c.in_ok-declare-in-None.ensures) c.opened_tree.ensures)

pub local-returns-in_ok-initialise-in-Some : goal.local-returns-in_ok-initialise-in-Some
local-returns-in_ok-initialise-in-Some t c =
    let uses = named_at c.args.body.now.uses.now in
    let cx = typing_of c.args.body.now in
    let n = named_there c.args.number c.args.span c.args.word in
    let x = c.in-Variable.x in
    let L = c.args.self.now.locals.entries in
    let w = declaration_type c.args.body.now.uses.now x in
    same_tree (ap (λ m. local_tree m n (option_map (seen uses) c.args.value.now)) (sym c.in-Variable.ensures) ∙ ap (λ v. local_tree (named.Variable x c.in-Variable.field-1) n (option_map (seen uses) v)) c.in-Some.is)
    (opens_local cx n c.args.word x (expr_tree uses c.in-Some.e)
    (judges_in cx (expr_tree uses c.in-Some.e) (value_way (known_type (look_up L x) w))
    (c.value_way-way.ensures ∙ ap value_way (c.known_type-known.ensures ∙ ap (λ l. known_type l c.written-written-in-Some.result) c.look_up-before.ensures ∙ ap (known_type (look_up L x)) c.written-written-in-Some.ensures)) c.in_ok-found-in-Some.ensures)
    (same_keeps (ap (λ v. initialised c.expr.new.self.locals.entries x v c.in_ok-found-in-Some.found) c.written-written-in-Some.ensures) c.in_ok-initialise-in-Some.ensures)
    (c.declaration_claim-claim.ensures n refl ∙ ap (λ l. declaration_claim n l c.look_up-behind.result) c.look_up-before.ensures ∙ ap (declaration_claim n (look_up L x)) c.look_up-behind.ensures)
    (opened_if c.is_some.ensures c.opened_tree-in-Some.ensures))

pub local-returns-in_default : goal.local-returns-in_default
local-returns-in_default t c =
    let uses = named_at c.args.body.now.uses.now in
    let n = named_there c.args.number c.args.span c.args.word in
    same_tree (ap (λ m. local_tree m n (option_map (seen uses) c.args.value.now)) (sym c.named.ensures) ∙ no_local c.named.result n (option_map (seen uses) c.args.value.now) c.in_default.not-Variable)
    (opens_shut (typing_of c.args.body.now) c.args.self.now n c.shut.ensures)

pub assign-returns-in_ok-named-in-Some : goal.assign-returns-in_ok-named-in-Some
assign-returns-in_ok-named-in-Some t c =
    let uses = named_at c.args.body.now.uses.now in
    same_tree (ap (λ w. assign_tree (uses c.args.number) c.args.number c.args.span w c.args.assignment (option_map (seen uses) c.args.value.now)) c.in-Some.is) c.in_ok-named-in-Some.ensures

pub assign-returns-in-None : goal.assign-returns-in-None
assign-returns-in-None t c =
    let uses = named_at c.args.body.now.uses.now in
    same_tree (ap (λ w. assign_tree (uses c.args.number) c.args.number c.args.span w c.args.assignment (option_map (seen uses) c.args.value.now)) c.in-None.is ∙ no_word (uses c.args.number) c.args.number c.args.span c.args.assignment (option_map (seen uses) c.args.value.now))
    (opens_shut (typing_of c.args.body.now) c.args.self.now (whole c.args.number c.args.span) c.shut.ensures)

pub assign_name-returns-in_ok-plain-in-Plain : goal.assign_name-returns-in_ok-plain-in-Plain
assign_name-returns-in_ok-plain-in-Plain t c =
    same_tree (assigned_as c.args.number c.args.span (Some c.args.word) (option_map (seen (named_at c.args.body.now.uses.now)) c.args.value.now) c.in-Variable.ensures c.in-Plain.is)
    (c.in_ok-plain-in-Plain.ensures c.in-Variable.field-1)

pub assign_name-returns-in_ok-made-in-Sum : goal.assign_name-returns-in_ok-made-in-Sum
assign_name-returns-in_ok-made-in-Sum t c =
    same_tree (assigned_as c.args.number c.args.span (Some c.args.word) (option_map (seen (named_at c.args.body.now.uses.now)) c.args.value.now) c.in-Variable.ensures c.in-Sum.is)
    (c.in_ok-made-in-Sum.ensures c.in-Variable.field-1 Sum' (ap compound_of c.in-Sum.is))

pub assign_name-returns-in_ok-made-in-Arithmetic : goal.assign_name-returns-in_ok-made-in-Arithmetic
assign_name-returns-in_ok-made-in-Arithmetic t c =
    same_tree (assigned_as c.args.number c.args.span (Some c.args.word) (option_map (seen (named_at c.args.body.now.uses.now)) c.args.value.now) c.in-Variable.ensures c.in-Arithmetic.is)
    (c.in_ok-made-in-Arithmetic.ensures c.in-Variable.field-1 (Arithmetic' c.in-Arithmetic.field-0) (ap compound_of c.in-Arithmetic.is))

pub assign_name-returns-in_default : goal.assign_name-returns-in_default
assign_name-returns-in_default t c =
    let v = option_map (seen (named_at c.args.body.now.uses.now)) c.args.value.now in
    same_tree (ap (λ m. assign_tree m c.args.number c.args.span (Some c.args.word) c.args.assignment v) (sym c.named.ensures) ∙ no_target c.named.result c.args.number c.args.span (Some c.args.word) c.args.assignment v c.in_default.not-Variable)
    (opens_shut (typing_of c.args.body.now) c.args.self.now (whole c.args.number c.args.span) c.shut.ensures)

pub plain-returns-in_ok-found-in-Some : goal.plain-returns-in_ok-found-in-Some
plain-returns-in_ok-found-in-Some t c fixed =
    let uses = named_at c.args.body.now.uses.now in
    let cx = typing_of c.args.body.now in
    let n = named_there c.args.number c.args.span c.args.word in
    let target = look_up c.args.self.now.locals.entries c.args.x in
    same_tree (ap (λ w. assigned_tree n c.args.x fixed None (option_map (seen uses) w)) c.in-Some.is)
    (opens_assign cx n c.args.word c.args.x fixed (expr_tree uses c.in-Some.e)
    (judges_in cx (expr_tree uses c.in-Some.e) (value_way (type_or_none target)) (c.value_way-way.ensures ∙ ap value_way (c.type_or_none-t.ensures ∙ ap type_or_none c.look_up-target.ensures)) c.in_ok-found-in-Some.ensures)
    (c.assign_claim-claim.ensures ∙ ap (assign_claim c.args.word) c.look_up-target.ensures) (opened_if c.is_some.ensures c.opened_tree.ensures))

pub plain-returns-in-None : goal.plain-returns-in-None
plain-returns-in-None t c fixed =
    let n = named_there c.args.number c.args.span c.args.word in
    same_tree (ap (λ w. assigned_tree n c.args.x fixed None (option_map (seen (named_at c.args.body.now.uses.now)) w)) c.in-None.is) (opens_shut (typing_of c.args.body.now) c.args.self.now n c.shut.ensures)

pub operand-returns-in_ok-found-in-Some : goal.operand-returns-in_ok-found-in-Some
operand-returns-in_ok-found-in-Some t c =
    let uses = named_at c.args.body.now.uses.now in
    let cx = typing_of c.args.body.now in
    same_judgements (ap (λ w. all_judged cx (Each c.args.way) c.args.self.now.locals.entries (seen_optional (option_map (seen uses) w))) c.in-Some.is)
    (same_complete_of c.is_some.ensures (one cx (expr_tree uses c.in-Some.e) (Each c.args.way) c.in_ok-found-in-Some.ensures))

pub operand-returns-in-None : goal.operand-returns-in-None
operand-returns-in-None t c =
    let cx = typing_of c.args.body.now in
    same_judgements (ap (λ w. all_judged cx (Each c.args.way) c.args.self.now.locals.entries (seen_optional (option_map (seen (named_at c.args.body.now.uses.now)) w))) c.in-None.is) (nothing cx c.args.self.now (Each c.args.way))

pub compound-returns : goal.compound-returns
compound-returns t c fixed o is =
    let uses = named_at c.args.body.now.uses.now in
    let cx = typing_of c.args.body.now in
    let n = named_there c.args.number c.args.span c.args.word in
    let old = look_up c.args.self.now.locals.entries c.args.x in
    let operator = c.operator_of-operator.result in
    let t = c.type_or_none-t.ensures ∙ ap type_or_none c.look_up-local.ensures in
    opens_compound cx n c.args.word c.args.x fixed o operator (seen_optional (option_map (seen uses) c.args.value.now))
    (sym (ap (operator_of o) (c.is_text-text.ensures ∙ ap is_text t)) ∙ c.operator_of-operator.ensures o is)
    (same_old cx c.args.word c.left_way-left.ensures c.look_up-local.ensures c.in_ok-old.ensures)
    (same_ways cx (seen_optional (option_map (seen uses) c.args.value.now)) c.right_way-right.ensures c.in_ok-operand.ensures)
    (few (compound_claim cx n operator c.type_or_none-t.result) c.made_claim-claim.result (option_map (seen uses) c.args.value.now) (c.made_claim-claim.ensures.without cx n refl refl) (c.made_claim-claim.ensures.with_one cx n refl refl)
    ∙ ap (λ u. compound_claim cx n operator u (count (seen_optional (option_map (seen uses) c.args.value.now)))) t)
    (opened_if (c.both-complete.ensures ∙ ap (λ b. b && c.in_ok-operand.operand) c.is_some.ensures) c.opened_tree.ensures)
