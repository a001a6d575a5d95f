-- How a block ends: which of its trees may be exempt, and that a declaration or an assignment is never of type `Nothing`.
use Rattle.std.proofs.Common.{◌≡◌, ℕ, ◌&&◌, ◌||◌, Bool, true, false, not, List, [], ◌∷◌, ◌++◌, Option, Some, None, is_some, option_map, refl, sym, ap, ◌∙◌, subst}
use Rattle.std.specs.Prelude.{if◌then◌else◌, nat_le}
use Rattle.std.proofs.lemmas.Bool.{false≢true}
use Rattle.kt_tree.specs.declared.token.Span.{Span}
use Rattle.kt_tree.specs.declared.ast.part.Assignment.{Assignment}
use Rattle.kt_tree.specs.declared.ast.part.Assignment.TheVariants as assignment
use Rattle.kt_tree.specs.declared.ast.body.Expr.{Expr}
use Rattle.kt_tree.specs.declared.ast.body.ExprKind.{ExprKind}
use Rattle.kt_tree.specs.declared.ast.body.Branch.TheOpen.{ExprKind-F}
use Rattle.kt_tree.specs.declared.ast.body.Branch.TheViews as v
use Rattle.kt_tree.specs.declared.ast.body.Branch.TheFolds.{fold-roll-ExprKind}
use Rattle.kt_model.specs.declared.uses.Named.{Named}
use Rattle.kt_model.specs.declared.uses.Named.TheVariants as named
use Rattle.kt_model.specs.Classes.{Classes}
use Rattle.kt_model.specs.Scopes.{is_nothing_head}
use Rattle.kt_model.specs.BodyTrees.{Tree, Trees, Mark, Operation', Name', Paren', Not', And', Or', If', Declare', Local', Assign', Compound', Call', Return', Throw', Shut', listed, Piece, Seen, SeenKind, SeenBlock, name_tree, call_tree, local_tree, assign_tree, kind_step, stmt_step, branch_step, piece_step, block_step, expr_step, nothing, seen, seen_kind, stmt_tree, seen_block, seen_branch, piece, expr_tree}
use Rattle.kt_model.proofs.BodyFolds.{tree_of_kind}
use Rattle.kt_typing.specs.Typing.{TypeContext, LocalTypes, Each, Ways, Judgements, type_in, outcome, judged, all_judged, of_branch, branch_ways, end_way, never_ends, has_nothing, is_declaration_or_assignment, declaration_claim, assign_claim, compound_claim, kept_claim, kept, look_up, unit, operator_of, is_text, type_or_none, count}
use Rattle.kt_typing.specs.declared.claims.Operator.{Operator}
use Rattle.kt_typing.specs.declared.claims.Outcome.{Outcome}
use Rattle.kt_typing.specs.declared.claims.Outcome.TheVariants.{Stands, Refused, Untyped}
use Rattle.kt_typing.specs.declared.claims.Claim.{Claim}
use Rattle.kt_typing.specs.declared.claims.Claim.TheVariants.{Gives, Breaks, Lacks}
use Rattle.kt_typing.specs.declared.claims.Way.{Way}
use Rattle.kt_typing.specs.declared.claims.Way.TheVariants.{Unvalued}
use Rattle.kt_model.specs.declared.kinds.KtType.{KtType}
use Rattle.kt_infer.specs.declared.context.BodyContext.{BodyContext}
use Rattle.kt_infer.specs.Left.{declared_number, assigned_number, if_variable, never_left}
use Rattle.kt_infer.specs.Noting.{typing_of, never_ends_by}
use Rattle.kt_infer.proofs.Passing.{either_false, either_assoc, nothing_first}

-- ---- which trees declare or assign

no_declared_name : (m : Named) (n : ℕ) (at : Span) → declared_number (name_tree m n at) ≡ None
no_declared_name (named.Variable x fixed) n at = refl
no_declared_name (named.Function f returns) n at = refl
no_declared_name (named.BuiltIn name returns) n at = refl
no_declared_name named.Other n at = refl

no_declared_call : (m : Named) (parts : Trees) (n : Mark) → declared_number (call_tree m parts n) ≡ None
no_declared_call (named.Variable x fixed) parts n = refl
no_declared_call (named.Function f returns) parts n = refl
no_declared_call (named.BuiltIn name returns) parts n = refl
no_declared_call named.Other parts n = refl

no_declared_step : (uses : ℕ → Named) (k : ExprKind-F SeenBlock (Unit {0}) SeenKind Tree Piece SeenBlock (Unit {0}) Seen (Unit {0}) (Unit {0}) (Unit {0})) (n : ℕ) (at : Span)
    → declared_number ((kind_step uses k).tree_at n at) ≡ None
no_declared_step uses (ExprKind-F.Name x) n at = no_declared_name (uses n) n at
no_declared_step uses (ExprKind-F.Call callee arguments None) n at = no_declared_call (uses n) _ _
no_declared_step uses (ExprKind-F.Call callee arguments (Some f)) n at = refl
no_declared_step uses (ExprKind-F.Return None value) n at = refl
no_declared_step uses (ExprKind-F.Return (Some label) value) n at = refl
no_declared_step uses k n at = refl

no_declared_kind : (uses : ℕ → Named) (k : ExprKind) (n : ℕ) (at : Span) → declared_number ((seen_kind uses k).tree_at n at) ≡ None
unfolding seen seen_kind stmt_tree seen_block seen_branch piece
no_declared_kind uses k n at =
    subst (λ j. declared_number ((seen_kind uses j).tree_at n at) ≡ None) (v.roll-out-ExprKind k)
    (ap (λ (g : SeenKind). declared_number (g.tree_at n at)) (fold-roll-ExprKind SeenBlock (Unit {0}) SeenKind Tree Piece SeenBlock (Unit {0}) Seen (Unit {0}) (Unit {0}) (Unit {0}) branch_step nothing (kind_step uses) (stmt_step uses) piece_step block_step nothing expr_step nothing nothing nothing (v.out-ExprKind k))
    ∙ no_declared_step uses _ n at)

-- an expression
pub no_declared_expr : (uses : ℕ → Named) (x : Expr) → declared_number (expr_tree uses x) ≡ None
no_declared_expr uses x =
    ap declared_number (tree_of_kind uses x x.kind (seen_kind uses x.kind) refl refl) ∙ no_declared_kind uses x.kind x.number x.span

pub same_there : {A B : Type 0} (f : A → B) (x : Option A) → is_some (option_map f x) ≡ is_some x
same_there f (Some a) = refl
same_there f None = refl

-- the declaration of a local
pub declared_local : (m : Named) (n : Mark) (e : Option Seen) → if_variable m (Some n.number) ≡ declared_number (local_tree m n e)
declared_local (named.Variable x fixed) n None = refl
declared_local (named.Variable x fixed) n (Some e) = refl
declared_local (named.Function f returns) n e = refl
declared_local (named.BuiltIn name returns) n e = refl
declared_local named.Other n e = refl

-- an assignment of a name
pub declared_assign : (m : Named) (n : ℕ) (at word : Span) (a : Assignment) (e : Option Seen)
    → if_variable m (assigned_number a (is_some e) n) ≡ declared_number (assign_tree m n at (Some word) a e)
declared_assign (named.Variable x fixed) n at word assignment.Plain None = refl
declared_assign (named.Variable x fixed) n at word assignment.Plain (Some e) = refl
declared_assign (named.Variable x fixed) n at word assignment.Sum e = refl
declared_assign (named.Variable x fixed) n at word (assignment.Arithmetic o) e = refl
declared_assign (named.Function f returns) n at word a e = refl
declared_assign (named.BuiltIn name returns) n at word a e = refl
declared_assign named.Other n at word a e = refl

-- whether a block never ends, as the code finds it
pub never_by_number : (body : BodyContext) (any : Bool) (t : Tree) → never_left body.left.now any (declared_number t) ≡ never_ends_by (typing_of body) any t
never_by_number body any (Operation' n o parts) = refl
never_by_number body any (Name' n at x) = refl
never_by_number body any (Paren' n e) = refl
never_by_number body any (Not' n e) = refl
never_by_number body any (And' n a b) = refl
never_by_number body any (Or' n a b) = refl
never_by_number body any (If' n braces c a b) = refl
never_by_number body any (Declare' n x) = refl
never_by_number body any (Local' n at x e) = refl
never_by_number body any (Assign' n at x fixed e) = refl
never_by_number body any (Compound' n at x fixed o operand) = refl
never_by_number body any (Call' n f returns arguments) = refl
never_by_number body any (Return' n value) = refl
never_by_number body any (Throw' n e) = refl
never_by_number body any (Shut' n) = refl

-- ---- a declaration or an assignment is never of type `Nothing`

abbrev is_harmless : Claim → Bool
is_harmless (Gives t) = not (is_nothing_head t.head && not t.nullable)
is_harmless _ = true

not_so : (b : Bool) → not b ≡ true → (b || false) ≡ false
not_so true h = absurd (false≢true h)
not_so false h = refl

no_nothing : (classes : Classes) (at : Span) (k : Bool) (claim : Claim) → is_harmless claim ≡ true → has_nothing (type_in (outcome classes Unvalued at k claim) ∷ []) ≡ false
no_nothing classes at false claim h = refl
no_nothing classes at true (Gives t) h = not_so (is_nothing_head t.head && not t.nullable) h
no_nothing classes at true (Breaks rule place) h = refl
no_nothing classes at true Lacks h = refl

harmless_declaration : (n : Mark) (before behind : Option (Option KtType)) → is_harmless (declaration_claim n before behind) ≡ true
harmless_declaration n None (Some t) = refl
harmless_declaration n None None = refl
harmless_declaration n (Some t) behind = refl

harmless_assignment : (word : Span) (target : Option (Option KtType)) → is_harmless (assign_claim word target) ≡ true
harmless_assignment word None = refl
harmless_assignment word (Some t) = refl

harmless_kept : (o : Outcome) → is_harmless (kept o) ≡ true
harmless_kept (Stands t) = refl
harmless_kept (Refused rule at) = refl
harmless_kept Untyped = refl

harmless_kept_claim : (classes : Classes) (n : Mark) (d : KtType) (t : Option KtType) → is_harmless (kept_claim classes n d t) ≡ true
harmless_kept_claim classes n d None = refl
harmless_kept_claim classes n d (Some t) = harmless_kept _

harmless_either : (b : Bool) (x y : Claim) → is_harmless x ≡ true → is_harmless y ≡ true → is_harmless (if b then x else y) ≡ true
harmless_either true x y h k = h
harmless_either false x y h k = k

harmless_compound : (cx : TypeContext) (n : Mark) (o : Option Operator) (t : Option KtType) (k : ℕ) → is_harmless (compound_claim cx n o t k) ≡ true
harmless_compound cx n None t k = refl
harmless_compound cx n (Some o) t k = harmless_either (nat_le k 1) _ _ (harmless_kept_claim cx.classes n o.gives t) refl

declared_no_nothing : (cx : TypeContext) (L : LocalTypes) (t : Tree) → is_declaration_or_assignment t ≡ true → has_nothing ((judged cx Unvalued L t).found ∷ []) ≡ false
unfolding judged
declared_no_nothing cx L (Declare' n x) h = no_nothing cx.classes n.span true (Gives unit) refl
declared_no_nothing cx L (Local' n at x e) h = no_nothing cx.classes n.span _ _ (harmless_declaration n (look_up L x) _)
declared_no_nothing cx L (Assign' n at x fixed e) h = no_nothing cx.classes n.span _ _ (harmless_assignment n.word (look_up L x))
declared_no_nothing cx L (Compound' n at x fixed o operand) h = no_nothing cx.classes n.span _ _ (harmless_compound cx n (operator_of o (is_text (type_or_none (look_up L x)))) (type_or_none (look_up L x)) (count operand))
declared_no_nothing cx L (Operation' n o parts) h = absurd (false≢true h)
declared_no_nothing cx L (Name' n at x) h = absurd (false≢true h)
declared_no_nothing cx L (Paren' n e) h = absurd (false≢true h)
declared_no_nothing cx L (Not' n e) h = absurd (false≢true h)
declared_no_nothing cx L (And' n a b) h = absurd (false≢true h)
declared_no_nothing cx L (Or' n a b) h = absurd (false≢true h)
declared_no_nothing cx L (If' n braces c a b) h = absurd (false≢true h)
declared_no_nothing cx L (Call' n f returns arguments) h = absurd (false≢true h)
declared_no_nothing cx L (Return' n value) h = absurd (false≢true h)
declared_no_nothing cx L (Throw' n e) h = absurd (false≢true h)
declared_no_nothing cx L (Shut' n) h = absurd (false≢true h)

-- ---- so it is asked of the trees before the last alone

by_last_tree : (cx : TypeContext) (found : List (Option KtType)) (us : List Tree) (t : Tree) → never_ends cx found (listed (us ++ t ∷ [])) ≡ never_ends_by cx (has_nothing found) t
by_last_tree cx found [] t = refl
by_last_tree cx found (u ∷ []) t = refl
by_last_tree cx found (u ∷ v ∷ us) t = by_last_tree cx found (v ∷ us) t

nothing_among : (cx : TypeContext) (us : List Tree) (t : Tree) (L : LocalTypes)
    → has_nothing (all_judged cx (Each Unvalued) L (listed (us ++ t ∷ []))).each_found
    ≡ (has_nothing (all_judged cx (Each Unvalued) L (listed us)).each_found || has_nothing ((judged cx Unvalued (all_judged cx (Each Unvalued) L (listed us)).locals t).found ∷ []))
unfolding judged
nothing_among cx [] t L = refl
nothing_among cx (u ∷ us) t L =
    let x = judged cx Unvalued L u in
    let front = all_judged cx (Each Unvalued) x.locals (listed us) in
    nothing_first x.found (all_judged cx (Each Unvalued) x.locals (listed (us ++ t ∷ []))).each_found
    ∙ ap (λ b. has_nothing (x.found ∷ []) || b) (nothing_among cx us t x.locals)
    ∙ either_assoc (has_nothing (x.found ∷ [])) (has_nothing front.each_found) (has_nothing ((judged cx Unvalued front.locals t).found ∷ []))
    ∙ ap (λ b. b || has_nothing ((judged cx Unvalued front.locals t).found ∷ [])) (sym (nothing_first x.found front.each_found))

same_if_declared : (d a b z : Bool) → (d ≡ true → b ≡ false) → (d && ((a || b) && z)) ≡ (d && (a && z))
same_if_declared true a b z h = ap (λ c. (a || c) && z) (h refl) ∙ ap (λ c. c && z) (either_false a)
same_if_declared false a b z h = refl

branch_of : (cx : TypeContext) (way : Way) (at : Option Span) (us : List Tree) (t : Tree) (L : LocalTypes) (judge : Ways → Judgements)
    → of_branch cx way at (listed (us ++ t ∷ [])) L judge
    ≡ judge (branch_ways (end_way (never_ends cx (judge (Each Unvalued)).each_found (listed (us ++ t ∷ []))) way) (listed (us ++ t ∷ [])))
branch_of cx way at [] t L judge = refl
branch_of cx way at (u ∷ us) t L judge = refl

-- what is said of the trees of a branch, by the trees before its last
pub branch_by_leading : (cx : TypeContext) (way : Way) (at : Option Span) (us : List Tree) (t : Tree) (L : LocalTypes) {any : Bool}
    → any ≡ has_nothing (all_judged cx (Each Unvalued) L (listed us)).each_found
    → of_branch cx way at (listed (us ++ t ∷ [])) L (λ ways. all_judged cx ways L (listed (us ++ t ∷ [])))
    ≡ all_judged cx (branch_ways (end_way (never_ends_by cx any t) way) (listed (us ++ t ∷ []))) L (listed (us ++ t ∷ []))
branch_by_leading cx way at us t L {any} is =
    let ts = listed (us ++ t ∷ []) in
    let front = all_judged cx (Each Unvalued) L (listed us) in
    let own = has_nothing ((judged cx Unvalued front.locals t).found ∷ []) in
    let says = λ (b : Bool). all_judged cx (branch_ways (end_way b way) ts) L ts in
    branch_of cx way at us t L (λ ways. all_judged cx ways L ts)
    ∙ ap says (by_last_tree cx (all_judged cx (Each Unvalued) L ts).each_found us t)
    ∙ ap (λ b. says (never_ends_by cx b t)) (nothing_among cx us t L)
    ∙ ap says (same_if_declared (is_declaration_or_assignment t) (has_nothing front.each_found) own _ (declared_no_nothing cx front.locals t))
    ∙ ap (λ b. says (never_ends_by cx b t)) (sym is)
