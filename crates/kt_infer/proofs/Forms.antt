-- How each form of tree is opened, once its parts are typed.
use Rattle.std.proofs.Common.{◌≡◌, ◌==◌, ℕ, suc, ◌&&◌, Bool, true, false, List, [], ◌∷◌, ◌++◌, length, map, Option, Some, None, is_some, refl, sym, ap, ◌∙◌, append_assoc}
use Rattle.std.proofs.lemmas.Bool.{false≢true, eq-eqb}
use Rattle.std.specs.Option.{option_map}
use Rattle.kt_tree.specs.declared.token.Span.{Span}
use Rattle.kt_tree.specs.declared.ast.part.Sign.{Sign}
use Rattle.kt_tree.specs.declared.ast.part.Comparison.{Comparison}
use Rattle.kt_tree.specs.declared.ast.part.Equality.{Equality}
use Rattle.kt_tree.specs.declared.ast.body.Expr.{Expr}
use Rattle.kt_model.specs.declared.uses.Named.{Named}
use Rattle.kt_model.specs.BuiltIns.{built_in_named}
use Rattle.kt_model.specs.NameUses.{Resolved}
use Rattle.kt_model.specs.BodyTrees.{Tree, Trees, Mark, Braces, whole, Operation, Operation', Name', Not', And', Or', If', Declare', Local', Assign', Compound', Call', Return', Throw', Shut', Empty', First', Template', Sum', Sign', Compare', Equal', BuiltIn', Piece, Text', Inserted', texts_of, inserted_of, seen, seen_trees}
use Rattle.kt_typing.specs.Typing.{TypeContext, LocalTypes, Each, Then, Judgements, no_trees, in_front, alone, closed, type_in, have_types, judged, all_judged, int, string, unit, look_up, declared, initialised, known_type, value_way, type_or_none, declaration_claim, assign_claim, name_claim, old_value, compound_claim, boolean, nothing as nothing_type, branched, apart, equality_demand, demand_if, bare_return, operation_demand, operator_demand, operator_of, call_demand, count, places, is_text, left_way, right_way, sum_operator, built_in_signature}
use Rattle.kt_typing.specs.declared.claims.Operator.{Operator}
use Rattle.kt_model.specs.declared.finding.Rule.TheVariants.{Syntax}
use Rattle.kt_infer.specs.declared.calls.Signature.{Signature}
use Rattle.kt_infer.specs.declared.calls.Demand.{Demand}
use Rattle.kt_infer.specs.Demands.{as_ways, as_signature, as_demand}
use Rattle.kt_model.specs.declared.kinds.KtType.{KtType}
use Rattle.kt_typing.specs.declared.claims.Way.{Way}
use Rattle.kt_typing.specs.declared.claims.Way.TheVariants.{Unvalued, Plain, Inferred, Checked}
use Rattle.kt_typing.specs.declared.claims.Claim.{Claim}
use Rattle.kt_typing.specs.declared.claims.Claim.TheVariants.{Gives, Breaks}
use Rattle.kt_infer.specs.Noting.{Keeps, Judges, JudgesAll, OpensIn, Opens, OpensAs, is_valued, by_last}
use Rattle.kt_infer.specs.Opening.{IsOpened, is_tree, outcome_of}
use Rattle.kt_infer.specs.declared.notes.Notes.{Notes}
use Rattle.kt_infer.specs.declared.notes.Opened.{Opened}
use Rattle.kt_infer.proofs.Passing.{same_judgements, none, changed, front, only, one, two, first, opens_in, opens, typed_end}

pub opens_shut : (cx : TypeContext) (a : Notes) (n : Mark) {o : Opened} → IsOpened o n.number n.span true (Breaks Syntax n.span) → Opens cx a a (Shut' n) o
unfolding judged
opens_shut cx a n q = opens cx (Shut' n) n (no_trees a.locals.entries) (Breaks Syntax n.span) (λ way. refl) (none a) refl q

pub opens_name : (cx : TypeContext) (a : Notes) (n : ℕ) (at : Span) (x : ℕ) {o : Opened} {made : Claim}
    → made ≡ name_claim at (look_up a.locals.entries x) → IsOpened o n at true made → Opens cx a a (Name' (whole n at) at x) o
unfolding judged
opens_name cx a n at x m q = opens cx (Name' (whole n at) at x) (whole n at) (no_trees a.locals.entries) (name_claim at (look_up a.locals.entries x)) (λ way. refl) (none a) m q

-- an operation without parts
pub opens_leaf : (cx : TypeContext) (a : Notes) (n : Mark) (operation : Operation) (claim : Claim) {o : Opened}
    → ((text apart : Bool) → (operation_demand n operation text apart 0).claim ≡ claim) → IsOpened o n.number n.span true claim → Opens cx a a (Operation' n operation Empty') o
unfolding judged
opens_leaf cx a n operation claim e q =
    opens cx (Operation' n operation Empty') n (no_trees a.locals.entries) claim (λ way. ap (closed cx way n (no_trees a.locals.entries)) (e false false)) (none a) refl q

-- the other forms that are not open
pub opens_throw : (cx : TypeContext) (a : Notes) (n : Mark) (e : Tree) {o : Opened} → IsOpened o n.number n.span true (Breaks Syntax n.span) → Opens cx a a (Throw' n e) o
unfolding judged
opens_throw cx a n e q = opens cx (Throw' n e) n (no_trees a.locals.entries) (Breaks Syntax n.span) (λ way. refl) (none a) refl q

-- trees one behind the others
abbrev joined : Judgements → Judgements → Judgements
joined xs ys =
    record { each_found = xs.each_found ++ ys.each_found; rows = xs.rows ++ ys.rows; findings = xs.findings ++ ys.findings; locals = ys.locals }

typed_joined : (fs gs : List (Option KtType)) (k m : Bool) → k ≡ have_types fs → m ≡ have_types gs → (k && m) ≡ have_types (fs ++ gs)
typed_joined [] gs k m e h = ap (λ b. b && m) e ∙ h
typed_joined (Some t ∷ fs) gs k m e h = typed_joined fs gs k m e h
typed_joined (None ∷ fs) gs k m e h = ap (λ b. b && m) e

join : {a b c : Notes} {js ks : Judgements} {k m : Bool} → JudgesAll a b js k → JudgesAll b c ks m → JudgesAll a c (joined js ks) (k && m)
join {a} {b} {c} {js} {ks} {k} {m} p q = record {
  same_types = typed_joined js.each_found ks.each_found k m p.same_types q.same_types;
  all_rows = q.all_rows ∙ ap (λ l. l ++ ks.rows) p.all_rows ∙ append_assoc a.rows js.rows ks.rows;
  all_findings = q.all_findings ∙ ap (λ l. l ++ ks.findings) p.all_findings ∙ append_assoc a.findings.items js.findings ks.findings;
  all_locals = q.all_locals;
}

-- one whose value is not taken
abbrev if_parts : TypeContext → LocalTypes → Tree → Trees → Trees → Judgements
if_parts cx locals e x y =
    let condition = judged cx (Checked boolean) locals e in
    let before = all_judged cx (Each Unvalued) condition.locals x in
    branched condition before (all_judged cx (Each Unvalued) before.locals y)

parts_of_if : (cx : TypeContext) {a b c d : Notes} (e : Tree) (x y : Trees) {f : Option KtType} {k m : Bool}
    → Judges a b (judged cx (Checked boolean) a.locals.entries e) f
    → JudgesAll b c (by_last (all_judged cx (Each Unvalued) b.locals.entries x)) k
    → JudgesAll c d (by_last (all_judged cx (Each Unvalued) c.locals.entries y)) m
    → JudgesAll a d (if_parts cx a.locals.entries e x y) (is_some f && (k && m))
parts_of_if cx {a} {b} {c} {d} e x y p q r =
    let condition = judged cx (Checked boolean) a.locals.entries e in
    let in_first = λ (l : LocalTypes). all_judged cx (Each Unvalued) l x in
    let in_second = λ (l : LocalTypes). all_judged cx (Each Unvalued) l y in
    let same : joined (by_last (in_first condition.locals)) (by_last (in_second (in_first condition.locals).locals))
    ≡ joined (by_last (in_first b.locals.entries)) (by_last (in_second c.locals.entries)) =
    ap (λ l. joined (by_last (in_first l)) (by_last (in_second (in_first l).locals))) (sym p.same_locals)
    ∙ ap (λ l. joined (by_last (in_first b.locals.entries)) (by_last (in_second l))) (sym q.all_locals) in
    front p (same_judgements same (join q r))

pub opens_if : (cx : TypeContext) {a b c d : Notes} (n : Mark) (braces : Braces) (e : Tree) (x y : Trees) {f : Option KtType} {k m : Bool} {o : Opened} {valued : Bool} → valued ≡ false
    → Judges a b (judged cx (Checked boolean) a.locals.entries e) f
    → JudgesAll b c (by_last (all_judged cx (Each Unvalued) b.locals.entries x)) k
    → JudgesAll c d (by_last (all_judged cx (Each Unvalued) c.locals.entries y)) m
    → IsOpened o n.number n.span (is_some f && (k && m)) (Gives unit) → OpensAs cx valued a d (If' n braces e x y) o
unfolding judged
opens_if cx {a} {b} {c} {d} n braces e x y {f} {k} {m} {o} {valued} h p q r w = record { in_such_way = in_such_way; such_tree = ap is_tree w }
  where
    in_such_way : (way : Way) → is_valued way ≡ valued → OpensIn a d (judged cx way a.locals.entries (If' n braces e x y)) cx.classes way o
    in_such_way Unvalued v = opens_in cx (If' n braces e x y) n (if_parts cx a.locals.entries e x y) (Gives unit) Unvalued refl (parts_of_if cx e x y p q r) refl w
    in_such_way Plain v = absurd (false≢true (sym (v ∙ h)))
    in_such_way Inferred v = absurd (false≢true (sym (v ∙ h)))
    in_such_way (Checked t) v = absurd (false≢true (sym (v ∙ h)))

-- `return`
pub returns_bare : (cx : TypeContext) (a : Notes) (n : Mark) {o : Opened} {made : Claim} → made ≡ bare_return cx.result n
    → IsOpened o n.number n.span true made → Opens cx a a (Return' n Empty') o
unfolding judged
returns_bare cx a n m q = opens cx (Return' n Empty') n (no_trees a.locals.entries) (bare_return cx.result n) (λ way. refl) (none a) m q

pub returns_value : (cx : TypeContext) {a b : Notes} (n : Mark) (e : Tree) {f : Option KtType} {o : Opened}
    → Judges a b (judged cx (value_way cx.result) a.locals.entries e) f → IsOpened o n.number n.span (is_some f) (Gives nothing_type) → Opens cx a b (Return' n (First' e Empty')) o
unfolding judged
returns_value cx {a} {b} n e p q =
    opens cx (Return' n (First' e Empty')) n (all_judged cx (Each (value_way cx.result)) a.locals.entries (First' e Empty')) (Gives nothing_type) (λ way. refl) (one cx e (Each (value_way cx.result)) p) refl q

-- truth values
pub opens_not : (cx : TypeContext) {a b : Notes} (n : Mark) (e : Tree) {f : Option KtType} {o : Opened}
    → Judges a b (judged cx (Checked boolean) a.locals.entries e) f → IsOpened o n.number n.span (is_some f) (Gives boolean) → Opens cx a b (Not' n e) o
unfolding judged
opens_not cx {a} {b} n e p q = opens cx (Not' n e) n (alone (judged cx (Checked boolean) a.locals.entries e)) (Gives boolean) (λ way. refl) (only p) refl q

truths : (cx : TypeContext) {a b c : Notes} (x y : Tree) {f g : Option KtType}
    → Judges a b (judged cx (Checked boolean) a.locals.entries x) f → Judges b c (judged cx (Checked boolean) b.locals.entries y) g
    → JudgesAll a c (in_front (judged cx (Checked boolean) a.locals.entries x) (alone (judged cx (Checked boolean) (judged cx (Checked boolean) a.locals.entries x).locals y))) (is_some f && is_some g)
truths cx {a} {b} {c} x y p r = front p (same_judgements (ap (λ l. alone (judged cx (Checked boolean) l y)) (sym p.same_locals)) (only r))

pub opens_and : (cx : TypeContext) {a b c : Notes} (n : Mark) (x y : Tree) {f g : Option KtType} {o : Opened}
    → Judges a b (judged cx (Checked boolean) a.locals.entries x) f → Judges b c (judged cx (Checked boolean) b.locals.entries y) g
    → IsOpened o n.number n.span (is_some f && is_some g) (Gives boolean) → Opens cx a c (And' n x y) o
unfolding judged
opens_and cx {a} {b} {c} n x y p r q =
    let left = judged cx (Checked boolean) a.locals.entries x in
    opens cx (And' n x y) n (in_front left (alone (judged cx (Checked boolean) left.locals y))) (Gives boolean) (λ way. refl) (truths cx x y p r) refl q

pub opens_or : (cx : TypeContext) {a b c : Notes} (n : Mark) (x y : Tree) {f g : Option KtType} {o : Opened}
    → Judges a b (judged cx (Checked boolean) a.locals.entries x) f → Judges b c (judged cx (Checked boolean) b.locals.entries y) g
    → IsOpened o n.number n.span (is_some f && is_some g) (Gives boolean) → Opens cx a c (Or' n x y) o
unfolding judged
opens_or cx {a} {b} {c} n x y p r q =
    let left = judged cx (Checked boolean) a.locals.entries x in
    opens cx (Or' n x y) n (in_front left (alone (judged cx (Checked boolean) left.locals y))) (Gives boolean) (λ way. refl) (truths cx x y p r) refl q

-- two operands in one way
operands : (cx : TypeContext) {a b c : Notes} (t u : Tree) {f g : Option KtType} (way : Way)
    → Judges a b (judged cx way a.locals.entries t) f → Judges b c (judged cx way b.locals.entries u) g
    → JudgesAll a c (all_judged cx (Each way) a.locals.entries (First' t (First' u Empty'))) (is_some f && is_some g)
operands cx t u way p q = first cx t (First' u Empty') (Each way) p (one cx u (Each way) q)

pub opens_compare : (cx : TypeContext) {a b c : Notes} (n : Mark) (operator : Comparison) (t u : Tree) {f g : Option KtType} {o : Opened}
    → Judges a b (judged cx (Checked int) a.locals.entries t) f → Judges b c (judged cx (Checked int) b.locals.entries u) g
    → IsOpened o n.number n.span (is_some f && is_some g) (Gives boolean) → Opens cx a c (Operation' n (Compare' operator) (First' t (First' u Empty'))) o
unfolding judged
opens_compare cx {a} {b} {c} n operator t u p r q =
    let parts = First' t (First' u Empty') in
    opens cx (Operation' n (Compare' operator) parts) n (all_judged cx (Each (Checked int)) a.locals.entries parts) (Gives boolean) (λ way. refl) (operands cx t u (Checked int) p r) refl q

-- an equality, by whether its operands are apart
equal_demand : (far : Bool) (n : Mark)
    → equality_demand far (demand_if true n (Each Plain) boolean) n ≡ record { ways = Each Plain; claim = (equality_demand far (demand_if true n (Each Plain) boolean) n).claim }
equal_demand true n = refl
equal_demand false n = refl

pub opens_equal : (cx : TypeContext) {a b c : Notes} (n : Mark) (operator : Equality) (t u : Tree) {f g : Option KtType} {o : Opened} {made : Claim}
    → Judges a b (judged cx Plain a.locals.entries t) f → Judges b c (judged cx Plain b.locals.entries u) g
    → made ≡ (equality_demand (apart (f ∷ g ∷ [])) (demand_if true n (Each Plain) boolean) n).claim
    → IsOpened o n.number n.span (is_some f && is_some g) made → Opens cx a c (Operation' n (Equal' operator) (First' t (First' u Empty'))) o
unfolding judged
opens_equal cx {a} {b} {c} n operator t u {f} {g} p r m q =
    let L = a.locals.entries in
    let parts = First' t (First' u Empty') in
    let js = all_judged cx (Each Plain) L parts in
    let far = apart js.each_found in
    let found : f ∷ g ∷ [] ≡ js.each_found =
    ap (λ x. x ∷ g ∷ []) p.same_type ∙ ap (λ y. (judged cx Plain L t).found ∷ y ∷ []) (r.same_type ∙ ap (λ l. (judged cx Plain l u).found) p.same_locals) in
    opens cx (Operation' n (Equal' operator) parts) n js (equality_demand far (demand_if true n (Each Plain) boolean) n).claim
    (λ way. ap (λ d. closed cx way n (all_judged cx d.ways L parts) d.claim) (equal_demand far n)) (operands cx t u Plain p r)
    (m ∙ ap (λ l. (equality_demand (apart l) (demand_if true n (Each Plain) boolean) n).claim) found) q

-- a sign
pub opens_sign : (cx : TypeContext) {a b : Notes} (n : Mark) (sign : Sign) (t : Tree) {f : Option KtType} {o : Opened}
    → Judges a b (judged cx (Checked int) a.locals.entries t) f → IsOpened o n.number n.span (is_some f) (Gives int) → Opens cx a b (Operation' n (Sign' sign) (First' t Empty')) o
unfolding judged
opens_sign cx {a} {b} n sign t p q =
    opens cx (Operation' n (Sign' sign) (First' t Empty')) n (all_judged cx (Each (Checked int)) a.locals.entries (First' t Empty')) (Gives int) (λ way. refl) (one cx t (Each (Checked int)) p) refl q

-- a string: as many parts are inserted as have places among its texts
inserted_in_places : (ps : List Piece) → count (inserted_of ps) ≡ places (texts_of ps)
inserted_in_places [] = refl
inserted_in_places (Text' bytes ∷ ps) = inserted_in_places ps
inserted_in_places (Inserted' t ∷ ps) = ap suc (inserted_in_places ps)

string_demand : (n : Mark) (ps : List Piece) → demand_if (count (inserted_of ps) == places (texts_of ps)) n (Each Plain) string ≡ record { ways = Each Plain; claim = Gives string }
string_demand n ps = ap (λ b. demand_if b n (Each Plain) string) (eq-eqb (count (inserted_of ps)) (places (texts_of ps)) (inserted_in_places ps))

pub opens_template : (cx : TypeContext) {a b : Notes} (n : Mark) (ps : List Piece) {k : Bool} {o : Opened}
    → JudgesAll a b (all_judged cx (Each Plain) a.locals.entries (inserted_of ps)) k → IsOpened o n.number n.span k (Gives string) → Opens cx a b (Operation' n (Template' (texts_of ps)) (inserted_of ps)) o
unfolding judged
opens_template cx {a} {b} n ps p q =
    let L = a.locals.entries in
    let parts = inserted_of ps in
    opens cx (Operation' n (Template' (texts_of ps)) parts) n (all_judged cx (Each Plain) L parts) (Gives string)
    (λ way. ap (λ d. closed cx way n (all_judged cx d.ways L parts) d.claim) (string_demand n ps)) p refl q

-- an operator
ways_are : (cx : TypeContext) (L : LocalTypes) (n : Mark) (operator : Option Operator) (t u : Tree)
    → all_judged cx (operator_demand operator n 2).ways L (First' t (First' u Empty')) ≡ all_judged cx (Then (left_way operator) (Each (right_way operator))) L (First' t (First' u Empty'))
unfolding judged
ways_are cx L n None t u = refl
ways_are cx L n (Some r) t u = refl

pub opens_binary : (cx : TypeContext) {a b c : Notes} (n : Mark) (operation : Operation) (operator : Option Operator) (t u : Tree) {f g : Option KtType} {o : Opened}
    → ((text apart : Bool) → operation_demand n operation text apart 2 ≡ operator_demand (operator_of operation text) n 2)
    → operator_of operation (is_text (judged cx Inferred a.locals.entries t).found) ≡ operator
    → Judges a b (judged cx (left_way operator) a.locals.entries t) f → Judges b c (judged cx (right_way operator) b.locals.entries u) g
    → IsOpened o n.number n.span (is_some f && is_some g) (operator_demand operator n 2).claim → Opens cx a c (Operation' n operation (First' t (First' u Empty'))) o
unfolding judged
opens_binary cx {a} {b} {c} n operation operator t u {f} {g} e is p r q =
    let L = a.locals.entries in
    let parts = First' t (First' u Empty') in
    let text = is_text (judged cx Inferred L t).found in
    opens cx (Operation' n operation parts) n (all_judged cx (operator_demand operator n 2).ways L parts) (operator_demand operator n 2).claim
    (λ way. ap (λ d. closed cx way n (all_judged cx d.ways L parts) d.claim) (e text (apart (all_judged cx (Each Plain) L parts).each_found) ∙ ap (λ w. operator_demand w n 2) is))
    (same_judgements (ways_are cx L n operator t u) (two cx t u (left_way operator) (right_way operator) p r)) refl q

-- whether the left operand of a sum is a text
pub text_operator : {cx : TypeContext} {a b : Notes} {t : Tree} {o : Opened} {operator : Option Operator} → OpensAs cx true a b t o
    → operator ≡ Some (sum_operator (is_text (type_in (outcome_of cx.classes Inferred o)))) → operator_of Sum' (is_text (judged cx Inferred a.locals.entries t).found) ≡ operator
text_operator {cx} {a} {b} {t} {o} p e =
    let i : OpensIn a b (judged cx Inferred a.locals.entries t) cx.classes Inferred o = p.in_such_way Inferred refl in
    ap (λ f. Some (sum_operator (is_text f))) (typed_end o (outcome_of cx.classes Inferred o) (judged cx Inferred a.locals.entries t).found i.open_type) ∙ sym e

-- both operands of a sum are valued
valued_left : (text : Bool) → is_valued (left_way (Some (sum_operator text))) ≡ true
valued_left true = refl
valued_left false = refl

pub sum_valued : {operator : Option Operator} (text : Bool) → operator ≡ Some (sum_operator text) → is_valued (left_way operator) ≡ true
sum_valued text e = ap (λ r. is_valued (left_way r)) e ∙ valued_left text

-- calls
counted : (uses : ℕ → Named) (es : List Expr) → count (seen_trees (map (seen uses) es)) ≡ length es
counted uses [] = refl
counted uses (e ∷ es) = ap suc (counted uses es)

pub opens_call : (cx : TypeContext) {a b : Notes} (n : Mark) (f : ℕ) (returns : Bool) (resolved : Resolved) (uses : ℕ → Named) (es : List Expr) (s : Option Signature) (d : Demand) {k : Bool} {o : Opened}
    → cx.signature f ≡ option_map (as_signature resolved) s → call_demand (option_map (as_signature resolved) s) n (length es) ≡ as_demand resolved d
    → JudgesAll a b (all_judged cx (as_ways resolved d.ways) a.locals.entries (seen_trees (map (seen uses) es))) k → IsOpened o n.number n.span k d.claim
    → Opens cx a b (Call' n f returns (seen_trees (map (seen uses) es))) o
unfolding judged
opens_call cx {a} {b} n f returns resolved uses es s d e is p q =
    let L = a.locals.entries in
    let parts = seen_trees (map (seen uses) es) in
    opens cx (Call' n f returns parts) n (all_judged cx (as_ways resolved d.ways) L parts) d.claim
    (λ way. ap (λ w. closed cx way n (all_judged cx w.ways L parts) w.claim) (ap (λ r. call_demand r n (count parts)) e ∙ ap (call_demand (option_map (as_signature resolved) s) n) (counted uses es) ∙ is)) p refl q

pub opens_built_in : (cx : TypeContext) {a b : Notes} (n : Mark) (name : ℕ) (returns : Bool) (resolved : Resolved) (uses : ℕ → Named) (es : List Expr) (s : Option Signature) (d : Demand) {k : Bool} {o : Opened}
    → option_map built_in_signature (built_in_named name) ≡ option_map (as_signature resolved) s → call_demand (option_map (as_signature resolved) s) n (length es) ≡ as_demand resolved d
    → JudgesAll a b (all_judged cx (as_ways resolved d.ways) a.locals.entries (seen_trees (map (seen uses) es))) k → IsOpened o n.number n.span k d.claim
    → Opens cx a b (Operation' n (BuiltIn' name returns) (seen_trees (map (seen uses) es))) o
unfolding judged
opens_built_in cx {a} {b} n name returns resolved uses es s d e is p q =
    let L = a.locals.entries in
    let parts = seen_trees (map (seen uses) es) in
    opens cx (Operation' n (BuiltIn' name returns) parts) n (all_judged cx (as_ways resolved d.ways) L parts) d.claim
    (λ way. ap (λ w. closed cx way n (all_judged cx w.ways L parts) w.claim) (ap (λ r. call_demand r n (count parts)) e ∙ ap (call_demand (option_map (as_signature resolved) s) n) (counted uses es) ∙ is)) p refl q

-- statements
pub opens_declare : (cx : TypeContext) {a b : Notes} (n : Mark) (x : ℕ) {o : Opened} → Keeps a b (declared a.locals.entries x (cx.written x))
    → IsOpened o n.number n.span true (Gives unit) → Opens cx a b (Declare' n x) o
unfolding judged
opens_declare cx {a} {b} n x p q = opens cx (Declare' n x) n (no_trees (declared a.locals.entries x (cx.written x))) (Gives unit) (λ way. refl) (changed p) refl q

pub opens_local : (cx : TypeContext) {a b c : Notes} (n : Mark) (at : Span) (x : ℕ) (e : Tree) {f : Option KtType} {o : Opened} {made : Claim}
    → Judges a b (judged cx (value_way (known_type (look_up a.locals.entries x) (cx.written x))) a.locals.entries e) f
    → Keeps b c (initialised b.locals.entries x (cx.written x) f)
    → made ≡ declaration_claim n (look_up a.locals.entries x) (look_up b.locals.entries x)
    → IsOpened o n.number n.span (is_some f) made → Opens cx a c (Local' n at x e) o
unfolding judged
opens_local cx {a} {b} {c} n at x e {f} p r m q =
    let L = a.locals.entries in
    let value = judged cx (value_way (known_type (look_up L x) (cx.written x))) L e in
    let parts = alone (record value { locals = initialised value.locals x (cx.written x) value.found }) in
    let typed : JudgesAll a b (alone value) (is_some f) = only p in
    opens cx (Local' n at x e) n parts (declaration_claim n (look_up L x) (look_up value.locals x)) (λ way. refl)
    (record {
      same_types = typed.same_types;
      all_rows = r.kept_rows ∙ typed.all_rows;
      all_findings = r.kept_findings ∙ typed.all_findings;
      all_locals = r.new_locals ∙ ap (λ l. initialised l x (cx.written x) f) p.same_locals ∙ ap (initialised value.locals x (cx.written x)) p.same_type;
    }) (m ∙ ap (λ l. declaration_claim n (look_up L x) (look_up l x)) p.same_locals) q

pub opens_assign : (cx : TypeContext) {a b : Notes} (n : Mark) (at : Span) (x : ℕ) (fixed : Bool) (e : Tree) {f : Option KtType} {o : Opened} {made : Claim}
    → Judges a b (judged cx (value_way (type_or_none (look_up a.locals.entries x))) a.locals.entries e) f
    → made ≡ assign_claim n.word (look_up a.locals.entries x) → IsOpened o n.number n.span (is_some f) made → Opens cx a b (Assign' n at x fixed e) o
unfolding judged
opens_assign cx {a} {b} n at x fixed e p m q =
    opens cx (Assign' n at x fixed e) n (alone (judged cx (value_way (type_or_none (look_up a.locals.entries x))) a.locals.entries e)) (assign_claim n.word (look_up a.locals.entries x)) (λ way. refl) (only p) m q

pub opens_compound : (cx : TypeContext) {a b c : Notes} (n : Mark) (at : Span) (x : ℕ) (fixed : Bool) (operation : Operation) (operator : Option Operator) (operand : Trees) {f : Option KtType} {k : Bool} {o : Opened} {made : Claim}
    → operator_of operation (is_text (type_or_none (look_up a.locals.entries x))) ≡ operator
    → Judges a b (old_value cx (left_way operator) n.word (look_up a.locals.entries x) a.locals.entries) f
    → JudgesAll b c (all_judged cx (Each (right_way operator)) b.locals.entries operand) k
    → made ≡ compound_claim cx n operator (type_or_none (look_up a.locals.entries x)) (count operand)
    → IsOpened o n.number n.span (is_some f && k) made → Opens cx a c (Compound' n at x fixed operation operand) o
unfolding judged
opens_compound cx {a} {b} {c} n at x fixed operation operator operand {f} {k} e p r m q =
    let L = a.locals.entries in
    let old = look_up L x in
    opens cx (Compound' n at x fixed operation operand) n (in_front (old_value cx (left_way operator) n.word old L) (all_judged cx (Each (right_way operator)) L operand))
    (compound_claim cx n operator (type_or_none old) (count operand))
    (λ way. ap (λ w. closed cx way n (in_front (old_value cx (left_way w) n.word old L) (all_judged cx (Each (right_way w)) L operand)) (compound_claim cx n w (type_or_none old) (count operand))) e)
    (front p (same_judgements (ap (λ l. all_judged cx (Each (right_way operator)) l operand) (sym p.same_locals)) r)) m q
