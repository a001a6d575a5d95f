-- Where no typing rule is violated, each tree has a type, and so has each local.
use Rattle.std.proofs.Common.{◌≡◌, ℕ, zero, suc, ◌==◌, nat_le, cond, ◌&&◌, Bool, true, false, Option, Some, None, List, [], ◌∷◌, ◌++◌, option_map, refl, sym, ap, subst, ◌∙◌}
use Rattle.std.specs.Prelude.{⊤}
use Rattle.std.proofs.lemmas.Bool.{false≢true}
use Rattle.kt_tree.specs.declared.token.Span.{Span}
use Rattle.kt_model.specs.BodyTrees.{Operation, Int', Bool', Null', Template', Sign', Sum', Arithmetic', Compare', Equal', BuiltIn', Mark, Tree, Trees, Empty', First', Operation', Name', Paren', Not', And', Or', If', Declare', Local', Assign', Compound', Call', Return', Throw', Shut'}
use Rattle.kt_model.specs.Classes.{Classes}
use Rattle.kt_model.specs.BuiltIns.{built_in_named}
use Rattle.kt_model.specs.declared.kinds.KtType.{KtType}
use Rattle.kt_model.specs.declared.finding.Rule.TheVariants.{Syntax}
use Rattle.kt_typing.specs.declared.claims.Way.{Way}
use Rattle.kt_typing.specs.declared.claims.Way.TheVariants.{Unvalued, Plain, Inferred, Checked}
use Rattle.kt_typing.specs.declared.claims.Claim.{Claim}
use Rattle.kt_typing.specs.declared.claims.Claim.TheVariants.{Gives, Breaks, Lacks}
use Rattle.kt_typing.specs.declared.claims.Operator.{Operator}
use Rattle.kt_typing.specs.Typing.{Ways, Each, first_way, rest_ways, Signature, built_in_signature, TypeContext, LocalTypes, look_up, declared, initialised, Judgement, Judgements, alone, no_trees, in_front, is_subtype, stands_if, settled, claimed, outcome, type_in, finding_in, have_types, closed, not_open, count, demand_if, unit, operator_of, sum_operator, operator_demand, call_if, call_demand, operation_demand, equality_demand, places, is_text, first_of, apart, name_claim, value_way, known_type, declaration_claim, type_or_none, assign_claim, old_value, kept, compound_claim, left_way, right_way, inside, boolean, is_unit, unit_if, bare_return, return_claim, last_of, branch_way, branch_ways, joined_claim, branched, judged, all_judged}
use Rattle.kt_sound.proofs.TypingSteps.{none_in, Known, known_declared, known_initialised, ways_of_branch, branch_judged, branch_locals}

pub some_finding : {A : Type 0} (x : A) → x ∷ [] ≡ [] → ⊥
some_finding x e = cc

-- ---- claims

-- a type that a tree has in its way lies under what is asked for
abbrev pub Under : Classes → Way → KtType → Type 0
Under classes (Checked t) d = is_subtype classes d t ≡ true
Under classes Unvalued d = ⊤
Under classes Plain d = ⊤
Under classes Inferred d = ⊤

-- what stands has the type that is claimed, which lies under what is asked for
pub record Stood (classes : Classes) (way : Way) (at : Span) (claim : Claim) : Type 0 where
  pub type : KtType
  pub gives : claim ≡ Gives type
  pub found : type_in (claimed classes way at claim) ≡ Some type
  pub under : Under classes way type

-- a claim that rests on no variable without a type
abbrev pub IsDecided : Claim → Type 0
IsDecided (Gives d) = ⊤
IsDecided (Breaks rule at) = ⊤
IsDecided Lacks = ⊥

pub settled_stood : (classes : Classes) (way : Way) (at : Span) (d : KtType) → finding_in (settled classes way d at) ≡ [] → Stood classes way at (Gives d)
settled_stood classes Unvalued at d e = record { type = d; gives = refl; found = refl; under = tt }
settled_stood classes Plain at d e = record { type = d; gives = refl; found = refl; under = tt }
settled_stood classes Inferred at d e = record { type = d; gives = refl; found = refl; under = tt }
settled_stood classes (Checked t) at d e = by (is_subtype classes d t) refl e
  where
    by : (b : Bool) → is_subtype classes d t ≡ b → finding_in (stands_if b d at) ≡ [] → Stood classes (Checked t) at (Gives d)
    by true i f = record { type = d; gives = refl; found = ap (λ b. type_in (stands_if b d at)) i; under = i }
    by false i f = absurd (some_finding _ f)

pub stood : (classes : Classes) (way : Way) (at : Span) (claim : Claim) → IsDecided claim → finding_in (claimed classes way at claim) ≡ [] → Stood classes way at claim
stood classes way at (Gives d) h e = settled_stood classes way at d e
stood classes way at (Breaks rule place) h e = absurd (some_finding _ e)
stood classes way at Lacks h e = absurd h

-- ---- a tree by its parts

pub parts_none : (cx : TypeContext) (way : Way) (n : Mark) (parts : Judgements) (claim : Claim) → (closed cx way n parts claim).findings ≡ [] → parts.findings ≡ []
parts_none cx way n parts claim e = (none_in parts.findings (finding_in (outcome cx.classes way n.span (have_types parts.each_found) claim)) e).0

pub claim_none : (cx : TypeContext) (way : Way) (n : Mark) (parts : Judgements) (claim : Claim) → have_types parts.each_found ≡ true → (closed cx way n parts claim).findings ≡ []
    → finding_in (claimed cx.classes way n.span claim) ≡ []
claim_none cx way n parts claim h e =
    subst (λ b. finding_in (outcome cx.classes way n.span b claim) ≡ []) h (none_in parts.findings (finding_in (outcome cx.classes way n.span (have_types parts.each_found) claim)) e).1

pub closed_found : (cx : TypeContext) (way : Way) (n : Mark) (parts : Judgements) (claim : Claim) → have_types parts.each_found ≡ true
    → (closed cx way n parts claim).found ≡ type_in (claimed cx.classes way n.span claim)
closed_found cx way n parts claim h = ap (λ b. type_in (outcome cx.classes way n.span b claim)) h

-- what is said of a tree whose parts have types
pub closed_stood : (cx : TypeContext) (way : Way) (n : Mark) (parts : Judgements) (claim : Claim) → have_types parts.each_found ≡ true → IsDecided claim
    → (closed cx way n parts claim).findings ≡ [] → Stood cx.classes way n.span claim
closed_stood cx way n parts claim h d e = stood cx.classes way n.span claim d (claim_none cx way n parts claim h e)

-- its type
abbrev pub HasType : Option KtType → Type 0
HasType found = (d : KtType) × (found ≡ Some d)

has_type : (cx : TypeContext) (way : Way) (n : Mark) (parts : Judgements) (claim : Claim) → have_types parts.each_found ≡ true → IsDecided claim
    → (closed cx way n parts claim).findings ≡ [] → HasType (closed cx way n parts claim).found
has_type cx way n parts claim h d e = let s = closed_stood cx way n parts claim h d e in (s.type, closed_found cx way n parts claim h ∙ s.found)

-- ---- what is decided

if_decided : (b : Bool) (n : Mark) (ways : Ways) (d : KtType) → IsDecided (demand_if b n ways d).claim
if_decided true n ways d = tt
if_decided false n ways d = tt

pub call_decided : (o : Option Signature) (n : Mark) (k : ℕ) → IsDecided (call_demand o n k).claim
call_decided None n k = tt
call_decided (Some s) n k = by (nat_le s.least k && nat_le k s.most)
  where
    by : (b : Bool) → IsDecided (call_if b s n).claim
    by true = tt
    by false = tt

sum_decided : (text : Bool) (n : Mark) (k : ℕ) → IsDecided (operator_demand (Some (sum_operator text)) n k).claim
sum_decided true n k = if_decided (k == 2) n _ _
sum_decided false n k = if_decided (k == 2) n _ _

equality_decided : (apart : Bool) (n : Mark) (k : ℕ) → IsDecided (equality_demand apart (demand_if (k == 2) n (Each Plain) boolean) n).claim
equality_decided true n k = tt
equality_decided false n k = if_decided (k == 2) n _ _

pub operation_decided : (n : Mark) (o : Operation) (text apart : Bool) (k : ℕ) → IsDecided (operation_demand n o text apart k).claim
operation_decided n (Int' i) text apart k = if_decided (k == 0) n _ _
operation_decided n (Bool' b) text apart k = if_decided (k == 0) n _ _
operation_decided n Null' text apart k = tt
operation_decided n (Template' texts) text apart k = if_decided (k == places texts) n _ _
operation_decided n (Sign' sign) text apart k = if_decided (k == 1) n _ _
operation_decided n Sum' text apart k = sum_decided text n k
operation_decided n (Arithmetic' o) text apart k = sum_decided false n k
operation_decided n (Compare' c) text apart k = if_decided (k == 2) n _ _
operation_decided n (Equal' c) text apart k = equality_decided apart n k
operation_decided n (BuiltIn' name returns) text apart k = call_decided (option_map built_in_signature (built_in_named name)) n k

pub name_decided : (word : Span) (o : Option (Option KtType)) → (o ≡ Some None → ⊥) → IsDecided (name_claim word o)
name_decided word None h = tt
name_decided word (Some None) h = h refl
name_decided word (Some (Some d)) h = tt

pub declaration_decided : (n : Mark) (before behind : Option (Option KtType)) → IsDecided (declaration_claim n before behind)
declaration_decided n None None = tt
declaration_decided n None (Some t) = tt
declaration_decided n (Some t) None = tt
declaration_decided n (Some t) (Some u) = tt

pub assign_decided : (word : Span) (o : Option (Option KtType)) → IsDecided (assign_claim word o)
assign_decided word None = tt
assign_decided word (Some t) = tt

settled_decided : (classes : Classes) (way : Way) (d : KtType) (at : Span) → IsDecided (kept (settled classes way d at))
settled_decided classes Unvalued d at = tt
settled_decided classes Plain d at = tt
settled_decided classes Inferred d at = tt
settled_decided classes (Checked t) d at = by (is_subtype classes d t)
  where
    by : (b : Bool) → IsDecided (kept (stands_if b d at))
    by true = tt
    by false = tt

pub compound_decided : (cx : TypeContext) (n : Mark) (o : Operation) (text : Bool) (t : KtType) (k : ℕ) → IsDecided (compound_claim cx n (operator_of o text) (Some t) k)
compound_decided cx n o text t k = by (operator_of o text)
  where
    at_most : (b : Bool) (c : Claim) → IsDecided c → IsDecided (cond b c (Breaks Syntax n.span))
    at_most true c h = h
    at_most false c h = tt

    by : (p : Option Operator) → IsDecided (compound_claim cx n p (Some t) k)
    by None = tt
    by (Some p) = at_most (nat_le k 1) _ (settled_decided cx.classes (Checked t) p.gives n.span)

bare_decided : (result : Option KtType) (n : Mark) → IsDecided (bare_return result n)
bare_decided None n = tt
bare_decided (Some t) n = by (is_unit t)
  where
    by : (b : Bool) → IsDecided (unit_if b n)
    by true = tt
    by false = tt

pub return_decided : (result : Option KtType) (n : Mark) (k : ℕ) → IsDecided (return_claim result n k)
return_decided result n zero = bare_decided result n
return_decided result n (suc zero) = tt
return_decided result n (suc (suc k)) = tt

pub joined_decided : (classes : Classes) (way : Way) (n : Mark) (ts us : List (Option KtType)) → have_types ts ≡ true → have_types us ≡ true → IsDecided (joined_claim classes way n ts us)
joined_decided classes way n [] us h i = tt
joined_decided classes way n (None ∷ ts) us h i = absurd (false≢true h)
joined_decided classes way n (Some t ∷ ts) [] h i = tt
joined_decided classes way n (Some t ∷ ts) (None ∷ us) h i = absurd (false≢true i)
joined_decided classes way n (Some t ∷ ts) (Some u ∷ us) h i = tt

-- ---- along trees

-- a type, and that behind it each local has one
pub record Typed (j : Judgement) : Type 0 where
  pub type : HasType j.found
  pub known : Known j.locals

pub record AllTyped (j : Judgements) : Type 0 where
  pub types : have_types j.each_found ≡ true
  pub known : Known j.locals

-- a form that is not open is refused
pub not_open_none : (cx : TypeContext) (way : Way) (n : Mark) (locals : LocalTypes) → (not_open cx way n locals).findings ≡ [] → ⊥
not_open_none cx way n locals e = some_finding _ e

pub types_first : (found : Option KtType) (rest : List (Option KtType)) → HasType found → have_types rest ≡ true → have_types (found ∷ rest) ≡ true
types_first found rest h r = subst (λ o. have_types (o ∷ rest) ≡ true) (sym h.1) r

types_rest : (o : Option KtType) (rest : List (Option KtType)) → have_types (o ∷ rest) ≡ true → have_types rest ≡ true
types_rest (Some t) rest h = h
types_rest None rest h = absurd (false≢true h)

-- the last of trees that have types has one
pub types_last : (ts : List (Option KtType)) → have_types ts ≡ true → have_types (last_of ts) ≡ true
types_last [] h = refl
types_last (t ∷ []) h = h
types_last (t ∷ u ∷ ts) h = types_last (u ∷ ts) (types_rest t (u ∷ ts) h)

types_both : (ts us : List (Option KtType)) → have_types ts ≡ true → have_types us ≡ true → have_types (ts ++ us) ≡ true
types_both [] us h i = i
types_both (Some t ∷ ts) us h i = types_both ts us h i
types_both (None ∷ ts) us h i = absurd (false≢true h)

-- the parts of an `if`
pub types_branched : (c : Judgement) (a b : Judgements) → HasType c.found → have_types a.each_found ≡ true → have_types b.each_found ≡ true → have_types (branched c a b).each_found ≡ true
types_branched c a b h i j = types_first c.found (last_of a.each_found ++ last_of b.each_found) h (types_both (last_of a.each_found) (last_of b.each_found) (types_last a.each_found i) (types_last b.each_found j))

-- a branch whose value is taken, in which nothing is found: so is nothing in its trees
pub branch_none : (cx : TypeContext) (way : Way) (at : Option Span) (locals : LocalTypes) (ts : Trees) → (branch_judged cx way at locals ts).findings ≡ []
    → (all_judged cx (ways_of_branch cx way locals ts) locals ts).findings ≡ []
unfolding all_judged
branch_none cx way at locals Empty' e = refl
branch_none cx way at locals (First' t rest) e = e

-- and it has a type where they have types
pub branch_types : (cx : TypeContext) (way : Way) (at : Option Span) (locals : LocalTypes) (ts : Trees) → (branch_judged cx way at locals ts).findings ≡ []
    → have_types (all_judged cx (ways_of_branch cx way locals ts) locals ts).each_found ≡ true → have_types (branch_judged cx way at locals ts).each_found ≡ true
branch_types cx way None locals Empty' e h = refl
branch_types cx way (Some at) locals Empty' e h =
    let s = stood cx.classes way at (Gives unit) tt e in types_first (type_in (claimed cx.classes way at (Gives unit))) [] (s.type, s.found) refl
branch_types cx way at locals (First' t rest) e h = h

-- two operands, the first of which is typed before the second
pub types_two : (a b : Judgement) → HasType a.found → HasType b.found → have_types (in_front a (alone b)).each_found ≡ true
types_two a b h i = types_first a.found (b.found ∷ []) h (types_first b.found [] i refl)

pub old_typed : (cx : TypeContext) (way : Way) (word : Span) (o : Option (Option KtType)) (locals : LocalTypes) → (o ≡ Some None → ⊥) → (old_value cx way word o locals).findings ≡ [] → HasType (old_value cx way word o locals).found
old_typed cx way word o locals h e = let s = stood cx.classes way word (name_claim word o) (name_decided word o h) e in (s.type, s.found)

-- a local that is read has a type
pub old_known : (word : Span) (classes : Classes) (way : Way) (o : Option (Option KtType)) → (o ≡ Some None → ⊥) → finding_in (claimed classes way word (name_claim word o)) ≡ [] → (t : KtType) × (o ≡ Some (Some t))
old_known word classes way None h e = absurd (some_finding _ e)
old_known word classes way (Some None) h e = absurd (h refl)
old_known word classes way (Some (Some t)) h e = (t, refl)

mutual
  unfolding judged all_judged

  pub typed_tree : (cx : TypeContext) (way : Way) (locals : LocalTypes) (t : Tree) → Known locals → (judged cx way locals t).findings ≡ [] → Typed (judged cx way locals t)
  typed_tree cx way locals (Operation' n o parts) h e =
      let text = is_text (first_of (all_judged cx (Each Inferred) locals parts).each_found) in
      let demand = operation_demand n o text (apart (all_judged cx (Each Plain) locals parts).each_found) (count parts) in
      let inner = all_judged cx demand.ways locals parts in
      let all = typed_trees cx demand.ways locals parts h (parts_none cx way n inner demand.claim e) in
      record { type = has_type cx way n inner demand.claim all.types (operation_decided n o text (apart (all_judged cx (Each Plain) locals parts).each_found) (count parts)) e; known = all.known }
  typed_tree cx way locals (Name' n at x) h e =
      record { type = has_type cx way n (no_trees locals) (name_claim n.word (look_up locals x)) refl (name_decided n.word (look_up locals x) (h x)) e; known = h }
  typed_tree cx way locals (Paren' n t) h e = let inner = typed_tree cx (inside way) locals t h e in record { type = inner.type; known = inner.known }
  typed_tree cx way locals (Not' n t) h e =
      let inner = judged cx (Checked boolean) locals t in
      let one = typed_tree cx (Checked boolean) locals t h (parts_none cx way n (alone inner) (Gives boolean) e) in
      record { type = has_type cx way n (alone inner) (Gives boolean) (types_first inner.found [] one.type refl) tt e; known = one.known }
  typed_tree cx way locals (And' n a b) h e =
      let left = judged cx (Checked boolean) locals a in
      let right = judged cx (Checked boolean) left.locals b in
      let both = none_in left.findings right.findings (parts_none cx way n (in_front left (alone right)) (Gives boolean) e) in
      let first = typed_tree cx (Checked boolean) locals a h both.0 in
      let second = typed_tree cx (Checked boolean) left.locals b first.known both.1 in
      record { type = has_type cx way n (in_front left (alone right)) (Gives boolean) (types_two left right first.type second.type) tt e; known = second.known }
  typed_tree cx way locals (Or' n a b) h e =
      let left = judged cx (Checked boolean) locals a in
      let right = judged cx (Checked boolean) left.locals b in
      let both = none_in left.findings right.findings (parts_none cx way n (in_front left (alone right)) (Gives boolean) e) in
      let first = typed_tree cx (Checked boolean) locals a h both.0 in
      let second = typed_tree cx (Checked boolean) left.locals b first.known both.1 in
      record { type = has_type cx way n (in_front left (alone right)) (Gives boolean) (types_two left right first.type second.type) tt e; known = second.known }
  typed_tree cx Unvalued locals (If' n braces c a b) h e =
      let condition = judged cx (Checked boolean) locals c in
      let first = all_judged cx (Each Unvalued) condition.locals a in
      let second = all_judged cx (Each Unvalued) first.locals b in
      let parts = branched condition first second in
      let none = none_in condition.findings (first.findings ++ second.findings) (parts_none cx Unvalued n parts (Gives unit) e) in
      let both = none_in first.findings second.findings none.1 in
      let asked = typed_tree cx (Checked boolean) locals c h none.0 in
      let one = typed_trees cx (Each Unvalued) condition.locals a asked.known both.0 in
      let other = typed_trees cx (Each Unvalued) first.locals b one.known both.1 in
      record { type = has_type cx Unvalued n parts (Gives unit) (types_branched condition first second asked.type one.types other.types) tt e; known = other.known }
  typed_tree cx way locals (If' n braces c a b) h e =
      let condition = judged cx (Checked boolean) locals c in
      let inner = branch_way way in
      let first = branch_judged cx inner braces.first condition.locals a in
      let second = branch_judged cx inner braces.second first.locals b in
      let parts = branched condition first second in
      let claim = joined_claim cx.classes way n (last_of first.each_found) (last_of second.each_found) in
      let none = none_in condition.findings (first.findings ++ second.findings) (parts_none cx Plain n parts claim e) in
      let both = none_in first.findings second.findings none.1 in
      let asked = typed_tree cx (Checked boolean) locals c h none.0 in
      let one = typed_trees cx (ways_of_branch cx inner condition.locals a) condition.locals a asked.known (branch_none cx inner braces.first condition.locals a both.0) in
      let between = subst (λ (ls : LocalTypes). Known ls) (sym (branch_locals cx inner braces.first condition.locals a)) one.known in
      let other = typed_trees cx (ways_of_branch cx inner first.locals b) first.locals b between (branch_none cx inner braces.second first.locals b both.1) in
      let types_one = branch_types cx inner braces.first condition.locals a both.0 one.types in
      let types_other = branch_types cx inner braces.second first.locals b both.1 other.types in
      let decided = joined_decided cx.classes way n _ _ (types_last first.each_found types_one) (types_last second.each_found types_other) in
      record {
        type = has_type cx Plain n parts claim (types_branched condition first second asked.type types_one types_other) decided e;
        known = subst (λ (ls : LocalTypes). Known ls) (sym (branch_locals cx inner braces.second first.locals b)) other.known;
      }
  typed_tree cx way locals (Declare' n x) h e =
      record { type = has_type cx way n (no_trees (declared locals x (cx.written x))) (Gives unit) refl tt e; known = known_declared locals x (cx.written x) h }
  typed_tree cx way locals (Local' n at x t) h e =
      let before = look_up locals x in
      let value = judged cx (value_way (known_type before (cx.written x))) locals t in
      let parts = alone (record value { locals = initialised value.locals x (cx.written x) value.found }) in
      let claim = declaration_claim n before (look_up value.locals x) in
      let inner = typed_tree cx (value_way (known_type before (cx.written x))) locals t h (parts_none cx way n parts claim e) in
      record {
        type = has_type cx way n parts claim (types_first value.found [] inner.type refl) (declaration_decided n before (look_up value.locals x)) e;
        known = subst (λ found. Known (initialised value.locals x (cx.written x) found)) (sym inner.type.1) (known_initialised value.locals x (cx.written x) inner.type.0 inner.known);
      }
  typed_tree cx way locals (Assign' n at x fixed t) h e =
      let target = look_up locals x in
      let value = judged cx (value_way (type_or_none target)) locals t in
      let inner = typed_tree cx (value_way (type_or_none target)) locals t h (parts_none cx way n (alone value) (assign_claim n.word target) e) in
      record { type = has_type cx way n (alone value) (assign_claim n.word target) (types_first value.found [] inner.type refl) (assign_decided n.word target) e; known = inner.known }
  typed_tree cx way locals (Compound' n at x fixed o operand) h e =
      let old = look_up locals x in
      let operator = operator_of o (is_text (type_or_none old)) in
      let before = old_value cx (left_way operator) n.word old locals in
      let after = all_judged cx (Each (right_way operator)) locals operand in
      let claim = compound_claim cx n operator (type_or_none old) (count operand) in
      let both = none_in before.findings after.findings (parts_none cx way n (in_front before after) claim e) in
      let all = typed_trees cx (Each (right_way operator)) locals operand h both.1 in
      let t = old_known n.word cx.classes (left_way operator) old (h x) both.0 in
      record {
        type = has_type cx way n (in_front before after) claim (types_first before.found after.each_found (old_typed cx (left_way operator) n.word old locals (h x) both.0) all.types)
            (subst (λ u. IsDecided (compound_claim cx n operator (type_or_none u) (count operand))) (sym t.1) (compound_decided cx n o (is_text (type_or_none old)) t.0 (count operand))) e;
        known = all.known;
      }
  typed_tree cx way locals (Call' n f returns arguments) h e =
      let demand = call_demand (cx.signature f) n (count arguments) in
      let inner = all_judged cx demand.ways locals arguments in
      let all = typed_trees cx demand.ways locals arguments h (parts_none cx way n inner demand.claim e) in
      record { type = has_type cx way n inner demand.claim all.types (call_decided (cx.signature f) n (count arguments)) e; known = all.known }
  typed_tree cx way locals (Return' n value) h e =
      let inner = all_judged cx (Each (value_way cx.result)) locals value in
      let claim = return_claim cx.result n (count value) in
      let all = typed_trees cx (Each (value_way cx.result)) locals value h (parts_none cx way n inner claim e) in
      record { type = has_type cx way n inner claim all.types (return_decided cx.result n (count value)) e; known = all.known }
  typed_tree cx way locals (Throw' n t) h e = absurd (not_open_none cx way n locals e)
  typed_tree cx way locals (Shut' n) h e = absurd (not_open_none cx way n locals e)

  pub typed_trees : (cx : TypeContext) (ways : Ways) (locals : LocalTypes) (ts : Trees) → Known locals → (all_judged cx ways locals ts).findings ≡ [] → AllTyped (all_judged cx ways locals ts)
  typed_trees cx ways locals Empty' h e = record { types = refl; known = h }
  typed_trees cx ways locals (First' t rest) h e =
      let first = judged cx (first_way ways) locals t in
      let others = all_judged cx (rest_ways ways) first.locals rest in
      let both = none_in first.findings others.findings e in
      let one = typed_tree cx (first_way ways) locals t h both.0 in
      let all = typed_trees cx (rest_ways ways) first.locals rest one.known both.1 in
      record { types = types_first first.found others.each_found one.type all.types; known = all.known }
