-- Operations on values of the types that they ask for.
use Rattle.std.proofs.Common.{◌≡◌, ℕ, ℤ, pos, int_eq, suc, ◌==◌, nat_le, cond, ◌&&◌, Bool, true, false, Option, Some, None, List, [], ◌∷◌, ◌++◌, length, option_map, refl, sym, ap, subst, ◌∙◌, arith}
use Rattle.std.specs.Prelude.{⊤}
use Rattle.std.specs.List.{find}
use Rattle.std.proofs.lemmas.Bool.{eqb-true, leb-true, false≢true}
use Rattle.kt_tree.specs.declared.token.Span.{Span}
use Rattle.kt_tree.specs.declared.ast.part.Sign.{Sign}
use Rattle.kt_tree.specs.declared.ast.part.Arithmetic.{Arithmetic}
use Rattle.kt_tree.specs.declared.ast.part.Arithmetic.TheVariants as arithmetic
use Rattle.kt_tree.specs.declared.ast.part.Comparison.{Comparison}
use Rattle.kt_tree.specs.declared.ast.part.Equality.{Equality}
use Rattle.kt_model.specs.BodyTrees.{Operation, Int', Bool', Null', Template', Sign', Sum', Arithmetic', Compare', Equal', BuiltIn', Mark, Trees, Empty', First'}
use Rattle.kt_model.specs.Classes.{Classes}
use Rattle.kt_model.specs.BuiltIns.{built_in_functions, built_in_named}
use Rattle.kt_model.specs.declared.built_ins.BuiltIn.{BuiltIn}
use Rattle.kt_model.specs.BuiltIns as open_functions
use Rattle.kt_model.specs.declared.kinds.KtType.{KtType}
use Rattle.kt_model.specs.declared.finding.Rule.{Rule}
use Rattle.kt_typing.specs.declared.claims.Way.{Way}
use Rattle.kt_typing.specs.declared.claims.Way.TheVariants.{Unvalued, Plain, Inferred, Checked}
use Rattle.kt_typing.specs.declared.claims.Claim.TheVariants as claim
use Rattle.kt_typing.specs.Typing.{Ways, Each, Then, rest_ways, Signature, built_in_signature, TypeContext, LocalTypes, count, demand_if, call_if, call_demand, places, operation_demand, is_text, first_of, int, nothing, string, boolean, unit, all_judged}
use Rattle.kt_mean.specs.declared.states.Value.{Value}
use Rattle.kt_mean.specs.declared.states.Value.TheVariants as value
use Rattle.kt_mean.specs.declared.states.Exception.{Exception}
use Rattle.kt_mean.specs.declared.states.Exception.TheVariants.{DivisionByZero, FailedRequirement, FailedCheck}
use Rattle.kt_mean.specs.Frames.{Run, pure}
use Rattle.kt_mean.specs.Evaluation.{choose, text_of_value, on_one, throws, by_divisor, arithmetic_of, joined, has_parts, string_of, compared, equal_of, built_in, demanded, operated}
use Rattle.kt_sound.specs.BodySoundness.{HasBuiltInClasses}
use Rattle.kt_sound.proofs.TypingSteps.{none-some, some-some, found_count}
use Rattle.kt_sound.proofs.NoFinding.{Under}
use Rattle.kt_sound.proofs.ValueTypes.{Lies, and_right, lies_above, int_of, bool_of, text_of}
use Rattle.kt_sound.proofs.BodyStanding.{LiesIn, Gives, AllGive}
use Rattle.kt_sound.proofs.OperationEnds.{Yields, pure_yields, print_yields, throws_yields, demand_yields, fail_yields, text_yields}

-- a value of the type that a tree has in its way
pub gives_of : (classes : Classes) → HasBuiltInClasses classes → (way : Way) (found : Option KtType) (d : KtType) (v : Value) → found ≡ Some d → Under classes way d → Lies v d → Gives way found v
gives_of classes h Unvalued found d v e u l = tt
gives_of classes h Plain found d v e u l = subst (λ o. LiesIn o v) (sym e) l
gives_of classes h Inferred found d v e u l = subst (λ o. LiesIn o v) (sym e) l
gives_of classes h (Checked t) found d v e u l = (subst (λ o. LiesIn o v) (sym e) l, lies_above classes h v d t l u)

-- ---- what is asked for

pub gives-gives : (a d : KtType) → claim.Gives a ≡ claim.Gives d → a ≡ d
gives-gives a d e = cc

pub breaks-gives : (rule : Rule) (at : Span) (d : KtType) → claim.Breaks rule at ≡ claim.Gives d → ⊥
breaks-gives rule at d e = cc

pub if_gives : (b : Bool) (n : Mark) (ways : Ways) (t d : KtType) → (demand_if b n ways t).claim ≡ claim.Gives d → (b ≡ true) × (t ≡ d)
if_gives true n ways t d e = (refl, gives-gives t d e)
if_gives false n ways t d e = absurd (breaks-gives _ _ d e)

pub call_gives : (b : Bool) (s : Signature) (n : Mark) (d : KtType) → (call_if b s n).claim ≡ claim.Gives d → (b ≡ true) × (s.result ≡ d)
call_gives true s n d e = (refl, gives-gives s.result d e)
call_gives false s n d e = absurd (breaks-gives _ _ d e)

too_many : (a b : ℕ) (n : Mark) (ways : Ways) (t d : KtType) → (a ≡ b → ⊥) → (demand_if (a == b) n ways t).claim ≡ claim.Gives d → ⊥
too_many a b n ways t d h e = h (eqb-true a b (if_gives (a == b) n ways t d e).0)

-- ---- numbers

one_int : (f : ℤ → Run Value) (found : Option KtType) (vs : List Value) → ((a : ℤ) → Yields (f a) int) → AllGive (Each (Checked int)) (found ∷ []) vs → Yields (on_one f vs) int
one_int f found [] h g = absurd g
one_int f found (x ∷ []) h g = let a = int_of x g.0.1 in subst (λ z. Yields (on_one f (z ∷ [])) int) (sym a.1) (h a.0)
one_int f found (x ∷ y ∷ vs) h g = absurd g.1

pub two_ints : (r : List Value → Run Value) (t : KtType) (x y : Value) → ((a b : ℤ) → Yields (r (value.Int a ∷ value.Int b ∷ [])) t) → Lies x int → Lies y int → Yields (r (x ∷ y ∷ [])) t
two_ints r t x y h l m =
    let a = int_of x l in
    let b = int_of y m in
    subst (λ z. Yields (r (z ∷ y ∷ [])) t) (sym a.1) (subst (λ z. Yields (r (value.Int a.0 ∷ z ∷ [])) t) (sym b.1) (h a.0 b.0))

both_ints : (r : List Value → Run Value) (fa fb : Option KtType) (vs : List Value) → ((a b : ℤ) → Yields (r (value.Int a ∷ value.Int b ∷ [])) int)
    → AllGive (Then (Checked int) (Each (Checked int))) (fa ∷ fb ∷ []) vs → Yields (r vs) int
both_ints r fa fb [] h g = absurd g
both_ints r fa fb (x ∷ []) h g = absurd g.1
both_ints r fa fb (x ∷ y ∷ []) h g = two_ints r int x y h g.0.1 g.1.0.1
both_ints r fa fb (x ∷ y ∷ z ∷ vs) h g = absurd g.1.1

compared_ints : (c : Comparison) (fa fb : Option KtType) (vs : List Value) → AllGive (Each (Checked int)) (fa ∷ fb ∷ []) vs → Yields (operated (Compare' c) vs) boolean
compared_ints c fa fb [] g = absurd g
compared_ints c fa fb (x ∷ []) g = absurd g.1
compared_ints c fa fb (x ∷ y ∷ []) g = two_ints (operated (Compare' c)) boolean x y (λ a b. pure_yields (value.Bool (compared c a b)) boolean refl) g.0.1 g.1.0.1
compared_ints c fa fb (x ∷ y ∷ z ∷ vs) g = absurd g.1.1

-- any two values are the same or not
equal_values : (o : Equality) (fa fb : Option KtType) (vs : List Value) → AllGive (Each Plain) (fa ∷ fb ∷ []) vs → Yields (equal_of o vs) boolean
equal_values o fa fb [] g = absurd g
equal_values o fa fb (x ∷ []) g = absurd g.1
equal_values o fa fb (x ∷ y ∷ []) g = pure_yields _ boolean refl
equal_values o fa fb (x ∷ y ∷ z ∷ vs) g = absurd g.1.1

-- numbers by the operators that are open
pub sum_yields : (a b : ℤ) → Yields (operated Sum' (value.Int a ∷ value.Int b ∷ [])) int
sum_yields a b = pure_yields _ int refl

divided_yields : (b n : ℤ) → Yields (by_divisor b (pure (value.Int n))) int
divided_yields b n = by (int_eq b (pos 0))
  where
    by : (is_zero : Bool) → Yields (choose is_zero (throws DivisionByZero) (pure (value.Int n))) int
    by true = throws_yields DivisionByZero int
    by false = pure_yields (value.Int n) int refl

pub arithmetic_yields : (o : Arithmetic) (a b : ℤ) → Yields (arithmetic_of o a b) int
arithmetic_yields arithmetic.Subtract a b = pure_yields _ int refl
arithmetic_yields arithmetic.Multiply a b = pure_yields _ int refl
arithmetic_yields arithmetic.Divide a b = divided_yields b _
arithmetic_yields arithmetic.Remainder a b = divided_yields b _

-- ---- texts

-- a text and any value
pub text_sum : (x y : Value) (t : KtType) → is_text (Some t) ≡ true → Lies x t → Yields (operated Sum' (x ∷ y ∷ [])) string
text_sum x y t e l =
    let a = text_of x t e l in
    subst (λ z. Yields (operated Sum' (z ∷ y ∷ [])) string) (sym a.1) (text_yields (a.0 ++ text_of_value y))

text_left : (fa fb : Option KtType) (vs : List Value) → is_text fa ≡ true → AllGive (Then Inferred (Each Plain)) (fa ∷ fb ∷ []) vs → Yields (operated Sum' vs) string
text_left fa fb [] e g = absurd g
text_left fa fb (x ∷ []) e g = absurd g.1
text_left None fb (x ∷ y ∷ []) e g = absurd g.0
text_left (Some t) fb (x ∷ y ∷ []) e g = text_sum x y t e g.0
text_left fa fb (x ∷ y ∷ z ∷ vs) e g = absurd g.1.1

-- each part has a value
given_count : (ways : Ways) (found : List (Option KtType)) (vs : List Value) → AllGive ways found vs → length vs ≡ length found
given_count ways [] [] g = refl
given_count ways [] (v ∷ vs) g = absurd g
given_count ways (t ∷ found) [] g = absurd g
given_count ways (t ∷ found) (v ∷ vs) g = ap (λ k. suc k) (given_count (rest_ways ways) found vs g.1)

-- a string whose parts have as many values as it has places
joined_is : (texts : List (Option (List ℕ))) (vs : List Value) → length vs ≡ places texts → (text : List ℕ) × (joined texts vs ≡ Some text)
joined_is [] [] e = ([], refl)
joined_is [] (v ∷ vs) e = absurd (omega (arith, e))
joined_is (Some text ∷ rest) vs e = let j = joined_is rest vs e in (text ++ j.0, ap (λ o. option_map (λ t. text ++ t) o) j.1)
joined_is (None ∷ rest) [] e = absurd (omega (arith, e))
joined_is (None ∷ rest) (v ∷ vs) e = let j = joined_is rest vs (omega (arith, e)) in (text_of_value v ++ j.0, ap (λ o. option_map (λ t. text_of_value v ++ t) o) j.1)

string_yields : (made : Bool) (text : List ℕ) → Yields (string_of made (Some text)) string
string_yields true text = text_yields text
string_yields false text = pure_yields (value.Text text) string refl

-- ---- built-in functions

abbrev AllLie : KtType → List Value → Type 0
AllLie t [] = ⊤
AllLie t (v ∷ vs) = Lies v t × AllLie t vs

-- What is to be shown of a built-in function: of as many values as it takes, each of its parameter's type, it gives one of its result.
abbrev Answers : BuiltIn → Type 0
Answers b = (vs : List Value) → (nat_le b.least (length vs) && nat_le (length vs) b.most) ≡ true → AllLie b.parameter vs → Yields (built_in b.name vs) b.result

no_more_than_one : (least k : ℕ) → (nat_le least (suc (suc k)) && nat_le (suc (suc k)) 1) ≡ true → ⊥
no_more_than_one least k e = let h = leb-true (suc (suc k)) 1 (and_right (nat_le least (suc (suc k))) (nat_le (suc (suc k)) 1) e) in omega arith

println_answers : Answers open_functions.println
println_answers [] few lie = print_yields (10 ∷ [])
println_answers (v ∷ []) few lie = print_yields (text_of_value v ++ 10 ∷ [])
println_answers (v ∷ w ∷ vs) few lie = absurd (no_more_than_one 0 (length vs) few)

print_answers : Answers open_functions.print
print_answers [] few lie = absurd (false≢true few)
print_answers (v ∷ []) few lie = print_yields (text_of_value v)
print_answers (v ∷ w ∷ vs) few lie = absurd (no_more_than_one 1 (length vs) few)

demand_answers : (x : Exception) (v : Value) → Lies v boolean → Yields (demanded x v) unit
demand_answers x v lies = let b = bool_of v lies in subst (λ z. Yields (demanded x z) unit) (sym b.1) (demand_yields x b.0)

require_answers : Answers open_functions.require
require_answers [] few lie = absurd (false≢true few)
require_answers (v ∷ []) few lie = demand_answers FailedRequirement v lie.0
require_answers (v ∷ w ∷ vs) few lie = absurd (no_more_than_one 1 (length vs) few)

check_answers : Answers open_functions.check
check_answers [] few lie = absurd (false≢true few)
check_answers (v ∷ []) few lie = demand_answers FailedCheck v lie.0
check_answers (v ∷ w ∷ vs) few lie = absurd (no_more_than_one 1 (length vs) few)

error_answers : Answers open_functions.error
error_answers [] few lie = absurd (false≢true few)
error_answers (v ∷ []) few lie = fail_yields v nothing
error_answers (v ∷ w ∷ vs) few lie = absurd (no_more_than_one 1 (length vs) few)

abbrev AllAnswer : List BuiltIn → Type 0
AllAnswer [] = ⊤
AllAnswer (b ∷ bs) = Answers b × AllAnswer bs

-- one for each function that is open
all_answer : AllAnswer built_in_functions
all_answer = (println_answers, (print_answers, (require_answers, (check_answers, (error_answers, tt)))))

named_answers : (name : ℕ) (bs : List BuiltIn) (b : BuiltIn) → AllAnswer bs → find (λ (c : BuiltIn). c.name == name) bs ≡ Some b → Answers b × (b.name ≡ name)
named_answers name [] b all e = absurd (none-some b e)
named_answers name (c ∷ bs) b all e = by (c.name == name) refl e (named_answers name bs b all.1)
  where
    by : (same : Bool) → (c.name == name) ≡ same → cond same (Some c) (find (λ (a : BuiltIn). a.name == name) bs) ≡ Some b
        → (find (λ (a : BuiltIn). a.name == name) bs ≡ Some b → Answers b × (b.name ≡ name)) → Answers b × (b.name ≡ name)
    by true i f rest = let is = some-some c b f in (subst (λ a. Answers a) is all.0, subst (λ (a : BuiltIn). a.name ≡ name) is (eqb-true c.name name i))
    by false i f rest = rest f

all_lie : (t : KtType) (found : List (Option KtType)) (vs : List Value) → AllGive (Each (Checked t)) found vs → AllLie t vs
all_lie t [] [] g = tt
all_lie t [] (v ∷ vs) g = absurd g
all_lie t (u ∷ found) [] g = absurd g
all_lie t (u ∷ found) (v ∷ vs) g = (g.0.1, all_lie t found vs g.1)

-- a call that is not refused
answered : (cx : TypeContext) (n : Mark) (b : BuiltIn) (name : ℕ) (locals : LocalTypes) (ts : Trees) (d : KtType) (vs : List Value) → Answers b × (b.name ≡ name)
    → (call_demand (Some (built_in_signature b)) n (count ts)).claim ≡ claim.Gives d
    → AllGive (call_demand (Some (built_in_signature b)) n (count ts)).ways (all_judged cx (call_demand (Some (built_in_signature b)) n (count ts)).ways locals ts).each_found vs → Yields (built_in name vs) d
answered cx n b name locals ts d vs h e g =
    let ways = Each (Checked b.parameter) in
    let found = (all_judged cx ways locals ts).each_found in
    let says = call_gives (nat_le b.least (count ts) && nat_le (count ts) b.most) (built_in_signature b) n d e in
    let all : AllGive ways found vs = subst (λ ws. AllGive ws (all_judged cx ws locals ts).each_found vs) (ap (λ few. (call_if few (built_in_signature b) n).ways) says.0) g in
    let many = sym (given_count ways found vs all ∙ found_count cx ways locals ts) in
    let few = subst (λ k. (nat_le b.least k && nat_le k b.most) ≡ true) many says.0 in
    subst (λ t. Yields (built_in name vs) t) says.1 (subst (λ k. Yields (built_in k vs) b.result) h.1 (h.0 vs few (all_lie b.parameter found vs all)))

built_in_yields : (cx : TypeContext) (n : Mark) (name : ℕ) (locals : LocalTypes) (ts : Trees) (d : KtType) (vs : List Value) → (call_demand (option_map built_in_signature (built_in_named name)) n (count ts)).claim ≡ claim.Gives d
    → AllGive (call_demand (option_map built_in_signature (built_in_named name)) n (count ts)).ways (all_judged cx (call_demand (option_map built_in_signature (built_in_named name)) n (count ts)).ways locals ts).each_found vs
    → Yields (built_in name vs) d
built_in_yields cx n name locals ts d vs e g = by (built_in_named name) refl e g
  where
    by : (o : Option BuiltIn) → built_in_named name ≡ o → (call_demand (option_map built_in_signature o) n (count ts)).claim ≡ claim.Gives d
        → AllGive (call_demand (option_map built_in_signature o) n (count ts)).ways (all_judged cx (call_demand (option_map built_in_signature o) n (count ts)).ways locals ts).each_found vs → Yields (built_in name vs) d
    by None i e g = absurd (breaks-gives _ _ d e)
    by (Some b) i e g = answered cx n b name locals ts d vs (named_answers name built_in_functions b all_answer i) e g

-- ---- all operations

-- parts that are checked against `Int` where there are two
two_parts : (cx : TypeContext) (n : Mark) (r : List Value → Run Value) (locals : LocalTypes) (ts : Trees) (d : KtType) (vs : List Value) → ((a b : ℤ) → Yields (r (value.Int a ∷ value.Int b ∷ [])) int)
    → (demand_if (count ts == 2) n (Then (Checked int) (Each (Checked int))) int).claim ≡ claim.Gives d
    → AllGive (demand_if (count ts == 2) n (Then (Checked int) (Each (Checked int))) int).ways (all_judged cx (demand_if (count ts == 2) n (Then (Checked int) (Each (Checked int))) int).ways locals ts).each_found vs
    → Yields (r vs) d
unfolding all_judged
two_parts cx n r locals Empty' d vs h e g = absurd (breaks-gives _ _ d e)
two_parts cx n r locals (First' a Empty') d vs h e g = absurd (breaks-gives _ _ d e)
two_parts cx n r locals (First' a (First' b Empty')) d vs h e g = subst (λ t. Yields (r vs) t) (gives-gives int d e) (both_ints r _ _ vs h g)
two_parts cx n r locals (First' a (First' b (First' c rest))) d vs h e g = absurd (too_many (suc (suc (suc (count rest)))) 2 n _ int d (λ i. omega arith) e)

text_parts : (cx : TypeContext) (n : Mark) (locals : LocalTypes) (ts : Trees) (d : KtType) (vs : List Value) → is_text (first_of (all_judged cx (Each Inferred) locals ts).each_found) ≡ true
    → (demand_if (count ts == 2) n (Then Inferred (Each Plain)) string).claim ≡ claim.Gives d
    → AllGive (demand_if (count ts == 2) n (Then Inferred (Each Plain)) string).ways (all_judged cx (demand_if (count ts == 2) n (Then Inferred (Each Plain)) string).ways locals ts).each_found vs → Yields (operated Sum' vs) d
unfolding all_judged
text_parts cx n locals Empty' d vs i e g = absurd (breaks-gives _ _ d e)
text_parts cx n locals (First' a Empty') d vs i e g = absurd (breaks-gives _ _ d e)
text_parts cx n locals (First' a (First' b Empty')) d vs i e g = subst (λ t. Yields (operated Sum' vs) t) (gives-gives string d e) (text_left _ _ vs i g)
text_parts cx n locals (First' a (First' b (First' c rest))) d vs i e g = absurd (too_many (suc (suc (suc (count rest)))) 2 n _ string d (λ j. omega arith) e)

string_parts : (cx : TypeContext) (n : Mark) (texts : List (Option (List ℕ))) (locals : LocalTypes) (ts : Trees) (d : KtType) (vs : List Value) → (demand_if (count ts == places texts) n (Each Plain) string).claim ≡ claim.Gives d
    → AllGive (demand_if (count ts == places texts) n (Each Plain) string).ways (all_judged cx (demand_if (count ts == places texts) n (Each Plain) string).ways locals ts).each_found vs → Yields (operated (Template' texts) vs) d
string_parts cx n texts locals ts d vs e g =
    let demand = demand_if (count ts == places texts) n (Each Plain) string in
    let says = if_gives (count ts == places texts) n (Each Plain) string d e in
    let many = given_count demand.ways (all_judged cx demand.ways locals ts).each_found vs g ∙ found_count cx demand.ways locals ts ∙ eqb-true (count ts) (places texts) says.0 in
    let j = joined_is texts vs many in
    subst (λ t. Yields (operated (Template' texts) vs) t) says.1 (subst (λ o. Yields (string_of (has_parts vs) o) string) (sym j.1) (string_yields (has_parts vs) j.0))

literal_yields : (cx : TypeContext) (n : Mark) (o : Operation) (t : KtType) (locals : LocalTypes) (ts : Trees) (d : KtType) (vs : List Value) → Yields (operated o []) t
    → (demand_if (count ts == 0) n (Each Inferred) t).claim ≡ claim.Gives d
    → AllGive (demand_if (count ts == 0) n (Each Inferred) t).ways (all_judged cx (demand_if (count ts == 0) n (Each Inferred) t).ways locals ts).each_found vs → Yields (operated o vs) d
unfolding all_judged
literal_yields cx n o t locals Empty' d [] y e g = subst (λ u. Yields (operated o []) u) (gives-gives t d e) y
literal_yields cx n o t locals Empty' d (v ∷ vs) y e g = absurd g
literal_yields cx n o t locals (First' a rest) d vs y e g = absurd (too_many (suc (count rest)) 0 n _ t d (λ i. omega arith) e)

compare_yields : (cx : TypeContext) (n : Mark) (c : Comparison) (locals : LocalTypes) (ts : Trees) (d : KtType) (vs : List Value) → (demand_if (count ts == 2) n (Each (Checked int)) boolean).claim ≡ claim.Gives d
    → AllGive (demand_if (count ts == 2) n (Each (Checked int)) boolean).ways (all_judged cx (demand_if (count ts == 2) n (Each (Checked int)) boolean).ways locals ts).each_found vs → Yields (operated (Compare' c) vs) d
unfolding all_judged
compare_yields cx n c locals Empty' d vs e g = absurd (breaks-gives _ _ d e)
compare_yields cx n c locals (First' a Empty') d vs e g = absurd (breaks-gives _ _ d e)
compare_yields cx n c locals (First' a (First' b Empty')) d vs e g = subst (λ t. Yields (operated (Compare' c) vs) t) (gives-gives boolean d e) (compared_ints c _ _ vs g)
compare_yields cx n c locals (First' a (First' b (First' f rest))) d vs e g = absurd (too_many (suc (suc (suc (count rest)))) 2 n _ boolean d (λ i. omega arith) e)

equal_yields : (cx : TypeContext) (n : Mark) (o : Equality) (locals : LocalTypes) (ts : Trees) (d : KtType) (vs : List Value) → (demand_if (count ts == 2) n (Each Plain) boolean).claim ≡ claim.Gives d
    → AllGive (demand_if (count ts == 2) n (Each Plain) boolean).ways (all_judged cx (demand_if (count ts == 2) n (Each Plain) boolean).ways locals ts).each_found vs → Yields (equal_of o vs) d
unfolding all_judged
equal_yields cx n o locals Empty' d vs e g = absurd (breaks-gives _ _ d e)
equal_yields cx n o locals (First' a Empty') d vs e g = absurd (breaks-gives _ _ d e)
equal_yields cx n o locals (First' a (First' b Empty')) d vs e g = subst (λ t. Yields (equal_of o vs) t) (gives-gives boolean d e) (equal_values o _ _ vs g)
equal_yields cx n o locals (First' a (First' b (First' f rest))) d vs e g = absurd (too_many (suc (suc (suc (count rest)))) 2 n _ boolean d (λ i. omega arith) e)

sign_yields : (cx : TypeContext) (n : Mark) (s : Sign) (locals : LocalTypes) (ts : Trees) (d : KtType) (vs : List Value) → (demand_if (count ts == 1) n (Each (Checked int)) int).claim ≡ claim.Gives d
    → AllGive (demand_if (count ts == 1) n (Each (Checked int)) int).ways (all_judged cx (demand_if (count ts == 1) n (Each (Checked int)) int).ways locals ts).each_found vs → Yields (operated (Sign' s) vs) d
unfolding all_judged
sign_yields cx n s locals Empty' d vs e g = absurd (breaks-gives _ _ d e)
sign_yields cx n s locals (First' a Empty') d vs e g = subst (λ t. Yields (operated (Sign' s) vs) t) (gives-gives int d e) (one_int _ _ vs (λ k. pure_yields _ int refl) g)
sign_yields cx n s locals (First' a (First' b rest)) d vs e g = absurd (too_many (suc (suc (count rest))) 1 n _ int d (λ i. omega arith) e)

-- An operation on values of the types that it asks for gives a value of its type.
pub operation_yields : (cx : TypeContext) (n : Mark) (o : Operation) (text apart : Bool) (locals : LocalTypes) (ts : Trees) (d : KtType) (vs : List Value)
    → (text ≡ true → is_text (first_of (all_judged cx (Each Inferred) locals ts).each_found) ≡ true) → (operation_demand n o text apart (count ts)).claim ≡ claim.Gives d
    → AllGive (operation_demand n o text apart (count ts)).ways (all_judged cx (operation_demand n o text apart (count ts)).ways locals ts).each_found vs → Yields (operated o vs) d
operation_yields cx n (Int' k) text apart locals ts d vs i e g = literal_yields cx n (Int' k) int locals ts d vs (pure_yields (value.Int (pos k)) int refl) e g
operation_yields cx n (Bool' b) text apart locals ts d vs i e g = literal_yields cx n (Bool' b) boolean locals ts d vs (pure_yields (value.Bool b) boolean refl) e g
operation_yields cx n Null' text apart locals ts d vs i e g = absurd (breaks-gives _ _ d e)
operation_yields cx n (Template' texts) text apart locals ts d vs i e g = string_parts cx n texts locals ts d vs e g
operation_yields cx n (Sign' s) text apart locals ts d vs i e g = sign_yields cx n s locals ts d vs e g
operation_yields cx n Sum' true apart locals ts d vs i e g = text_parts cx n locals ts d vs (i refl) e g
operation_yields cx n Sum' false apart locals ts d vs i e g = two_parts cx n (operated Sum') locals ts d vs sum_yields e g
operation_yields cx n (Arithmetic' o) text apart locals ts d vs i e g = two_parts cx n (operated (Arithmetic' o)) locals ts d vs (arithmetic_yields o) e g
operation_yields cx n (Compare' c) text apart locals ts d vs i e g = compare_yields cx n c locals ts d vs e g
operation_yields cx n (Equal' o) text true locals ts d vs i e g = absurd (breaks-gives _ _ d e)
operation_yields cx n (Equal' o) text false locals ts d vs i e g = equal_yields cx n o locals ts d vs e g
operation_yields cx n (BuiltIn' name returns) text apart locals ts d vs i e g = built_in_yields cx n name locals ts d vs e g
