-- The law of soundness: compound assignments.
use Rattle.std.proofs.Common.{◌≡◌, ℕ, pos, suc, nat_le, is_some, Bool, true, false, if◌then◌else◌, Option, Some, None, List, [], ◌∷◌, ◌++◌, Contains, inl, inr, refl, sym, ap, subst, ◌∙◌, arith, true≢false}
use Rattle.std.proofs.lemmas.Bool.{leb-true, false≢true}
use Rattle.kt_tree.specs.declared.token.Span.{Span}
use Rattle.kt_model.specs.Classes.{Classes}
use Rattle.kt_model.specs.declared.finding.Rule.TheVariants.{Syntax}
use Rattle.kt_typing.specs.declared.claims.Operator.{Operator}
use Rattle.kt_model.specs.BodyTrees.{Operation, Int', Bool', Null', Template', Sign', Sum', Arithmetic', Compare', Equal', BuiltIn', Mark, Trees, Empty', First', Compound'}
use Rattle.kt_model.specs.ControlFlow.{Exits, in_of, out_of, enter, entry_of, leave_edges, edges, all_edges}
use Rattle.kt_model.specs.declared.graph.Known.TheVariants as what
use Rattle.kt_model.specs.declared.kinds.KtType.{KtType}
use Rattle.kt_typing.specs.declared.claims.Way.{Way}
use Rattle.kt_typing.specs.declared.claims.Way.TheVariants.{Checked}
use Rattle.kt_typing.specs.declared.claims.Claim.TheVariants as claim
use Rattle.kt_typing.specs.Typing.{Each, TypeContext, LocalTypes, look_up, in_front, closed, count, is_text, int, unit, is_subtype, stands_if, claimed, finding_in, operator_of, sum_operator, left_way, right_way, kept, kept_claim, name_claim, type_or_none, old_value, compound_claim, judged, all_judged}
use Rattle.kt_model.proofs.ListLemmas.{Has}
use Rattle.kt_mean.specs.declared.states.Value.{Value}
use Rattle.kt_mean.specs.declared.states.Value.TheVariants as value
use Rattle.kt_mean.specs.declared.states.Way.TheVariants.{Return, Throw}
use Rattle.kt_mean.specs.Frames.{State, Ending, Gave, Left, Over, Wrong, Run, ◌>>=◌, pure, wrong, ending_after}
use Rattle.kt_mean.specs.Evaluation.{Program, read, read_value, write, operated, operand_or_one, tree_at}
use Rattle.kt_model.specs.TreesWithin.{trees_in, all_trees_in}
use Rattle.kt_sound.specs.BodySoundness.{HasBuiltInClasses}
use Rattle.kt_sound.proofs.TypingSteps.{none_in, none-some, some-some, kept_trees}
use Rattle.kt_sound.proofs.NoFinding.{parts_none, closed_stood, IsDecided, some_finding, old_known, old_typed, compound_decided, types_first, typed_trees}
use Rattle.kt_sound.proofs.ValueTypes.{Lies, lies_above}
use Rattle.kt_sound.proofs.OperationEnds.{Unmoved, EndsIn, Yields}
use Rattle.kt_sound.proofs.Operations.{two_ints, sum_yields, arithmetic_yields, text_sum, gives-gives, breaks-gives}
use Rattle.kt_sound.proofs.BodyStanding.{Place, Ready, Gives, AllGive, Post, Eval, KeepsAt, Keeps}
use Rattle.kt_sound.proofs.BodySteps.{within_left, within_right, ready, ready_here, leaves, values_post}
use Rattle.kt_sound.proofs.BodyLaws.{Setting, value_gives}
use Rattle.kt_sound.proofs.LocalLaws.{Fit, fit_written, checked_post, put_stands, write_post}

-- ---- compound assignments

-- what an operator works on: a text and any value where it joins texts, else two numbers
abbrev WorksOn : (joins : Bool) → Value → Value → Type 0
WorksOn true v w = (t : KtType) × ((is_text (Some t) ≡ true) × Lies v t)
WorksOn false v w = Lies v int × Lies w int

-- an operator that is open, which joins texts only where the left operand is one
pub record Operates (o : Operation) (text : Bool) (op : Operator) : Type 0 where
  pub joins : Bool
  pub is : op ≡ sum_operator joins
  pub of_text : joins ≡ true → text ≡ true
  pub yields : (v w : Value) → WorksOn joins v w → Yields (operated o (v ∷ w ∷ [])) (sum_operator joins).gives

operates : (o : Operation) (text : Bool) (op : Operator) → operator_of o text ≡ Some op → Operates o text op
operates (Int' k) text op e = absurd (none-some op e)
operates (Bool' b) text op e = absurd (none-some op e)
operates Null' text op e = absurd (none-some op e)
operates (Template' texts) text op e = absurd (none-some op e)
operates (Sign' s) text op e = absurd (none-some op e)
operates Sum' true op e = record { joins = true; is = sym (some-some (sum_operator true) op e); of_text = λ i. refl; yields = λ v w on. text_sum v w on.0 on.1.0 on.1.1 }
operates Sum' false op e = record {
  joins = false;
  is = sym (some-some (sum_operator false) op e);
  of_text = λ i. absurd (false≢true i);
  yields = λ v w on. two_ints (operated Sum') int v w sum_yields on.0 on.1;
}
operates (Arithmetic' a) text op e = record {
  joins = false;
  is = sym (some-some (sum_operator false) op e);
  of_text = λ i. absurd (false≢true i);
  yields = λ v w on. two_ints (operated (Arithmetic' a)) int v w (arithmetic_yields a) on.0 on.1;
}
operates (Compare' c) text op e = absurd (none-some op e)
operates (Equal' c) text op e = absurd (none-some op e)
operates (BuiltIn' name returns) text op e = absurd (none-some op e)

-- what a compound assignment says that is not refused
pub record CompoundSays (cx : TypeContext) (operator : Option Operator) (t : KtType) (k : ℕ) (d : KtType) : Type 0 where
  pub op : Operator
  pub is : operator ≡ Some op
  pub few : nat_le k 1 ≡ true
  pub under : is_subtype cx.classes op.gives t ≡ true
  pub unit : unit ≡ d

compound_says : (cx : TypeContext) (n : Mark) (operator : Option Operator) (t : KtType) (k : ℕ) (d : KtType) → compound_claim cx n operator (Some t) k ≡ claim.Gives d → CompoundSays cx operator t k d
compound_says cx n None t k d e = absurd (breaks-gives _ _ d e)
compound_says cx n (Some op) t k d e = few (nat_le k 1) refl e
  where
    fits_type : (b : Bool) → is_subtype cx.classes op.gives t ≡ b → nat_le k 1 ≡ true → kept (stands_if b op.gives n.span) ≡ claim.Gives d → CompoundSays cx (Some op) t k d
    fits_type true i f e = record { op = op; is = refl; few = f; under = i; unit = gives-gives unit d e }
    fits_type false i f e = absurd (breaks-gives _ _ d e)

    few : (b : Bool) → nat_le k 1 ≡ b → (if b then kept_claim cx.classes n op.gives (Some t) else claim.Breaks Syntax n.span) ≡ claim.Gives d → CompoundSays cx (Some op) t k d
    few true i e = fits_type (is_subtype cx.classes op.gives t) refl i e
    few false i e = absurd (breaks-gives _ _ d e)

-- the old value is checked as the left operand
old_under : (classes : Classes) (word : Span) (o : Option (Option KtType)) (t : KtType) → o ≡ Some (Some t) → finding_in (claimed classes (Checked int) word (name_claim word o)) ≡ [] → is_subtype classes t int ≡ true
old_under classes word o t e f = by (is_subtype classes t int) refl (subst (λ z. finding_in (claimed classes (Checked int) word (name_claim word z)) ≡ []) e f)
  where
    by : (b : Bool) → is_subtype classes t int ≡ b → finding_in (stands_if b t word) ≡ [] → is_subtype classes t int ≡ true
    by true i h = i
    by false i h = absurd (some_finding _ h)

works_on : (classes : Classes) → HasBuiltInClasses classes → (word : Span) (joins : Bool) (o : Option (Option KtType)) (t : KtType) → o ≡ Some (Some t) → (joins ≡ true → is_text (type_or_none o) ≡ true)
    → finding_in (claimed classes (sum_operator joins).left word (name_claim word o)) ≡ [] → (v w : Value) → Lies v t → (joins ≡ false → Lies w int) → WorksOn joins v w
works_on classes h word true o t e text none v w l number = (t, (subst (λ u. is_text (type_or_none u) ≡ true) e (text refl), l))
works_on classes h word false o t e text none v w l number = (lies_above classes h v t int l (old_under classes word o t e none), number refl)

-- the operand is one value, a number where no texts are joined; it is 1 where none is written
pub record Operand (joins : Bool) (vs : List Value) : Type 0 where
  pub one : Value
  pub is : operand_or_one vs ≡ one ∷ []
  pub number : joins ≡ false → Lies one int

number_of : (joins : Bool) (found : Option KtType) (v : Value) → Gives (sum_operator joins).right found v → joins ≡ false → Lies v int
number_of true found v g e = absurd (true≢false e)
number_of false found v g e = g.1

operand_is : (cx : TypeContext) (joins : Bool) (locals : LocalTypes) (operand : Trees) (vs : List Value) → nat_le (count operand) 1 ≡ true
    → AllGive (Each (sum_operator joins).right) (all_judged cx (Each (sum_operator joins).right) locals operand).each_found vs → Operand joins vs
unfolding all_judged
operand_is cx joins locals Empty' [] h g = record { one = value.Int (pos 1); is = refl; number = λ e. refl }
operand_is cx joins locals Empty' (v ∷ vs) h g = absurd g
operand_is cx joins locals (First' a Empty') [] h g = absurd g
operand_is cx joins locals (First' a Empty') (v ∷ []) h g = record { one = v; is = refl; number = number_of joins (judged cx (sum_operator joins).right locals a).found v g.0 }
operand_is cx joins locals (First' a Empty') (v ∷ w ∷ vs) h g = absurd g.1
operand_is cx joins locals (First' a (First' b rest)) vs h g = let i = leb-true (suc (suc (count rest))) 1 h in absurd (omega arith)

compound_free : {p : Program} {cx : TypeContext} (g : Place p cx) (copy : ℕ) (n : Mark) (at : Span) (x : ℕ) (fixed : Bool) (o : Operation) (operand : Trees) (s : State)
    → Contains (all_trees_in g.body) (Compound' n at x fixed o operand) → Ready g (out_of copy (Compound' n at x fixed o operand) ∷ []) s → fixed ≡ true → is_some (s.here.locals x) ≡ false
compound_free g copy n at x true o operand s i r f =
    let t = Compound' n at x true o operand in
    r.stands.agrees.held x ∙ g.fine.assigns t x (what.Literals []) (out_of copy t) (r.at ∷ r.stands.path) i refl refl (0, omega arith, refl) (r.leads.0, r.stands.is_path)
compound_free g copy n at x false o operand s i r f = absurd (false≢true f)

-- what follows an operation
after_yields : {p : Program} {cx : TypeContext} (g : Place p cx) (exits : Exits) (way : Way) (found : Option KtType) (d : KtType) (r : Run Value) (k : Value → Run Value) (s : State) → Yields r d
    → ((v : Value) (s' : State) → Unmoved s s' → Lies v d → Post g exits way found (k v s').ending) → Post g exits way found ((r >>= k) s).ending
unfolding ◌>>=◌
after_yields g exits way found d r k s y next = by (r s).ending (y.at s)
  where
    by : (e : Ending Value) → EndsIn (λ v. Lies v d) s e → Post g exits way found (ending_after e k)
    by (Gave v s') h = next v s' h.1 h.0
    by (Left (Return v) s') h = absurd h
    by (Left (Throw x) s') h = tt
    by (Over l) h = tt
    by Wrong h = h

-- what follows a read that finds a value
after_read : {p : Program} {cx : TypeContext} (g : Place p cx) (exits : Exits) (way : Way) (found : Option KtType) (x : ℕ) (k : Value → Run Value) (s : State) → is_some (s.here.locals x) ≡ true
    → ((v : Value) → s.here.locals x ≡ Some v → Post g exits way found (k v s).ending) → Post g exits way found ((read x >>= k) s).ending
unfolding ◌>>=◌ read pure wrong
after_read g exits way found x k s held h = by (s.here.locals x) held h
  where
    by : (o : Option Value) → is_some o ≡ true → ((v : Value) → o ≡ Some v → Post g exits way found (k v s).ending) → Post g exits way found (ending_after (read_value o s).ending k)
    by None held h = absurd (false≢true held)
    by (Some v) held h = h v refl

pub law_compound : (p : Program) (cx : TypeContext) → Setting p cx → (go : Eval) → Keeps p cx go → (n : Mark) (at : Span) (x : ℕ) (fixed : Bool) (o : Operation) (operand : Trees)
    → KeepsAt p cx (tree_at p go) (Compound' n at x fixed o operand)
unfolding edges judged trees_in write Has
law_compound p cx set go keeps n at x fixed o operand g context exits way locals s w a st =
    let t = Compound' n at x fixed o operand in
    let out = out_of context.copy t in
    let old = look_up locals x in
    let operator = operator_of o (is_text (type_or_none old)) in
    let before = old_value cx (left_way operator) n.word old locals in
    let after = all_judged cx (Each (right_way operator)) locals operand in
    let parts = in_front before after in
    let c = compound_claim cx n operator (type_or_none old) (count operand) in
    let first = enter context t (entry_of context.copy (out ∷ []) operand) in
    let within = all_edges context (out ∷ []) operand in
    let w0 = within_left first (within ++ leave_edges context t exits) w in
    let w1 = within_right first (within ++ leave_edges context t exits) w in
    let both = none_in before.findings after.findings (parts_none cx way n parts c a.none) in
    let has = old_known n.word cx.classes (left_way operator) old (a.known x) both.0 in
    let all = typed_trees cx (Each (right_way operator)) locals operand a.known both.1 in
    let types = types_first before.found after.each_found (old_typed cx (left_way operator) n.word old locals (a.known x) both.0) all.types in
    let decided = subst (λ u. IsDecided (compound_claim cx n operator (type_or_none u) (count operand))) (sym has.1) (compound_decided cx n o (is_text (type_or_none old)) has.0 (count operand)) in
    let h = closed_stood cx way n parts c types decided a.none in
    let says = compound_says cx n operator has.0 (count operand) h.type (subst (λ u. compound_claim cx n operator (type_or_none u) (count operand) ≡ claim.Gives h.type) has.1 h.gives) in
    let place : look_up g.locals x ≡ Some (Some has.0) = a.covered x (Some has.0) (kept_trees cx (Each (right_way operator)) locals operand x (Some has.0) has.1) in
    let inside : Contains (all_trees_in g.body) t = a.inside t (inl refl) in
    let assigned_here = g.fine.reads t x (in_of context.copy t) st.path inside refl refl (0, omega arith, refl) st.is_path in
    let found = (closed cx way n parts c).found in
    after_read g exits way found x _ s (st.agrees.held x ∙ assigned_here) (λ v e.
    let lies_old : Lies v has.0 = st.agrees.typed x v has.0 e place in
    let does = operates o (is_text (type_or_none old)) says.op says.is in
    let is : operator ≡ Some (sum_operator does.joins) = says.is ∙ ap (λ q. Some q) does.is in
    let none = subst (λ q. (old_value cx (left_way q) n.word old locals).findings ≡ []) is both.0 in
    values_post go keeps operand g context exits way found (Each (right_way operator)) locals (out ∷ []) s _ (within_left within (leave_edges context t exits) w1)
    (record { known = a.known; none = both.1; covered = a.covered; inside = λ u i. a.inside u (inr i) })
    (ready context (entry_of context.copy (out ∷ []) operand) w0 st)
    (λ vs s' r gives.
    let made = (sum_operator does.joins).gives in
    let right = operand_is cx does.joins locals operand vs says.few (subst (λ q. AllGive (Each (right_way q)) (all_judged cx (Each (right_way q)) locals operand).each_found vs) is gives) in
    let on = works_on cx.classes set.built_in n.word does.joins old has.0 has.1 does.of_text none v right.one lies_old right.number in
    let yields : Yields (operated o (v ∷ operand_or_one vs)) made = subst (λ zs. Yields (operated o (v ∷ zs)) made) (sym right.is) (does.yields v right.one on) in
    after_yields g exits way found made (operated o (v ∷ operand_or_one vs)) _ s' yields (λ u s'' same l.
    let r' : Ready g (out ∷ []) s'' = ready_here same.here r in
    let fit : Fit g x u = record { type = has.0; is = place; lies = lies_above cx.classes set.built_in u made has.0 l (subst (λ q. is_subtype cx.classes q.gives has.0 ≡ true) does.is says.under) } in
    checked_post g exits way found (p.written x) u (write fixed x u) s'' (fit_written g set x u fit)
    (write_post g exits way found fixed (s''.here.locals x) x u s'' (compound_free g context.copy n at x fixed o operand s'' inside r') (
      leaves context t exits value.Unit (within_right within (leave_edges context t exits) w1) (put_stands g out x u s'' (λ y b. refl) fit r'),
      value_gives cx set way n parts c types h value.Unit (subst (λ d. Lies value.Unit d) says.unit refl),
    )))))
