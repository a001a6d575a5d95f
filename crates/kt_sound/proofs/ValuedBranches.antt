-- The branches of an `if` whose value is taken: the value of each is that of its last statement, and lies in the type of the whole.
use Rattle.std.proofs.Common.{◌≡◌, ◌⊎◌, ◌&&◌, Bool, true, false, not, Option, Some, None, List, [], ◌∷◌, inl, inr, refl, sym, ap, subst, ◌∙◌}
use Rattle.std.proofs.lemmas.Bool.{false≢true}
use Rattle.kt_tree.specs.declared.token.Span.{Span}
use Rattle.kt_model.specs.BodyTrees.{Mark, Tree, Trees, Empty', First', number}
use Rattle.kt_model.specs.Classes.{Classes}
use Rattle.kt_model.specs.ControlFlow.{FlowContext, Exits, Node, Then, entry_of, edges, all_edges}
use Rattle.kt_model.specs.declared.kinds.KtType.{KtType}
use Rattle.kt_typing.specs.declared.claims.Way.{Way}
use Rattle.kt_typing.specs.declared.claims.Way.TheVariants.{Unvalued, Plain, Inferred, Checked}
use Rattle.kt_typing.specs.declared.claims.Claim.TheVariants as claim
use Rattle.kt_typing.specs.Typing.{Ways, Each, first_way, rest_ways, TypeContext, LocalTypes, Judgements, claimed, type_in, finding_in, have_types, first_of, last_of, branch_way, branch_ways, end_way, has_nothing, is_declaration_or_assignment, never_ends, joined_type, joined_claim, closed, unit, judged, all_judged}
use Rattle.kt_mean.specs.declared.states.Value.{Value}
use Rattle.kt_mean.specs.declared.states.Value.TheVariants as value
use Rattle.kt_mean.specs.declared.states.Way.TheVariants.{Return, Throw}
use Rattle.kt_mean.specs.Frames.{State, Ending, Gave, Left, Over, Wrong, ◌>>=◌, pure}
use Rattle.kt_mean.specs.Evaluation.{Program, block, block_from}
use Rattle.kt_sound.specs.BodySoundness.{HasBuiltInClasses}
use Rattle.kt_sound.proofs.TypingSteps.{none-some, ways_of_branch, branch_judged}
use Rattle.kt_sound.proofs.NoFinding.{Stood, stood, closed_found}
use Rattle.kt_sound.proofs.ValueTypes.{Lies}
use Rattle.kt_sound.proofs.UpperTypes.{lies_upper}
use Rattle.kt_sound.proofs.Operations.{gives_of, gives-gives, breaks-gives}
use Rattle.kt_sound.proofs.BodyStanding.{Place, Ready, Within, AllAccepted, Gives, Post, Eval, Keeps}
use Rattle.kt_sound.proofs.BodySteps.{within_left, within_right, enters, value_post, accepted_first, accepted_rest}
use Rattle.kt_sound.proofs.Unreached.{never_last}

-- ---- the value of a block

-- the type that is found for the last statement
abbrev last_found : TypeContext → Way → LocalTypes → Trees → Option KtType
last_found cx way locals ts = first_of (last_of (all_judged cx (branch_ways way ts) locals ts).each_found)

-- a block with a last statement, whose value is taken
last_post : {p : Program} {cx : TypeContext} (go : Eval) → Keeps p cx go → (t : Tree) (rest : Trees) (g : Place p cx) (context : FlowContext) (way : Way) (locals : LocalTypes) (next : List Node) (v : Value) (s : State)
    → Within g.edges (all_edges context next (First' t rest)) → AllAccepted g (branch_ways way (First' t rest)) locals (First' t rest) → Ready g (entry_of context.copy next (First' t rest)) s
    → Post g (Then next) way (last_found cx way locals (First' t rest)) (block_from p go v (First' t rest) s).ending
unfolding all_edges all_judged ◌>>=◌ pure
last_post {p} {cx} go keeps t Empty' g context way locals next v s w a r =
    let found = (judged cx way locals t).found in
    value_post g next (Then next) way way found found (go t s).ending (λ u. block_from p go u Empty')
    (keeps t g context (Then next) way locals s (within_left (edges context (Then next) t) [] w) (accepted_first g (branch_ways way (First' t Empty')) locals t Empty' a) (enters context.copy t r))
    (λ u s' r' gives. (r', gives))
last_post {p} {cx} go keeps t (First' u rest) g context way locals next v s w a r =
    let after = entry_of context.copy next (First' u rest) in
    let first = judged cx Unvalued locals t in
    let ways = branch_ways way (First' t (First' u rest)) in
    value_post g after (Then next) way Unvalued (last_found cx way first.locals (First' u rest)) first.found (go t s).ending (λ x. block_from p go x (First' u rest))
    (keeps t g context (Then after) Unvalued locals s (within_left (edges context (Then after) t) (all_edges context next (First' u rest)) w) (accepted_first g ways locals t (First' u rest) a) (enters context.copy t r))
    (λ x s' r' gives.
    last_post go keeps u rest g context way first.locals next x s' (within_right (edges context (Then after) t) (all_edges context next (First' u rest)) w) (accepted_rest g ways locals t (First' u rest) a) r')

-- a block in which a type is found for a last statement
valued_post : {p : Program} {cx : TypeContext} (go : Eval) → Keeps p cx go → (ts : Trees) (g : Place p cx) (context : FlowContext) (way : Way) (locals : LocalTypes) (next : List Node) (v : Value) (s : State) (d : KtType)
    → last_found cx way locals ts ≡ Some d → Within g.edges (all_edges context next ts) → AllAccepted g (branch_ways way ts) locals ts → Ready g (entry_of context.copy next ts) s
    → Post g (Then next) way (Some d) (block_from p go v ts s).ending
unfolding all_judged
valued_post go keeps Empty' g context way locals next v s d e w a r = absurd (none-some d e)
valued_post {p} go keeps (First' t rest) g context way locals next v s d e w a r =
    subst (λ o. Post g (Then next) way o (block_from p go v (First' t rest) s).ending) e (last_post go keeps t rest g context way locals next v s w a r)

-- ---- a branch that never comes to its end

both_true : (a b c : Bool) → (a && (b && not c)) ≡ true → (a ≡ true) × (c ≡ false)
both_true true true false e = (refl, refl)
both_true true true true e = absurd (false≢true e)
both_true true false c e = absurd (false≢true e)
both_true false b c e = absurd (false≢true e)

never_post : {p : Program} {cx : TypeContext} (go : Eval) → Keeps p cx go → (ts : Trees) (found : List (Option KtType)) → never_ends cx found ts ≡ true → (g : Place p cx) (context : FlowContext) (ways : Ways) (way : Way) (o : Option KtType)
    (locals : LocalTypes) (next : List Node) (v : Value) (s : State) → Within g.edges (all_edges context next ts) → AllAccepted g ways locals ts → Ready g (entry_of context.copy next ts) s → Post g (Then next) way o (block_from p go v ts s).ending
unfolding all_edges all_judged ◌>>=◌
never_post go keeps Empty' found never g context ways way o locals next v s w a r = absurd (false≢true never)
never_post {p} {cx} go keeps (First' t Empty') found never g context ways way o locals next v s w a r =
    let says = both_true (is_declaration_or_assignment t) (has_nothing found) (cx.is_left (number t)) never in
    never_last go g t (keeps t) says.0 says.1 context (first_way ways) way o locals next s (λ u. block_from p go u Empty') (within_left (edges context (Then next) t) [] w) (accepted_first g ways locals t Empty' a)
    (enters context.copy t r)
never_post {p} {cx} go keeps (First' t (First' u rest)) found never g context ways way o locals next v s w a r =
    let after = entry_of context.copy next (First' u rest) in
    let first = judged cx (first_way ways) locals t in
    value_post g after (Then next) way (first_way ways) o first.found (go t s).ending (λ x. block_from p go x (First' u rest))
    (keeps t g context (Then after) (first_way ways) locals s (within_left (edges context (Then after) t) (all_edges context next (First' u rest)) w) (accepted_first g ways locals t (First' u rest) a) (enters context.copy t r))
    (λ x s' r' gives.
    never_post go keeps (First' u rest) found never g context (rest_ways ways) way o first.locals next x s' (within_right (edges context (Then after) t) (all_edges context next (First' u rest)) w)
    (accepted_rest g ways locals t (First' u rest) a) r')

-- ---- a branch whose value is taken

unit_gives : (classes : Classes) → HasBuiltInClasses classes → (way : Way) (at : Span) (d : KtType) → type_in (claimed classes way at (claim.Gives unit)) ≡ Some d → finding_in (claimed classes way at (claim.Gives unit)) ≡ []
    → Gives way (Some d) value.Unit
unit_gives classes h way at d e none =
    let s = stood classes way at (claim.Gives unit) tt none in
    gives_of classes h way (Some d) s.type value.Unit (sym e ∙ s.found) s.under (subst (λ t. Lies value.Unit t) (gives-gives unit s.type s.gives) refl)

-- where a type is found for its end
pub branch_post : {p : Program} {cx : TypeContext} → HasBuiltInClasses cx.classes → (go : Eval) → Keeps p cx go → (ts : Trees) (g : Place p cx) (context : FlowContext) (way : Way) (at : Option Span) (locals : LocalTypes) (next : List Node)
    (s : State) (d : KtType) → first_of (last_of (branch_judged cx way at locals ts).each_found) ≡ Some d → (branch_judged cx way at locals ts).findings ≡ [] → Within g.edges (all_edges context next ts)
    → AllAccepted g (ways_of_branch cx way locals ts) locals ts → Ready g (entry_of context.copy next ts) s → Post g (Then next) way (Some d) (block p go ts s).ending
unfolding pure
branch_post built_in go keeps Empty' g context way None locals next s d e none w a r = absurd (none-some d e)
branch_post {p} {cx} built_in go keeps Empty' g context way (Some at) locals next s d e none w a r = (r, unit_gives cx.classes built_in way at d e none)
branch_post {p} {cx} built_in go keeps (First' t rest) g context way at locals next s d e none w a r =
    by (never_ends cx found (First' t rest)) refl e a
  where
    found : List (Option KtType)
    found = (all_judged cx (Each Unvalued) locals (First' t rest)).each_found

    by : (never : Bool) → never_ends cx found (First' t rest) ≡ never → last_found cx (end_way never way) locals (First' t rest) ≡ Some d → AllAccepted g (branch_ways (end_way never way) (First' t rest)) locals (First' t rest)
        → Post g (Then next) way (Some d) (block p go (First' t rest) s).ending
    by false i f b = valued_post go keeps (First' t rest) g context way locals next value.Unit s d f w b r
    by true i f b = never_post go keeps (First' t rest) found i g context (branch_ways Unvalued (First' t rest)) way (Some d) locals next value.Unit s w b r

-- ---- the type of the whole

-- the last statements of both branches have types, which are joined
pub record Joins (classes : Classes) (way : Way) (firsts seconds : List (Option KtType)) (d : KtType) : Type 0 where
  pub first : KtType
  pub second : KtType
  pub is_first : first_of firsts ≡ Some first
  pub is_second : first_of seconds ≡ Some second
  pub is : joined_type classes way first second ≡ d

lacks-gives : (d : KtType) → claim.Lacks ≡ claim.Gives d → ⊥
lacks-gives d e = cc

pub joins : (classes : Classes) (way : Way) (n : Mark) (firsts seconds : List (Option KtType)) (d : KtType) → joined_claim classes way n firsts seconds ≡ claim.Gives d → Joins classes way firsts seconds d
joins classes way n [] seconds d e = absurd (breaks-gives _ _ d e)
joins classes way n (None ∷ firsts) [] d e = absurd (breaks-gives _ _ d e)
joins classes way n (None ∷ firsts) (b ∷ seconds) d e = absurd (lacks-gives d e)
joins classes way n (Some a ∷ firsts) [] d e = absurd (breaks-gives _ _ d e)
joins classes way n (Some a ∷ firsts) (None ∷ seconds) d e = absurd (lacks-gives d e)
joins classes way n (Some a ∷ firsts) (Some b ∷ seconds) d e = record { first = a; second = b; is_first = refl; is_second = refl; is = gives-gives (joined_type classes way a b) d e }

-- a value of one branch is one of the whole, by its type
joined_gives : (classes : Classes) → HasBuiltInClasses classes → (way : Way) (a b : KtType) (v : Value) → Gives (branch_way way) (Some a) v ⊎ Gives (branch_way way) (Some b) v → Gives way (Some (joined_type classes way a b)) v
joined_gives classes h Unvalued a b v l = tt
joined_gives classes h Plain a b v l = lies_upper classes h v a b l
joined_gives classes h Inferred a b v l = lies_upper classes h v a b l
joined_gives classes h (Checked t) a b v (inl l) = (l.1, l.1)
joined_gives classes h (Checked t) a b v (inr l) = (l.1, l.1)

pub whole_gives : (cx : TypeContext) → HasBuiltInClasses cx.classes → (way : Way) (n : Mark) (parts : Judgements) (firsts seconds : List (Option KtType)) → have_types parts.each_found ≡ true
    → (h : Stood cx.classes Plain n.span (joined_claim cx.classes way n firsts seconds)) (j : Joins cx.classes way firsts seconds h.type) (v : Value)
    → Gives (branch_way way) (Some j.first) v ⊎ Gives (branch_way way) (Some j.second) v → Gives way (closed cx Plain n parts (joined_claim cx.classes way n firsts seconds)).found v
whole_gives cx built_in way n parts firsts seconds types h j v l =
    let is = closed_found cx Plain n parts (joined_claim cx.classes way n firsts seconds) types ∙ h.found in
    subst (λ o. Gives way o v) (ap (λ d. Some d) j.is ∙ sym is) (joined_gives cx.classes built_in way j.first j.second v l)

-- ---- ends

-- the same end, of whose value less is said
pub as_given : {p : Program} {cx : TypeContext} (g : Place p cx) (exits : Exits) (way way' : Way) (found found' : Option KtType) (r : Ending Value) → ((v : Value) → Gives way' found' v → Gives way found v)
    → Post g exits way' found' r → Post g exits way found r
as_given g exits way way' found found' (Gave v s) says h = (h.0, says v h.1)
as_given g exits way way' found found' (Left (Return v) s) says h = h
as_given g exits way way' found found' (Left (Throw x) s) says h = tt
as_given g exits way way' found found' (Over l) says h = tt
as_given g exits way way' found found' Wrong says h = h
