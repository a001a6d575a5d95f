-- The laws of soundness: `if` and `return`.
use Rattle.std.proofs.Common.{◌≡◌, Bool, true, false, Option, Some, None, List, [], ◌∷◌, ◌++◌, Contains, inl, inr, refl, sym, subst}
use Rattle.kt_model.specs.BodyTrees.{Braces, Mark, Tree, Trees, Empty', First', If', Return'}
use Rattle.kt_model.specs.ControlFlow.{FlowContext, Exits, Then, Branch, in_of, out_of, enter, entry_of, leave_edges, on, edges, all_edges}
use Rattle.kt_model.specs.NodePaths.{assigned_after}
use Rattle.kt_model.specs.TreesWithin.{trees_in, all_trees_in}
use Rattle.kt_model.specs.declared.graph.Variable.{Variable}
use Rattle.kt_model.specs.declared.kinds.KtType.{KtType}
use Rattle.kt_model.proofs.ListLemmas.{Has, has_left, has_right}
use Rattle.kt_typing.specs.declared.claims.Way.{Way}
use Rattle.kt_typing.specs.declared.claims.Way.TheVariants.{Unvalued, Plain, Checked}
use Rattle.kt_typing.specs.declared.claims.Claim.{Claim}
use Rattle.kt_typing.specs.declared.claims.Claim.TheVariants as claim
use Rattle.kt_typing.specs.Typing.{Ways, Each, TypeContext, LocalTypes, Judgement, Judgements, have_types, last_of, branch_way, look_up, joined_claim, branched, closed, count, boolean, unit, is_unit, unit_if, bare_return, return_claim, value_way, judged, all_judged}
use Rattle.kt_mean.specs.declared.states.Value.{Value}
use Rattle.kt_mean.specs.declared.states.Value.TheVariants as value
use Rattle.kt_mean.specs.declared.states.Way.TheVariants.{Return, Throw}
use Rattle.kt_mean.specs.Frames.{State, Ending, Gave, Left, Over, Wrong, ◌>>=◌, leave}
use Rattle.kt_mean.specs.Evaluation.{Program, fits, block, if_tree, returned, tree_at}
use Rattle.kt_sound.proofs.TypingSteps.{none_in, Known, Kept, kept_trees, ways_of_branch, branch_judged, branch_locals}
use Rattle.kt_sound.proofs.NoFinding.{parts_none, branch_none, branch_types, closed_stood, return_decided, joined_decided, types_last, types_branched, typed_tree, typed_trees}
use Rattle.kt_sound.proofs.ValueTypes.{Lies, unit_is}
use Rattle.kt_sound.proofs.Operations.{breaks-gives}
use Rattle.kt_sound.proofs.BodyStanding.{Place, Stands, Ready, Within, Accepted, AllAccepted, Gives, AllGive, Post, Eval, KeepsAt, Keeps}
use Rattle.kt_sound.proofs.BodySteps.{within_left, within_right, ready, quiet, enters, leaves, values_post, block_post}
use Rattle.kt_sound.proofs.BodyLaws.{Setting}
use Rattle.kt_sound.proofs.ConditionLaws.{choice_post}
use Rattle.kt_sound.proofs.ValuedBranches.{branch_post, joins, whole_gives, as_given}

-- ---- `if`

module _ {p : Program} {cx : TypeContext} (g : Place p cx) (ways_true ways_false : Ways) (locals between : LocalTypes) (c : Tree) (a b : Trees) where
  abbrev condition : Judgement
  condition = judged cx (Checked boolean) locals c

  abbrev first : Judgements
  first = all_judged cx ways_true condition.locals a

  -- the second branch is typed behind the first, whose locals it doesn't see
  abbrev second : Judgements
  second = all_judged cx ways_false between b

  -- what is accepted of a condition and two branches
  record Branches : Type 0 where
    pub asked : Accepted g (Checked boolean) locals c
    pub if_true : AllAccepted g ways_true condition.locals a
    pub if_false : AllAccepted g ways_false between b

  branches : Known locals → condition.findings ≡ [] → first.findings ≡ [] → second.findings ≡ [] → between ≡ first.locals → Kept second.locals g.locals
      → ((u : Tree) → Has (trees_in c ++ (all_trees_in a ++ all_trees_in b)) u → Contains (all_trees_in g.body) u) → Branches
  branches known none_asked none_first none_second behind covered inside =
      let typed_asked = typed_tree cx (Checked boolean) locals c known none_asked in
      let typed_first = typed_trees cx ways_true condition.locals a typed_asked.known none_first in
      let covered_first : Kept first.locals g.locals = λ x u i. covered x u (kept_trees cx ways_false between b x u (subst (λ (ls : LocalTypes). look_up ls x ≡ Some u) (sym behind) i)) in
      record {
        asked = record {
          known = known;
          none = none_asked;
          covered = λ x u i. covered_first x u (kept_trees cx ways_true condition.locals a x u i);
          inside = λ u i. inside u (has_left (trees_in c) (all_trees_in a ++ all_trees_in b) u i);
        };
        if_true = record {
          known = typed_asked.known;
          none = none_first;
          covered = covered_first;
          inside = λ u i. inside u (has_right (trees_in c) (all_trees_in a ++ all_trees_in b) u (has_left (all_trees_in a) (all_trees_in b) u i));
        };
        if_false = record {
          known = subst (λ (ls : LocalTypes). Known ls) (sym behind) typed_first.known;
          none = none_second;
          covered = covered;
          inside = λ u i. inside u (has_right (trees_in c) (all_trees_in a ++ all_trees_in b) u (has_right (all_trees_in a) (all_trees_in b) u i));
        };
      }

-- where a branch ends, its tree ends
branch_end : {p : Program} {cx : TypeContext} (g : Place p cx) (context : FlowContext) (t : Tree) (exits : Exits) (way : Way) (found : Option KtType) (r : Ending Value)
    → ((x : Variable) (b : Bool) → assigned_after (out_of context.copy t).effects x b ≡ b) → Within g.edges (leave_edges context t exits)
    → Post g (Then (out_of context.copy t ∷ [])) way found r → Post g exits way found r
branch_end g context t exits way found (Gave v s) same w h = (leaves context t exits v w (quiet {ms = []} same h.0), h.1)
branch_end g context t exits way found (Left (Return v) s) same w h = h
branch_end g context t exits way found (Left (Throw x) s) same w h = tt
branch_end g context t exits way found (Over l) same w h = tt
branch_end g context t exits way found Wrong same w h = h

-- a tree whose branches each end as it is to end
if_post : {p : Program} {cx : TypeContext} (g : Place p cx) (go : Eval) → Keeps p cx go → (context : FlowContext) (exits : Exits) (way : Way) (found : Option KtType) (locals : LocalTypes) (n : Mark) (braces : Braces) (c : Tree) (a b : Trees) (s : State)
    → Within g.edges (edges context exits (If' n braces c a b)) → Stands g (in_of context.copy (If' n braces c a b)) s → Accepted g (Checked boolean) locals c
    → ((s' : State) → Within g.edges (all_edges context (out_of context.copy (If' n braces c a b) ∷ []) a) → Ready g (entry_of context.copy (out_of context.copy (If' n braces c a b) ∷ []) a) s'
    → Post g (Then (out_of context.copy (If' n braces c a b) ∷ [])) way found (block p go a s').ending)
    → ((s' : State) → Within g.edges (all_edges context (out_of context.copy (If' n braces c a b) ∷ []) b) → Ready g (entry_of context.copy (out_of context.copy (If' n braces c a b) ∷ []) b) s'
    → Post g (Then (out_of context.copy (If' n braces c a b) ∷ [])) way found (block p go b s').ending)
    → Post g exits way found (if_tree p go c a b s).ending
unfolding edges ◌>>=◌
if_post {p} {cx} g go keeps context exits way found locals n braces c a b s w st asked at_true at_false =
    let t = If' n braces c a b in
    let out = out_of context.copy t in
    let on_true = entry_of context.copy (out ∷ []) a in
    let on_false = entry_of context.copy (out ∷ []) b in
    let start = enter context t (in_of context.copy c ∷ []) in
    let within = edges context (Branch on_true on_false) c in
    let within_true = all_edges context (out ∷ []) a in
    let within_false = all_edges context (out ∷ []) b in
    let lasts = leave_edges context t exits in
    let w1 = within_right start (within ++ (within_true ++ (within_false ++ lasts))) w in
    let w2 = within_right within (within_true ++ (within_false ++ lasts)) w1 in
    let w3 = within_right within_true (within_false ++ lasts) w2 in
    let w4 = within_right within_false lasts w3 in
    choice_post g on_true on_false exits way found (judged cx (Checked boolean) locals c).found (go c s).ending (block p go a) (block p go b)
    (keeps c g context (Branch on_true on_false) (Checked boolean) locals s (within_left within (within_true ++ (within_false ++ lasts)) w1) asked
    (enters context.copy c (ready context (in_of context.copy c ∷ []) (within_left start (within ++ (within_true ++ (within_false ++ lasts))) w) st)))
    (λ s' r. branch_end g context t exits way found (block p go a s').ending (λ x i. refl) w4 (at_true s' (within_left within_true (within_false ++ lasts) w2) r))
    (λ s' r. branch_end g context t exits way found (block p go b s').ending (λ x i. refl) w4 (at_false s' (within_left within_false lasts w3) r))

-- an `if` whose value is taken: its branches, and what is said of it
module _ {p : Program} {cx : TypeContext} (g : Place p cx) (way : Way) (locals : LocalTypes) (n : Mark) (braces : Braces) (c : Tree) (a b : Trees) where
  abbrev asked_of : Judgement
  asked_of = judged cx (Checked boolean) locals c

  abbrev one : Judgements
  one = branch_judged cx (branch_way way) braces.first asked_of.locals a

  abbrev other : Judgements
  other = branch_judged cx (branch_way way) braces.second one.locals b

  abbrev ways_true : Ways
  ways_true = ways_of_branch cx (branch_way way) asked_of.locals a

  abbrev ways_false : Ways
  ways_false = ways_of_branch cx (branch_way way) one.locals b

  abbrev parts : Judgements
  parts = branched asked_of one other

  abbrev says : Claim
  says = joined_claim cx.classes way n (last_of one.each_found) (last_of other.each_found)

  abbrev whole : Judgement
  whole = closed cx Plain n parts says

  -- what is found in its branches
  record NoneFound : Type 0 where
    pub none_asked : asked_of.findings ≡ []
    pub none_one : one.findings ≡ []
    pub none_other : other.findings ≡ []

  none_found : whole.findings ≡ [] → NoneFound
  none_found none =
      let outer = none_in asked_of.findings (one.findings ++ other.findings) (parts_none cx Plain n parts says none) in
      let inner = none_in one.findings other.findings outer.1 in
      record { none_asked = outer.0; none_one = inner.0; none_other = inner.1 }

  valued_if : Setting p cx → (go : Eval) → Keeps p cx go → (context : FlowContext) (exits : Exits) (s : State) → Within g.edges (edges context exits (If' n braces c a b)) → Stands g (in_of context.copy (If' n braces c a b)) s
      → Branches g ways_true ways_false locals one.locals c a b → NoneFound → whole.findings ≡ [] → Post g exits way whole.found (if_tree p go c a b s).ending
  valued_if set go keeps context exits s w st all found none =
      let out = out_of context.copy (If' n braces c a b) ∷ [] in
      let inner = branch_way way in
      let is_typed = (typed_tree cx (Checked boolean) locals c all.asked.known found.none_asked).type in
      let types_one = branch_types cx inner braces.first asked_of.locals a found.none_one (typed_trees cx ways_true asked_of.locals a all.if_true.known all.if_true.none).types in
      let types_other = branch_types cx inner braces.second one.locals b found.none_other (typed_trees cx ways_false one.locals b all.if_false.known all.if_false.none).types in
      let types = types_branched asked_of one other is_typed types_one types_other in
      let decided = joined_decided cx.classes way n (last_of one.each_found) (last_of other.each_found) (types_last one.each_found types_one) (types_last other.each_found types_other) in
      let h = closed_stood cx Plain n parts says types decided none in
      let j = joins cx.classes way n (last_of one.each_found) (last_of other.each_found) h.type h.gives in
      let gives = whole_gives cx set.built_in way n parts (last_of one.each_found) (last_of other.each_found) types h j in
      if_post g go keeps context exits way whole.found locals n braces c a b s w st all.asked
      (λ s' w' r. as_given g (Then out) way inner whole.found (Some j.first) (block p go a s').ending (λ v l. gives v (inl l))
      (branch_post set.built_in go keeps a g context inner braces.first asked_of.locals out s' j.first j.is_first found.none_one w' all.if_true r))
      (λ s' w' r. as_given g (Then out) way inner whole.found (Some j.second) (block p go b s').ending (λ v l. gives v (inr l))
      (branch_post set.built_in go keeps b g context inner braces.second one.locals out s' j.second j.is_second found.none_other w' all.if_false r))

pub law_if : (p : Program) (cx : TypeContext) → Setting p cx → (go : Eval) → Keeps p cx go → (n : Mark) (braces : Braces) (c : Tree) (a b : Trees) → KeepsAt p cx (tree_at p go) (If' n braces c a b)
unfolding judged trees_in Has
law_if p cx set go keeps n braces c a b g context exits Unvalued locals s w acc st =
    let each = Each Unvalued in
    let asked = judged cx (Checked boolean) locals c in
    let one = all_judged cx each asked.locals a in
    let other = all_judged cx each one.locals b in
    let inner = branched asked one other in
    let found = (closed cx Unvalued n inner (claim.Gives unit)).found in
    let out = out_of context.copy (If' n braces c a b) ∷ [] in
    let outer = none_in asked.findings (one.findings ++ other.findings) (parts_none cx Unvalued n inner (claim.Gives unit) acc.none) in
    let both = none_in one.findings other.findings outer.1 in
    let all = branches g each each locals one.locals c a b acc.known outer.0 both.0 both.1 refl acc.covered (λ u i. acc.inside u (inr i)) in
    if_post g go keeps context exits Unvalued found locals n braces c a b s w st all.asked
    (λ s' w' r. as_given g (Then out) Unvalued Unvalued found None (block p go a s').ending (λ v l. tt) (block_post go keeps a g context each asked.locals out value.Unit s' w' all.if_true r))
    (λ s' w' r. as_given g (Then out) Unvalued Unvalued found None (block p go b s').ending (λ v l. tt) (block_post go keeps b g context each one.locals out value.Unit s' w' all.if_false r))
law_if p cx set go keeps n braces c a b g context exits way locals s w acc st =
    let inner = branch_way way in
    let asked = judged cx (Checked boolean) locals c in
    let first = branch_judged cx inner braces.first asked.locals a in
    let found = none_found g way locals n braces c a b acc.none in
    let covered = subst (λ (ls : LocalTypes). Kept ls g.locals) (branch_locals cx inner braces.second first.locals b) acc.covered in
    let all = branches g (ways_of_branch cx inner asked.locals a) (ways_of_branch cx inner first.locals b) locals first.locals c a b acc.known found.none_asked
    (branch_none cx inner braces.first asked.locals a found.none_one) (branch_none cx inner braces.second first.locals b found.none_other)
    (branch_locals cx inner braces.first asked.locals a) covered (λ u i. acc.inside u (inr i)) in
    valued_if g way locals n braces c a b set go keeps context exits s w st all found acc.none

-- ---- `return`

-- `Unit` fits the result of a function that is left without a value
bare_fits : (result : Option KtType) (n : Mark) (d : KtType) → bare_return result n ≡ claim.Gives d → fits result value.Unit ≡ true
bare_fits None n d e = refl
bare_fits (Some t) n d e = by (is_unit t) refl e
  where
    by : (b : Bool) → is_unit t ≡ b → unit_if b n ≡ claim.Gives d → Lies value.Unit t
    by true i f = subst (λ u. Lies value.Unit u) (sym (unit_is t.head t.nullable i)) refl
    by false i f = absurd (breaks-gives _ _ d f)

value_fits : (result found : Option KtType) (v : Value) → Gives (value_way result) found v → fits result v ≡ true
value_fits None found v h = refl
value_fits (Some t) found v h = h.1

returned_post : {p : Program} {cx : TypeContext} (g : Place p cx) (exits : Exits) (way : Way) (found : Option KtType) (n : Mark) (locals : LocalTypes) (operand : Trees) (vs : List Value) (s : State) (d : KtType)
    → return_claim cx.result n (count operand) ≡ claim.Gives d → AllGive (Each (value_way cx.result)) (all_judged cx (Each (value_way cx.result)) locals operand).each_found vs → Post g exits way found (returned vs s).ending
unfolding all_judged leave
returned_post {p} {cx} g exits way found n locals Empty' [] s d e all = bare_fits cx.result n d e
returned_post {p} {cx} g exits way found n locals Empty' (v ∷ vs) s d e all = absurd all
returned_post {p} {cx} g exits way found n locals (First' a Empty') [] s d e all = absurd all
returned_post {p} {cx} g exits way found n locals (First' a Empty') (v ∷ []) s d e all = value_fits cx.result (judged cx (value_way cx.result) locals a).found v all.0
returned_post {p} {cx} g exits way found n locals (First' a Empty') (v ∷ u ∷ vs) s d e all = absurd all.1
returned_post {p} {cx} g exits way found n locals (First' a (First' b rest)) vs s d e all = absurd (breaks-gives _ _ d e)

-- Nothing follows a `return`.
pub law_return : (p : Program) (cx : TypeContext) (go : Eval) → Keeps p cx go → (n : Mark) (operand : Trees) → KeepsAt p cx (tree_at p go) (Return' n operand)
unfolding edges judged trees_in Has
law_return p cx go keeps n operand g context exits way locals s w a st =
    let t = Return' n operand in
    let out = out_of context.copy t in
    let way' = value_way cx.result in
    let inner = all_judged cx (Each way') locals operand in
    let c = return_claim cx.result n (count operand) in
    let first = enter context t (entry_of context.copy (out ∷ []) operand) in
    let within = all_edges context (out ∷ []) operand in
    let lasts = on context out context.jumps.returns in
    let w1 = within_right first (within ++ lasts) w in
    let none = parts_none cx way n inner c a.none in
    let types = (typed_trees cx (Each way') locals operand a.known none).types in
    let h = closed_stood cx way n inner c types (return_decided cx.result n (count operand)) a.none in
    values_post go keeps operand g context exits way (closed cx way n inner c).found (Each way') locals (out ∷ []) s returned (within_left within lasts w1)
    (record { known = a.known; none = none; covered = a.covered; inside = λ u i. a.inside u (inr i) })
    (ready context (entry_of context.copy (out ∷ []) operand) (within_left first (within ++ lasts) w) st)
    (λ vs s' r all. returned_post g exits way (closed cx way n inner c).found n locals operand vs s' h.type h.gives all)
