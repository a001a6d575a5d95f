-- Steps along edges, and how a tree's end follows from its parts'.
use Rattle.std.proofs.Common.{ap, ◌≡◌, ℕ, nat_eq, is_some, Bool, true, false, if◌then◌else◌, Option, Some, None, List, [], ◌∷◌, ◌++◌, ◌⊎◌, inl, inr, refl, sym, subst, ◌∙◌}
use Rattle.std.proofs.lemmas.Bool.{cases_Bool, eqb-true, eqb-false, eq-eqb, ne_eqb}
use Rattle.kt_model.specs.BodyTrees.{Tree, Trees, Empty', First', Operation', Name', Paren', Not', And', Or', If', Declare', Local', Assign', Compound', Call', Return', Throw', Shut'}
use Rattle.kt_model.specs.ControlFlow.{Node, Edge, FlowContext, Exits, Then, Branch, in_of, out_of, assume, lead, on, leave_edges, edges, all_edges, entry_of}
use Rattle.kt_model.specs.NodePaths.{assigned_after}
use Rattle.kt_model.specs.declared.graph.Variable.{Variable}
use Rattle.kt_model.specs.declared.graph.Variable.TheVariants.{Local}
use Rattle.kt_model.specs.declared.kinds.KtType.{KtType}
use Rattle.kt_typing.specs.declared.claims.Way.{Way}
use Rattle.kt_typing.specs.declared.claims.Way.TheVariants.{Unvalued}
use Rattle.kt_typing.specs.Typing.{TypeContext, LocalTypes, Ways, first_way, rest_ways, look_up, judged, all_judged}
use Rattle.kt_model.proofs.ListLemmas.{has_left, has_right}
use Rattle.kt_mean.specs.declared.states.Value.{Value}
use Rattle.kt_mean.specs.declared.states.Way.TheVariants.{Return, Throw}
use Rattle.kt_mean.specs.Frames.{with_local, Frame, State, Ending, Gave, Left, Over, Wrong, Run, ◌>>=◌, pure, ending_after}
use Rattle.kt_mean.specs.Evaluation.{Program, with_values, block_from}
use Rattle.kt_model.specs.TreesWithin.{trees_in, all_trees_in}
use Rattle.kt_paths.specs.FlowRules.{assigned_on}
use Rattle.kt_sound.proofs.TypingSteps.{none_in, kept_trees}
use Rattle.kt_sound.proofs.NoFinding.{typed_tree}
use Rattle.kt_sound.proofs.ValueTypes.{Lies}
use Rattle.kt_sound.proofs.BodyStanding.{Place, Agrees, LeadsTo, Stands, Ready, EachEdge, Within, Accepted, AllAccepted, Gives, AllGive, is_true, pick, goes, Post, Eval, Keeps}

-- ---- edges

left_each : (all a b : List Edge) → EachEdge all (a ++ b) → EachEdge all a
left_each all [] b w = tt
left_each all (e ∷ a) b w = (w.0, left_each all a b w.1)

right_each : (all a b : List Edge) → EachEdge all (a ++ b) → EachEdge all b
right_each all [] b w = w
right_each all (e ∷ a) b w = right_each all a b w.1

pub within_left : {all : List Edge} (a b : List Edge) → Within all (a ++ b) → Within all a
within_left {all} a b w = record { each = left_each all a b w.each }

pub within_right : {all : List Edge} (a b : List Edge) → Within all (a ++ b) → Within all b
within_right {all} a b w = record { each = right_each all a b w.each }

leads_to : (all : List Edge) (n : Node) (ms : List Node) → EachEdge all (lead n ms) → LeadsTo all n ms
leads_to all n [] w = tt
leads_to all n (m ∷ ms) w = (w.0, leads_to all n ms w.1)

pub leads_of : {all : List Edge} (context : FlowContext) (n : Node) (ms : List Node) → Within all (on context n ms) → LeadsTo all n ms
unfolding on
leads_of {all} context n ms w = leads_to all n ms (left_each all (lead n ms) _ w.each)

-- ---- effects

pub nat_eq-sym : (x y : ℕ) → nat_eq x y ≡ nat_eq y x
nat_eq-sym x y = elim (cases_Bool (nat_eq x y)) [
  | inl e ↦ e ∙ sym (eq-eqb y x (sym (eqb-true x y e)))
  | inr e ↦ e ∙ sym (ne_eqb y x (λ i. eqb-false x y e (sym i)))
]

-- a frame agrees with a path also behind a node that changes nothing
pub same_agrees : {locals : LocalTypes} (n : Node) (path : List Node) (f : Frame) → ((x : Variable) (b : Bool) → assigned_after n.effects x b ≡ b) → Agrees locals path f → Agrees locals (n ∷ path) f
same_agrees n path f h a = record { held = λ x. a.held x ∙ sym (h (Local x) (assigned_on path (Local x))); typed = a.typed }

held_put : (b c : Bool) (o o' : Option Value) (d : Bool) → is_some o' ≡ d → is_some o ≡ c → is_some (if b then o' else o) ≡ (if b then d else c)
held_put true c o o' d i h = i
held_put false c o o' d i h = h

flipped : {A : Type 0} (x y : ℕ) (a b : A) → (if nat_eq y x then a else b) ≡ (if nat_eq x y then a else b)
flipped x y a b = ap (λ t. if t then a else b) (nat_eq-sym y x)

typed_put : (b : Bool) (o o' : Option Value) (v : Value) → (if b then o' else o) ≡ Some v → ((b ≡ true) × (o' ≡ Some v)) ⊎ (o ≡ Some v)
typed_put true o o' v e = inl (refl, e)
typed_put false o o' v e = inr e

-- What a write of one local leaves: the node says whether it holds a value then, and a value lies in the local's type.
pub put_agrees : {locals : LocalTypes} (n : Node) (path : List Node) (f : Frame) (x : ℕ) (o : Option Value) (d : Bool) → is_some o ≡ d
    → ((y : ℕ) (b : Bool) → assigned_after n.effects (Local y) b ≡ (if nat_eq x y then d else b))
    → ((v : Value) (t : KtType) → o ≡ Some v → look_up locals x ≡ Some (Some t) → Lies v t)
    → Agrees locals path f → Agrees locals (n ∷ path) (record { locals = with_local f.locals x o })
put_agrees {locals} n path f x o d i effects lies a = record {
  held = λ y. ap (λ z. is_some z) (flipped x y o (f.locals y)) ∙ held_put (nat_eq x y) (assigned_on path (Local y)) (f.locals y) o d i (a.held y) ∙ sym (effects y (assigned_on path (Local y)));
  typed = λ y v t e l. elim (typed_put (nat_eq x y) (f.locals y) o v (sym (flipped x y o (f.locals y)) ∙ e)) [
    | inl h ↦ lies v t h.1 (subst (λ z. look_up locals z ≡ Some (Some t)) (sym (eqb-true x y h.0)) l)
    | inr h ↦ a.typed y v t h l
  ];
}

-- the entering of a tree changes nothing
in_quiet : (copy : ℕ) (t : Tree) (x : Variable) (b : Bool) → assigned_after (in_of copy t).effects x b ≡ b
in_quiet copy (Operation' n o parts) x b = refl
in_quiet copy (Name' n at y) x b = refl
in_quiet copy (Paren' n e) x b = refl
in_quiet copy (Not' n e) x b = refl
in_quiet copy (And' n c d) x b = refl
in_quiet copy (Or' n c d) x b = refl
in_quiet copy (If' n braces c d e) x b = refl
in_quiet copy (Declare' n y) x b = refl
in_quiet copy (Local' n at y e) x b = refl
in_quiet copy (Assign' n at y fixed e) x b = refl
in_quiet copy (Compound' n at y fixed o operand) x b = refl
in_quiet copy (Call' n f returns arguments) x b = refl
in_quiet copy (Return' n value) x b = refl
in_quiet copy (Throw' n e) x b = refl
in_quiet copy (Shut' n) x b = refl

-- ---- steps

module _ {p : Program} {cx : TypeContext} {g : Place p cx} where
  -- a frame that stands at a node is ready for what the node's edges lead to
  pub ready : {n : Node} {s : State} (context : FlowContext) (ms : List Node) → Within g.edges (on context n ms) → Stands g n s → Ready g ms s
  ready {n} context ms w st = record { at = n; stands = st; leads = leads_of context n ms w }

  -- in another state with the same frame
  pub stands_here : {n : Node} {s s' : State} → s'.here ≡ s.here → Stands g n s → Stands g n s'
  stands_here {n} e st = record { path = st.path; is_path = st.is_path; agrees = subst (λ f. Agrees g.locals (n ∷ st.path) f) (sym e) st.agrees }

  pub ready_here : {ms : List Node} {s s' : State} → s'.here ≡ s.here → Ready g ms s → Ready g ms s'
  ready_here e r = record { at = r.at; stands = stands_here e r.stands; leads = r.leads }

  -- one edge further
  pub step : {m : Node} {ms : List Node} {s : State} (s' : State) → Ready g (m ∷ ms) s → ((path : List Node) → Agrees g.locals path s.here → Agrees g.locals (m ∷ path) s'.here) → Stands g m s'
  step s' r h = record { path = r.at ∷ r.stands.path; is_path = (r.leads.0, r.stands.is_path); agrees = h (r.at ∷ r.stands.path) r.stands.agrees }

  -- one edge further, to a node that changes nothing
  pub quiet : {m : Node} {ms : List Node} {s : State} → ((x : Variable) (b : Bool) → assigned_after m.effects x b ≡ b) → Ready g (m ∷ ms) s → Stands g m s
  quiet {m} {ms} {s} h r = step s r (λ path a. same_agrees m path s.here h a)

  pub enters : {ms : List Node} {s : State} (copy : ℕ) (t : Tree) → Ready g (in_of copy t ∷ ms) s → Stands g (in_of copy t) s
  enters copy t r = quiet (in_quiet copy t) r

  -- from `out` on, by the value
  pub leaves : {s : State} (context : FlowContext) (t : Tree) (exits : Exits) (v : Value) → Within g.edges (leave_edges context t exits) → Stands g (out_of context.copy t) s → Ready g (goes exits v) s
  leaves context t (Then next) v w st = ready context next w st
  leaves {s} context t (Branch on_true on_false) v w st =
      let out = out_of context.copy t in
      let yes_node = assume context.copy t true in
      let no_node = assume context.copy t false in
      let r = ready context (yes_node ∷ no_node ∷ []) (within_left (on context out (yes_node ∷ no_node ∷ [])) (on context yes_node on_true ++ on context no_node on_false) w) st in
      let ends = within_right (on context out (yes_node ∷ no_node ∷ [])) (on context yes_node on_true ++ on context no_node on_false) w in
      by (is_true v) r (within_left (on context yes_node on_true) (on context no_node on_false) ends) (within_right (on context yes_node on_true) (on context no_node on_false) ends)
    where
      by : (b : Bool) → Ready g (assume context.copy t true ∷ assume context.copy t false ∷ []) s → Within g.edges (on context (assume context.copy t true) on_true)
          → Within g.edges (on context (assume context.copy t false) on_false) → Ready g (pick b on_true on_false) s
      by true r a b = ready context on_true a (quiet {ms = assume context.copy t false ∷ []} (λ x c. refl) r)
      by false r a b = ready context on_false b (quiet {ms = []} (λ x c. refl) (record { at = r.at; stands = r.stands; leads = (r.leads.1.0, tt) }))

-- ---- one part after another

-- what follows a part that leads on; its other ends are the tree's
pub value_post : {p : Program} {cx : TypeContext} (g : Place p cx) (after : List Node) (exits : Exits) (way way' : Way) (found found' : Option KtType) (r : Ending Value) (k : Value → Run Value)
    → Post g (Then after) way' found' r → ((v : Value) (s : State) → Ready g after s → Gives way' found' v → Post g exits way found (k v s).ending) → Post g exits way found (ending_after r k)
value_post g after exits way way' found found' (Gave v s) k h next = next v s h.0 h.1
value_post g after exits way way' found found' (Left (Return v) s) k h next = h
value_post g after exits way way' found found' (Left (Throw x) s) k h next = tt
value_post g after exits way way' found found' (Over l) k h next = tt
value_post g after exits way way' found found' Wrong k h next = h

module _ {p : Program} {cx : TypeContext} (g : Place p cx) (ways : Ways) (locals : LocalTypes) (t : Tree) (rest : Trees) where
  pub accepted_first : AllAccepted g ways locals (First' t rest) → Accepted g (first_way ways) locals t
  unfolding all_judged all_trees_in
  accepted_first a =
      let first = judged cx (first_way ways) locals t in
      let others = all_judged cx (rest_ways ways) first.locals rest in
      record {
        known = a.known;
        none = (none_in first.findings others.findings a.none).0;
        covered = λ x u h. a.covered x u (kept_trees cx (rest_ways ways) first.locals rest x u h);
        inside = λ u h. a.inside u (has_left (trees_in t) (all_trees_in rest) u h);
      }

  pub accepted_rest : AllAccepted g ways locals (First' t rest) → AllAccepted g (rest_ways ways) (judged cx (first_way ways) locals t).locals rest
  unfolding all_judged all_trees_in
  accepted_rest a =
      let first = judged cx (first_way ways) locals t in
      let others = all_judged cx (rest_ways ways) first.locals rest in
      let both = none_in first.findings others.findings a.none in
      record {
        known = (typed_tree cx (first_way ways) locals t a.known both.0).known;
        none = both.1;
        covered = a.covered;
        inside = λ u h. a.inside u (has_right (trees_in t) (all_trees_in rest) u h);
      }

-- the parts of a tree from left to right
pub values_post : {p : Program} {cx : TypeContext} (go : Eval) → Keeps p cx go → (ts : Trees) (g : Place p cx) (context : FlowContext) (exits : Exits) (way : Way) (found : Option KtType)
    (ways : Ways) (locals : LocalTypes) (next : List Node) (s : State) (k : List Value → Run Value) → Within g.edges (all_edges context next ts) → AllAccepted g ways locals ts
    → Ready g (entry_of context.copy next ts) s
    → ((vs : List Value) (s' : State) → Ready g next s' → AllGive ways (all_judged cx ways locals ts).each_found vs → Post g exits way found (k vs s').ending)
    → Post g exits way found (with_values p go ts k s).ending
unfolding all_edges all_judged ◌>>=◌
values_post go keeps Empty' g context exits way found ways locals next s k w a r h = h [] s r tt
values_post {p} {cx} go keeps (First' t rest) g context exits way found ways locals next s k w a r h =
    let after = entry_of context.copy next rest in
    let first = judged cx (first_way ways) locals t in
    value_post g after exits way (first_way ways) found first.found (go t s).ending (λ v. with_values p go rest (λ vs. k (v ∷ vs)))
    (keeps t g context (Then after) (first_way ways) locals s (within_left (edges context (Then after) t) (all_edges context next rest) w) (accepted_first g ways locals t rest a) (enters context.copy t r))
    (λ v s' r' gives.
    values_post go keeps rest g context exits way found (rest_ways ways) first.locals next s' (λ vs. k (v ∷ vs)) (within_right (edges context (Then after) t) (all_edges context next rest) w)
    (accepted_rest g ways locals t rest a) r' (λ vs s'' r'' all. h (v ∷ vs) s'' r'' (gives, all)))

-- the statements of a block, whose values nobody takes
pub block_post : {p : Program} {cx : TypeContext} (go : Eval) → Keeps p cx go → (ts : Trees) (g : Place p cx) (context : FlowContext) (ways : Ways) (locals : LocalTypes) (next : List Node) (v : Value) (s : State)
    → Within g.edges (all_edges context next ts) → AllAccepted g ways locals ts → Ready g (entry_of context.copy next ts) s → Post g (Then next) Unvalued None (block_from p go v ts s).ending
unfolding all_edges ◌>>=◌ pure
block_post go keeps Empty' g context ways locals next v s w a r = (r, tt)
block_post {p} {cx} go keeps (First' t rest) g context ways locals next v s w a r =
    let after = entry_of context.copy next rest in
    let first = judged cx (first_way ways) locals t in
    value_post g after (Then next) Unvalued (first_way ways) None first.found (go t s).ending (λ u. block_from p go u rest)
    (keeps t g context (Then after) (first_way ways) locals s (within_left (edges context (Then after) t) (all_edges context next rest) w) (accepted_first g ways locals t rest a) (enters context.copy t r))
    (λ u s' r' gives.
    block_post go keeps rest g context (rest_ways ways) first.locals next u s' (within_right (edges context (Then after) t) (all_edges context next rest) w) (accepted_rest g ways locals t rest a) r')
