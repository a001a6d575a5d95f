-- The laws of soundness: `!`, `&&` and `||`.
use Rattle.std.proofs.Common.{◌≡◌, Bool, true, false, not, Option, List, [], ◌∷◌, ◌++◌, Contains, inr, refl, subst}
use Rattle.std.proofs.lemmas.Bool.{false≢true}
use Rattle.kt_model.specs.BodyTrees.{Mark, Tree, Not', And', Or'}
use Rattle.kt_model.specs.ControlFlow.{Node, FlowContext, Exits, Then, Branch, in_of, out_of, enter, on_true_of, on_false_of, test_edges, edges}
use Rattle.kt_model.specs.NodePaths.{assigned_after}
use Rattle.kt_model.specs.TreesWithin.{trees_in, all_trees_in}
use Rattle.kt_model.specs.declared.graph.Variable.{Variable}
use Rattle.kt_model.specs.declared.kinds.KtType.{KtType}
use Rattle.kt_model.proofs.ListLemmas.{Has, has_left, has_right}
use Rattle.kt_typing.specs.declared.claims.Way.{Way}
use Rattle.kt_typing.specs.declared.claims.Way.TheVariants.{Checked}
use Rattle.kt_typing.specs.declared.claims.Claim.TheVariants as claim
use Rattle.kt_typing.specs.Typing.{TypeContext, LocalTypes, Judgement, Judgements, alone, in_front, closed, have_types, boolean, judged}
use Rattle.kt_mean.specs.declared.states.Value.{Value}
use Rattle.kt_mean.specs.declared.states.Value.TheVariants as value
use Rattle.kt_mean.specs.declared.states.Way.TheVariants.{Return, Throw}
use Rattle.kt_mean.specs.Frames.{State, Ending, Gave, Left, Over, Wrong, Run, ◌>>=◌, pure, ending_after}
use Rattle.kt_mean.specs.Evaluation.{Program, choose, truth_of, asked, tree_at}
use Rattle.kt_sound.proofs.TypingSteps.{none_in, Known, Kept, kept_tree}
use Rattle.kt_sound.proofs.NoFinding.{Stood, parts_none, closed_stood, types_first, types_two, typed_tree}
use Rattle.kt_sound.proofs.ValueTypes.{Lies}
use Rattle.kt_sound.proofs.Operations.{gives-gives}
use Rattle.kt_sound.proofs.BodyStanding.{Place, Ready, Within, Accepted, Gives, pick, goes, Post, Eval, KeepsAt, Keeps}
use Rattle.kt_sound.proofs.BodySteps.{within_left, within_right, ready, quiet, enters}
use Rattle.kt_sound.proofs.BodyLaws.{Setting, value_gives}

-- ---- conditions

-- what follows a condition: it gave a truth value, by which the frame goes on
pub truth_post : {p : Program} {cx : TypeContext} (g : Place p cx) (on_true on_false : List Node) (exits : Exits) (way : Way) (found found' : Option KtType) (r : Ending Value) (k : Bool → Run Value)
    → Post g (Branch on_true on_false) (Checked boolean) found' r → ((b : Bool) (s : State) → Ready g (pick b on_true on_false) s → Post g exits way found (k b s).ending)
    → Post g exits way found (ending_after (ending_after r truth_of) k)
unfolding pure
truth_post g on_true on_false exits way found found' (Gave value.Unit s) k h next = absurd (false≢true h.1.1)
truth_post g on_true on_false exits way found found' (Gave (value.Bool b) s) k h next = next b s h.0
truth_post g on_true on_false exits way found found' (Gave (value.Int i) s) k h next = absurd (false≢true h.1.1)
truth_post g on_true on_false exits way found found' (Gave (value.Text text) s) k h next = absurd (false≢true h.1.1)
truth_post g on_true on_false exits way found found' (Left (Return v) s) k h next = h
truth_post g on_true on_false exits way found found' (Left (Throw x) s) k h next = tt
truth_post g on_true on_false exits way found found' (Over l) k h next = tt
truth_post g on_true on_false exits way found found' Wrong k h next = h

-- what follows a condition, by its value
pub choice_post : {p : Program} {cx : TypeContext} (g : Place p cx) (on_true on_false : List Node) (exits : Exits) (way : Way) (found found' : Option KtType) (r : Ending Value) (if_true if_false : Run Value)
    → Post g (Branch on_true on_false) (Checked boolean) found' r → ((s : State) → Ready g on_true s → Post g exits way found (if_true s).ending)
    → ((s : State) → Ready g on_false s → Post g exits way found (if_false s).ending) → Post g exits way found (ending_after (ending_after r truth_of) (λ holds. choose holds if_true if_false))
choice_post {p} {cx} g on_true on_false exits way found found' r if_true if_false h at_true at_false = truth_post g on_true on_false exits way found found' r (λ holds. choose holds if_true if_false) h by
  where
    by : (b : Bool) (s : State) → Ready g (pick b on_true on_false) s → Post g exits way found (choose b if_true if_false s).ending
    by true s ready_there = at_true s ready_there
    by false s ready_there = at_false s ready_there

-- a condition leads on by its outcome; what is none does so by its `out`, which changes nothing
tested : {p : Program} {cx : TypeContext} {g : Place p cx} {s : State} (context : FlowContext) (out : Node) (exits : Exits) (b : Bool) → ((x : Variable) (c : Bool) → assigned_after out.effects x c ≡ c)
    → Within g.edges (test_edges context out exits) → Ready g (pick b (on_true_of out exits) (on_false_of out exits)) s → Ready g (goes exits (value.Bool b)) s
tested context out (Then next) true same w r = ready context next w (quiet {ms = []} same r)
tested context out (Then next) false same w r = ready context next w (quiet {ms = []} same r)
tested context out (Branch on_true on_false) b same w r = r

swapped : {p : Program} {cx : TypeContext} {g : Place p cx} {s : State} (b : Bool) (on_true on_false : List Node) → Ready g (pick b on_false on_true) s → Ready g (pick (not b) on_true on_false) s
swapped true on_true on_false r = r
swapped false on_true on_false r = r

-- a truth value is one of the type of such a tree
truth_gives : {p : Program} (cx : TypeContext) → Setting p cx → (way : Way) (n : Mark) (parts : Judgements) → have_types parts.each_found ≡ true → Stood cx.classes way n.span (claim.Gives boolean) → (b : Bool)
    → Gives way (closed cx way n parts (claim.Gives boolean)).found (value.Bool b)
truth_gives cx set way n parts types h b = value_gives cx set way n parts (claim.Gives boolean) types h (value.Bool b) (subst (λ d. Lies (value.Bool b) d) (gives-gives boolean h.type h.gives) refl)

pub law_not : (p : Program) (cx : TypeContext) → Setting p cx → (go : Eval) → Keeps p cx go → (n : Mark) (e : Tree) → KeepsAt p cx (tree_at p go) (Not' n e)
unfolding edges judged trees_in Has ◌>>=◌ pure
law_not p cx set go keeps n e g context exits way locals s w a st =
    let t = Not' n e in
    let out = out_of context.copy t in
    let if_true = on_true_of out exits in
    let if_false = on_false_of out exits in
    let inner = judged cx (Checked boolean) locals e in
    let parts = alone inner in
    let first = enter context t (in_of context.copy e ∷ []) in
    let within = edges context (Branch if_false if_true) e in
    let w1 = within_right first (within ++ test_edges context out exits) w in
    let none = parts_none cx way n parts (claim.Gives boolean) a.none in
    let types = types_first inner.found [] (typed_tree cx (Checked boolean) locals e a.known none).type refl in
    let h = closed_stood cx way n parts (claim.Gives boolean) types tt a.none in
    truth_post g if_false if_true exits way (closed cx way n parts (claim.Gives boolean)).found inner.found (go e s).ending _
    (keeps e g context (Branch if_false if_true) (Checked boolean) locals s (within_left within (test_edges context out exits) w1)
    (record { known = a.known; none = none; covered = a.covered; inside = λ u i. a.inside u (inr i) })
    (enters context.copy e (ready context (in_of context.copy e ∷ []) (within_left first (within ++ test_edges context out exits) w) st)))
    (λ b s' r. (tested context out exits (not b) (λ x c. refl) (within_right within (test_edges context out exits) w1) (swapped b if_true if_false r), truth_gives cx set way n parts types h (not b)))

-- ---- two operands

module _ {p : Program} {cx : TypeContext} (g : Place p cx) (locals : LocalTypes) (a b : Tree) where
  -- the second operand is typed behind the first
  abbrev left : Judgement
  left = judged cx (Checked boolean) locals a

  abbrev right : Judgement
  right = judged cx (Checked boolean) left.locals b

  abbrev both : Judgements
  both = in_front left (alone right)

  -- what is accepted of two operands
  record Operands : Type 0 where
    pub first : Accepted g (Checked boolean) locals a
    pub second : Accepted g (Checked boolean) left.locals b
    pub types : have_types both.each_found ≡ true

  operands : Known locals → both.findings ≡ [] → Kept right.locals g.locals → ((u : Tree) → Has (trees_in a ++ trees_in b) u → Contains (all_trees_in g.body) u) → Operands
  operands known none covered inside =
      let nones = none_in left.findings right.findings none in
      let one = typed_tree cx (Checked boolean) locals a known nones.0 in
      let other = typed_tree cx (Checked boolean) left.locals b one.known nones.1 in
      record {
        first = record { known = known; none = nones.0; covered = λ x u i. covered x u (kept_tree cx (Checked boolean) left.locals b x u i); inside = λ u i. inside u (has_left (trees_in a) (trees_in b) u i) };
        second = record { known = one.known; none = nones.1; covered = covered; inside = λ u i. inside u (has_right (trees_in a) (trees_in b) u i) };
        types = types_two left right one.type other.type;
      }

  -- the second operand, where it is entered: its value is that of the tree
  second_post : Setting p cx → (go : Eval) → Keeps p cx go → (n : Mark) (context : FlowContext) (out : Node) (exits : Exits) (way : Way) (s : State) → ((x : Variable) (c : Bool) → assigned_after out.effects x c ≡ c)
      → Within g.edges (edges context (Branch (on_true_of out exits) (on_false_of out exits)) b ++ test_edges context out exits) → Operands → Stood cx.classes way n.span (claim.Gives boolean)
      → Ready g (in_of context.copy b ∷ []) s → Post g exits way (closed cx way n both (claim.Gives boolean)).found ((asked p go b >>= (λ also. pure (value.Bool also))) s).ending
  unfolding ◌>>=◌ pure
  second_post set go keeps n context out exits way s same w ops h r =
      let if_true = on_true_of out exits in
      let if_false = on_false_of out exits in
      let within = edges context (Branch if_true if_false) b in
      truth_post g if_true if_false exits way (closed cx way n both (claim.Gives boolean)).found right.found (go b s).ending _
      (keeps b g context (Branch if_true if_false) (Checked boolean) left.locals s (within_left within (test_edges context out exits) w) ops.second (enters context.copy b r))
      (λ also s' r'. (tested context out exits also same (within_right within (test_edges context out exits) w) r', truth_gives cx set way n both ops.types h also))

pub law_and : (p : Program) (cx : TypeContext) → Setting p cx → (go : Eval) → Keeps p cx go → (n : Mark) (a b : Tree) → KeepsAt p cx (tree_at p go) (And' n a b)
unfolding edges judged trees_in Has ◌>>=◌ pure
law_and p cx set go keeps n a b g context exits way locals s w acc st =
    let t = And' n a b in
    let out = out_of context.copy t in
    let if_false = on_false_of out exits in
    let here = left g locals a b in
    let parts = both g locals a b in
    let first = enter context t (in_of context.copy a ∷ []) in
    let within = edges context (Branch (in_of context.copy b ∷ []) if_false) a in
    let others = edges context (Branch (on_true_of out exits) if_false) b ++ test_edges context out exits in
    let w1 = within_right first (within ++ others) w in
    let w2 = within_right within others w1 in
    let ops = operands g locals a b acc.known (parts_none cx way n parts (claim.Gives boolean) acc.none) acc.covered (λ u i. acc.inside u (inr i)) in
    let h = closed_stood cx way n parts (claim.Gives boolean) ops.types tt acc.none in
    choice_post g (in_of context.copy b ∷ []) if_false exits way (closed cx way n parts (claim.Gives boolean)).found here.found (go a s).ending _ _
    (keeps a g context (Branch (in_of context.copy b ∷ []) if_false) (Checked boolean) locals s (within_left within others w1) ops.first
    (enters context.copy a (ready context (in_of context.copy a ∷ []) (within_left first (within ++ others) w) st)))
    (λ s' r. second_post g locals a b set go keeps n context out exits way s' (λ x c. refl) w2 ops h r)
    (λ s' r. (tested context out exits false (λ x c. refl) (within_right (edges context (Branch (on_true_of out exits) if_false) b) (test_edges context out exits) w2) r, truth_gives cx set way n parts ops.types h false))

pub law_or : (p : Program) (cx : TypeContext) → Setting p cx → (go : Eval) → Keeps p cx go → (n : Mark) (a b : Tree) → KeepsAt p cx (tree_at p go) (Or' n a b)
unfolding edges judged trees_in Has ◌>>=◌ pure
law_or p cx set go keeps n a b g context exits way locals s w acc st =
    let t = Or' n a b in
    let out = out_of context.copy t in
    let if_true = on_true_of out exits in
    let here = left g locals a b in
    let parts = both g locals a b in
    let first = enter context t (in_of context.copy a ∷ []) in
    let within = edges context (Branch if_true (in_of context.copy b ∷ [])) a in
    let others = edges context (Branch if_true (on_false_of out exits)) b ++ test_edges context out exits in
    let w1 = within_right first (within ++ others) w in
    let w2 = within_right within others w1 in
    let ops = operands g locals a b acc.known (parts_none cx way n parts (claim.Gives boolean) acc.none) acc.covered (λ u i. acc.inside u (inr i)) in
    let h = closed_stood cx way n parts (claim.Gives boolean) ops.types tt acc.none in
    choice_post g if_true (in_of context.copy b ∷ []) exits way (closed cx way n parts (claim.Gives boolean)).found here.found (go a s).ending _ _
    (keeps a g context (Branch if_true (in_of context.copy b ∷ [])) (Checked boolean) locals s (within_left within others w1) ops.first
    (enters context.copy a (ready context (in_of context.copy a ∷ []) (within_left first (within ++ others) w) st)))
    (λ s' r. (tested context out exits true (λ x c. refl) (within_right (edges context (Branch if_true (on_false_of out exits)) b) (test_edges context out exits) w2) r, truth_gives cx set way n parts ops.types h true))
    (λ s' r. second_post g locals a b set go keeps n context out exits way s' (λ x c. refl) w2 ops h r)
