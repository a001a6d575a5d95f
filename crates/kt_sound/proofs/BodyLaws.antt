-- The laws of soundness: operations, names, parentheses.
use Rattle.std.proofs.Common.{◌≡◌, ℕ, is_some, Bool, true, false, Contains, Option, Some, None, option_map, [], ◌∷◌, ◌++◌, inl, inr, refl, sym, ap, subst, ◌∙◌, arith}
use Rattle.std.proofs.lemmas.Bool.{false≢true}
use Rattle.kt_tree.specs.declared.token.Span.{Span}
use Rattle.kt_model.specs.BodyTrees.{BuiltIn', Operation, Mark, Tree, Trees, Operation', Name', Paren'}
use Rattle.kt_model.specs.ControlFlow.{FlowContext, Exits, Then, Branch, in_of, out_of, enter, entry_of, if_returns, returns_of, inside_of, test_edges, leave_edges, edges, all_edges}
use Rattle.kt_model.specs.BuiltIns.{built_in_named}
use Rattle.kt_model.specs.NodePaths.{assigned_after}
use Rattle.kt_model.specs.declared.built_ins.BuiltIn.{BuiltIn}
use Rattle.kt_model.specs.declared.graph.Variable.{Variable}
use Rattle.kt_model.specs.declared.kinds.KtType.{KtType}
use Rattle.kt_typing.specs.declared.claims.Way.{Way}
use Rattle.kt_typing.specs.declared.claims.Way.TheVariants.{Unvalued, Plain, Inferred, Checked}
use Rattle.kt_typing.specs.declared.claims.Claim.{Claim}
use Rattle.kt_typing.specs.declared.claims.Claim.TheVariants as claim
use Rattle.kt_typing.specs.Typing.{Each, TypeContext, look_up, no_trees, built_in_signature, call_demand, closed, have_types, nothing, count, operation_demand, is_text, first_of, apart, name_claim, inside, judged, all_judged, Judgements}
use Rattle.kt_model.proofs.ListLemmas.{Has}
use Rattle.kt_mean.specs.declared.states.Value.{Value}
use Rattle.kt_mean.specs.declared.states.Way.TheVariants.{Return, Throw}
use Rattle.kt_mean.specs.Frames.{State, Ending, Gave, Left, Over, Wrong, Run, pure, wrong}
use Rattle.kt_mean.specs.Evaluation.{Program, read, read_value, operated, tree_at}
use Rattle.kt_model.specs.TreesWithin.{trees_in, all_trees_in}
use Rattle.kt_sound.specs.BodySoundness.{HasBuiltInClasses}
use Rattle.kt_sound.proofs.NoFinding.{Stood, parts_none, closed_found, closed_stood, operation_decided, name_decided, typed_trees}
use Rattle.kt_sound.proofs.ValueTypes.{Lies}
use Rattle.kt_sound.proofs.OperationEnds.{EndsIn, Yields}
use Rattle.kt_sound.proofs.Operations.{operation_yields, call_gives, gives_of, gives-gives, breaks-gives}
use Rattle.kt_sound.proofs.BodyStanding.{Place, Stands, Ready, Within, Gives, Post, Eval, KeepsAt, Keeps}
use Rattle.kt_sound.proofs.BodySteps.{within_left, within_right, ready, stands_here, quiet, enters, leaves, values_post}

-- what all places of a program share
pub record Setting (p : Program) (cx : TypeContext) : Type 0 where
  pub built_in : HasBuiltInClasses cx.classes
  pub written : (x : ℕ) → p.written x ≡ cx.written x

-- a value of the type that a tree has, whose parts have types
pub value_gives : {p : Program} (cx : TypeContext) → Setting p cx → (way : Way) (n : Mark) (parts : Judgements) (c : Claim) (types : have_types parts.each_found ≡ true) (h : Stood cx.classes way n.span c) (v : Value)
    → Lies v h.type → Gives way (closed cx way n parts c).found v
value_gives cx set way n parts c types h v l = gives_of cx.classes set.built_in way (closed cx way n parts c).found h.type v (closed_found cx way n parts c types ∙ h.found) h.under l

-- ---- operations

-- a tree that ends by an operation, which gives no value where its result is `Nothing`
yields_post : {p : Program} {cx : TypeContext} (g : Place p cx) (context : FlowContext) (t : Tree) (returns : Bool) (exits : Exits) (way : Way) (found : Option KtType) (d : KtType) (r : Run Value) (s : State) → Yields r d
    → ((x : Variable) (b : Bool) → assigned_after (out_of context.copy t).effects x b ≡ b) → Within g.edges (leave_edges context t exits) → Ready g (if_returns returns (out_of context.copy t)) s → (returns ≡ false → d ≡ nothing)
    → ((v : Value) → Lies v d → Gives way found v) → Post g exits way found (r s).ending
yields_post g context t returns exits way found d r s y same w ready stops h = by returns ready stops (r s).ending (y.at s)
  where
    by : (returns : Bool) → Ready g (if_returns returns (out_of context.copy t)) s → (returns ≡ false → d ≡ nothing) → (e : Ending Value) → EndsIn (λ v. Lies v d) s e → Post g exits way found e
    by true ready stops (Gave v s') m = (leaves context t exits v w (stands_here m.1.here (quiet {ms = []} same ready)), h v m.0)
    by false ready stops (Gave v s') m = absurd (false≢true (subst (λ u. Lies v u) (stops refl) m.0))
    by returns ready stops (Left (Return v) s') m = absurd m
    by returns ready stops (Left (Throw x) s') m = tt
    by returns ready stops (Over l) m = tt
    by returns ready stops Wrong m = m

-- An operation that doesn't return has the type `Nothing`.
stopped : {p : Program} {cx : TypeContext} (g : Place p cx) (n : Mark) (o : Operation) (parts : Trees) (text differ : Bool) (d : KtType) → Contains (all_trees_in g.body) (Operation' n o parts)
    → (operation_demand n o text differ (count parts)).claim ≡ claim.Gives d → returns_of o ≡ false → d ≡ nothing
stopped g n (BuiltIn' name false) parts text differ d i e stops = by (built_in_named name) refl e
  where
    by : (b : Option BuiltIn) → built_in_named name ≡ b → (call_demand (option_map built_in_signature b) n (count parts)).claim ≡ claim.Gives d → d ≡ nothing
    by None is e = absurd (breaks-gives _ _ d e)
    by (Some b) is e = sym (call_gives _ (built_in_signature b) n d e).1 ∙ g.stops_built_in n name parts b i is
stopped g n (BuiltIn' name true) parts text differ d i e stops = absurd (false≢true (sym stops))
stopped g n _ parts text differ d i e stops = absurd (false≢true (sym stops))

pub law_operation : (p : Program) (cx : TypeContext) → Setting p cx → (go : Eval) → Keeps p cx go → (n : Mark) (o : Operation) (parts : Trees) → KeepsAt p cx (tree_at p go) (Operation' n o parts)
unfolding edges judged trees_in Has
law_operation p cx set go keeps n o parts g context exits way locals s w a st =
    let t = Operation' n o parts in
    let out = out_of context.copy t in
    let text = is_text (first_of (all_judged cx (Each Inferred) locals parts).each_found) in
    let differ = apart (all_judged cx (Each Plain) locals parts).each_found in
    let demand = operation_demand n o text differ (count parts) in
    let inner = all_judged cx demand.ways locals parts in
    let next = if_returns (returns_of o) out in
    let w0 = within_left (enter context t (entry_of context.copy next parts)) (all_edges context next parts ++ leave_edges context t exits) w in
    let w1 = within_right (enter context t (entry_of context.copy next parts)) (all_edges context next parts ++ leave_edges context t exits) w in
    let none = parts_none cx way n inner demand.claim a.none in
    let types = (typed_trees cx demand.ways locals parts a.known none).types in
    let h = closed_stood cx way n inner demand.claim types (operation_decided n o text differ (count parts)) a.none in
    values_post go keeps parts g context exits way (closed cx way n inner demand.claim).found demand.ways locals next s (operated o)
    (within_left (all_edges context next parts) (leave_edges context t exits) w1)
    (record { known = a.known; none = none; covered = a.covered; inside = λ u i. a.inside u (inr i) })
    (ready context (entry_of context.copy next parts) w0 st)
    (λ vs s' r all.
    yields_post g context t (returns_of o) exits way (closed cx way n inner demand.claim).found h.type (operated o vs) s' (operation_yields cx n o text differ locals parts h.type vs (λ e. e) h.gives all)
    (λ x b. refl) (within_right (all_edges context next parts) (leave_edges context t exits) w1) r (stopped g n o parts text differ h.type (a.inside t (inl refl)) h.gives) (value_gives cx set way n inner demand.claim types h))

-- ---- names

name_gives : (word : Span) (o : Option (Option KtType)) (d : KtType) → name_claim word o ≡ claim.Gives d → o ≡ Some (Some d)
name_gives word None d e = absurd (breaks-gives _ word d e)
name_gives word (Some None) d e = absurd (lacks d e)
  where
    lacks : (d : KtType) → claim.Lacks ≡ claim.Gives d → ⊥
    lacks d e = cc
name_gives word (Some (Some t)) d e = ap (λ z. Some (Some z)) (gives-gives t d e)

-- a read: the rules say that the local is assigned
read_post : {p : Program} {cx : TypeContext} (g : Place p cx) (exits : Exits) (way : Way) (found : Option KtType) (s : State) (o : Option Value) → is_some o ≡ true
    → ((v : Value) → o ≡ Some v → Post g exits way found (Gave v s)) → Post g exits way found (read_value o s).ending
unfolding pure wrong
read_post g exits way found s None held h = absurd (false≢true held)
read_post g exits way found s (Some v) held h = h v refl

pub law_name : (p : Program) (cx : TypeContext) → Setting p cx → (go : Eval) → (n : Mark) (at : Span) (x : ℕ) → KeepsAt p cx (tree_at p go) (Name' n at x)
unfolding edges judged trees_in read Has
law_name p cx set go n at x g context exits way locals s w a st =
    let t = Name' n at x in
    let out = out_of context.copy t in
    let c = name_claim n.word (look_up locals x) in
    let w0 = within_left (enter context t (out ∷ [])) (leave_edges context t exits) w in
    let w1 = within_right (enter context t (out ∷ [])) (leave_edges context t exits) w in
    let r = ready context (out ∷ []) w0 st in
    let h = closed_stood cx way n (no_trees locals) c refl (name_decided n.word (look_up locals x) (a.known x)) a.none in
    let assigned_here = g.fine.reads t x out (r.at ∷ r.stands.path) (a.inside t (inl refl)) refl refl (0, omega arith, refl) (r.leads.0, r.stands.is_path) in
    read_post g exits way (closed cx way n (no_trees locals) c).found s (s.here.locals x) (r.stands.agrees.held x ∙ assigned_here) (λ v e. (
      leaves context t exits v w1 (quiet (λ y b. refl) r),
      value_gives cx set way n (no_trees locals) c refl h v (r.stands.agrees.typed x v h.type e (a.covered x (Some h.type) (name_gives n.word (look_up locals x) h.type h.gives))),
    ))

-- ---- parentheses

gives_inside : (way : Way) (found : Option KtType) (v : Value) → Gives (inside way) found v → Gives way found v
gives_inside Unvalued found v h = tt
gives_inside Plain found v h = h
gives_inside Inferred found v h = h
gives_inside (Checked t) found v h = h

paren_post : {p : Program} {cx : TypeContext} (g : Place p cx) (context : FlowContext) (n : Mark) (e : Tree) (exits : Exits) (way : Way) (found : Option KtType) (r : Ending Value)
    → Within g.edges (test_edges context (out_of context.copy (Paren' n e)) exits) → Post g (inside_of (out_of context.copy (Paren' n e)) exits) (inside way) found r → Post g exits way found r
paren_post g context n e (Then next) way found (Gave v s) w h = (ready context next w (quiet {ms = []} (λ x b. refl) h.0), gives_inside way found v h.1)
paren_post g context n e (Then next) way found (Left (Return v) s) w h = h
paren_post g context n e (Then next) way found (Left (Throw x) s) w h = tt
paren_post g context n e (Then next) way found (Over l) w h = tt
paren_post g context n e (Then next) way found Wrong w h = h
paren_post g context n e (Branch on_true on_false) way found (Gave v s) w h = (h.0, gives_inside way found v h.1)
paren_post g context n e (Branch on_true on_false) way found (Left (Return v) s) w h = h
paren_post g context n e (Branch on_true on_false) way found (Left (Throw x) s) w h = tt
paren_post g context n e (Branch on_true on_false) way found (Over l) w h = tt
paren_post g context n e (Branch on_true on_false) way found Wrong w h = h

pub law_paren : (p : Program) (cx : TypeContext) (go : Eval) → Keeps p cx go → (n : Mark) (e : Tree) → KeepsAt p cx (tree_at p go) (Paren' n e)
unfolding edges judged trees_in Has
law_paren p cx go keeps n e g context exits way locals s w a st =
    let t = Paren' n e in
    let out = out_of context.copy t in
    let first = enter context t (in_of context.copy e ∷ []) in
    let within = edges context (inside_of out exits) e in
    let w0 = within_left first (within ++ test_edges context out exits) w in
    let w1 = within_right first (within ++ test_edges context out exits) w in
    paren_post g context n e exits way (judged cx (inside way) locals e).found (go e s).ending (within_right within (test_edges context out exits) w1)
    (keeps e g context (inside_of out exits) (inside way) locals s (within_left within (test_edges context out exits) w1)
    (record { known = a.known; none = a.none; covered = a.covered; inside = λ u i. a.inside u (inr i) })
    (enters context.copy e (ready context (in_of context.copy e ∷ []) w0 st)))
