-- The law of soundness: calls of functions.
use Rattle.std.proofs.Common.{◌≡◌, ◌⊎◌, ℕ, nat_lt, nat_le, Bool, true, false, ◌&&◌, Option, Some, None, List, [], ◌∷◌, ◌++◌, length, inl, inr, refl, sym, ap, subst, ◌∙◌}
use Rattle.std.specs.Prelude.{⊤, IsSome}
use Rattle.std.proofs.lemmas.Bool.{false≢true}
use Rattle.kt_model.specs.BodyTrees.{Mark, Tree, Trees, Empty', First', Call'}
use Rattle.kt_model.specs.ControlFlow.{Node, FlowContext, Exits, Then, out_of, enter, entry_of, if_returns, leave_edges, edges, all_edges, outside, end_node}
use Rattle.kt_model.specs.declared.kinds.KtType.{KtType}
use Rattle.kt_typing.specs.declared.claims.Way.{Way}
use Rattle.kt_typing.specs.declared.claims.Way.TheVariants.{Unvalued, Checked}
use Rattle.kt_typing.specs.declared.claims.Claim.TheVariants as claim
use Rattle.kt_typing.specs.Typing.{Ways, Each, TypeContext, LocalTypes, Signature, closed, count, call_if, call_demand, function_signature, nothing, unit, judged, all_judged}
use Rattle.kt_model.proofs.ListLemmas.{Has}
use Rattle.kt_mean.specs.declared.states.Value.{Value}
use Rattle.kt_mean.specs.declared.states.Value.TheVariants as value
use Rattle.kt_mean.specs.declared.states.Way.TheVariants.{Return, Throw}
use Rattle.kt_mean.specs.declared.states.Limit.TheVariants as limit
use Rattle.kt_mean.specs.Frames.{Frame, State, Ending, Gave, Left, Over, Wrong, ◌>>=◌, pure, over, wrong, turned}
use Rattle.kt_mean.specs.Evaluation.{Function, Program, choose, fits, most_calls, limited, arguments_fit, begun, resume, given, ended, call_end, block_from, block, invoke, called, tree_at}
use Rattle.kt_model.specs.TreesWithin.{trees_in}
use Rattle.kt_sound.proofs.TypingSteps.{some-some, found_count}
use Rattle.kt_sound.proofs.NoFinding.{parts_none, closed_stood, call_decided, typed_trees}
use Rattle.kt_sound.proofs.ValueTypes.{Lies}
use Rattle.kt_sound.proofs.Operations.{breaks-gives, call_gives}
use Rattle.kt_sound.proofs.BodyStanding.{Place, Ready, Within, AllAccepted, Gives, AllGive, Post, Eval, KeepsAt, Keeps, in_body, KeepsEach}
use Rattle.kt_sound.proofs.BodySteps.{within_left, within_right, ready, ready_here, quiet, enters, leaves, accepted_first, value_post, values_post, block_post}
use Rattle.kt_sound.proofs.BodyLaws.{Setting, value_gives}
use Rattle.kt_sound.proofs.ParameterLaws.{same_count, checked_fit}

-- after a call, the frame that made it is as it was, and the value is of the callee's result
abbrev pub CallPost : KtType → Frame → Ending Value → Type 0
CallPost d here (Gave v s) = (s.here ≡ here) × Lies v d
CallPost d here (Left (Return v) s) = ⊥
CallPost d here (Left (Throw x) s) = ⊤
CallPost d here (Over l) = ⊤
CallPost d here Wrong = ⊥

-- a call with values that fit the parameters
pub record CallKept (p : Program) (written : ℕ → Option KtType) (go : Eval) (f : Function) (s : Signature) : Type 0 where
  pub result : f.result ≡ Some s.result
  pub signature : s ≡ function_signature written f.parameters s.result
  pub post : (vs : List Value) (state : State) → arguments_fit p.written f.parameters vs ≡ true → CallPost s.result state.here (invoke p go f vs state).ending

-- each function that can be called keeps what a call asks for
abbrev pub CallsKeep : (p : Program) (cx : TypeContext) → Eval → Type 0
CallsKeep p cx go = (place : ℕ) (f : Function) (s : Signature) → p.functions place ≡ Some f → cx.signature place ≡ Some s → CallKept p cx.written go f s

-- ---- the caller

-- the end of a call with values that fit, by the call itself
pub called_ends : (Q : Ending Value → Type 0) (p : Program) (go : Eval) (o : Option Function) (f : Function) (vs : List Value) (s : State) → o ≡ Some f → arguments_fit p.written f.parameters vs ≡ true
    → Q (Over limit.Calls) → Q (invoke p go f vs s).ending → Q (called p go o vs s).ending
unfolding limited over
called_ends Q p go o f vs s e fit over made =
    subst (λ z. Q (called p go z vs s).ending) (sym e)
    (subst (λ b. Q (choose b (limited (invoke p go f vs)) wrong s).ending) (sym fit) (by (nat_lt s.calls most_calls)))
  where
    by : (b : Bool) → Q (choose b (invoke p go f vs) (λ u. record { ending = Over limit.Calls; events = [] }) s).ending
    by true = made
    by false = over

-- A call that returns goes on from its `out`; one of a function whose result is `Nothing` gives no value.
caller_post : {p : Program} {cx : TypeContext} (g : Place p cx) (context : FlowContext) (n : Mark) (f : ℕ) (returns : Bool) (arguments : Trees) (exits : Exits) (way : Way) (found : Option KtType) (d : KtType) (s : State) (e : Ending Value)
    → Within g.edges (leave_edges context (Call' n f returns arguments) exits) → Ready g (if_returns returns (out_of context.copy (Call' n f returns arguments))) s → (returns ≡ false → d ≡ nothing)
    → ((v : Value) → Lies v d → Gives way found v) → CallPost d s.here e → Post g exits way found e
caller_post g context n f true arguments exits way found d s (Gave v s') w r stops h post =
    (leaves context (Call' n f true arguments) exits v w (quiet {ms = []} (λ x b. refl) (ready_here post.0 r)), h v post.1)
caller_post g context n f false arguments exits way found d s (Gave v s') w r stops h post = absurd (false≢true (subst (λ t. Lies v t) (stops refl) post.1))
caller_post g context n f returns arguments exits way found d s (Left (Return v) s') w r stops h post = absurd post
caller_post g context n f returns arguments exits way found d s (Left (Throw x) s') w r stops h post = tt
caller_post g context n f returns arguments exits way found d s (Over l) w r stops h post = tt
caller_post g context n f returns arguments exits way found d s Wrong w r stops h post = post

-- what a call says that is not refused
pub record CallSays (o : Option Signature) (n : Mark) (k : ℕ) (d : KtType) : Type 0 where
  pub signature : Signature
  pub is : o ≡ Some signature
  pub few : (nat_le signature.least k && nat_le k signature.most) ≡ true
  pub result : signature.result ≡ d
  pub ways : (call_demand o n k).ways ≡ signature.ways

call_says : (o : Option Signature) (n : Mark) (k : ℕ) (d : KtType) → (call_demand o n k).claim ≡ claim.Gives d → CallSays o n k d
call_says None n k d e = absurd (breaks-gives _ _ d e)
call_says (Some s) n k d e =
    let both = call_gives (nat_le s.least k && nat_le k s.most) s n d e in
    record { signature = s; is = refl; few = both.0; result = both.1; ways = ap (λ b. (call_if b s n).ways) both.0 }

pub some_of : {A : Type 0} (o : Option A) → IsSome o → (a : A) × (o ≡ Some a)
some_of None h = absurd (false≢true h)
some_of (Some a) h = (a, refl)

-- arguments that typing lets through fit the parameters
arguments_post : {p : Program} {cx : TypeContext} → Setting p cx → (go : Eval) (f : Function) (o : Option Signature) (n : Mark) (locals : LocalTypes) (ts : Trees) (d : KtType) (says : CallSays o n (count ts) d)
    → CallKept p cx.written go f says.signature → (vs : List Value) → AllGive (call_demand o n (count ts)).ways (all_judged cx (call_demand o n (count ts)).ways locals ts).each_found vs
    → arguments_fit p.written f.parameters vs ≡ true
arguments_post {p} {cx} set go f o n locals ts d says kept vs all =
    let ways = (call_demand o n (count ts)).ways in
    let found = (all_judged cx ways locals ts).each_found in
    let few = subst (λ (s : Signature). (nat_le s.least (count ts) && nat_le (count ts) s.most) ≡ true) kept.signature says.few in
    checked_fit cx.written p.written set.written f.parameters found vs (found_count cx ways locals ts ∙ same_count (length f.parameters) (count ts) few)
    (subst (λ ws. AllGive ws found vs) (says.ways ∙ ap (λ (s : Signature). s.ways) kept.signature) all)

pub law_call : (p : Program) (cx : TypeContext) → Setting p cx → (go : Eval) → Keeps p cx go → CallsKeep p cx go → (n : Mark) (f : ℕ) (returns : Bool) (arguments : Trees) → KeepsAt p cx (tree_at p go) (Call' n f returns arguments)
unfolding edges judged trees_in Has
law_call p cx set go keeps calls n f returns arguments g context exits way locals s w a st =
    let t = Call' n f returns arguments in
    let next = if_returns returns (out_of context.copy t) in
    let inside = a.inside t (inl refl) in
    let demand = call_demand (cx.signature f) n (count arguments) in
    let inner = all_judged cx demand.ways locals arguments in
    let found = (closed cx way n inner demand.claim).found in
    let first = enter context t (entry_of context.copy next arguments) in
    let within = all_edges context next arguments in
    let lasts = leave_edges context t exits in
    let w1 = within_right first (within ++ lasts) w in
    let none = parts_none cx way n inner demand.claim a.none in
    let types = (typed_trees cx demand.ways locals arguments a.known none).types in
    let h = closed_stood cx way n inner demand.claim types (call_decided (cx.signature f) n (count arguments)) a.none in
    let says = call_says (cx.signature f) n (count arguments) h.type h.gives in
    let fn = some_of (p.functions f) (g.calls t f inside refl) in
    let kept = calls f fn.0 says.signature fn.1 says.is in
    let stops : returns ≡ false → says.signature.result ≡ nothing = λ e. some-some says.signature.result nothing (sym kept.result ∙ g.stops t f fn.0 inside refl fn.1 e) in
    values_post go keeps arguments g context exits way found demand.ways locals next s (called p go (p.functions f)) (within_left within lasts w1)
    (record { known = a.known; none = none; covered = a.covered; inside = λ u i. a.inside u (inr i) })
    (ready context (entry_of context.copy next arguments) (within_left first (within ++ lasts) w) st)
    (λ vs s' r all.
    let fit = arguments_post set go fn.0 (cx.signature f) n locals arguments h.type says kept vs all in
    called_ends (λ e. Post g exits way found e) p go (p.functions f) fn.0 vs s' fn.1 fit tt
    (caller_post g context n f returns arguments exits way found says.signature.result s' (invoke p go fn.0 vs s').ending (within_right within lasts w1) r stops
    (λ v l. value_gives cx set way n inner demand.claim types h v (subst (λ d. Lies v d) says.result l)) (kept.post vs s' fit)))

-- ---- the function that is called

-- after a body: its value has this property where it ran to its end, or it fits the result where it was returned
abbrev pub BodyPost : {p : Program} {cx : TypeContext} → Place p cx → (Value → State → Type 0) → Ending Value → Type 0
BodyPost {p} {cx} g P (Gave v s) = P v s
BodyPost {p} {cx} g P (Left (Return v) s) = fits cx.result v ≡ true
BodyPost {p} {cx} g P (Left (Throw x) s) = ⊤
BodyPost {p} {cx} g P (Over l) = ⊤
BodyPost {p} {cx} g P Wrong = ⊥

body_post : {p : Program} {cx : TypeContext} (g : Place p cx) (P : Value → State → Type 0) (next : List Node) (way : Way) (found : Option KtType) (r : Ending Value) → Post g (Then next) way found r
    → ((v : Value) (s : State) → Ready g next s → Gives way found v → P v s) → BodyPost g P r
body_post g P next way found (Gave v s) h gives = gives v s h.0 h.1
body_post g P next way found (Left (Return v) s) h gives = h
body_post g P next way found (Left (Throw x) s) h gives = tt
body_post g P next way found (Over l) h gives = tt
body_post g P next way found Wrong h gives = h

-- an expression that is a body
expression_post : {p : Program} {cx : TypeContext} (go : Eval) → Keeps p cx go → (e : Tree) (g : Place p cx) (context : FlowContext) (way : Way) (locals : LocalTypes) (next : List Node) (v : Value) (s : State)
    → Within g.edges (all_edges context next (First' e Empty')) → AllAccepted g (Each way) locals (First' e Empty') → Ready g (entry_of context.copy next (First' e Empty')) s
    → Post g (Then next) way (judged cx way locals e).found (block_from p go v (First' e Empty') s).ending
unfolding all_edges ◌>>=◌ pure
expression_post {p} {cx} go keeps e g context way locals next v s w a r =
    let found = (judged cx way locals e).found in
    value_post g next (Then next) way way found found (go e s).ending (λ u. pure u)
    (keeps e g context (Then next) way locals s (within_left (edges context (Then next) e) [] w) (accepted_first g (Each way) locals e Empty' a) (enters context.copy e r))
    (λ u s' r' gives. (r', gives))

-- A function that can be called, its result, and its place, whose context is that of its body. The types are those of its parameters. The graph has no jumps: a
-- `return` ends the evaluation.
pub record Callee (p : Program) (cx : TypeContext) (f : Function) (d : KtType) : Type 0 where
  pub is_left : ℕ → Bool
  pub place : Place p (in_body cx f.result is_left)
  pub ways : Ways
  pub types : LocalTypes
  pub result : f.result ≡ Some d
  pub within : Within place.edges (all_edges outside (end_node ∷ []) f.body)
  pub begins : (vs : List Value) (s : State) → arguments_fit p.written f.parameters vs ≡ true → Ready place (entry_of 0 (end_node ∷ []) f.body) (begun f vs s)
  pub accepted : AllAccepted place ways types f.body
  pub ends : (s : State) → Ready place (end_node ∷ []) s → f.is_expression ≡ false → f.result ≡ Some unit
  pub form : (f.is_expression ≡ false) ⊎ ((e : Tree) × ((f.body ≡ First' e Empty') × (ways ≡ Each (Checked d))))

given_post : (result : Option KtType) (d : KtType) (v : Value) (s : State) (here : Frame) → result ≡ Some d → Lies v d → s.here ≡ here → CallPost d here (given result v s)
given_post result d v s here e l i =
    subst (λ o. CallPost d here (given o v s)) (sym e) (subst (λ b. CallPost d here (choose b (Gave v s) Wrong)) (sym l) (i, l))

ended_post : (b : Bool) (result : Option KtType) (d : KtType) (v : Value) (s : State) (here : Frame) → result ≡ Some d → (b ≡ true → Lies v d) → (b ≡ false → result ≡ Some unit) → s.here ≡ here
    → CallPost d here (ended b result v s)
ended_post true result d v s here e l u i = given_post result d v s here e (l refl) i
ended_post false result d v s here e l u i =
    subst (λ o. CallPost d here (ended false o v s)) (sym (u refl)) (i, subst (λ t. Lies value.Unit t) (some-some unit d (sym (u refl) ∙ e)) refl)

-- what is known where a body ran to its end
abbrev Ended : Function → KtType → Value → State → Type 0
Ended f d v s = (f.is_expression ≡ true → Lies v d) × (f.is_expression ≡ false → f.result ≡ Some unit)

end_post : {p : Program} {cx : TypeContext} (f : Function) (d : KtType) (c : Callee p cx f d) (here : Frame) (calls : ℕ) (e : Ending Value) → BodyPost c.place (Ended f d) e → CallPost d here (call_end f here calls e)
end_post f d c here calls (Gave v s) post = ended_post f.is_expression f.result d v (resume here calls s) here c.result post.0 post.1 refl
end_post f d c here calls (Left (Return v) s) post = given_post f.result d v (resume here calls s) here c.result (subst (λ o. fits o v ≡ true) c.result post) refl
end_post f d c here calls (Left (Throw x) s) post = tt
end_post f d c here calls (Over l) post = tt
end_post f d c here calls Wrong post = post

pub callee_post : {p : Program} {cx : TypeContext} (go : Eval) → KeepsEach p cx go → (f : Function) (d : KtType) → Callee p cx f d → (vs : List Value) (s : State) → arguments_fit p.written f.parameters vs ≡ true
    → CallPost d s.here (invoke p go f vs s).ending
unfolding invoke turned
callee_post {p} {cx} go keeps f d c vs s fit =
    let s' = begun f vs s in
    let r = c.begins vs s fit in
    end_post f d c s.here s.calls (block p go f.body s').ending
    (elim c.form [
      | inl block_form ↦ body_post c.place (Ended f d) (end_node ∷ []) Unvalued None (block p go f.body s').ending
          (block_post go (keeps f.result c.is_left) f.body c.place outside c.ways c.types (end_node ∷ []) value.Unit s' c.within c.accepted r)
          (λ v t there gives. (λ i. absurd (false≢true (sym block_form ∙ i)), c.ends t there))
      | inr form ↦ expression_form form.0 form.1.0 form.1.1 s' r
    ])
  where
    expression_form : (e : Tree) → f.body ≡ First' e Empty' → c.ways ≡ Each (Checked d) → (s' : State) → Ready c.place (entry_of 0 (end_node ∷ []) f.body) s' → BodyPost c.place (Ended f d) (block p go f.body s').ending
    expression_form e is ways s' r =
        subst (λ ts. BodyPost c.place (Ended f d) (block p go ts s').ending) (sym is)
        (body_post c.place (Ended f d) (end_node ∷ []) (Checked d) (judged (in_body cx f.result c.is_left) (Checked d) c.types e).found (block p go (First' e Empty') s').ending
        (expression_post go (keeps f.result c.is_left) e c.place outside (Checked d) c.types (end_node ∷ []) value.Unit s' (subst (λ ts. Within c.place.edges (all_edges outside (end_node ∷ []) ts)) is c.within)
        (subst (λ ws. AllAccepted c.place ws c.types (First' e Empty')) ways (subst (λ ts. AllAccepted c.place c.ways c.types ts) is c.accepted)) (subst (λ ts. Ready c.place (entry_of 0 (end_node ∷ []) ts) s') is r))
        (λ v t there gives. (λ i. gives.1, c.ends t there)))
