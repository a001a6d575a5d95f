-- The laws of soundness: declarations and assignments of locals.
use Rattle.std.proofs.Common.{◌≡◌, ℕ, nat_eq, is_some, Bool, true, false, if◌then◌else◌, Option, Some, None, [], ◌∷◌, ◌++◌, Contains, inl, inr, refl, sym, subst, ◌∙◌, arith, true≢false}
use Rattle.std.proofs.lemmas.Bool.{false≢true}
use Rattle.kt_tree.specs.declared.token.Span.{Span}
use Rattle.kt_model.specs.BodyTrees.{Mark, Tree, Declare', Local', Assign'}
use Rattle.kt_model.specs.ControlFlow.{Node, Exits, Then, in_of, out_of, enter, leave_edges, edges, known_of}
use Rattle.kt_model.specs.NodePaths.{assigned_after}
use Rattle.kt_model.specs.declared.graph.Variable.TheVariants.{Local}
use Rattle.kt_model.specs.declared.kinds.KtType.{KtType}
use Rattle.kt_typing.specs.declared.claims.Way.{Way}
use Rattle.kt_typing.specs.declared.claims.Claim.TheVariants as claim
use Rattle.kt_typing.specs.Typing.{TypeContext, look_up, declared, initialised, no_trees, alone, closed, unit, value_way, known_type, declaration_claim, type_or_none, assign_claim, judged}
use Rattle.kt_model.proofs.ListLemmas.{Has}
use Rattle.kt_mean.specs.declared.states.Value.{Value}
use Rattle.kt_mean.specs.declared.states.Value.TheVariants as value
use Rattle.kt_mean.specs.Frames.{State, Gave, Run, ◌>>=◌, wrong}
use Rattle.kt_mean.specs.Evaluation.{Program, choose, fits, store, write, write_over, put, checked, tree_at}
use Rattle.kt_model.specs.TreesWithin.{trees_in, all_trees_in}
use Rattle.kt_sound.proofs.TypingSteps.{none-some, some-some, kept_tree, kept_initialised, own_type, new_initialised}
use Rattle.kt_sound.proofs.NoFinding.{parts_none, closed_stood, declaration_decided, assign_decided, types_first, typed_tree}
use Rattle.kt_sound.proofs.ValueTypes.{Lies}
use Rattle.kt_sound.proofs.Operations.{gives-gives, breaks-gives}
use Rattle.kt_sound.proofs.BodyStanding.{Place, Stands, Ready, Gives, Post, Eval, KeepsAt, Keeps}
use Rattle.kt_sound.proofs.BodySteps.{within_left, within_right, put_agrees, ready, step, enters, leaves, value_post}
use Rattle.kt_sound.proofs.BodyLaws.{Setting, value_gives}

-- ---- locals

-- the value lies in the type that the body has for the local
pub record Fit {p : Program} {cx : TypeContext} (g : Place p cx) (x : ℕ) (v : Value) : Type 0 where
  pub type : KtType
  pub is : look_up g.locals x ≡ Some (Some type)
  pub lies : Lies v type

-- so it lies in the local's written type
pub fit_written : {p : Program} {cx : TypeContext} (g : Place p cx) → Setting p cx → (x : ℕ) (v : Value) → Fit g x v → fits (p.written x) v ≡ true
fit_written {p} {cx} g set x v f = by (p.written x) refl
  where
    by : (o : Option KtType) → p.written x ≡ o → fits o v ≡ true
    by None e = refl
    by (Some w) e = subst (λ t. Lies v t) (sym (g.as_written x f.type w f.is (sym (set.written x) ∙ e))) f.lies

pub checked_post : {p : Program} {cx : TypeContext} (g : Place p cx) (exits : Exits) (way : Way) (found : Option KtType) (written : Option KtType) (v : Value) (r : Run Value) (s : State)
    → fits written v ≡ true → Post g exits way found (r s).ending → Post g exits way found (checked written v r s).ending
checked_post g exits way found written v r s e h = subst (λ b. Post g exits way found (choose b r wrong s).ending) (sym e) h

fit_lies : {p : Program} {cx : TypeContext} (g : Place p cx) (x : ℕ) (v : Value) → Fit g x v → (u : Value) (t : KtType) → Some v ≡ Some u → look_up g.locals x ≡ Some (Some t) → Lies u t
fit_lies g x v f u t e i = subst (λ z. Lies z t) (some-some v u e) (subst (λ z. Lies v z) (some-some f.type t (some-some (Some f.type) (Some t) (sym f.is ∙ i))) f.lies)

-- a value is put into a local at a tree's `out`
pub put_stands : {p : Program} {cx : TypeContext} (g : Place p cx) (out : Node) (x : ℕ) (v : Value) (s : State) → ((y : ℕ) (b : Bool) → assigned_after out.effects (Local y) b ≡ (if nat_eq x y then true else b))
    → Fit g x v → Ready g (out ∷ []) s → Stands g out (put s x (Some v))
put_stands g out x v s effects f r = step (put s x (Some v)) r (λ path a. put_agrees out path s.here x (Some v) true refl effects (fit_lies g x v f) a)

-- an assignment: the rules say that a `val` is not assigned yet
pub write_post : {p : Program} {cx : TypeContext} (g : Place p cx) (exits : Exits) (way : Way) (found : Option KtType) (fixed : Bool) (o : Option Value) (x : ℕ) (v : Value) (s : State)
    → (fixed ≡ true → is_some o ≡ false) → Post g exits way found (Gave value.Unit (put s x (Some v))) → Post g exits way found (write_over fixed o x v s).ending
unfolding store wrong
write_post g exits way found true None x v s free h = h
write_post g exits way found true (Some u) x v s free h = absurd (true≢false (free refl))
write_post g exits way found false o x v s free h = h

pub law_declare : (p : Program) (cx : TypeContext) → Setting p cx → (go : Eval) → (n : Mark) (x : ℕ) → KeepsAt p cx (tree_at p go) (Declare' n x)
unfolding edges judged store
law_declare p cx set go n x g context exits way locals s w a st =
    let t = Declare' n x in
    let out = out_of context.copy t in
    let parts = no_trees (declared locals x (cx.written x)) in
    let w0 = within_left (enter context t (out ∷ [])) (leave_edges context t exits) w in
    let w1 = within_right (enter context t (out ∷ [])) (leave_edges context t exits) w in
    let h = closed_stood cx way n parts (claim.Gives unit) refl tt a.none in (
      leaves context t exits value.Unit w1
          (step (put s x None) (ready context (out ∷ []) w0 st) (λ path b. put_agrees out path s.here x None false refl (λ y c. refl) (λ v u e i. absurd (none-some v e)) b)),
      value_gives cx set way n parts (claim.Gives unit) refl h value.Unit (subst (λ d. Lies value.Unit d) (gives-gives unit h.type h.gives) refl),
    )

-- what an assignment or a declaration claims
declaration_gives : (n : Mark) (before behind : Option (Option KtType)) (d : KtType) → declaration_claim n before behind ≡ claim.Gives d → (unit ≡ d) × (before ≡ None → behind ≡ None)
declaration_gives n None None d e = (gives-gives unit d e, λ i. refl)
declaration_gives n None (Some t) d e = absurd (breaks-gives _ _ d e)
declaration_gives n (Some t) None d e = (gives-gives unit d e, λ i. refl)
declaration_gives n (Some t) (Some u) d e = (gives-gives unit d e, λ i. absurd (none-some t (sym i)))

assign_gives : (word : Span) (target : Option (Option KtType)) (d : KtType) → assign_claim word target ≡ claim.Gives d → (unit ≡ d) × (target ≡ None → ⊥)
assign_gives word None d e = absurd (breaks-gives _ _ d e)
assign_gives word (Some t) d e = (gives-gives unit d e, λ i. none-some t (sym i))

-- the value of an initialiser lies in the type that its local has from then on
local_fit : {p : Program} {cx : TypeContext} (g : Place p cx) (x : ℕ) (v : Value) (before : Option (Option KtType)) (written found : Option KtType) → (before ≡ Some None → ⊥)
    → ((u : Option KtType) → before ≡ Some u → look_up g.locals x ≡ Some u) → (before ≡ None → look_up g.locals x ≡ Some (own_type written found))
    → Gives (value_way (known_type before written)) found v → Fit g x v
local_fit g x v None None None known old new h = absurd h
local_fit g x v None None (Some t) known old new h = record { type = t; is = new refl; lies = h }
local_fit g x v None (Some t) found known old new h = record { type = t; is = new refl; lies = h.1 }
local_fit g x v (Some None) written found known old new h = absurd (known refl)
local_fit g x v (Some (Some t)) written found known old new h = record { type = t; is = old (Some t) refl; lies = h.1 }

init_effects : (b c : Bool) → (if b then true else (if b then false else c)) ≡ (if b then true else c)
init_effects true c = refl
init_effects false c = refl

pub law_local : (p : Program) (cx : TypeContext) → Setting p cx → (go : Eval) → Keeps p cx go → (n : Mark) (at : Span) (x : ℕ) (e : Tree) → KeepsAt p cx (tree_at p go) (Local' n at x e)
unfolding edges judged trees_in store Has ◌>>=◌
law_local p cx set go keeps n at x e g context exits way locals s w a st =
    let t = Local' n at x e in
    let out = out_of context.copy t in
    let before = look_up locals x in
    let way' = value_way (known_type before (cx.written x)) in
    let inner = judged cx way' locals e in
    let parts = alone (record inner { locals = initialised inner.locals x (cx.written x) inner.found }) in
    let c = declaration_claim n before (look_up inner.locals x) in
    let first = enter context t (in_of context.copy e ∷ []) in
    let within = edges context (Then (out ∷ [])) e in
    let w0 = within_left first (within ++ leave_edges context t exits) w in
    let w1 = within_right first (within ++ leave_edges context t exits) w in
    let none = parts_none cx way n parts c a.none in
    let types = types_first inner.found [] (typed_tree cx way' locals e a.known none).type refl in
    let h = closed_stood cx way n parts c types (declaration_decided n before (look_up inner.locals x)) a.none in
    let says = declaration_gives n before (look_up inner.locals x) h.type h.gives in
    value_post g (out ∷ []) exits way way' (closed cx way n parts c).found inner.found (go e s).ending _
    (keeps e g context (Then (out ∷ [])) way' locals s (within_left within (leave_edges context t exits) w1)
    (record { known = a.known; none = none; covered = λ y u i. a.covered y u (kept_initialised inner.locals x (cx.written x) inner.found y u i); inside = λ u i. a.inside u (inr i) })
    (enters context.copy e (ready context (in_of context.copy e ∷ []) w0 st)))
    (λ v s' r gives.
    let fit = local_fit g x v before (cx.written x) inner.found (a.known x)
    (λ u i. a.covered x u (kept_initialised inner.locals x (cx.written x) inner.found x u (kept_tree cx way' locals e x u i)))
    (λ i. a.covered x (own_type (cx.written x) inner.found) (new_initialised inner.locals x (cx.written x) inner.found (says.1 i))) gives in
    checked_post g exits way (closed cx way n parts c).found (p.written x) v (store x (Some v)) s' (fit_written g set x v fit) (
      leaves context t exits value.Unit (within_right within (leave_edges context t exits) w1) (put_stands g out x v s' (λ y b. init_effects (nat_eq x y) b) fit r),
      value_gives cx set way n parts c types h value.Unit (subst (λ d. Lies value.Unit d) says.0 refl),
    ))

-- the value of an assignment lies in the type of its local
assign_fit : {p : Program} {cx : TypeContext} (g : Place p cx) (x : ℕ) (v : Value) (target : Option (Option KtType)) (found : Option KtType) → (target ≡ Some None → ⊥) → (target ≡ None → ⊥)
    → ((u : Option KtType) → target ≡ Some u → look_up g.locals x ≡ Some u) → Gives (value_way (type_or_none target)) found v → Fit g x v
assign_fit g x v None found known some old h = absurd (some refl)
assign_fit g x v (Some None) found known some old h = absurd (known refl)
assign_fit g x v (Some (Some t)) found known some old h = record { type = t; is = old (Some t) refl; lies = h.1 }

-- where the assigned local is fixed, it holds nothing
assign_free : {p : Program} {cx : TypeContext} (g : Place p cx) (copy : ℕ) (n : Mark) (at : Span) (x : ℕ) (fixed : Bool) (e : Tree) (s : State) → Contains (all_trees_in g.body) (Assign' n at x fixed e)
    → Ready g (out_of copy (Assign' n at x fixed e) ∷ []) s → fixed ≡ true → is_some (s.here.locals x) ≡ false
assign_free g copy n at x true e s i r f =
    r.stands.agrees.held x ∙ g.fine.assigns (Assign' n at x true e) x (known_of e) (out_of copy (Assign' n at x true e)) (r.at ∷ r.stands.path) i refl refl (0, omega arith, refl) (r.leads.0, r.stands.is_path)
assign_free g copy n at x false e s i r f = absurd (false≢true f)

pub law_assign : (p : Program) (cx : TypeContext) → Setting p cx → (go : Eval) → Keeps p cx go → (n : Mark) (at : Span) (x : ℕ) (fixed : Bool) (e : Tree) → KeepsAt p cx (tree_at p go) (Assign' n at x fixed e)
unfolding edges judged trees_in write Has ◌>>=◌
law_assign p cx set go keeps n at x fixed e g context exits way locals s w a st =
    let t = Assign' n at x fixed e in
    let out = out_of context.copy t in
    let target = look_up locals x in
    let way' = value_way (type_or_none target) in
    let inner = judged cx way' locals e in
    let c = assign_claim n.word target in
    let first = enter context t (in_of context.copy e ∷ []) in
    let within = edges context (Then (out ∷ [])) e in
    let w0 = within_left first (within ++ leave_edges context t exits) w in
    let w1 = within_right first (within ++ leave_edges context t exits) w in
    let none = parts_none cx way n (alone inner) c a.none in
    let types = types_first inner.found [] (typed_tree cx way' locals e a.known none).type refl in
    let h = closed_stood cx way n (alone inner) c types (assign_decided n.word target) a.none in
    let says = assign_gives n.word target h.type h.gives in
    value_post g (out ∷ []) exits way way' (closed cx way n (alone inner) c).found inner.found (go e s).ending _
    (keeps e g context (Then (out ∷ [])) way' locals s (within_left within (leave_edges context t exits) w1)
    (record { known = a.known; none = none; covered = a.covered; inside = λ u i. a.inside u (inr i) })
    (enters context.copy e (ready context (in_of context.copy e ∷ []) w0 st)))
    (λ v s' r gives.
    let fit = assign_fit g x v target inner.found (a.known x) says.1 (λ u i. a.covered x u (kept_tree cx way' locals e x u i)) gives in
    checked_post g exits way (closed cx way n (alone inner) c).found (p.written x) v (write fixed x v) s' (fit_written g set x v fit)
    (write_post g exits way (closed cx way n (alone inner) c).found fixed (s'.here.locals x) x v s' (assign_free g context.copy n at x fixed e s' (a.inside t (inl refl)) r) (
      leaves context t exits value.Unit (within_right within (leave_edges context t exits) w1) (put_stands g out x v s' (λ y b. refl) fit r),
      value_gives cx set way n (alone inner) c types h value.Unit (subst (λ d. Lies value.Unit d) says.0 refl),
    )))
