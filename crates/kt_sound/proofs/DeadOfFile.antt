-- Where it is settled for each body which of its trees are entered, it is settled which trees of the file are dead.
use Rattle.std.proofs.Common.{◌≡◌, ◌⊎◌, ◌<◌, ℕ, suc, zero, Bool, true, false, List, [], ◌∷◌, Contains, length, Option, Some, None, option_map, slice_get, inl, inr, sym, ap, subst, ◌∙◌, refl, arith}
use Rattle.std.proofs.lemmas.Bool.{false≢true}
use Rattle.std.proofs.lemmas.Bool.Decides.{eqb_tells}
use Rattle.std.proofs.lemmas.Option.{slice_get_within}
use Rattle.kt_tree.specs.declared.ast.declaration.File.{File}
use Rattle.kt_tree.specs.declared.ast.declaration.FunctionDecl.{FunctionDecl}
use Rattle.kt_model.specs.NameUses.{Resolved, named_at}
use Rattle.kt_model.specs.Bodies.{owner_parameters, owner_trees, function_trees}
use Rattle.kt_model.specs.BodyTrees.{Trees}
use Rattle.kt_model.specs.BodyPaths.{IsNodePath}
use Rattle.kt_model.specs.ControlFlow.{Node, body_nodes, body_edges}
use Rattle.kt_paths.specs.FlowRules.{IsEntered, SettlesEntered}
use Rattle.kt_model.specs.declared.graph.Tag.{Tag}
use Rattle.kt_model.specs.declared.graph.Tag.TheVariants as tag
use Rattle.kt_model.specs.declared.uses.Owner.TheVariants as owner
use Rattle.kt_model.proofs.ListLemmas.{Has, contains_has, has_contains}
use Rattle.kt_mean.specs.Evaluation.{Function}
use Rattle.kt_mean.specs.Programs.{function_of, function_at, program_of}
use Rattle.kt_mean.specs.FileRuns.{IsDeadTree}
use Rattle.kt_sound.specs.FileSoundness.{HaveProgram}
use Rattle.kt_sound.proofs.TypingSteps.{none-some, some-some}

-- ---- what is settled

abbrev pub Settled : Type 0 → Type 0
Settled P = P ⊎ (P → ⊥)

-- the numbers below a bound, one at a time
below : (P : ℕ → Type 0) (count : ℕ) → ((k : ℕ) → k < count → Settled (P k)) → Settled ((k : ℕ) × (k < count) × P k)
below P zero tell = inr (λ h. absurd (omega (arith, h.1)))
below P (suc n) tell = by (tell n (omega arith)) (below P n (λ k h. tell k (omega arith)))
  where
    below_other : (k m : ℕ) → k < suc m → (k ≡ m → ⊥) → k < m
    below_other k m i d = omega arith

    by : Settled (P n) → Settled ((k : ℕ) × (k < n) × P k) → Settled ((k : ℕ) × (k < suc n) × P k)
    by (inl h) rest = inl (n, omega arith, h)
    by (inr h) (inl r) = inl (r.0, omega (arith, r.1), r.2)
    by (inr h) (inr r) = inr (λ s. elim (eqb_tells s.0 n) [ inl e ↦ h (subst P e.1 s.2) | inr d ↦ r (s.0, below_other s.0 n s.1 d.1, s.2) ])

-- the elements of a list, one at a time
among : {A : Type 0} (P : A → Type 0) (xs : List A) → ((x : A) → Settled (P x)) → Settled ((x : A) × Has xs x × P x)
unfolding Has
among P [] tell = inr (λ h. h.1)
among P (x ∷ xs) tell = by (tell x) (among P xs tell)
  where
    by : Settled (P x) → Settled ((y : _) × Has xs y × P y) → Settled ((y : _) × Has (x ∷ xs) y × P y)
    by (inl h) rest = inl (x, inl refl, h)
    by (inr h) (inl r) = inl (r.0, inr r.1, r.2)
    by (inr h) (inr r) = inr (λ s. elim s.1 [ inl e ↦ h (subst P (sym e) s.2) | inr k ↦ r (s.0, k, s.2) ])

settled_in : (t : Tag) → Settled (t ≡ tag.In)
settled_in tag.In = inl refl
settled_in tag.Entry = inr (λ e. cc)
settled_in _ = inr (λ e. cc)

settled_number : (a b : ℕ) → Settled (a ≡ b)
settled_number a b = elim (eqb_tells a b) [ inl e ↦ inl e.1 | inr d ↦ inr d.1 ]

settled_both : {P Q : Type 0} → Settled P → Settled Q → Settled (P × Q)
settled_both (inl p) (inl q) = inl (p, q)
settled_both (inl p) (inr n) = inr (λ h. n h.1)
settled_both (inr n) q = inr (λ h. n h.0)

-- the test of what is settled
abbrev told : {P : Type 0} → Settled P → Bool
told (inl p) = true
told (inr n) = false

tells : {P : Type 0} (s : Settled P) → (told s ≡ true → P) × (P → told s ≡ true)
tells (inl p) = (λ e. p, λ h. refl)
tells (inr n) = (λ e. absurd (false≢true e), λ h. absurd (n h))

pub got : {A : Type 0} (xs : List A) (i : ℕ) → i < length xs → (x : A) × (slice_get xs i ≡ Some x)
got [] i h = absurd (omega arith)
got (x ∷ xs) zero h = (x, refl)
got (x ∷ xs) (suc i) h = got xs i (omega arith)

-- ---- the dead trees of a file

module _ (file : File) (uses : Resolved) where
  abbrev parameters_of : ℕ → List ℕ
  parameters_of place = owner_parameters uses (owner.Function place)

  abbrev body_of : ℕ → Trees
  body_of place = owner_trees file uses (owner.Function place)

  -- the function at a place
  pub record IsFunctionOf (place : ℕ) (f : Function) : Type 0 where
    pub there : place < length file.functions
    pub same_parameters : f.parameters ≡ parameters_of place
    pub same_body : f.body ≡ body_of place

  pub is_function : (place : ℕ) (f : Function) → function_at file uses place ≡ Some f → IsFunctionOf place f
  is_function place f e = by (slice_get file.functions place) refl e
    where
      by : (o : Option FunctionDecl) → slice_get file.functions place ≡ o → option_map (function_of uses place) o ≡ Some f → IsFunctionOf place f
      by None g h = absurd (none-some f h)
      by (Some d) g h =
          let same : f ≡ function_of uses place d = sym (some-some (function_of uses place d) f h) in
          record {
            there = slice_get_within file.functions place d g;
            same_parameters = ap (λ (z : Function). z.parameters) same;
            same_body = ap (λ (z : Function). z.body) same ∙ ap (λ o. function_trees (named_at uses) o) (sym g);
          }

  function_there : (place : ℕ) → place < length file.functions → (f : Function) × (function_at file uses place ≡ Some f)
  function_there place h = let d = got file.functions place h in (function_of uses place d.0, ap (λ o. option_map (function_of uses place) o) d.1)

  -- a node of a body at which the tree is entered
  abbrev Enters : ℕ → ℕ → Type 0
  Enters n place = (m : Node) × Has (body_nodes (parameters_of place) (body_of place)) m × ((m.tree ≡ n) × (m.tag ≡ tag.In))

  settled_enters : (n place : ℕ) → Settled (Enters n place)
  settled_enters n place = among (λ (m : Node). (m.tree ≡ n) × (m.tag ≡ tag.In)) (body_nodes (parameters_of place) (body_of place)) (λ m. settled_both (settled_number m.tree n) (settled_in m.tag))

  settled_entered : (n place : ℕ) → SettlesEntered (parameters_of place) (body_of place) → Settled (IsEntered (parameters_of place) (body_of place) n)
  settled_entered n place s = by (s.entered n) refl
    where
      by : (b : Bool) → s.entered n ≡ b → Settled (IsEntered (parameters_of place) (body_of place) n)
      by true e = inl ((s.is_entered n).0 e)
      by false e = inr (λ h. false≢true (sym e ∙ (s.is_entered n).1 h))

  -- some body enters the tree along a path
  abbrev SomeEntered : ℕ → Type 0
  SomeEntered n = (place : ℕ) × (place < length file.functions) × IsEntered (parameters_of place) (body_of place) n

  -- some body has a node for it
  abbrev SomeEnters : ℕ → Type 0
  SomeEnters n = (place : ℕ) × (place < length file.functions) × Enters n place

  walked_in : (place : ℕ) (f : Function) (ns : List Node) → IsFunctionOf place f → IsNodePath (body_edges (parameters_of place) (body_of place)) ns → IsNodePath (body_edges f.parameters f.body) ns
  walked_in place f ns is w =
      subst (λ xs. IsNodePath (body_edges xs f.body) ns) (sym is.same_parameters) (subst (λ ts. IsNodePath (body_edges (parameters_of place) ts) ns) (sym is.same_body) w)

  walked_of : (place : ℕ) (f : Function) (ns : List Node) → IsFunctionOf place f → IsNodePath (body_edges f.parameters f.body) ns → IsNodePath (body_edges (parameters_of place) (body_of place)) ns
  walked_of place f ns is w =
      subst (λ ts. IsNodePath (body_edges (parameters_of place) ts) ns) is.same_body (subst (λ xs. IsNodePath (body_edges xs f.body) ns) is.same_parameters w)

  not_dead : (n : ℕ) → SomeEntered n → IsDeadTree file uses n → ⊥
  not_dead n e d =
      let f = function_there e.0 e.1 in
      d.unreached e.0 f.0 e.2.node e.2.reached.0 f.1 (walked_in e.0 f.0 (e.2.node ∷ e.2.reached.0) (is_function e.0 f.0 f.1) e.2.reached.1) e.2.same_tree e.2.enters

  is_dead : (n : ℕ) → (SomeEntered n → ⊥) → SomeEnters n → IsDeadTree file uses n
  is_dead n none i =
      let f = function_there i.0 i.1 in
      let is = is_function i.0 f.0 f.1 in
      let nodes = has_contains (body_nodes (parameters_of i.0) (body_of i.0)) i.2.0 i.2.1 in
      record {
        place = i.0;
        function = f.0;
        is = f.1;
        node = i.2.0;
        among = subst (λ xs. Contains (body_nodes xs f.0.body) i.2.0) (sym is.same_parameters) (subst (λ ts. Contains (body_nodes (parameters_of i.0) ts) i.2.0) (sym is.same_body) nodes);
        same_tree = i.2.2.0;
        enters = i.2.2.1;
        unreached = λ place g m path e walked same in'.
            let ig = is_function place g e in
            none (place, ig.there, record { node = m; same_tree = same; enters = in'; reached = (path, walked_of place g (m ∷ path) ig walked) });
      }

  has_node : (n : ℕ) → IsDeadTree file uses n → SomeEnters n
  has_node n d =
      let is = is_function d.place d.function d.is in
      let nodes = subst (λ ts. Contains (body_nodes (parameters_of d.place) ts) d.node) is.same_body (subst (λ xs. Contains (body_nodes xs d.function.body) d.node) is.same_parameters d.among) in
      (d.place, is.there, (d.node, contains_has (body_nodes (parameters_of d.place) (body_of d.place)) d.node nodes, (d.same_tree, d.enters)))

  settled_dead : (n : ℕ) → Settled (SomeEntered n) → Settled (SomeEnters n) → Settled (IsDeadTree file uses n)
  settled_dead n (inl e) s = inr (not_dead n e)
  settled_dead n (inr none) (inl i) = inl (is_dead n none i)
  settled_dead n (inr none) (inr absent) = inr (λ d. absent (has_node n d))

  dead_settled : ((place : ℕ) → place < length file.functions → SettlesEntered (parameters_of place) (body_of place)) → (n : ℕ) → Settled (IsDeadTree file uses n)
  dead_settled settles n =
      settled_dead n (below (λ place. IsEntered (parameters_of place) (body_of place) n) (length file.functions) (λ place h. settled_entered n place (settles place h)))
      (below (Enters n) (length file.functions) (λ place h. settled_enters n place))

pub have_program : HaveProgram
have_program file uses main a =
    let settled = dead_settled file uses (λ place h. (a.bodies place h).entered) in
    let dead : ℕ → Bool = λ n. told (settled n) in
    (program_of file uses dead main, record { dead = dead; main = main; is_main = a.is_main; is_dead = λ n. tells (settled n); program = refl })
