-- Which trees of a body are entered is settled: the analysis of its graph tells it of each node.
use Rattle.std.proofs.Common.{◌≡◌, ℕ, zero, suc, ◌<◌, Bool, true, false, ◌⊎◌, ◌&&◌, ◌||◌, ◌==◌, List, length, refl, sym, ap, ◌∙◌, subst, inl, inr, arith, eq-eqb, eqb-true}
use Rattle.std.proofs.lemmas.Bool.{cases_lt, false≢true}
use Rattle.kt_model.specs.declared.graph.Graph.{Graph}
use Rattle.kt_model.specs.declared.graph.Tag.{Tag}
use Rattle.kt_model.specs.declared.graph.Tag.TheVariants as tag
use Rattle.kt_model.specs.BodyTrees.{Trees}
use Rattle.kt_model.specs.Bodies.{node_at}
use Rattle.kt_model.specs.ControlFlow.{Node, body_edges}
use Rattle.kt_paths.specs.FlowRules.{IsEntered, IsReachedNode, SettlesEntered}
use Rattle.kt_init.specs.Statuses.{Analyses, Statuses, reached_at}
use Rattle.kt_flow.proofs.Paths.{IsPlaced, reached_here, reached_place, reached_there}

-- ---- tests

both : (a b : Bool) → a ≡ true → b ≡ true → (a && b) ≡ true
both true true e f = refl
both true false e f = f
both false b e f = e

both_first : (a b : Bool) → (a && b) ≡ true → a ≡ true
both_first true b e = refl
both_first false b e = e

both_second : (a b : Bool) → (a && b) ≡ true → b ≡ true
both_second true b e = e
both_second false b e = absurd (false≢true e)

either : (a b : Bool) → (a || b) ≡ true → (a ≡ true) ⊎ (b ≡ true)
either true b e = inl refl
either false b e = inr e

either_first : (a b : Bool) → a ≡ true → (a || b) ≡ true
either_first true b e = refl
either_first false b e = absurd (false≢true e)

either_second : (a b : Bool) → b ≡ true → (a || b) ≡ true
either_second true b e = refl
either_second false b e = e

-- whether some place below a number passes a test
abbrev any_below : (ℕ → Bool) → ℕ → Bool
any_below test zero = false
any_below test (suc n) = test n || any_below test n

found_below : (test : ℕ → Bool) (n : ℕ) → any_below test n ≡ true → (i : ℕ) × (i < n) × (test i ≡ true)
found_below test zero e = absurd (false≢true e)
found_below test (suc n) e = elim (either (test n) (any_below test n) e) [
  | inl here ↦ (n, omega arith, here)
  | inr below ↦ (let f = found_below test n below in (f.0, omega (arith, f.1), f.2))
]

tells_below : (test : ℕ → Bool) (n i : ℕ) → i < n → test i ≡ true → any_below test n ≡ true
tells_below test zero i h e = absurd (omega arith)
tells_below test (suc n) i h e = elim (cases_lt i n) [
  | inl below ↦ either_second (test n) (any_below test n) (tells_below test n i below e)
  | inr above ↦ (let last : i ≡ n = omega arith in either_first (test n) (any_below test n) (ap test (sym last) ∙ e))
]

abbrev is_in : Tag → Bool
is_in tag.In = true
is_in _ = false

tag_is_in : (t : Tag) → is_in t ≡ true → t ≡ tag.In
tag_is_in tag.In e = refl
tag_is_in _ e = absurd (false≢true e)

-- ---- entered trees

-- whether this place is reached and is the `in` of the tree
abbrev enters : Graph → Statuses → ℕ → ℕ → Bool
enters g s tree i = reached_at s i && (is_in (node_at g.nodes i).tag && ((node_at g.nodes i).tree == tree))

module _ (ps : List ℕ) (ts : Trees) (classes : ℕ) (g : Graph) (s : Statuses) (w : IsPlaced ps ts classes g) (a : Analyses g s) where
  entered_there : (tree i : ℕ) → i < length g.nodes → enters g s tree i ≡ true → IsEntered ps ts tree
  entered_there tree i lt e =
      let reached : reached_at s i ≡ true = both_first _ _ e in
      let is : (is_in (node_at g.nodes i).tag && ((node_at g.nodes i).tree == tree)) ≡ true = both_second (reached_at s i) _ e in
      record {
        node = node_at g.nodes i;
        same_tree = eqb-true _ _ (both_second (is_in (node_at g.nodes i).tag) _ is);
        enters = tag_is_in _ (both_first _ _ is);
        reached = reached_there ps ts classes g w i lt ((a.reached i lt).0 reached);
      }

  entered_here : (tree : ℕ) → IsEntered ps ts tree → any_below (enters g s tree) (length g.nodes) ≡ true
  entered_here tree e =
      let place = reached_place ps ts classes g w e.node e.reached in
      let here : IsReachedNode (body_edges ps ts) (node_at g.nodes place.0) = subst (λ n. IsReachedNode (body_edges ps ts) n) (sym place.2) e.reached in
      let reached : reached_at s place.0 ≡ true = (a.reached place.0 place.1).1 (reached_here ps ts classes g w place.0 place.1 here) in
      let is_in_here : is_in (node_at g.nodes place.0).tag ≡ true = ap (λ (n : Node). is_in n.tag) place.2 ∙ ap is_in e.enters in
      let same_tree : ((node_at g.nodes place.0).tree == tree) ≡ true = eq-eqb _ _ (ap (λ (n : Node). n.tree) place.2 ∙ e.same_tree) in
      tells_below (enters g s tree) (length g.nodes) place.0 place.1 (both _ _ reached (both _ _ is_in_here same_tree))

  -- The analysis of a body's graph settles which trees are entered.
  pub settles : SettlesEntered ps ts
  settles = record {
    entered = λ tree. any_below (enters g s tree) (length g.nodes);
    is_entered = λ tree. (
      λ e. let f = found_below (enters g s tree) (length g.nodes) e in entered_there tree f.0 f.1 f.2,
      λ e. entered_here tree e,
    );
  }
