-- The trees out of which a path leads, by the places of a graph and by its nodes.
use Rattle.std.proofs.Common.{◌≡◌, ◌⊎◌, ◌↔◌, ℕ, ◌+◌, ◌<◌, List, [], ◌∷◌, ◌++◌, length, get_or, Contains, inl, inr, sym, ap, subst, ◌∙◌, arith}
use Rattle.std.proofs.lemmas.Bool.{cases_order}
use Rattle.std.proofs.lemmas.List.{get_or_default}
use Rattle.std.proofs.lemmas.List.Elements.{Contains-push, Contains-push_cases, Contains-append_left}
use Rattle.kt_model.specs.Bodies.{node_at}
use Rattle.kt_model.specs.BodyTrees.{Trees}
use Rattle.kt_model.specs.ControlFlow.{Node, body_edges}
use Rattle.kt_model.specs.declared.graph.Graph.{Graph}
use Rattle.kt_paths.specs.FlowRules.{IsReachedNode}
use Rattle.kt_typing.specs.Typing.{IsLeft}
use Rattle.kt_flow.specs.Ends.{AddsTrees, IsLeftAt, IsLeftBefore}
use Rattle.kt_flow.proofs.Paths.{IsPlaced, reached_here, reached_place, reached_there}

module _ (ps : List ℕ) (ts : Trees) (classes : ℕ) (g : Graph) (w : IsPlaced ps ts classes g) where
  -- A tree that a place leaves is left.
  pub left_there : (tree : ℕ) → IsLeftBefore g tree (length g.nodes) → IsLeft ps ts tree
  left_there tree h =
      let reached = reached_there ps ts classes g w h.node h.before h.there.reached in
      record { node = node_at g.nodes h.node; same_tree = h.there.same_tree; leaves = h.there.leaves; path = reached.0; is_path = reached.1 }

  -- And the other way round.
  pub left_here : (tree : ℕ) → IsLeft ps ts tree → IsLeftBefore g tree (length g.nodes)
  left_here tree h =
      let reached : IsReachedNode (body_edges ps ts) h.node = (h.path, h.is_path) in
      let place = reached_place ps ts classes g w h.node reached in
      record {
        node = place.0;
        before = place.1;
        there = record {
          same_tree = ap (λ (m : Node). m.tree) place.2 ∙ h.same_tree;
          leaves = ap (λ (m : Node). m.tag) place.2 ∙ h.leaves;
          reached = reached_here ps ts classes g w place.0 place.1 (subst (λ m. IsReachedNode (body_edges ps ts) m) (sym place.2) reached);
        };
      }

module _ (g : Graph) (i : ℕ) (lt : i < length g.nodes) (row : Node) (is : row ≡ get_or g.nodes i row) where
  -- A place leaves only its own tree.
  tree_is : (tree : ℕ) → IsLeftAt g tree i → row.tree ≡ tree
  tree_is tree h =
      let same : node_at g.nodes i ≡ row = get_or_default g.nodes i _ _ lt ∙ sym is in
      sym (ap (λ (m : Node). m.tree) same) ∙ h.same_tree

  -- its tree put in
  pub tree_left : (old new : List ℕ) → IsLeftAt g row.tree i → new ≡ old ++ row.tree ∷ [] → AddsTrees (λ tree. IsLeftAt g tree i) old new
  tree_left old new left e =
      subst (λ l. AddsTrees (λ tree. IsLeftAt g tree i) old l) (sym e)
      (λ tree. (
        λ h. elim (Contains-push_cases old row.tree tree h) [ inl o ↦ inl o | inr s ↦ inr (subst (λ k. IsLeftAt g k i) s left) ],
        λ s. elim s [ inl o ↦ Contains-append_left old (row.tree ∷ []) tree o | inr q ↦ subst (λ x. Contains (old ++ row.tree ∷ []) x) (tree_is tree q) (Contains-push old row.tree) ],
      ))

  -- nothing put in
  pub tree_kept : (old : List ℕ) → (IsLeftAt g row.tree i → ⊥) → AddsTrees (λ tree. IsLeftAt g tree i) old old
  tree_kept old never tree = (λ h. inl h, λ s. elim s [ inl h ↦ h | inr p ↦ absurd (never (subst (λ k. IsLeftAt g k i) (sym (tree_is tree p)) p)) ])

module _ (g : Graph) where
  pub none_left : (tree : ℕ) → Contains [] tree ↔ IsLeftBefore g tree 0
  none_left tree = (λ h. absurd (omega (arith, h.1)), λ h. (let below : h.node < 0 = h.before in absurd (omega arith)))

  -- one place more
  pub left_more : (i : ℕ) (old new : List ℕ) → ((tree : ℕ) → Contains old tree ↔ IsLeftBefore g tree i) → AddsTrees (λ tree. IsLeftAt g tree i) old new
      → (tree : ℕ) → Contains new tree ↔ IsLeftBefore g tree (i + 1)
  left_more i old new a b tree =
      (λ h. elim ((b tree).0 h) [ inl o ↦ before ((a tree).0 o) | inr p ↦ there p ], λ h. (b tree).1 (from h))
    where
      before : IsLeftBefore g tree i → IsLeftBefore g tree (i + 1)
      before h = record { node = h.node; before = (let below = h.before in omega arith); there = h.there }

      there : IsLeftAt g tree i → IsLeftBefore g tree (i + 1)
      there p = record { node = i; before = omega arith; there = p }

      from : IsLeftBefore g tree (i + 1) → Contains old tree ⊎ IsLeftAt g tree i
      from h = elim (cases_order h.node i) [
        | inl same ↦ inr (subst (λ k. IsLeftAt g tree k) same h.there)
        | inr apart ↦ elim apart [
          | inl below ↦ inl ((a tree).1 (record { node = h.node; before = below; there = h.there }))
          | inr above ↦ (let before = h.before in absurd (omega arith))
        ]
      ]
