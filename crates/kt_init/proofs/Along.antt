use Rattle.std.proofs.Common.{◌≡◌, ℕ, ◌+◌, ◌*◌, ◌<◌, Bool, true, false, cond, not, ◌⊎◌, List, [], ◌∷◌, ◌++◌, length, map, get_or, arith, refl, ap, sym, ◌∙◌, inl, inr}
use Rattle.std.specs.List.{Contains}
use Rattle.std.proofs.lemmas.List.{append-nil, append_assoc, get_or-map, length-map}
use Rattle.std.proofs.lemmas.List.Elements.{All-contains, Contains-append_left, Contains-push, Contains-push_cases}
use Rattle.kt_model.specs.declared.graph.EdgeRow.{EdgeRow}
use Rattle.kt_model.specs.declared.graph.FlowEffect.{FlowEffect}
use Rattle.kt_model.specs.declared.graph.FlowEffect.TheVariants.{Read, Declare, Assign, Assume, Kill}
use Rattle.kt_model.specs.declared.graph.Graph.{Graph}
use Rattle.kt_model.specs.declared.graph.Variable.{Variable}
use Rattle.kt_model.specs.NodePaths as nodes
use Rattle.kt_model.specs.NodePaths.{IsAlongAll, IsEdgeWithin, IsGraph, assigned_along, assigned_after, assigned_by, effects_of, entry_of, variable_at, variable_is}
use Rattle.kt_solve.specs.declared.effect.Edge.{Edge}
use Rattle.kt_solve.specs.declared.effect.Transfer.{Transfer}
use Rattle.kt_solve.specs.declared.effect.Transfer.TheVariants.{Keep}
use Rattle.kt_solve.specs.Flow.{Flow, HasEdge, Follow, IsPath, IsReached, IsSetAlongAll, along, after, nothing_set, outcome}
use Rattle.kt_init.specs.Transfers.{IsProblemOf, edge_of, effect_transfer, marked, side_of, side_transfer}

-- ---- edges

rows_from : (xs : List EdgeRow) (a b : ℕ) → Contains (map edge_of xs) (record { from = a; to = b }) → Contains xs (record { from = a; to = b })
rows_from xs a b c =
    let h : c.0 < length xs = omega (arith, length-map xs edge_of, c.1) in
    let e = sym (get_or-map edge_of xs c.0 (record { from = a; to = b }) (record { from = a; to = b }) h) ∙ c.2 in
    let from = ap (λ (y : Edge). y.from) e in
    let to = ap (λ (y : Edge). y.to) e in
    (c.0, h, ap (λ n. record { from = n; to = (get_or xs c.0 (record { from = a; to = b })).to }) from ∙ ap (λ n. record { from = a; to = n }) to)

rows_to : (xs : List EdgeRow) (a b : ℕ) → Contains xs (record { from = a; to = b }) → Contains (map edge_of xs) (record { from = a; to = b })
rows_to xs a b c = (c.0, omega (arith, length-map xs edge_of, c.1), get_or-map edge_of xs c.0 (record { from = a; to = b }) (record { from = a; to = b }) c.1 ∙ ap edge_of c.2)

-- a path written from its end, behind the first node and from its beginning
abbrev lifted : ℕ → List ℕ → List ℕ
lifted s [] = s ∷ []
lifted s (n ∷ path) = lifted s path ++ n ∷ []

Follow_push : (p : Flow) (a : ℕ) (xs : List ℕ) (b c : ℕ) → Follow p a (xs ++ b ∷ []) → HasEdge p b c → Follow p a ((xs ++ b ∷ []) ++ c ∷ [])
Follow_push p a [] b c f e = (f.0, (e, tt))
Follow_push p a (x ∷ xs) b c f e = (f.0, Follow_push p x xs b c f.1 e)

IsPath_push : (p : Flow) (front : List ℕ) (b c : ℕ) → IsPath p (front ++ b ∷ []) → HasEdge p b c → IsPath p ((front ++ b ∷ []) ++ c ∷ [])
IsPath_push p [] b c h e = (h.0, (e, tt))
IsPath_push p (x ∷ xs) b c h e = (h.0, Follow_push p x xs b c h.1 e)

along-push : (p : Flow) (xs : List ℕ) (n : ℕ) (s : ℕ → Bool) (q : ℕ) → along p (xs ++ n ∷ []) s q ≡ after p n (along p xs s) q
along-push p [] n s q = refl
along-push p (x ∷ xs) n s q = along-push p xs n (after p x s) q

-- ---- one effect, on a state

outcome_marked : (side b here : Bool) (t : Transfer) (s : ℕ → Bool) (q : ℕ) → outcome (marked side b here t) s q ≡ cond here (side_of side b) (outcome t s q)
outcome_marked true true true t s q = refl
outcome_marked true false true t s q = refl
outcome_marked false true true t s q = refl
outcome_marked false false true t s q = refl
outcome_marked side b false t s q = refl

has_by : (e : FlowEffect) (x : Variable) (t : Transfer) (s : ℕ → Bool) (q : ℕ) → outcome (effect_transfer true e x t) s q ≡ assigned_by e x (outcome t s q)
has_by (Read y) x t s q = refl
has_by (Declare y) x t s q = outcome_marked true false (variable_is y x) t s q
has_by (Assign y known) x t s q = outcome_marked true true (variable_is y x) t s q
has_by (Assume facts) x t s q = refl
has_by (Kill root) x t s q = refl

not-cond : (c a b : Bool) → cond c (not a) (not b) ≡ not (cond c a b)
not-cond true a b = refl
not-cond false a b = refl

lacks_by : (e : FlowEffect) (x : Variable) (t : Transfer) (s : ℕ → Bool) (q : ℕ) (b : Bool) → outcome t s q ≡ not b → outcome (effect_transfer false e x t) s q ≡ not (assigned_by e x b)
lacks_by (Read y) x t s q b h = h
lacks_by (Declare y) x t s q b h = outcome_marked false false (variable_is y x) t s q ∙ ap (λ z. cond (variable_is y x) true z) h ∙ not-cond (variable_is y x) false b
lacks_by (Assign y known) x t s q b h = outcome_marked false true (variable_is y x) t s q ∙ ap (λ z. cond (variable_is y x) false z) h ∙ not-cond (variable_is y x) true b
lacks_by (Assume facts) x t s q b h = h
lacks_by (Kill root) x t s q b h = h

has_after : (es : List FlowEffect) (x : Variable) (t : Transfer) (s : ℕ → Bool) (q : ℕ) → outcome (side_transfer true es x t) s q ≡ assigned_after es x (outcome t s q)
has_after [] x t s q = refl
has_after (e ∷ es) x t s q = has_after es x (effect_transfer true e x t) s q ∙ ap (assigned_after es x) (has_by e x t s q)

lacks_after : (es : List FlowEffect) (x : Variable) (t : Transfer) (s : ℕ → Bool) (q : ℕ) (b : Bool) → outcome t s q ≡ not b → outcome (side_transfer false es x t) s q ≡ not (assigned_after es x b)
lacks_after [] x t s q b h = h
lacks_after (e ∷ es) x t s q b h = lacks_after es x (effect_transfer false e x t) s q (assigned_by e x b) (lacks_by e x t s q b h)

-- ---- paths

module _ (g : Graph) (p : Flow) (w : IsGraph g) (i : IsProblemOf g p) where
  edge_to : (a b : ℕ) → nodes.HasEdge g a b → HasEdge p a b
  edge_to a b e = rw i.edges (Contains-append_left (map edge_of g.edges) (record { from = length g.nodes; to = entry_of g } ∷ []) (record { from = a; to = b }) (rows_to g.edges a b e))

  edge_from : (a b : ℕ) → HasEdge p a b → nodes.HasEdge g a b ⊎ ((a ≡ length g.nodes) × (b ≡ entry_of g))
  edge_from a b e =
      let e2 : Contains (map edge_of g.edges ++ record { from = length g.nodes; to = entry_of g } ∷ []) (record { from = a; to = b }) = rw i.edges at e in
      elim (Contains-push_cases (map edge_of g.edges) (record { from = length g.nodes; to = entry_of g }) (record { from = a; to = b }) e2) [
        | inl old ↦ inl (rows_from g.edges a b old)
        | inr new ↦ inr (sym (ap (λ (x : Edge). x.from) new), sym (ap (λ (x : Edge). x.to) new))
      ]

  ends : (a b : ℕ) → nodes.HasEdge g a b → IsEdgeWithin (length g.nodes) (record { from = a; to = b })
  ends a b e = All-contains (IsEdgeWithin (length g.nodes)) g.edges (record { from = a; to = b }) w.edges e

  edge_same : (a b : ℕ) → a < length g.nodes → HasEdge p a b → nodes.HasEdge g a b
  edge_same a b h e = elim (edge_from a b e) [
    | inl old ↦ old
    | inr new ↦ absurd (omega (arith, new))
  ]

  first_edge : (b : ℕ) → HasEdge p (length g.nodes) b → b ≡ entry_of g
  first_edge b e = elim (edge_from (length g.nodes) b e) [
    | inl old ↦ (let r = ends (length g.nodes) b old in absurd (omega (arith, r.from)))
    | inr new ↦ new.1
  ]

  start_edge : HasEdge p (length g.nodes) (entry_of g)
  start_edge = rw i.edges (Contains-push (map edge_of g.edges) (record { from = length g.nodes; to = entry_of g }))

  -- each path of the graph is one of the problem, behind the first node
  path_to : (n : ℕ) (path : List ℕ) → nodes.IsPath g (n ∷ path) → IsPath p (lifted (length g.nodes) path ++ n ∷ [])
  path_to n [] h = (sym i.entry, (rw h start_edge, tt))
  path_to m (n ∷ path) h = IsPath_push p (lifted (length g.nodes) path) n m (path_to n path h.1) (edge_to n m h.0)

  -- its nodes are nodes of the graph
  path_within : (n : ℕ) (path : List ℕ) → nodes.IsPath g (n ∷ path) → n < length g.nodes
  path_within n [] h = rw h w.entry
  path_within m (n ∷ path) h = (ends n m h.0).to

  -- and each path of the problem to a node of the graph is such a one
  walk_from : (xs : List ℕ) (a m : ℕ) (r : List ℕ) → nodes.IsPath g (a ∷ r) → Follow p a (xs ++ m ∷ [])
      → (path : List ℕ) × (lifted (length g.nodes) (a ∷ r) ++ xs ≡ lifted (length g.nodes) path) × nodes.IsPath g (m ∷ path)
  walk_from [] a m r h f = (a ∷ r, append-nil (lifted (length g.nodes) (a ∷ r)), (edge_same a m (path_within a r h) f.0, h))
  walk_from (b ∷ ys) a m r h f =
      let e = edge_same a b (path_within a r h) f.0 in
      let x = walk_from ys b m (a ∷ r) (e, h) f.1 in
      (x.0, sym (append_assoc (lifted (length g.nodes) (a ∷ r)) (b ∷ []) ys) ∙ x.1, x.2)

  path_from : (front : List ℕ) (m : ℕ) → m < length g.nodes → IsPath p (front ++ m ∷ []) → (path : List ℕ) × (front ≡ lifted (length g.nodes) path) × nodes.IsPath g (m ∷ path)
  path_from [] m hm h = absurd (omega (arith, h.0, i.entry, hm))
  path_from (s ∷ []) m hm h =
      let is : s ≡ length g.nodes = h.0 ∙ i.entry in
      let e : HasEdge p (length g.nodes) m = rw is at h.1.0 in
      ([], ap (λ x. x ∷ []) is, first_edge m e)
  path_from (s ∷ b ∷ ys) m hm h =
      let is : s ≡ length g.nodes = h.0 ∙ i.entry in
      let e : HasEdge p (length g.nodes) b = rw is at h.1.0 in
      let x = walk_from ys b m [] (first_edge b e) h.1.1 in
      (x.0, ap (λ y. y ∷ b ∷ ys) is ∙ x.1, x.2)

  -- ---- states

  -- a state says of each variable whether it has a value
  record Agrees (state : ℕ → Bool) (b : ℕ → Bool) : Type 0 where
    pub has : (v : ℕ) → v < length g.variables → state v ≡ b v
    pub lacks : (v : ℕ) → v < length g.variables → state (length g.variables + v) ≡ not (b v)

  agrees : (n : ℕ) (path : List ℕ) → nodes.IsPath g (n ∷ path) → Agrees (along p (lifted (length g.nodes) path) nothing_set) (λ v. assigned_along g path (variable_at g v))
  agrees n [] h = record {
    has = λ v l. ap (λ t. outcome t nothing_set v) (i.start_has v l);
    lacks = λ v l. ap (λ t. outcome t nothing_set (length g.variables + v)) (i.start_lacks v l);
  }
  agrees m (n ∷ path) h =
      let a = agrees n path h.1 in
      let s : ℕ → Bool = along p (lifted (length g.nodes) path) nothing_set in
      let hn = path_within n path h.1 in
      record {
        has = λ v l. along-push p (lifted (length g.nodes) path) n nothing_set v ∙ ap (λ t. outcome t s v) (i.has n v hn l)
            ∙ has_after (effects_of g n) (variable_at g v) Keep s v ∙ ap (assigned_after (effects_of g n) (variable_at g v)) (a.has v l);
        lacks = λ v l. along-push p (lifted (length g.nodes) path) n nothing_set (length g.variables + v) ∙ ap (λ t. outcome t s (length g.variables + v)) (i.lacks n v hn l)
            ∙ lacks_after (effects_of g n) (variable_at g v) Keep s (length g.variables + v) (assigned_along g path (variable_at g v)) (a.lacks v l);
      }

  -- the kept pairs at the end of a path
  kept_has : (n : ℕ) (path : List ℕ) (v : ℕ) → nodes.IsPath g (n ∷ path) → v < length g.variables
      → along p (lifted (length g.nodes) path ++ n ∷ []) nothing_set (2 * length g.variables + v) ≡ assigned_along g path (variable_at g v)
  kept_has n path v h hv =
      let s : ℕ → Bool = along p (lifted (length g.nodes) path) nothing_set in
      along-push p (lifted (length g.nodes) path) n nothing_set (2 * length g.variables + v)
      ∙ ap (λ t. outcome t s (2 * length g.variables + v)) (i.copies n v (path_within n path h) (omega arith)) ∙ (agrees n path h).has v hv

  kept_lacks : (n : ℕ) (path : List ℕ) (v : ℕ) → nodes.IsPath g (n ∷ path) → v < length g.variables
      → along p (lifted (length g.nodes) path ++ n ∷ []) nothing_set (3 * length g.variables + v) ≡ not (assigned_along g path (variable_at g v))
  kept_lacks n path v h hv =
      let s : ℕ → Bool = along p (lifted (length g.nodes) path) nothing_set in
      let q : 3 * length g.variables + v ≡ 2 * length g.variables + (length g.variables + v) = omega arith in
      rw q (along-push p (lifted (length g.nodes) path) n nothing_set (2 * length g.variables + (length g.variables + v))
      ∙ ap (λ t. outcome t s (2 * length g.variables + (length g.variables + v))) (i.copies n (length g.variables + v) (path_within n path h) (omega arith)) ∙ (agrees n path h).lacks v hv)

  -- ---- answers

  pub reached_to : (n : ℕ) → nodes.IsReached g n → IsReached p n
  reached_to n r = (lifted (length g.nodes) r.0, path_to n r.0 r.1)

  pub reached_from : (n : ℕ) → n < length g.nodes → IsReached p n → nodes.IsReached g n
  reached_from n hn r = let x = path_from r.0 n hn r.1 in (x.0, x.2)

  not_true : (b : Bool) → not b ≡ true → b ≡ false
  not_true true e = sym e
  not_true false e = refl

  pub has_from : (n v : ℕ) → v < length g.variables → IsSetAlongAll p n (2 * length g.variables + v) → IsAlongAll g n (variable_at g v) true
  has_from n v hv h path h2 = sym (kept_has n path v h2 hv) ∙ h (lifted (length g.nodes) path) (path_to n path h2)

  pub lacks_from : (n v : ℕ) → v < length g.variables → IsSetAlongAll p n (3 * length g.variables + v) → IsAlongAll g n (variable_at g v) false
  lacks_from n v hv h path h2 = not_true (assigned_along g path (variable_at g v)) (sym (kept_lacks n path v h2 hv) ∙ h (lifted (length g.nodes) path) (path_to n path h2))

  pub has_to : (n v : ℕ) → n < length g.nodes → v < length g.variables → IsAlongAll g n (variable_at g v) true → IsSetAlongAll p n (2 * length g.variables + v)
  has_to n v hn hv h front path =
      let x = path_from front n hn path in
      rw x.1 (kept_has n x.0 v x.2 hv ∙ h x.0 x.2)

  pub lacks_to : (n v : ℕ) → n < length g.nodes → v < length g.variables → IsAlongAll g n (variable_at g v) false → IsSetAlongAll p n (3 * length g.variables + v)
  lacks_to n v hn hv h front path =
      let x = path_from front n hn path in
      rw x.1 (kept_lacks n x.0 v x.2 hv ∙ ap not (h x.0 x.2))
