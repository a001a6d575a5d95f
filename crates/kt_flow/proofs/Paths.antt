-- The paths of a body's graph by places, which its code has, and those by nodes, which the rules speak of, are the same.
use Rattle.std.proofs.Common.{◌≡◌, ℕ, zero, suc, ◌<◌, ◌≤◌, Bool, List, [], ◌∷◌, map, length, get_or, Contains, refl, sym, ap, ◌∙◌, subst, arith}
use Rattle.std.specs.List.{All, range_with_len}
use Rattle.std.proofs.lemmas.List.{get_or-map, length-map}
use Rattle.std.proofs.lemmas.List.Elements.{Contains-get_or}
use Rattle.kt_model.specs.declared.graph.EdgeRow.{EdgeRow}
use Rattle.kt_model.specs.declared.graph.Graph.{Graph}
use Rattle.kt_model.specs.declared.graph.Variable.{Variable}
use Rattle.kt_model.specs.BodyPaths.{IsNodePath}
use Rattle.kt_model.specs.BodyTrees.{Trees}
use Rattle.kt_model.specs.Bodies.{IsGraphOf, edge_at, edges_at, node_at}
use Rattle.kt_model.specs.ControlFlow.{Node, Edge, body_edges, entry_node}
use Rattle.kt_paths.specs.FlowRules.{IsOnAll, IsReachedNode, assigned_on}
use Rattle.kt_model.specs.NodeKeys.{AreDistinct, AreNumbered, hits, occurs, tag_number}
use Rattle.kt_model.specs.NodePaths.{HasEdge, IsAlongAll, IsEdgeWithin, IsPath, IsReached, assigned_after, assigned_along, effects_of, entry_of}
use Rattle.kt_model.proofs.NodeKeyLaws.{distinct_nodes, here}

-- The graph of a body as a value: its nodes are those of the definition, its edges join them, and no two nodes are alike.
pub record IsPlaced (ps : List ℕ) (ts : Trees) (classes : ℕ) (g : Graph) : Type 0 where
  pub is : IsGraphOf ps ts classes g
  pub within : All (IsEdgeWithin (length g.nodes)) g.edges
  pub distinct : AreDistinct g.nodes

-- Where each tree has a number of its own, the graph of a body is one of these.
pub placed_graph : (ps : List ℕ) (ts : Trees) (classes : ℕ) (g : Graph) → AreNumbered ts → IsGraphOf ps ts classes g → All (IsEdgeWithin (length g.nodes)) g.edges → IsPlaced ps ts classes g
placed_graph ps ts classes g numbered is within =
    record { is = is; within = within; distinct = subst AreDistinct (sym is.same_nodes) (distinct_nodes ps ts numbered) }

-- ---- the place of a node

-- a node has its own tree, tag and copy
own_hit : (n : Node) → hits n.tree (tag_number n.tag) n.copy n ≡ 1
own_hit n =
    here n.tree n.tree _ refl ∙ here (tag_number n.tag) (tag_number n.tag) _ refl ∙ here n.copy n.copy 1 refl

occurs_at : (ns : List Node) (i : ℕ) (n : Node) → i < length ns → node_at ns i ≡ n → 1 ≤ occurs n.tree (tag_number n.tag) n.copy ns
occurs_at [] i n h e = absurd (omega arith)
occurs_at (m ∷ ns) zero n h e =
    let hit : hits n.tree (tag_number n.tag) n.copy m ≡ 1 = ap (hits n.tree (tag_number n.tag) n.copy) e ∙ own_hit n in omega arith
occurs_at (m ∷ ns) (suc i) n h e = let k = occurs_at ns i n (omega arith) e in omega arith

-- the first node stands nowhere behind itself
not_behind : (n : Node) (ns : List Node) (i : ℕ) → AreDistinct (n ∷ ns) → i < length ns → node_at ns i ≡ n → ⊥
not_behind n ns i d h e =
    let once = d n.tree (tag_number n.tag) n.copy in
    let again = occurs_at ns i n h e in
    let hit = own_hit n in omega arith

rest_distinct : (n : Node) (ns : List Node) → AreDistinct (n ∷ ns) → AreDistinct ns
rest_distinct n ns d m g c = let h = d m g c in omega arith

-- two places with the same node are one
one_place : (ns : List Node) (i j : ℕ) → AreDistinct ns → i < length ns → j < length ns → node_at ns i ≡ node_at ns j → i ≡ j
one_place [] i j d h k e = absurd (omega arith)
one_place (n ∷ ns) zero zero d h k e = refl
one_place (n ∷ ns) zero (suc j) d h k e = absurd (not_behind n ns j d (omega arith) (sym e))
one_place (n ∷ ns) (suc i) zero d h k e = absurd (not_behind n ns i d (omega arith) e)
one_place (n ∷ ns) (suc i) (suc j) d h k e = ap suc (one_place ns i j (rest_distinct n ns d) (omega arith) (omega arith) e)

-- ---- effects

-- Past the end both have none.
same_effects : (ns : List Node) (i : ℕ) (d : Node) → d.effects ≡ [] → (node_at ns i).effects ≡ (get_or ns i d).effects
same_effects [] i d e = sym e
same_effects (n ∷ ns) zero d e = refl
same_effects (n ∷ ns) (suc i) d e = same_effects ns i d e

same_assigned : (g : Graph) (path : List ℕ) (x : Variable) → assigned_on (map (node_at g.nodes) path) x ≡ assigned_along g path x
same_assigned g [] x = refl
same_assigned g (i ∷ path) x =
    ap (λ es. assigned_after es x (assigned_on (map (node_at g.nodes) path) x)) (same_effects g.nodes i _ refl)
    ∙ ap (assigned_after (effects_of g i) x) (same_assigned g path x)

-- ---- edges and paths

-- an edge between two nodes, by their places
record EdgeHere (g : Graph) (n m : Node) : Type 0 where
  from : ℕ
  to : ℕ
  edge : HasEdge g from to
  from_within : from < length g.nodes
  to_within : to < length g.nodes
  from_is : node_at g.nodes from ≡ n
  to_is : node_at g.nodes to ≡ m

-- a path that ends at a place, by places
record PathHere (g : Graph) (i : ℕ) (nodes : List Node) : Type 0 where
  path : List ℕ
  leads : IsPath g (i ∷ path)
  nodes_are : map (node_at g.nodes) path ≡ nodes

first_of_range : (n : ℕ) → get_or (range_with_len 0 n) 0 0 ≡ 0
first_of_range zero = refl
first_of_range (suc n) = refl

module _ (ps : List ℕ) (ts : Trees) (classes : ℕ) (g : Graph) (w : IsPlaced ps ts classes g) where
  entry_first : entry_of g ≡ 0
  entry_first = ap (λ order. get_or order 0 0) w.is.in_order ∙ first_of_range (length g.nodes)

  has_entry : 0 < length g.nodes
  has_entry = subst (λ ns. 0 < length ns) (sym w.is.same_nodes) (omega arith)

  node_of_entry : node_at g.nodes 0 ≡ entry_node
  node_of_entry = ap (λ ns. node_at ns 0) w.is.same_nodes

  edge_there : (a b : ℕ) → HasEdge g a b → Contains (body_edges ps ts) (node_at g.nodes a, node_at g.nodes b)
  unfolding edges_at
  edge_there a b h =
      let row : EdgeRow = record { from = a; to = b } in
      let among : Contains (edges_at g.nodes g.edges) (edge_at g.nodes row) =
      (h.0, omega (arith, length-map g.edges (edge_at g.nodes), h.1), get_or-map (edge_at g.nodes) g.edges h.0 row (edge_at g.nodes row) h.1 ∙ ap (edge_at g.nodes) h.2) in
      subst (λ es. Contains es (edge_at g.nodes row)) w.is.same_edges among

  edge_here : (n m : Node) → Contains (body_edges ps ts) (n, m) → EdgeHere g n m
  unfolding edges_at
  edge_here n m h =
      let among : Contains (edges_at g.nodes g.edges) (n, m) = subst (λ es. Contains es (n, m)) (sym w.is.same_edges) h in
      let k : among.0 < length g.edges = omega (arith, length-map g.edges (edge_at g.nodes), among.1) in
      let row : EdgeRow = get_or g.edges among.0 (record { from = 0; to = 0 }) in
      let is : edge_at g.nodes row ≡ (n, m) = sym (get_or-map (edge_at g.nodes) g.edges among.0 (record { from = 0; to = 0 }) (n, m) k) ∙ among.2 in
      let ends : IsEdgeWithin (length g.nodes) row = w.within among.0 (record { from = 0; to = 0 }) k in
      record {
        from = row.from;
        to = row.to;
        edge = Contains-get_or g.edges among.0 (record { from = 0; to = 0 }) k;
        from_within = ends.from;
        to_within = ends.to;
        from_is = ap (λ (e : Edge). e.0) is;
        to_is = ap (λ (e : Edge). e.1) is;
      }

  path_there : (i : ℕ) (path : List ℕ) → IsPath g (i ∷ path) → IsNodePath (body_edges ps ts) (node_at g.nodes i ∷ map (node_at g.nodes) path)
  path_there i [] h = ap (node_at g.nodes) (h ∙ entry_first) ∙ node_of_entry
  path_there i (j ∷ path) h = (edge_there j i h.0, path_there j path h.1)

  path_here : (nodes : List Node) (i : ℕ) (n : Node) → i < length g.nodes → node_at g.nodes i ≡ n → IsNodePath (body_edges ps ts) (n ∷ nodes) → PathHere g i nodes
  path_here [] i n lt is h =
      let first : i ≡ 0 = one_place g.nodes i 0 w.distinct lt has_entry (is ∙ h ∙ sym node_of_entry) in
      record { path = []; leads = first ∙ sym entry_first; nodes_are = refl }
  path_here (m ∷ nodes) i n lt is h =
      let e = edge_here m n h.0 in
      let same : e.to ≡ i = one_place g.nodes e.to i w.distinct e.to_within lt (e.to_is ∙ sym is) in
      let before = path_here nodes e.from m e.from_within e.from_is h.1 in
      record {
        path = e.from ∷ before.path;
        leads = (subst (HasEdge g e.from) same e.edge, before.leads);
        nodes_are = ap (λ (x : Node). x ∷ map (node_at g.nodes) before.path) e.from_is ∙ ap (λ xs. m ∷ xs) before.nodes_are;
      }

  -- A place that is reached has a node that is reached.
  pub reached_there : (i : ℕ) → i < length g.nodes → IsReached g i → IsReachedNode (body_edges ps ts) (node_at g.nodes i)
  reached_there i lt r = (map (node_at g.nodes) r.0, path_there i r.0 r.1)

  -- And the other way round.
  pub reached_here : (i : ℕ) → i < length g.nodes → IsReachedNode (body_edges ps ts) (node_at g.nodes i) → IsReached g i
  reached_here i lt r = let p = path_here r.0 i (node_at g.nodes i) lt refl r.1 in (p.path, p.leads)

  -- A node that is reached has a place.
  pub reached_place : (n : Node) → IsReachedNode (body_edges ps ts) n → (i : ℕ) × (i < length g.nodes) × (node_at g.nodes i ≡ n)
  reached_place n r = at r.0 r.1
    where
      at : (nodes : List Node) → IsNodePath (body_edges ps ts) (n ∷ nodes) → (i : ℕ) × (i < length g.nodes) × (node_at g.nodes i ≡ n)
      at [] h = (0, has_entry, node_of_entry ∙ sym h)
      at (m ∷ nodes) h = let e = edge_here m n h.0 in (e.to, e.to_within, e.to_is)

  -- What holds along all paths to a place holds along all paths to its node.
  pub all_there : (i : ℕ) → i < length g.nodes → (x : Variable) (b : Bool) → IsAlongAll g i x b → IsOnAll (body_edges ps ts) (node_at g.nodes i) x b
  all_there i lt x b all nodes h =
      let p = path_here nodes i (node_at g.nodes i) lt refl h in
      ap (λ ns. assigned_on ns x) (sym p.nodes_are) ∙ same_assigned g p.path x ∙ all p.path p.leads

  -- And the other way round.
  pub all_here : (i : ℕ) → i < length g.nodes → (x : Variable) (b : Bool) → IsOnAll (body_edges ps ts) (node_at g.nodes i) x b → IsAlongAll g i x b
  all_here i lt x b all path h = sym (same_assigned g path x) ∙ all (map (node_at g.nodes) path) (path_there i path h)
