-- The numbers of a graph's edges: each stands for a node of the graph, and an edge leads to a later one.
use Rattle.std.proofs.Common.{◌≡◌, ◌≢◌, ℕ, zero, suc, ◌<◌, ◌≤◌, Bool, true, false, List, [], ◌∷◌, ◌++◌, length, inl, inr, refl, sym, ap, ◌∙◌, subst, arith}
use Rattle.std.specs.List.{slice_index_or, All}
use Rattle.std.proofs.lemmas.Bool.Decides.{leb_tells}
use Rattle.kt_model.specs.declared.graph.EdgeRow.{EdgeRow}
use Rattle.kt_model.specs.declared.graph.Graph.{Graph}
use Rattle.kt_model.specs.declared.graph.Tag.TheVariants as tag
use Rattle.kt_model.specs.BodyTrees.{Tree, Trees, Operation', Name', Paren', Not', And', Or', If', Declare', Local', Assign', Compound', Call', Return', Throw', Shut', Empty', First'}
use Rattle.kt_model.specs.ControlFlow.{Node, node, nodes, all_nodes, out_of, leave_nodes, params_node, end_node, body_nodes, body_edges}
use Rattle.kt_model.specs.Bodies.{IsGraphOf, node_at, edge_at, edges_at}
use Rattle.kt_model.specs.NodeKeys.{only_if, occurs, tag_number, AreNumbered, AreDistinct}
use Rattle.kt_model.specs.NodePaths.{IsEdgeWithin}
use Rattle.kt_model.specs.Sweeps.{IsBehind, IsOnward}
use Rattle.kt_model.proofs.ListLemmas.{Has, contains_has, has_either}
use Rattle.kt_model.proofs.NodeKeyLaws.{here, distinct_nodes}
use Rattle.kt_model.proofs.SweepLaws.{edges_lead_onward}

-- ---- no node is that past the end

NoEntry : List Node → Type 0
NoEntry ns = (n : Node) → Has ns n → n.tag ≢ tag.Entry

none : NoEntry []
unfolding NoEntry Has
none n h e = absurd h

more : (n : Node) (ns : List Node) → n.tag ≢ tag.Entry → NoEntry ns → NoEntry (n ∷ ns)
unfolding NoEntry Has
more n ns d h m (inl is) e = d (ap (λ (x : Node). x.tag) is ∙ e)
more n ns d h m (inr k) e = h m k e

both : (xs ys : List Node) → NoEntry xs → NoEntry ys → NoEntry (xs ++ ys)
unfolding NoEntry
both xs ys h k m i e = elim (has_either xs ys m i) [ inl l ↦ h m l e | inr r ↦ k m r e ]

in_is_none : tag.In ≢ tag.Entry
in_is_none e = cc

out_is_none : tag.Out ≢ tag.Entry
out_is_none e = cc

assume_is_none : tag.Assume ≢ tag.Entry
assume_is_none e = cc

one_out : (k : ℕ) (t : Tree) → NoEntry (out_of k t ∷ [])
one_out k t = more (out_of k t) [] out_is_none none

leave : (b : Bool) (k : ℕ) (t : Tree) → NoEntry (leave_nodes b k t)
leave false k t = one_out k t
leave true k t = more _ _ out_is_none (more _ _ assume_is_none (more _ _ assume_is_none none))

mutual
  unfolding nodes

  no_entry-nodes : (b : Bool) (k : ℕ) (t : Tree) → NoEntry (nodes b k t)
  no_entry-nodes b k (Operation' n o ps) = more _ _ in_is_none (both _ _ (no_entry-all k ps) (leave b k (Operation' n o ps)))
  no_entry-nodes b k (Name' n at x) = more _ _ in_is_none (leave b k (Name' n at x))
  no_entry-nodes b k (Paren' n e) = more _ _ in_is_none (both _ _ (no_entry-nodes b k e) (one_out k (Paren' n e)))
  no_entry-nodes b k (Not' n e) = more _ _ in_is_none (both _ _ (no_entry-nodes true k e) (one_out k (Not' n e)))
  no_entry-nodes b k (And' n x y) = more _ _ in_is_none (both _ _ (no_entry-nodes true k x) (both _ _ (no_entry-nodes true k y) (one_out k (And' n x y))))
  no_entry-nodes b k (Or' n x y) = more _ _ in_is_none (both _ _ (no_entry-nodes true k x) (both _ _ (no_entry-nodes true k y) (one_out k (Or' n x y))))
  no_entry-nodes b k (If' n braces d x y) = more _ _ in_is_none (both _ _ (no_entry-nodes true k d) (both _ _ (no_entry-all k x) (both _ _ (no_entry-all k y) (leave b k (If' n braces d x y)))))
  no_entry-nodes b k (Declare' n x) = more _ _ in_is_none (leave b k (Declare' n x))
  no_entry-nodes b k (Local' n at x e) = more _ _ in_is_none (both _ _ (no_entry-nodes false k e) (leave b k (Local' n at x e)))
  no_entry-nodes b k (Assign' n at x fixed e) = more _ _ in_is_none (both _ _ (no_entry-nodes false k e) (leave b k (Assign' n at x fixed e)))
  no_entry-nodes b k (Compound' n at x fixed o ps) = more _ _ in_is_none (both _ _ (no_entry-all k ps) (leave b k (Compound' n at x fixed o ps)))
  no_entry-nodes b k (Call' n f returns ps) = more _ _ in_is_none (both _ _ (no_entry-all k ps) (leave b k (Call' n f returns ps)))
  no_entry-nodes b k (Return' n ps) = more _ _ in_is_none (both _ _ (no_entry-all k ps) (one_out k (Return' n ps)))
  no_entry-nodes b k (Throw' n e) = more _ _ in_is_none (both _ _ (no_entry-nodes false k e) (one_out k (Throw' n e)))
  no_entry-nodes b k (Shut' n) = more _ _ in_is_none none

  no_entry-all : (k : ℕ) (ts : Trees) → NoEntry (all_nodes k ts)
  no_entry-all k Empty' = none
  no_entry-all k (First' t ts) = both _ _ (no_entry-nodes false k t) (no_entry-all k ts)

blank : Node
blank = node 0 tag.Entry 1 []

params_is_none : tag.Params ≢ tag.Entry
params_is_none e = cc

end_is_none : tag.End ≢ tag.Entry
end_is_none e = cc

behind_entry : (ps : List ℕ) (ts : Trees) → NoEntry (params_node ps ∷ (all_nodes 0 ts ++ end_node ∷ []))
behind_entry ps ts =
    more (params_node ps) (all_nodes 0 ts ++ end_node ∷ []) params_is_none
    (both (all_nodes 0 ts) (end_node ∷ []) (no_entry-all 0 ts) (more end_node [] end_is_none none))

not_blank : (ps : List ℕ) (ts : Trees) → Has (body_nodes ps ts) blank → ⊥
unfolding Has NoEntry blank
not_blank ps ts (inl e) = absurd (let c : 0 ≡ 1 = ap (λ (n : Node). n.copy) e in omega arith)
not_blank ps ts (inr h) = behind_entry ps ts blank h refl

-- ---- places

past : (ns : List Node) (i : ℕ) → length ns ≤ i → node_at ns i ≡ blank
unfolding blank
past [] i h = refl
past (n ∷ ns) zero h = absurd (omega arith)
past (n ∷ ns) (suc i) h = past ns i (omega arith)

at_has : (ns : List Node) (i : ℕ) → i < length ns → Has ns (node_at ns i)
unfolding Has
at_has [] i h = absurd (omega arith)
at_has (n ∷ ns) zero h = inl refl
at_has (n ∷ ns) (suc i) h = inr (at_has ns i (omega arith))

row_has : (ns : List Node) (rows : List EdgeRow) (k : ℕ) (d : EdgeRow) → k < length rows → Has (edges_at ns rows) (edge_at ns (slice_index_or rows k d))
unfolding Has edges_at
row_has ns [] k d h = absurd (omega arith)
row_has ns (r ∷ rows) zero d h = inl refl
row_has ns (r ∷ rows) (suc k) d h = inr (row_has ns rows k d (omega arith))

behind_first : (ns : List Node) (x y : Node) → IsBehind ns x y → Has ns x
unfolding IsBehind Has
behind_first [] x y h = absurd h
behind_first (n ∷ ns) x y (inl p) = inl p.0
behind_first (n ∷ ns) x y (inr h) = inr (behind_first ns x y h)

behind_later : (ns : List Node) (x y : Node) → IsBehind ns x y → Has ns y
unfolding IsBehind Has
behind_later [] x y h = absurd h
behind_later (n ∷ ns) x y (inl p) = inr (contains_has ns y p.1)
behind_later (n ∷ ns) x y (inr h) = inr (behind_later ns x y h)

-- a number that stands for a node of a body is in range
in_range : (ps : List ℕ) (ts : Trees) (i : ℕ) → Has (body_nodes ps ts) (node_at (body_nodes ps ts) i) → i < length (body_nodes ps ts)
in_range ps ts i h = elim (leb_tells (length (body_nodes ps ts)) i) [
  | inl p ↦ absurd (not_blank ps ts (subst (λ n. Has (body_nodes ps ts) n) (past (body_nodes ps ts) i p.1) h))
  | inr p ↦ p.1
]

row_onward : (ps : List ℕ) (ts : Trees) (classes : ℕ) (g : Graph) → IsGraphOf ps ts classes g → (k : ℕ) (d : EdgeRow) → k < length g.edges → IsBehind (body_nodes ps ts) (node_at (body_nodes ps ts) (slice_index_or g.edges k d).from) (node_at (body_nodes ps ts) (slice_index_or g.edges k d).to)
row_onward ps ts classes g is k d h =
    let row = slice_index_or g.edges k d in
    let among : Has (body_edges ps ts) (edge_at g.nodes row) = subst (λ es. Has es (edge_at g.nodes row)) is.same_edges (row_has g.nodes g.edges k d h) in
    subst (λ ns. IsBehind (body_nodes ps ts) (node_at ns row.from) (node_at ns row.to)) is.same_nodes (edges_lead_onward ps ts (edge_at g.nodes row) among)

-- The ends of each edge are nodes of the graph.
pub edges_are_within : (ps : List ℕ) (ts : Trees) (classes : ℕ) (g : Graph) → IsGraphOf ps ts classes g → All (IsEdgeWithin (length g.nodes)) g.edges
edges_are_within ps ts classes g is k d h =
    let b = row_onward ps ts classes g is k d h in
    let row = slice_index_or g.edges k d in
    let same : length (body_nodes ps ts) ≡ length g.nodes = ap length (sym is.same_nodes) in
    let from : row.from < length (body_nodes ps ts) = in_range ps ts row.from (behind_first _ _ _ b) in
    let to : row.to < length (body_nodes ps ts) = in_range ps ts row.to (behind_later _ _ _ b) in
    record { from = omega arith; to = omega arith }

-- ---- the order of places

occurs_has : (ns : List Node) (n : Node) → Has ns n → 1 ≤ occurs n.tree (tag_number n.tag) n.copy ns
unfolding Has
occurs_has [] n h = absurd h
occurs_has (x ∷ ns) n (inl e) = subst (λ (y : Node). 1 ≤ occurs y.tree (tag_number y.tag) y.copy (x ∷ ns)) e (own x ns)
  where
    own : (x : Node) (ns : List Node) → 1 ≤ occurs x.tree (tag_number x.tag) x.copy (x ∷ ns)
    own x ns =
        let a = here x.tree x.tree (only_if (tag_number x.tag) (tag_number x.tag) (only_if x.copy x.copy 1)) refl in
        let b = here (tag_number x.tag) (tag_number x.tag) (only_if x.copy x.copy 1) refl in
        let c = here x.copy x.copy 1 refl in omega arith
occurs_has (x ∷ ns) n (inr h) = let k = occurs_has ns n h in omega arith

not_twice : (n : Node) (ns : List Node) → AreDistinct (n ∷ ns) → Has ns n → ⊥
not_twice n ns d h =
    let once = d n.tree (tag_number n.tag) n.copy in
    let again = occurs_has ns n h in
    let a = here n.tree n.tree (only_if (tag_number n.tag) (tag_number n.tag) (only_if n.copy n.copy 1)) refl in
    let b = here (tag_number n.tag) (tag_number n.tag) (only_if n.copy n.copy 1) refl in
    let c = here n.copy n.copy 1 refl in omega arith

rest_distinct : (n : Node) (ns : List Node) → AreDistinct (n ∷ ns) → AreDistinct ns
rest_distinct n ns d m g c = let h = d m g c in omega arith

behind_rises : (ns : List Node) → AreDistinct ns → (i j : ℕ) → i < length ns → j < length ns → IsBehind ns (node_at ns i) (node_at ns j) → i < j
unfolding IsBehind
behind_rises [] d i j p q h = absurd h
behind_rises (n ∷ ns) d zero zero p q (inl h) = absurd (not_twice n ns d (contains_has ns n h.1))
behind_rises (n ∷ ns) d zero zero p q (inr h) = absurd (not_twice n ns d (behind_first ns n n h))
behind_rises (n ∷ ns) d zero (suc j) p q h = omega arith
behind_rises (n ∷ ns) d (suc i) zero p q (inl h) = absurd (not_twice n ns d (contains_has ns n h.1))
behind_rises (n ∷ ns) d (suc i) zero p q (inr h) = absurd (not_twice n ns d (behind_later ns (node_at ns i) n h))
behind_rises (n ∷ ns) d (suc i) (suc j) p q (inl h) = absurd (not_twice n ns d (subst (λ x. Has ns x) (sym h.0) (at_has ns i (omega arith))))
behind_rises (n ∷ ns) d (suc i) (suc j) p q (inr h) = let k = behind_rises ns (rest_distinct n ns d) i j (omega arith) (omega arith) h in omega arith

-- Each edge leads to a later node, where trees have numbers of their own. Loops and lambdas, which are not open yet, add those that turn back.
pub edges_are_onward : (ps : List ℕ) (ts : Trees) (classes : ℕ) (g : Graph) → AreNumbered ts → IsGraphOf ps ts classes g → All (IsOnward g) g.edges
edges_are_onward ps ts classes g numbered is k d h =
    let row = slice_index_or g.edges k d in
    let b = row_onward ps ts classes g is k d h in
    let from = in_range ps ts row.from (behind_first (body_nodes ps ts) (node_at (body_nodes ps ts) row.from) (node_at (body_nodes ps ts) row.to) b) in
    let to = in_range ps ts row.to (behind_later (body_nodes ps ts) (node_at (body_nodes ps ts) row.from) (node_at (body_nodes ps ts) row.to) b) in
    let rises = behind_rises (body_nodes ps ts) (distinct_nodes ps ts numbered) row.from row.to from to b in
    record { onward = λ back. absurd (omega arith) }
