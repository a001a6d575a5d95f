-- What nodes violate by the notes of a body's trees is what is violated along the paths of the body.
use Rattle.std.proofs.Common.{◌≡◌, ◌<◌, ℕ, Bool, true, false, List, [], ◌∷◌, map, length, get_or, Contains, refl, sym, ap, subst, ◌∙◌, arith}
use Rattle.std.proofs.lemmas.List.{get_or-map, length-map, get_or_default}
use Rattle.std.proofs.lemmas.List.Elements.{Contains-get_or}
use Rattle.kt_model.specs.BodyTrees.{Tree, Trees, number}
use Rattle.kt_model.specs.ControlFlow.{Node, body_edges, reads, assigns}
use Rattle.kt_model.specs.Bodies.{node_at}
use Rattle.kt_paths.specs.FlowRules.{IsFlowViolated, unassigned, val_twice, IsReachedNode, IsOnAll}
use Rattle.kt_model.specs.NodePaths.{IsAlongAll, effects_of}
use Rattle.kt_model.specs.TreesWithin.{all_trees_in, read_by, fixed_by, word_of}
use Rattle.kt_model.specs.declared.finding.Finding.{Finding}
use Rattle.kt_model.specs.declared.finding.Rule.TheVariants as rule
use Rattle.kt_model.specs.declared.graph.FlowEffect.{FlowEffect}
use Rattle.kt_model.specs.declared.graph.Graph.{Graph}
use Rattle.kt_model.specs.declared.graph.Variable.{Variable}
use Rattle.kt_model.specs.declared.graph.Variable.TheVariants.{Local}
use Rattle.kt_flow.specs.declared.notes.TreeNote.{TreeNote}
use Rattle.kt_flow.specs.Notes.{note, trees_notes}
use Rattle.kt_flow.specs.Against.{IsAgainst, early, late, IsAgainstBefore}
use Rattle.kt_flow.proofs.Paths.{IsPlaced, reached_there, reached_here, reached_place, all_there, all_here}

-- ---- notes

-- a note is that of a tree
noted_tree : (ts : List Tree) (n : TreeNote) → Contains (map note ts) n → (t : Tree) × (Contains ts t × (n ≡ note t))
noted_tree [] n h = absurd (omega (arith, h.1))
noted_tree (t ∷ ts) n h = at h.0 h.1 h.2
  where
    at : (k : ℕ) → k < length (map note (t ∷ ts)) → get_or (map note (t ∷ ts)) k n ≡ n → (u : Tree) × (Contains (t ∷ ts) u × (n ≡ note u))
    at k lt e =
        let within : k < length (t ∷ ts) = subst (λ l. k < l) (length-map (t ∷ ts) note) lt in
        (get_or (t ∷ ts) k t, (Contains-get_or (t ∷ ts) k t within, sym e ∙ get_or-map note (t ∷ ts) k t n within))

tree_noted : (ts : List Tree) (t : Tree) → Contains ts t → Contains (map note ts) (note t)
tree_noted ts t h =
    (h.0, subst (λ k. h.0 < k) (sym (length-map ts note)) h.1, get_or-map note ts h.0 t (note t) h.1 ∙ ap note h.2)

-- what a note says of its tree
tree_of_note : (t : Tree) → (note t).tree ≡ number t
unfolding note
tree_of_note t = refl

word_of_note : (t : Tree) → (note t).word ≡ word_of t
unfolding note
word_of_note t = refl

read_of_note : (t : Tree) → (note t).read ≡ read_by t
unfolding note
read_of_note t = refl

fixed_of_note : (t : Tree) → (note t).fixed ≡ fixed_by t
unfolding note
fixed_of_note t = refl

-- the effects of a place are those of its node
same_effects : (g : Graph) (i : ℕ) → i < length g.nodes → effects_of g i ≡ (node_at g.nodes i).effects
same_effects g i lt = ap (λ (n : Node). n.effects) (get_or_default g.nodes i _ _ lt)

-- ---- both ways

module _ (ps : List ℕ) (ts : Trees) (classes : ℕ) (g : Graph) (placed : IsPlaced ps ts classes g) where
  there_not : (i : ℕ) → i < length g.nodes → (x : Variable) (b : Bool) → (IsAlongAll g i x b → ⊥) → IsOnAll (body_edges ps ts) (node_at g.nodes i) x b → ⊥
  there_not i lt x b never all = never (all_here ps ts classes g placed i lt x b all)

  here_not : (i : ℕ) → i < length g.nodes → (x : Variable) (b : Bool) → (IsOnAll (body_edges ps ts) (node_at g.nodes i) x b → ⊥) → IsAlongAll g i x b → ⊥
  here_not i lt x b never all = never (all_there ps ts classes g placed i lt x b all)

  -- what an effect violates at a place
  from_effect : (i : ℕ) → i < length g.nodes → (t : Tree) (n : TreeNote) → n ≡ note t → Contains (all_trees_in ts) t → n.tree ≡ (node_at g.nodes i).tree
      → (e : FlowEffect) (f : Finding) → Contains (node_at g.nodes i).effects e → IsAgainst g i n e f → IsFlowViolated ps ts f
  from_effect i lt t n is has same e f among (early x reading reached never) =
      subst (λ w. IsFlowViolated ps ts (record { rule = rule.Unassigned; span = w })) (sym (word_of_note t) ∙ sym (ap (λ (m : TreeNote). m.word) is))
      (unassigned t x (node_at g.nodes i) has (sym (read_of_note t) ∙ sym (ap (λ (m : TreeNote). m.read) is) ∙ reading) (sym same ∙ ap (λ (m : TreeNote). m.tree) is ∙ tree_of_note t) among
      (reached_there ps ts classes g placed i lt reached) (there_not i lt (Local x) true never))
  from_effect i lt t n is has same e f among (late x k fixing reached never) =
      subst (λ w. IsFlowViolated ps ts (record { rule = rule.ValTwice; span = w })) (sym (word_of_note t) ∙ sym (ap (λ (m : TreeNote). m.word) is))
      (val_twice t x k (node_at g.nodes i) has (sym (fixed_of_note t) ∙ sym (ap (λ (m : TreeNote). m.fixed) is) ∙ fixing) (sym same ∙ ap (λ (m : TreeNote). m.tree) is ∙ tree_of_note t) among
      (reached_there ps ts classes g placed i lt reached) (there_not i lt (Local x) false never))

  -- what a node violates is violated
  pub along_there : (f : Finding) → IsAgainstBefore (trees_notes ts) g (length g.nodes) f → IsFlowViolated ps ts f
  along_there f h =
      let t = noted_tree (all_trees_in ts) h.there.noted h.there.is_noted in
      let one = h.there.at_node in
      from_effect h.node h.before t.0 h.there.noted t.1.1 t.1.0 h.there.same_tree one.effect f (subst (λ es. Contains es one.effect) (same_effects g h.node h.before) one.among) one.against

  at_place : (i : ℕ) → i < length g.nodes → (n : Node) → node_at g.nodes i ≡ n → (t : Tree) → Contains (all_trees_in ts) t → n.tree ≡ number t
      → (e : FlowEffect) (f : Finding) → Contains n.effects e → IsAgainst g i (note t) e f → IsAgainstBefore (trees_notes ts) g (length g.nodes) f
  at_place i lt n is t has same e f among against = record {
    node = i;
    before = lt;
    there = record {
      noted = note t;
      is_noted = tree_noted (all_trees_in ts) t has;
      same_tree = tree_of_note t ∙ sym same ∙ sym (ap (λ (m : Node). m.tree) is);
      at_node = record { effect = e; among = subst (λ es. Contains es e) (sym (same_effects g i lt ∙ ap (λ (m : Node). m.effects) is)) among; against = against };
    };
  }

  -- and the other way round
  pub along_here : (f : Finding) → IsFlowViolated ps ts f → IsAgainstBefore (trees_notes ts) g (length g.nodes) f
  along_here f (unassigned t x n has reading same among reached never) =
      let place = reached_place ps ts classes g placed n reached in
      let i = place.0 in
      let lt = place.1 in
      let is = place.2 in
      at_place i lt n is t has same (reads x) f among
      (subst (λ w. IsAgainst g i (note t) (reads x) (record { rule = rule.Unassigned; span = w })) (word_of_note t)
      (early x (read_of_note t ∙ reading) (reached_here ps ts classes g placed i lt (subst (λ m. IsReachedNode (body_edges ps ts) m) (sym is) reached))
      (here_not i lt (Local x) true (subst (λ m. IsOnAll (body_edges ps ts) m (Local x) true → ⊥) (sym is) never))))
  along_here f (val_twice t x k n has fixing same among reached never) =
      let place = reached_place ps ts classes g placed n reached in
      let i = place.0 in
      let lt = place.1 in
      let is = place.2 in
      at_place i lt n is t has same (assigns x k) f among
      (subst (λ w. IsAgainst g i (note t) (assigns x k) (record { rule = rule.ValTwice; span = w })) (word_of_note t)
      (late x k (fixed_of_note t ∙ fixing) (reached_here ps ts classes g placed i lt (subst (λ m. IsReachedNode (body_edges ps ts) m) (sym is) reached))
      (here_not i lt (Local x) false (subst (λ m. IsOnAll (body_edges ps ts) m (Local x) false → ⊥) (sym is) never))))
