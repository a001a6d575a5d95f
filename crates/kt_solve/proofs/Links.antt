use Rattle.std.proofs.Common.{◌≡◌, ◌≢◌, ℕ, ◌+◌, ◌-◌, ◌<◌, ◌≤◌, List, [], ◌∷◌, ◌++◌, length, get_or, set, arith, refl, ap, sym, subst, ◌∙◌, inl, inr}
use Rattle.std.proofs.lemmas.Bool.{cases_eq, cases_lt}
use Rattle.std.proofs.lemmas.List.{get_or-set_same, get_or-set_other, get_or_append_left, get_or_push, length-set, length_push, length-map, map-append}
use Rattle.std.proofs.lemmas.List.Elements.{All-push}
use Rattle.kt_solve.specs.declared.effect.Edge.{Edge}
use Rattle.kt_solve.specs.declared.effect.Effect.{Effect}
use Rattle.kt_solve.specs.declared.problem.LinkedEdge.{LinkedEdge}
use Rattle.kt_solve.specs.Chains.{IsLink, edge_at}
use Rattle.kt_solve.specs.Flow.{EdgeFits}
use Rattle.kt_solve.specs.Problems.{IsProblem, edges_in, before_at}

edge_at-push_left : (es : List Edge) (e : Edge) (k : ℕ) → k < length es → edge_at (es ++ e ∷ []) k ≡ edge_at es k
edge_at-push_left es e k h = get_or_append_left es (e ∷ []) (record { from = 0; to = 0 }) k h

edge_at-push : (es : List Edge) (e : Edge) → edge_at (es ++ e ∷ []) (length es) ≡ e
edge_at-push es e = get_or_push es e (record { from = 0; to = 0 }) (length es) refl

-- one more edge leaves the links below as they were
link_same : (es : List Edge) (e : Edge) (k n link : ℕ) → k ≤ length es → IsLink es k n link → IsLink (es ++ e ∷ []) k n link
link_same es e k n link h i = record {
  within = i.within;
  lands = λ s. ap (λ (x : Edge). x.from) (edge_at-push_left es e (link - 1) (omega (arith, i.within))) ∙ i.lands s;
  gap = λ j l m x. i.gap j l m (ap (λ (y : Edge). y.from) (sym (edge_at-push_left es e j (omega arith))) ∙ x);
}

-- an edge from another node
link_skips : (es : List Edge) (k n link : ℕ) → (edge_at es k).from ≢ n → IsLink es k n link → IsLink es (k + 1) n link
link_skips es k n link ne i = record {
  within = omega (arith, i.within);
  lands = i.lands;
  gap = λ j l m x. elim (cases_eq j k) [
    | inl is ↦ ne (ap (λ y. (edge_at es y).from) (sym is) ∙ x)
    | inr other ↦ i.gap j l (omega arith) x
  ];
}

-- an edge from the node
link_takes : (es : List Edge) (k n : ℕ) → (edge_at es k).from ≡ n → IsLink es (k + 1) n (k + 1)
link_takes es k n e = record {
  within = omega arith;
  lands = λ s. (let z : (k + 1) - 1 ≡ k = omega arith in ap (λ y. (edge_at es y).from) z ∙ e);
  gap = λ j l m x. omega arith;
}

-- the problem with one more edge
pub problem_push : (nodes pairs entry : ℕ) (linked : List LinkedEdge) (last : List ℕ) (effects : List Effect) (from to : ℕ)
    → IsProblem nodes pairs entry linked last effects → from < nodes → to < nodes
    → IsProblem nodes pairs entry (linked ++ record { edge = record { from = from; to = to }; before = get_or last from 0 } ∷ []) (set last from (length linked + 1)) effects
problem_push nodes pairs entry linked last effects from to p hf ht =
    let es : List Edge = edges_in linked in
    let e : Edge = record { from = from; to = to } in
    let new : LinkedEdge = record { edge = record { from = from; to = to }; before = get_or last from 0 } in
    let grown : edges_in (linked ++ new ∷ []) ≡ edges_in linked ++ e ∷ [] = map-append (λ (l : LinkedEdge). l.edge) linked (new ∷ []) in
    let long : length (edges_in linked) ≡ length linked = length-map linked (λ (l : LinkedEdge). l.edge) in
    let longer : length (edges_in linked ++ e ∷ []) ≡ length (edges_in linked) + 1 = length_push (edges_in linked) e in
    let zero_edge : Edge = record { from = 0; to = 0 } in
    let nothing : LinkedEdge = record { edge = record { from = 0; to = 0 }; before = 0 } in
    record {
      within = record {
        nodes = p.within.nodes;
        pairs = p.within.pairs;
        entry = p.within.entry;
        edges = rw grown (All-push (EdgeFits nodes) (edges_in linked) e p.within.edges (record { from = hf; to = ht }));
        effects = p.within.effects;
      };
      lasts = length-set last from (length linked + 1) ∙ p.lasts;
      last_is = λ n h. rw (grown, longer) (elim (cases_eq n from) [
        | inl is ↦ rw is (rw (get_or-set_same last from (length linked + 1) 0 (omega (arith, p.lasts, hf))) (rw (← long) (link_takes (edges_in linked ++ e ∷ []) (length (edges_in linked)) from (ap (λ (x : Edge). x.from) (edge_at-push (edges_in linked) e)))))
        | inr other ↦ rw (get_or-set_other last from n (length linked + 1) 0 other)
            (link_skips (edges_in linked ++ e ∷ []) (length (edges_in linked)) n (get_or last n 0)
            (λ x. other (sym x ∙ ap (λ (y : Edge). y.from) (edge_at-push (edges_in linked) e)))
            (link_same (edges_in linked) e (length (edges_in linked)) n (get_or last n 0) (omega arith) (p.last_is n h)))
      ]);
      before_is = λ k h. rw grown (
          let h2 : k < length (edges_in linked ++ e ∷ []) = rw grown at h in
          elim (cases_lt k (length (edges_in linked))) [
            | inl old ↦
                rw (get_or_append_left (edges_in linked) (e ∷ []) zero_edge k old)
                (subst (IsLink (edges_in linked ++ e ∷ []) k (edge_at (edges_in linked) k).from) (sym (ap (λ (l : LinkedEdge). l.before) (get_or_append_left linked (new ∷ []) nothing k (omega (arith, long, old)))))
                (link_same (edges_in linked) e k (edge_at (edges_in linked) k).from (before_at linked k) (omega arith) (p.before_is k old)))
            | inr new_one ↦
                (let is : k ≡ length (edges_in linked) = omega (arith, h2, longer, new_one) in
                let at : k ≡ length linked = is ∙ long in
                let named : (edge_at (edges_in linked ++ e ∷ []) k).from ≡ from = ap (λ y. (edge_at (edges_in linked ++ e ∷ []) y).from) is ∙ ap (λ (x : Edge). x.from) (edge_at-push (edges_in linked) e) in
                subst (λ y. IsLink (edges_in linked ++ e ∷ []) k y (before_at (linked ++ new ∷ []) k)) (sym named)
                (subst (IsLink (edges_in linked ++ e ∷ []) k from) (sym (ap (λ (l : LinkedEdge). l.before) (get_or_push linked new nothing k (sym at))))
                (rw is (link_same (edges_in linked) e (length (edges_in linked)) from (get_or last from 0) (omega arith) (p.last_is from hf)))))
          ]);
    }
