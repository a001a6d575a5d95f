use Rattle.std.proofs.Common.{◌≡◌, ℕ, ◌+◌, ◌-◌, ◌<◌, ◌≤◌, List, length, get_or, arith, ap, sym, subst, ◌∙◌}
use borrow.Author.Count.{below_more}
use Rattle.kt_solve.specs.declared.effect.Edge.{Edge}
use Rattle.kt_solve.specs.declared.effect.Transfer.TheVariants.{Clear}
use Rattle.kt_solve.specs.Chains.{edge_at}
use Rattle.kt_solve.specs.Flow.{Flow, HasEdge, IsWithin, transfer_of}
use Rattle.kt_solve.specs.Orders.{place_of, CanLose, CopiesNothing, HasLoops, IsLoop, IsOrder}
use Rattle.kt_solve.specs.Sweeps.{ArePlaces}
use Rattle.kt_solve.proofs.Ordered.{at_place}
use Rattle.kt_solve.proofs.Paths.{edge_ends}
use Rattle.kt_solve.proofs.Visiting.{edge_of_number, number_of_edge}

module _ (p : Flow) (order places : List ℕ) (w : IsWithin p) (o : IsOrder p order) (a : ArePlaces order places p.nodes) (last head : ℕ) (hl : last < p.nodes) (hh : head < p.nodes) where
  last_place : place_of order (get_or order last 0) ≡ last
  last_place = o.once last (omega (arith, o.len, hl))

  head_place : place_of order (get_or order head 0) ≡ head
  head_place = o.once head (omega (arith, o.len, hh))

  -- what the three tests of a loop say is what is asked of it
  pub loop_from : ((x y : ℕ) → HasEdge p x y → get_or places x 0 < head → head < get_or places y 0 → get_or places y 0 ≤ last → ⊥)
      → ((pair : ℕ) → pair < p.pairs → CopiesNothing (transfer_of p (get_or order head 0) pair))
      → ((i pair : ℕ) → head ≤ i → i ≤ last → pair < p.pairs → CanLose (transfer_of p (get_or order i 0) pair) → transfer_of p (get_or order head 0) pair ≡ Clear)
      → IsLoop p (place_of order) (get_or order last 0) (get_or order head 0)
  loop_from closed copies clears = record {
    entered = λ x y e h1 h2 h3.
        (let ends = edge_ends p x y w e in
        closed x y e (omega (arith, a.at x ends.from, head_place, h1)) (omega (arith, a.at y ends.to, head_place, h2)) (omega (arith, a.at y ends.to, last_place, h3)));
    no_copy = copies;
    cleared = λ x pair hx hq h1 h2 lose.
        (let is : get_or order (place_of order x) 0 ≡ x = at_place order x (o.listed x hx) in
        clears (place_of order x) pair (omega (arith, head_place, h1)) (omega (arith, last_place, h2)) hq (subst (λ n. CanLose (transfer_of p n pair)) (sym is) lose));
  }

  pub loop_closed : IsLoop p (place_of order) (get_or order last 0) (get_or order head 0)
      → (x y : ℕ) → HasEdge p x y → get_or places x 0 < head → head < get_or places y 0 → get_or places y 0 ≤ last → ⊥
  loop_closed l x y e h1 h2 h3 =
      let ends = edge_ends p x y w e in
      l.entered x y e (omega (arith, a.at x ends.from, head_place, h1)) (omega (arith, a.at y ends.to, head_place, h2)) (omega (arith, a.at y ends.to, last_place, h3))

  pub loop_clears : IsLoop p (place_of order) (get_or order last 0) (get_or order head 0)
      → (i pair : ℕ) → head ≤ i → i ≤ last → pair < p.pairs → CanLose (transfer_of p (get_or order i 0) pair) → transfer_of p (get_or order head 0) pair ≡ Clear
  loop_clears l i pair h1 h2 hq lose =
      let li : i < length order = omega (arith, o.len, hl, h2) in
      let at = o.once i li in
      l.cleared (get_or order i 0) pair (o.within i 0 li) hq (omega (arith, head_place, at, h1)) (omega (arith, last_place, at, h2)) lose

-- an edge back by its number
pub loop_of_edge : (p : Flow) (order places : List ℕ) → IsOrder p order → ArePlaces order places p.nodes → (u v : ℕ) → u < p.nodes → v < p.nodes
    → IsLoop p (place_of order) (get_or order (get_or places u 0) 0) (get_or order (get_or places v 0) 0) → IsLoop p (place_of order) u v
loop_of_edge p order places o a u v hu hv l =
    let eu : get_or order (get_or places u 0) 0 ≡ u = ap (λ k. get_or order k 0) (a.at u hu) ∙ at_place order u (o.listed u hu) in
    let ev : get_or order (get_or places v 0) 0 ≡ v = ap (λ k. get_or order k 0) (a.at v hv) ∙ at_place order v (o.listed v hv) in
    subst (λ x. IsLoop p (place_of order) x v) eu (subst (λ y. IsLoop p (place_of order) (get_or order (get_or places u 0) 0) y) ev l)

pub edge_of_loop : (p : Flow) (order places : List ℕ) → IsOrder p order → ArePlaces order places p.nodes → (u v : ℕ) → u < p.nodes → v < p.nodes
    → IsLoop p (place_of order) u v → IsLoop p (place_of order) (get_or order (get_or places u 0) 0) (get_or order (get_or places v 0) 0)
edge_of_loop p order places o a u v hu hv l =
    let eu : get_or order (get_or places u 0) 0 ≡ u = ap (λ k. get_or order k 0) (a.at u hu) ∙ at_place order u (o.listed u hu) in
    let ev : get_or order (get_or places v 0) 0 ≡ v = ap (λ k. get_or order k 0) (a.at v hv) ∙ at_place order v (o.listed v hv) in
    subst (λ x. IsLoop p (place_of order) x (get_or order (get_or places v 0) 0)) (sym eu) (subst (λ y. IsLoop p (place_of order) u y) (sym ev) l)

-- what is known of the first k edges
abbrev pub LoopsBelow : Flow → List ℕ → List ℕ → ℕ → Type 0
LoopsBelow p order places k =
    (j : ℕ) → j < k → get_or places (edge_at p.edges j).to 0 ≤ get_or places (edge_at p.edges j).from 0 → IsLoop p (place_of order) (edge_at p.edges j).from (edge_at p.edges j).to

module _ (p : Flow) (order places : List ℕ) (w : IsWithin p) (o : IsOrder p order) (a : ArePlaces order places p.nodes) where
  -- one more edge, which leads onwards or has its loop
  pub loops_more : (k : ℕ) (edge : Edge) → edge ≡ edge_at p.edges (k + 1 - 1) → k < length p.edges
      → (get_or places edge.to 0 ≤ get_or places edge.from 0 → IsLoop p (place_of order) (get_or order (get_or places edge.from 0) 0) (get_or order (get_or places edge.to 0) 0))
      → LoopsBelow p order places k → LoopsBelow p order places (k + 1)
  loops_more k edge e h l b =
      let z : k + 1 - 1 ≡ k = omega arith in
      let is : edge ≡ edge_at p.edges k = e ∙ ap (λ j. edge_at p.edges j) z in
      let ends = edge_ends p (edge_at p.edges k).from (edge_at p.edges k).to w (edge_of_number p k h) in
      let l2 = rw is at l in
      below_more (λ j. get_or places (edge_at p.edges j).to 0 ≤ get_or places (edge_at p.edges j).from 0 → IsLoop p (place_of order) (edge_at p.edges j).from (edge_at p.edges j).to) k b
      (λ back. loop_of_edge p order places o a (edge_at p.edges k).from (edge_at p.edges k).to ends.from ends.to (l2 back))

  -- an edge back that has no loop
  pub loops_fail : (k : ℕ) (edge : Edge) → edge ≡ edge_at p.edges (k + 1 - 1) → k < length p.edges → get_or places edge.to 0 ≤ get_or places edge.from 0
      → HasLoops p (place_of order) → IsLoop p (place_of order) (get_or order (get_or places edge.from 0) 0) (get_or order (get_or places edge.to 0) 0)
  loops_fail k edge e h back all =
      let z : k + 1 - 1 ≡ k = omega arith in
      let is : edge ≡ edge_at p.edges k = e ∙ ap (λ j. edge_at p.edges j) z in
      let ed = edge_of_number p k h in
      let ends = edge_ends p (edge_at p.edges k).from (edge_at p.edges k).to w ed in
      let back2 = rw is at back in
      rw is (edge_of_loop p order places o a (edge_at p.edges k).from (edge_at p.edges k).to ends.from ends.to
      (all (edge_at p.edges k).from (edge_at p.edges k).to ed (omega (arith, a.at (edge_at p.edges k).to ends.to, a.at (edge_at p.edges k).from ends.from, back2))))

  -- all edges
  pub loops_all : (n : ℕ) → length p.edges ≤ n → LoopsBelow p order places n → HasLoops p (place_of order)
  loops_all n h b u v e back =
      let k = number_of_edge p u v e in
      let ends = edge_ends p u v w e in
      let from : get_or places (edge_at p.edges k.0).from 0 ≡ get_or places u 0 = ap (λ x. get_or places x 0) k.2 in
      let to : get_or places (edge_at p.edges k.0).to 0 ≡ get_or places v 0 = ap (λ x. get_or places x 0) k.3 in
      let l = b k.0 (omega (arith, k.1, h)) (omega (arith, from, to, a.at u ends.from, a.at v ends.to, back)) in
      subst (λ x. IsLoop p (place_of order) x v) k.2 (subst (λ y. IsLoop p (place_of order) (edge_at p.edges k.0).from y) k.3 l)
