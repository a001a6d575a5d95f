use Rattle.std.proofs.Common.{◌≡◌, ℕ, zero, suc, ◌+◌, ◌-◌, ◌<◌, ◌≤◌, ◌≢◌, Bool, true, false, cond, eqb, List, [], ◌∷◌, length, get_or, set, take, drop, arith, refl, ap, sym, ◌∙◌, inl, inr}
use Rattle.std.specs.List.{All, sum_by, count_by}
use Rattle.std.proofs.lemmas.Bool.{cases_eq, eq-eqb, ne_eqb}
use Rattle.std.proofs.lemmas.List.{get_or-set_same, get_or-set_other, drop_more, drop_all}
use Rattle.std.proofs.lemmas.List.Elements.{All-head, All-tail, All-weaker}
use Rattle.std.proofs.lemmas.List.Sums.{sum_by_more, sum_by-cons}
use borrow.Author.Count.{below_more}
use Rattle.kt_solve.specs.declared.effect.Edge.{Edge}
use Rattle.kt_solve.specs.declared.mark.Mark.{Mark}
use Rattle.kt_solve.specs.Chains.{IsLink, edge_at}
use Rattle.kt_solve.specs.Flow.{Flow, EdgeFits, IsWithin}
use Rattle.kt_solve.specs.Marks.{is_reached, mark_at}
use Rattle.kt_solve.specs.Orders.{place_of, IsOrder, HasLoops}
use Rattle.kt_solve.specs.Search.{IsAfter}
use Rattle.kt_solve.specs.Sweeps.{ArePlaces, CanPass, IsSweep, IsSettledBelow, edges_from, edges_of}
use Rattle.kt_solve.proofs.Paths.{edge_ends}

-- the node at its place
pub at_place : (order : List ℕ) (n : ℕ) → place_of order n < length order → get_or order (place_of order n) 0 ≡ n
at_place [] n h = absurd (omega arith)
at_place (x ∷ rest) n h = elim (cases_eq x n) [
  | inl e ↦ (let t = eq-eqb x n e in rw t e)
  | inr ne ↦ (let f = ne_eqb x n ne in let h2 : suc (place_of rest n) < suc (length rest) = rw f at h in rw f (at_place rest n (omega (arith, h2))))
]

-- one more place is written down
pub places_more : (order places : List ℕ) (k : ℕ) → ((i : ℕ) → i < length order → place_of order (get_or order i 0) ≡ i) → k < length order → get_or order k 0 < length places
    → ((j : ℕ) → j < k → get_or places (get_or order j 0) 0 ≡ j) → (j : ℕ) → j < k + 1 → get_or (set places (get_or order k 0) k) (get_or order j 0) 0 ≡ j
places_more order places k once h hk b =
    below_more (λ j. get_or (set places (get_or order k 0) k) (get_or order j 0) 0 ≡ j) k
    (λ j l.
    (let o1 = once j (omega (arith, h, l)) in
    let o2 = once k h in
    let ne : get_or order j 0 ≢ get_or order k 0 = λ e. (let x : place_of order (get_or order j 0) ≡ place_of order (get_or order k 0) = ap (place_of order) e in omega (arith, x, o1, o2, l)) in
    get_or-set_other places (get_or order k 0) (get_or order j 0) k 0 ne ∙ b j l))
    (get_or-set_same places (get_or order k 0) k 0 hk)

pub places_all : (order places : List ℕ) (nodes : ℕ) → length order ≡ nodes → length places ≡ nodes → ((n : ℕ) → n < nodes → place_of order n < length order)
    → ((j : ℕ) → j < nodes → get_or places (get_or order j 0) 0 ≡ j) → ArePlaces order places nodes
places_all order places nodes lo lp listed b = record {
  len = lp;
  at = λ n h. (let l = listed n h in let e = at_place order n l in rw e at (b (place_of order n) (omega (arith, lo, l))));
}

-- two nodes don't share a place
pub apart : (p : Flow) (order places : List ℕ) → IsOrder p order → ArePlaces order places p.nodes → (x y : ℕ) → x < p.nodes → y < p.nodes → get_or places x 0 ≡ get_or places y 0 → x ≡ y
apart p order places o a x y hx hy e =
    let e2 : place_of order x ≡ place_of order y = sym (a.at x hx) ∙ e ∙ a.at y hy in
    sym (at_place order x (o.listed x hx)) ∙ ap (λ k. get_or order k 0) e2 ∙ at_place order y (o.listed y hy)

-- the node at a place has that place
pub at_node : (p : Flow) (order places : List ℕ) (k : ℕ) → IsOrder p order → ArePlaces order places p.nodes → k < p.nodes → get_or places (get_or order k 0) 0 ≡ k
at_node p order places k o a h = a.at (get_or order k 0) (o.within k 0 (omega (arith, o.len, h))) ∙ o.once k (omega (arith, o.len, h))

-- the conditions on loops, by the table of places
pub loops_by_table : (p : Flow) (order places : List ℕ) → IsWithin p → ArePlaces order places p.nodes → HasLoops p (place_of order) → HasLoops p (λ n. get_or places n 0)
loops_by_table p order places w a l u v e h =
    let ends = edge_ends p u v w e in
    let pu = a.at u ends.from in
    let pv = a.at v ends.to in
    let k = l u v e (omega (arith, pu, pv, h)) in
    record {
      entered = λ x y ed h1 h2 h3. (let xy = edge_ends p x y w ed in let px = a.at x xy.from in let py = a.at y xy.to in
          k.entered x y ed (omega (arith, px, pv, h1)) (omega (arith, py, pv, h2)) (omega (arith, py, pu, h3)));
      no_copy = k.no_copy;
      cleared = λ x q hx hq h1 h2 c. (let px = a.at x hx in k.cleared x q hx hq (omega (arith, px, pv, h1)) (omega (arith, px, pu, h2)) c);
    }

-- every node has a place below the last
pub places_below : (p : Flow) (order places : List ℕ) → IsOrder p order → ArePlaces order places p.nodes → (n : ℕ) → n < p.nodes → get_or places n 0 < p.nodes
places_below p order places o a n h = let l = o.listed n h in omega (arith, a.at n h, o.len, l)

-- what reading the edges of the next node needs
pub can_pass : (p : Flow) (order places : List ℕ) (k : ℕ) (marks : List Mark) (has : ℕ → ℕ → Bool) (out : ℕ → Bool)
    → IsWithin p → IsOrder p order → ArePlaces order places p.nodes → k < p.nodes
    → IsSweep p (λ n. get_or places n 0) k marks has → IsSettledBelow p (λ n. get_or places n 0) k marks has
    → IsAfter p (get_or order k 0) (has (get_or order k 0)) out → CanPass p (λ n. get_or places n 0) (get_or order k 0) marks has out
can_pass p order places k marks has out w o a h s d f =
    let n : get_or order k 0 < p.nodes = o.within k 0 (omega (arith, o.len, h)) in
    let at = at_node p order places k o a h in
    record {
      within = w;
      node = n;
      alone = λ x hx e. apart p order places o a x (get_or order k 0) hx n e;
      sweep = rw at s;
      settled = rw at d;
      after = f;
    }

-- the first state of marks and rows
pub sweep_begins : (p : Flow) (place : ℕ → ℕ) (has : ℕ → ℕ → Bool)
    → ((n q : ℕ) → n < p.nodes → q < p.pairs → has n q ≡ false → n ≡ p.entry) → ((q : ℕ) → q < p.pairs → has p.entry q ≡ false)
    → (marks : List Mark) → length marks ≡ p.nodes → is_reached (mark_at marks p.entry) ≡ true → ((k : ℕ) → is_reached (mark_at marks k) ≡ true → k ≡ p.entry) → IsSweep p place 0 marks has
sweep_begins p place has lacks row marks len entry only = record {
  marks_len = len;
  entry = entry;
  entry_row = row;
  reach = λ x t. inl (only x t);
  unset = λ x q hx hq f. inl (lacks x q hx hq f);
}

-- ---- the number of edges

-- the edges between two links of a node are of other nodes
skipped : (es : List Edge) (n i d : ℕ) → i + d ≤ length es → ((j : ℕ) → i ≤ j → j < i + d → (edge_at es j).from ≢ n) → edges_from (drop i es) n ≡ edges_from (drop (i + d) es) n
skipped es n i zero h g = let z : i ≡ i + 0 = omega arith in ap (λ k. edges_from (drop k es) n) z
skipped es n i (suc d) h g =
    let zero_edge : Edge = record { from = 0; to = 0 } in
    let more = ap (λ ys. edges_from ys n) (drop_more es i zero_edge (omega arith)) in
    let first = sum_by-cons (λ (e : Edge). cond (eqb e.from n) 1 0) (edge_at es i) (drop (i + 1) es) in
    let none : ◌≡◌ {A = ℕ} (cond (eqb (edge_at es i).from n) 1 0) 0 = ap (λ b. cond b 1 0) (ne_eqb (edge_at es i).from n (g i (omega arith) (omega arith))) in
    let rest = skipped es n (i + 1) d (omega arith) (λ j l m. g j (omega arith) (omega (arith, m))) in
    let z : (i + 1) + d ≡ i + suc d = omega arith in
    let one : edges_from (drop i es) n ≡ edges_from (drop (i + 1) es) n = more ∙ omega (arith, first, none) in
    one ∙ rest ∙ ap (λ k. edges_from (drop k es) n) z

-- before the last link of a node stand no more of its edges
pub edges_last : (es : List Edge) (n link : ℕ) → IsLink es (length es) n link → edges_from (drop link es) n ≡ 0
edges_last es n link lk =
    let d : link + (length es - link) ≡ length es = omega (arith, lk.within) in
    let s = skipped es n link (length es - link) (omega (arith, d)) (λ j l m. lk.gap j l (omega (arith, d, m))) in
    s ∙ ap (λ k. edges_from (drop k es) n) d ∙ ap (λ ys. edges_from ys n) (drop_all (length es) es (omega arith))

-- one more edge of the node
pub edges_link : (es : List Edge) (n link before : ℕ) → 0 < link → link ≤ length es → (edge_at es (link - 1)).from ≡ n → IsLink es (link - 1) n before
    → edges_from (drop before es) n ≡ edges_from (drop link es) n + 1
edges_link es n link before h0 h1 from lk =
    let zero_edge : Edge = record { from = 0; to = 0 } in
    let d : before + ((link - 1) - before) ≡ link - 1 = omega (arith, lk.within) in
    let s = skipped es n before ((link - 1) - before) (omega (arith, d)) (λ j l m. lk.gap j l (omega (arith, d, m))) in
    let more = ap (λ ys. edges_from ys n) (drop_more es (link - 1) zero_edge (omega arith)) in
    let first = sum_by-cons (λ (e : Edge). cond (eqb e.from n) 1 0) (edge_at es (link - 1)) (drop ((link - 1) + 1) es) in
    let one : ◌≡◌ {A = ℕ} (cond (eqb (edge_at es (link - 1)).from n) 1 0) 1 = ap (λ b. cond b 1 0) (eq-eqb (edge_at es (link - 1)).from n from) in
    let z : (link - 1) + 1 ≡ link = omega arith in
    let zz : edges_from (drop ((link - 1) + 1) es) n ≡ edges_from (drop link es) n = ap (λ k. edges_from (drop k es) n) z in
    s ∙ ap (λ k. edges_from (drop k es) n) d ∙ more ∙ omega (arith, first, one, zz)

-- one more node
pub edges_more : (es : List Edge) (order : List ℕ) (k : ℕ) → k < length order → edges_of es (take (k + 1) order) ≡ edges_of es (take k order) + edges_from es (get_or order k 0)
edges_more es order k h = sum_by_more (edges_from es) order k 0 h

once_zero : (rest : List ℕ) (x : ℕ) → ((i : ℕ) → i < length rest → get_or rest i 0 ≢ x) → count_by (λ n. eqb x n) rest ≡ 0
once_zero [] x h = refl
once_zero (y ∷ rest) x h =
    let ne : x ≢ y = λ e. h 0 (omega arith) (sym e) in
    let f = ne_eqb x y ne in
    let ih = once_zero rest x (λ i l. h (suc i) (omega arith)) in
    sum_by-cons (λ n. cond (eqb x n) 1 0) y rest ∙ (rw f (omega (arith, ih)))

place_not_first : (x : ℕ) (rest : List ℕ) (i : ℕ) → place_of (x ∷ rest) (get_or rest i 0) ≡ suc i → (x ≢ get_or rest i 0) × (place_of rest (get_or rest i 0) ≡ i)
place_not_first x rest i e = elim (cases_eq x (get_or rest i 0)) [
  | inl is ↦ (let t = eq-eqb x (get_or rest i 0) is in let e2 : 0 ≡ suc i = rw t at e in absurd (omega (arith, e2)))
  | inr ne ↦ (let f = ne_eqb x (get_or rest i 0) ne in let e2 : suc (place_of rest (get_or rest i 0)) ≡ suc i = rw f at e in (ne, omega (arith, e2)))
]

once_one : (order : List ℕ) (x : ℕ) → ((i : ℕ) → i < length order → place_of order (get_or order i 0) ≡ i) → place_of order x < length order → count_by (λ n. eqb x n) order ≡ 1
once_one [] x once h = absurd (omega arith)
once_one (y ∷ rest) x once h = elim (cases_eq y x) [
  | inl is ↦
      (let t : eqb x y ≡ true = eq-eqb x y (sym is) in
      let z = once_zero rest x (λ i l e. (place_not_first y rest i (once (suc i) (omega arith))).0 (is ∙ sym e)) in
      sum_by-cons (λ n. cond (eqb x n) 1 0) y rest ∙ (rw t (omega (arith, z))))
  | inr ne ↦
      (let f : eqb x y ≡ false = ne_eqb x y (λ e. ne (sym e)) in
      let f2 = ne_eqb y x ne in
      let h2 : suc (place_of rest x) < suc (length rest) = rw f2 at h in
      let r = once_one rest x (λ i l. (place_not_first y rest i (once (suc i) (omega arith))).1) (omega (arith, h2)) in
      sum_by-cons (λ n. cond (eqb x n) 1 0) y rest ∙ (rw f (omega (arith, r))))
]

sum_two : (f g h : ℕ → ℕ) (ns : List ℕ) → ((n : ℕ) → f n ≡ g n + h n) → sum_by f ns ≡ sum_by g ns + sum_by h ns
sum_two f g h [] e = refl
sum_two f g h (n ∷ ns) e =
    let a = sum_by-cons f n ns in
    let b = sum_by-cons g n ns in
    let c = sum_by-cons h n ns in
    let ih = sum_two f g h ns e in
    omega (arith, a, b, c, ih, e n)

sum_none : (f : ℕ → ℕ) (ns : List ℕ) → ((n : ℕ) → f n ≡ 0) → sum_by f ns ≡ 0
sum_none f [] e = refl
sum_none f (n ∷ ns) e = omega (arith, sum_by-cons f n ns, sum_none f ns e, e n)

count_edges : (nodes : ℕ) (order : List ℕ) (es : List Edge) → ((i : ℕ) → i < length order → place_of order (get_or order i 0) ≡ i) → ((n : ℕ) → n < nodes → place_of order n < length order)
    → All (λ (e : Edge). e.from < nodes) es → edges_of es order ≡ length es
count_edges nodes order [] once listed a = sum_none (edges_from []) order (λ n. refl)
count_edges nodes order (e ∷ es) once listed a =
    let s = sum_two (edges_from (e ∷ es)) (λ n. cond (eqb e.from n) 1 0) (edges_from es) order (λ n. sum_by-cons (λ (x : Edge). cond (eqb x.from n) 1 0) e es) in
    let o = once_one order e.from once (listed e.from (All-head (λ (e : Edge). e.from < nodes) e es a)) in
    let r = count_edges nodes order es once listed (All-tail (λ (e : Edge). e.from < nodes) e es a) in
    omega (arith, s, o, r)

-- each edge is one of one node of the order
pub all_edges : (p : Flow) (order : List ℕ) → IsWithin p → IsOrder p order → edges_of p.edges order ≡ length p.edges
all_edges p order w o = count_edges p.nodes order p.edges o.once o.listed (All-weaker (EdgeFits p.nodes) (λ (e : Edge). e.from < p.nodes) (λ e f. f.from) p.edges w.edges)
