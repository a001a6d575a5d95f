use Rattle.std.proofs.Common.{◌≡◌, ◌≢◌, ℕ, ◌+◌, ◌-◌, ◌<◌, ◌≤◌, ◌⊎◌, Bool, true, false, ◌&&◌, List, length, arith, refl, ap, sym, subst, ◌∙◌, inl, inr}
use Rattle.std.proofs.lemmas.Bool.{cases_lt, cases_eq}
use Rattle.kt_solve.specs.declared.effect.Edge.{Edge}
use Rattle.kt_solve.specs.declared.mark.Mark.{Mark}
use Rattle.kt_solve.specs.Chains.{IsLink, edge_at}
use Rattle.kt_solve.specs.Flow.{Flow, HasEdge, after, IsWithin}
use Rattle.kt_solve.specs.Marks.{is_reached, mark_at}
use Rattle.kt_solve.specs.Search.{HasTaken, IsAfter, Spreads}
use Rattle.kt_solve.specs.Sweeps.{IsBehind, IsSweep, IsSettledBelow, IsPassing, CanPass}
use Rattle.kt_solve.proofs.Marking.{and_false}
use Rattle.kt_solve.proofs.Paths.{after_same, edge_ends}
use Rattle.kt_solve.proofs.Visiting.{edge_of_number, number_of_edge, edge_within, spread_back, spread_len, spread_reached, spread_taken, spread_takes}

-- a state goes over an edge onwards
module _ (p : Flow) (i : IsWithin p) (place : ℕ → ℕ) (n to : ℕ) (out : ℕ → Bool) (marks marks' : List Mark) (has has' : ℕ → ℕ → Bool) (ch : Bool)
    (s : Spreads p.pairs out to marks marks' has has' ch) (lm : to < length marks) (on : place n < place to) where
  -- rows at places up to the node's are as they were
  apart : (a q : ℕ) → place a < place n + 1 → q < p.pairs → has' a q ≡ has a q
  apart a q l h = elim (cases_eq a to) [
    | inl same ↦ (let k : place a ≡ place to = ap place same in absurd (omega (arith, k, l, on)))
    | inr other ↦ s.others a q other h
  ]

  keeps : (x : ℕ) → is_reached (mark_at marks x) ≡ true → is_reached (mark_at marks' x) ≡ true
  keeps x h = spread_reached p.pairs out to marks marks' has has' ch s lm x h

  behind : (x a : ℕ) → IsBehind p place (place n + 1) marks x a → IsBehind p place (place n + 1) marks' x a
  behind x a b = (b.0, b.1, b.2, keeps a b.3)

  pub settled_step : IsSettledBelow p place (place n) marks has → IsSettledBelow p place (place n) marks' has'
  settled_step d = record {
    settled = λ a b ed l1 l2 t. elim (cases_eq a to) [
      | inl is ↦ (let h : place a ≡ place to = ap place is in absurd (omega (arith, h, l1, on)))
      | inr other ↦
          (let t0 : is_reached (mark_at marks a) ≡ true = ap is_reached (sym (spread_back p.pairs out to marks marks' has has' ch s lm a other)) ∙ t in
          let k = spread_taken p.pairs out to marks marks' has has' ch s lm (after p a (has a)) b (d.settled a b ed l1 l2 t0) in
          record { reached = k.reached; row = λ q hq e. after_same p i a (has' a) (has a) q hq (λ r hr. s.others a r other hr) ∙ k.row q hq e })
    ];
  }

  module _ (e : HasEdge p n to) (m : is_reached (mark_at marks n) ≡ true) (k : IsSweep p place (place n + 1) marks has) (f : (q : ℕ) → q < p.pairs → out q ≡ after p n (has n) q) where
    from_node : (x : ℕ) → x ≡ to → IsBehind p place (place n + 1) marks' x n
    from_node x is = rw is (e, on, (omega arith), keeps n m)

    pub sweep_step : IsSweep p place (place n + 1) marks' has'
    sweep_step = record {
      marks_len = spread_len p.pairs out to marks marks' has has' ch s lm ∙ k.marks_len;
      entry = keeps p.entry k.entry;
      entry_row = λ q hq. elim (cases_eq p.entry to) [
        | inl is ↦ rw is (s.row q hq ∙ ap (λ x. x && out q) (ap (λ x. has x q) (sym is) ∙ k.entry_row q hq))
        | inr other ↦ s.others p.entry q other hq ∙ k.entry_row q hq
      ];
      reach = λ x t. elim (cases_eq x to) [
        | inl is ↦ inr (n, from_node x is)
        | inr other ↦ elim (k.reach x (ap is_reached (sym (spread_back p.pairs out to marks marks' has has' ch s lm x other)) ∙ t)) [
          | inl first ↦ inl first
          | inr r ↦ inr (r.0, behind x r.0 r.1)
        ]
      ];
      unset = λ x q hx hq g.
          (let old : has x q ≡ false → (x ≡ p.entry) ⊎ ((a : ℕ) × IsBehind p place (place n + 1) marks' x a × (after p a (has' a) q ≡ false)) =
          λ w. elim (k.unset x q hx hq w) [
            | inl first ↦ inl first
            | inr r ↦ inr (r.0, behind x r.0 r.1, after_same p i r.0 (has' r.0) (has r.0) q hq (λ y hy. apart r.0 y r.1.2 hy) ∙ r.2)
          ] in
          elim (cases_eq x to) [
            | inl is ↦ (let g2 : has' to q ≡ false = rw is at g in
                elim (and_false (has to q) (out q) (sym (s.row q hq) ∙ g2)) [
                  | inl was ↦ old (rw is was)
                  | inr new ↦ inr (n, from_node x is, after_same p i n (has' n) (has n) q hq (λ y hy. apart n y (omega arith) hy) ∙ sym (f q hq) ∙ new)
                ])
            | inr other ↦ old (sym (s.others x q other hq) ∙ g)
          ]);
    }

sweep_more : (p : Flow) (place : ℕ → ℕ) (k : ℕ) (marks : List Mark) (has : ℕ → ℕ → Bool) → IsSweep p place k marks has → IsSweep p place (k + 1) marks has
sweep_more p place k marks has s = record {
  marks_len = s.marks_len;
  entry = s.entry;
  entry_row = s.entry_row;
  reach = λ x t. elim (s.reach x t) [
    | inl first ↦ inl first
    | inr r ↦ inr (r.0, (r.1.0, r.1.1, (omega (arith, r.1.2)), r.1.3))
  ];
  unset = λ x q hx hq f. elim (s.unset x q hx hq f) [
    | inl first ↦ inl first
    | inr r ↦ inr (r.0, (r.1.0, r.1.1, (omega (arith, r.1.2)), r.1.3), r.2)
  ];
}

-- as the edges of a node begin to be read
pub passing_begins : (p : Flow) (place : ℕ → ℕ) (n link : ℕ) (marks : List Mark) (has : ℕ → ℕ → Bool) (out : ℕ → Bool)
    → CanPass p place n marks has out → IsLink p.edges (length p.edges) n link → IsPassing p place n (has n) out link (is_reached (mark_at marks n)) marks has
passing_begins p place n link marks has out c lk = record {
  sweep = sweep_more p place (place n) marks has c.sweep;
  settled = c.settled;
  taken = λ k l1 l2 f. absurd (lk.gap k l1 l2 f);
  kept = λ q hq. refl;
  same = refl;
}

-- the edge leads back, or the node is not reached
pub passing_skips : (p : Flow) (place : ℕ → ℕ) (n : ℕ) (row out : ℕ → Bool) (link : ℕ) (edge : Edge) (before : ℕ) (was : Bool) (marks : List Mark) (has : ℕ → ℕ → Bool)
    → IsPassing p place n row out link was marks has → (edge_at p.edges (link - 1)).from ≡ n → edge ≡ edge_at p.edges (link - 1) → IsLink p.edges (link - 1) edge.from before
    → (was ≡ true → place n < place edge.to → ⊥) → IsPassing p place n row out before was marks has
passing_skips p place n row out link edge before was marks has v from is lk never = record {
  sweep = v.sweep;
  settled = v.settled;
  taken = λ k l1 l2 f t l. elim (cases_lt k (link - 1)) [
    | inl less ↦ absurd (lk.gap k l1 less (f ∙ sym from ∙ ap (λ (x : Edge). x.from) (sym is)))
    | inr more ↦ elim (cases_eq k (link - 1)) [
      | inl same ↦ (let h : place (edge_at p.edges k).to ≡ place edge.to = ap (λ y. place (edge_at p.edges y).to) same ∙ ap (λ (x : Edge). place x.to) (sym is) in absurd (never t (omega (arith, l, h))))
      | inr other ↦ v.taken k (omega (arith, more, other)) l2 f t l
    ]
  ];
  kept = v.kept;
  same = v.same;
}

passing_step : (p : Flow) (i : IsWithin p) (place : ℕ → ℕ) (n : ℕ) (row out : ℕ → Bool) (link before : ℕ) (marks marks' : List Mark) (has has' : ℕ → ℕ → Bool) (ch : Bool)
    → IsPassing p place n row out link true marks has → 0 < link → link ≤ length p.edges → (edge_at p.edges (link - 1)).from ≡ n → IsLink p.edges (link - 1) n before
    → place n < place (edge_at p.edges (link - 1)).to → ((q : ℕ) → q < p.pairs → out q ≡ after p n row q)
    → Spreads p.pairs out (edge_at p.edges (link - 1)).to marks marks' has has' ch → IsPassing p place n row out before true marks' has'
passing_step p i place n row out link before marks marks' has has' ch v h0 h1 from lk on f s =
    let to : ℕ = (edge_at p.edges (link - 1)).to in
    let ht : (edge_at p.edges (link - 1)).to < p.nodes = edge_within p (link - 1) i (omega arith) in
    let lm : (edge_at p.edges (link - 1)).to < length marks = omega (arith, v.sweep.marks_len, ht) in
    let e : HasEdge p n (edge_at p.edges (link - 1)).to = rw from at (edge_of_number p (link - 1) (omega arith)) in
    let g : (q : ℕ) → q < p.pairs → out q ≡ after p n (has n) q = λ q hq. f q hq ∙ after_same p i n row (has n) q hq (λ r hr. sym (v.kept r hr)) in
    let other : n ≢ (edge_at p.edges (link - 1)).to = λ x. (let h : place n ≡ place (edge_at p.edges (link - 1)).to = ap place x in omega (arith, h, on)) in
    record {
      sweep = sweep_step p i place n to out marks marks' has has' ch s lm on e v.same v.sweep g;
      settled = settled_step p i place n to out marks marks' has has' ch s lm on v.settled;
      taken = λ k l1 l2 x t l. elim (cases_lt k (link - 1)) [
        | inl less ↦ absurd (lk.gap k l1 less x)
        | inr more ↦ elim (cases_eq k (link - 1)) [
          | inl same ↦ rw same (spread_takes p.pairs out to marks marks' has has' ch s lm)
          | inr apart ↦ spread_taken p.pairs out to marks marks' has has' ch s lm out (edge_at p.edges k).to (v.taken k (omega (arith, more, apart)) l2 x t l)
        ]
      ];
      kept = λ q hq. s.others n q other hq ∙ v.kept q hq;
      same = spread_reached p.pairs out to marks marks' has has' ch s lm n v.same;
    }

-- the edge leads onwards from a reached node
pub passing_takes : (p : Flow) (place : ℕ → ℕ) (n : ℕ) (row out : ℕ → Bool) (link : ℕ) (edge : Edge) (before : ℕ) (was : Bool) (marks marks' : List Mark) (has has' : ℕ → ℕ → Bool) (ch : Bool)
    → IsWithin p → IsPassing p place n row out link was marks has → was ≡ true → 0 < link → link ≤ length p.edges → (edge_at p.edges (link - 1)).from ≡ n
    → edge ≡ edge_at p.edges (link - 1) → IsLink p.edges (link - 1) edge.from before → place n < place edge.to → IsAfter p n row out
    → Spreads p.pairs out edge.to marks marks' has has' ch → IsPassing p place n row out before was marks' has'
passing_takes p place n row out link edge before was marks marks' has has' ch i v t h0 h1 from is lk on f s =
    let to_is : edge.to ≡ (edge_at p.edges (link - 1)).to = ap (λ (x : Edge). x.to) is in
    let from_is : edge.from ≡ n = ap (λ (x : Edge). x.from) is ∙ from in
    let v2 : IsPassing p place n row out link true marks has = rw t at v in
    rw t (passing_step p i place n row out link before marks marks' has has' ch v2 h0 h1 from (subst (λ x. IsLink p.edges (link - 1) x before) from_is lk) (subst (λ x. place n < place x) to_is on) f
    (subst (λ x. Spreads p.pairs out x marks marks' has has' ch) to_is s))

-- when all its edges have been read
pub passing_ends : (p : Flow) (place : ℕ → ℕ) (n : ℕ) (row out : ℕ → Bool) (was : Bool) (marks : List Mark) (has : ℕ → ℕ → Bool)
    → IsWithin p → IsPassing p place n row out 0 was marks has → ((x : ℕ) → x < p.nodes → place x ≡ place n → x ≡ n) → IsAfter p n row out → IsSettledBelow p place (place n + 1) marks has
passing_ends p place n row out was marks has i v alone f = record {
  settled = λ a b e la lb t. elim (cases_lt (place a) (place n)) [
    | inl low ↦ v.settled.settled a b e low lb t
    | inr high ↦
        (let is : a ≡ n = alone a (edge_ends p a b i e).from (omega (arith, la, high)) in
        let e2 : HasEdge p n b = rw is at e in
        let t2 : is_reached (mark_at marks n) ≡ true = rw is at t in
        let k = number_of_edge p n b e2 in
        let o : place n < place (edge_at p.edges k.0).to = (let h : place (edge_at p.edges k.0).to ≡ place b = ap place k.3 in let h2 : place a ≡ place n = ap place is in omega (arith, h, h2, lb)) in
        let u0 = v.taken k.0 (omega arith) k.1 k.2 (sym v.same ∙ t2) o in
        let u : HasTaken p.pairs marks has out b = rw k.3 at u0 in
        rw is (record {
          reached = u.reached;
          row = λ q hq x. after_same p i n (has n) row q hq (λ r hr. v.kept r hr) ∙ sym (f q hq) ∙ u.row q hq x;
        }))
  ];
}
