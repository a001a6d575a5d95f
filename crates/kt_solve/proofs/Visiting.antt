use Rattle.std.proofs.Common.{◌≡◌, ◌≢◌, ℕ, ◌+◌, ◌-◌, ◌*◌, ◌<◌, ◌≤◌, Bool, true, false, ◌&&◌, ◌⊎◌, List, [], ◌∷◌, ◌++◌, length, get_or, set, arith, refl, ap, sym, subst, ◌∙◌, inl, inr}
use Rattle.std.proofs.lemmas.Bool.{cases_eq, cases_lt, cases_Bool}
use Rattle.std.proofs.lemmas.List.{length-set, get_or_default, get_or_past}
use Rattle.std.proofs.lemmas.Nat.{mul-le}
use borrow.Author.Count.{below_more}
use Rattle.kt_solve.specs.declared.effect.Edge.{Edge}
use Rattle.kt_solve.specs.declared.effect.Transfer.{Transfer}
use Rattle.kt_solve.specs.declared.effect.Transfer.TheVariants.{Keep, Set, Clear, CopyFrom}
use Rattle.kt_solve.specs.declared.mark.Mark.{Mark}
use Rattle.kt_solve.specs.declared.mark.Mark.TheVariants.{Unreached, Waiting, Read}
use Rattle.kt_solve.specs.Chains.{IsLink, edge_at}
use Rattle.kt_solve.specs.Flow.{Flow, HasEdge, IsPath, IsWithin, along, after, nothing_set, outcome, transfer_of}
use Rattle.kt_solve.specs.Marks.{is_reached, is_read, is_waiting, mark_at}
use Rattle.kt_solve.specs.Search.{MissesAfter, IsWitnessed, HasTaken, IsSearch, IsAfter, Spreads, IsVisit, IsDone}
use Rattle.kt_solve.specs.Walks.{IsListing}
use Rattle.kt_solve.proofs.Marking.{true_not_false, and_left, and_right, and_false, mark_at-set_same, mark_at-set_other, reached_keeps}
use Rattle.kt_solve.proofs.Paths.{Misses_over, IsReached_over, along-push, transfer_within, after_same, CopyWithin}

outcome_misses : (p : Flow) (marks : List Mark) (has : ℕ → ℕ → Bool) (node q : ℕ) (t : Transfer) → IsWitnessed p marks has → node < p.nodes → q < p.pairs
    → is_reached (mark_at marks node) ≡ true → CopyWithin p.pairs t → outcome t (has node) q ≡ false
    → (front : List ℕ) × IsPath p (front ++ node ∷ []) × (outcome t (along p front nothing_set) q ≡ false)
outcome_misses p marks has node q Keep w hn hq m f e = w.unset node q hn hq e
outcome_misses p marks has node q Set w hn hq m f e = true_not_false true refl e
outcome_misses p marks has node q Clear w hn hq m f e = let r = w.path node m in (r.0, r.1, refl)
outcome_misses p marks has node q (CopyFrom s) w hn hq m f e = w.unset node s hn f e

-- a pair that is not set after a node has its path
pub after_misses : (p : Flow) (marks : List Mark) (has : ℕ → ℕ → Bool) (node q : ℕ) → IsWithin p → IsWitnessed p marks has → node < p.nodes → q < p.pairs
    → is_reached (mark_at marks node) ≡ true → after p node (has node) q ≡ false → MissesAfter p node q
after_misses p marks has node q i w hn hq m e =
    let r = outcome_misses p marks has node q (transfer_of p node q) w hn hq m (transfer_within p i node q) e in
    (r.0, r.1, ap (λ (s : ℕ → Bool). s q) (along-push p r.0 node nothing_set) ∙ r.2)

-- an edge of the problem by its number
pub edge_of_number : (p : Flow) (k : ℕ) → k < length p.edges → HasEdge p (edge_at p.edges k).from (edge_at p.edges k).to
edge_of_number p k h = (k, h, get_or_default p.edges k _ (record { from = 0; to = 0 }) h)

pub number_of_edge : (p : Flow) (a b : ℕ) → HasEdge p a b → (k : ℕ) × (k < length p.edges) × ((edge_at p.edges k).from ≡ a) × ((edge_at p.edges k).to ≡ b)
number_of_edge p a b e =
    let is : edge_at p.edges e.0 ≡ record { from = a; to = b } = get_or_default p.edges e.0 (record { from = 0; to = 0 }) (record { from = a; to = b }) e.1 ∙ e.2 in
    (e.0, e.1, ap (λ (x : Edge). x.from) is, ap (λ (x : Edge). x.to) is)

-- a state that goes over one edge
module _ (pairs : ℕ) (out : ℕ → Bool) (to : ℕ) (marks marks' : List Mark) (has has' : ℕ → ℕ → Bool) (changed : Bool)
    (s : Spreads pairs out to marks marks' has has' changed) (h : to < length marks) where
  when_changed : changed ≡ true → marks' ≡ set marks to Waiting
  when_changed t = rw t at s.marks_are

  when_same : changed ≡ false → marks' ≡ marks
  when_same f = rw f at s.marks_are

  pub spread_len : length marks' ≡ length marks
  spread_len = elim (cases_Bool changed) [
    | inl t ↦ rw (when_changed t) (length-set marks to Waiting)
    | inr f ↦ rw (when_same f) refl
  ]

  pub spread_reached : (k : ℕ) → is_reached (mark_at marks k) ≡ true → is_reached (mark_at marks' k) ≡ true
  spread_reached k e = elim (cases_Bool changed) [
    | inl t ↦ rw (when_changed t) (reached_keeps marks to k Waiting refl h e)
    | inr f ↦ rw (when_same f) e
  ]

  pub spread_back : (k : ℕ) → k ≢ to → mark_at marks' k ≡ mark_at marks k
  spread_back k ne = elim (cases_Bool changed) [
    | inl t ↦ rw (when_changed t) (mark_at-set_other marks to k Waiting ne)
    | inr f ↦ rw (when_same f) refl
  ]

  -- rows only lose pairs
  pub spread_fewer : (n q : ℕ) → q < pairs → has' n q ≡ true → has n q ≡ true
  spread_fewer n q l e = elim (cases_eq n to) [
    | inl is ↦ (let e1 : has' to q ≡ true = rw is at e in rw is (and_left (has to q) (out q) (sym (s.row q l) ∙ e1)))
    | inr other ↦ sym (s.others n q other l) ∙ e
  ]

  pub spread_taken : (state : ℕ → Bool) (b : ℕ) → HasTaken pairs marks has state b → HasTaken pairs marks' has' state b
  spread_taken state b t = record {
    reached = spread_reached b t.reached;
    row = λ q l e. t.row q l (spread_fewer b q l e);
  }

  -- the end of the edge has taken the state
  pub spread_takes : HasTaken pairs marks' has' out to
  spread_takes = record {
    reached = s.reached;
    row = λ q l e. and_right (has to q) (out q) (sym (s.row q l) ∙ e);
  }

  -- a node that counts as read afterwards was so before, with the row that it has
  pub spread_read : (k : ℕ) → is_read (mark_at marks' k) ≡ true → is_read (mark_at marks k) ≡ true
  spread_read k e = elim (cases_Bool changed) [
    | inl t ↦
        (let e1 : is_read (mark_at (set marks to Waiting) k) ≡ true = rw (when_changed t) at e in
        elim (cases_eq k to) [
          | inl is ↦ (let e2 : is_read (mark_at (set marks to Waiting) to) ≡ true = rw is at e1 in true_not_false _ e2 (ap is_read (mark_at-set_same marks to Waiting h)))
          | inr other ↦ ap is_read (sym (mark_at-set_other marks to k Waiting other)) ∙ e1
        ])
    | inr f ↦ rw (when_same f) at e
  ]

  pub spread_same : (k : ℕ) → is_read (mark_at marks' k) ≡ true → (q : ℕ) → q < pairs → has' k q ≡ has k q
  spread_same k e q l = elim (cases_eq k to) [
    | inl is ↦ elim (cases_Bool changed) [
      | inl t ↦
          (let e1 : is_read (mark_at (set marks to Waiting) k) ≡ true = rw (when_changed t) at e in
          let e2 : is_read (mark_at (set marks to Waiting) to) ≡ true = rw is at e1 in true_not_false _ e2 (ap is_read (mark_at-set_same marks to Waiting h)))
      | inr f ↦ rw is (s.same f q l)
    ]
    | inr other ↦ s.others k q other l
  ]

-- the marks keep their paths
pub witnessed_step : (p : Flow) (node to : ℕ) (out : ℕ → Bool) (marks marks' : List Mark) (has has' : ℕ → ℕ → Bool) (changed : Bool)
    → IsWitnessed p marks has → is_reached (mark_at marks node) ≡ true → to < p.nodes → HasEdge p node to
    → ((q : ℕ) → q < p.pairs → out q ≡ false → MissesAfter p node q)
    → Spreads p.pairs out to marks marks' has has' changed → IsWitnessed p marks' has'
witnessed_step p node to out marks marks' has has' changed w m h e out_misses s =
    let lm : to < length marks = omega (arith, w.marks_len, h) in
    record {
      marks_len = spread_len p.pairs out to marks marks' has has' changed s lm ∙ w.marks_len;
      path = λ n t. elim (cases_eq n to) [
        | inl is ↦ rw is (IsReached_over p node to (w.path node m) e)
        | inr other ↦ w.path n (ap is_reached (sym (spread_back p.pairs out to marks marks' has has' changed s lm n other)) ∙ t)
      ];
      unset = λ n q hn hq f. elim (cases_eq n to) [
        | inl is ↦ (let f2 : has' to q ≡ false = rw is at f in elim (and_false (has to q) (out q) (sym (s.row q hq) ∙ f2)) [
          | inl old ↦ rw is (w.unset to q h hq old)
          | inr new ↦ rw is (Misses_over p node to q (out_misses q hq new) e)
        ])
        | inr other ↦ w.unset n q hn hq (sym (s.others n q other hq) ∙ f)
      ];
      entry = spread_reached p.pairs out to marks marks' has has' changed s lm p.entry w.entry;
      entry_row = λ q hq. elim (cases_eq p.entry to) [
        | inl is ↦ rw is (s.row q hq ∙ ap (λ x. x && out q) (ap (λ n. has n q) (sym is) ∙ w.entry_row q hq))
        | inr other ↦ s.others p.entry q other hq ∙ w.entry_row q hq
      ];
    }

-- as the edges of a node begin to be read
pub visit_begins : (p : Flow) (node link : ℕ) (out : ℕ → Bool) (marks : List Mark) (has : ℕ → ℕ → Bool) → IsSearch p marks has → node < p.nodes
    → is_reached (mark_at marks node) ≡ true → IsLink p.edges (length p.edges) node link → IsVisit p node (has node) out link (set marks node Read) has
visit_begins p node link out marks has s h m lk =
    let lm : node < length marks = omega (arith, s.witnessed.marks_len, h) in
    record {
      witnessed = record {
        marks_len = length-set marks node Read ∙ s.witnessed.marks_len;
        path = λ n t. elim (cases_eq n node) [
          | inl is ↦ rw is (s.witnessed.path node m)
          | inr other ↦ s.witnessed.path n (ap is_reached (sym (mark_at-set_other marks node n Read other)) ∙ t)
        ];
        unset = s.witnessed.unset;
        entry = reached_keeps marks node p.entry Read refl lm s.witnessed.entry;
        entry_row = s.witnessed.entry_row;
      };
      others = λ a b ne e r.
          (let t = s.settled a b e (ap is_read (sym (mark_at-set_other marks node a Read ne)) ∙ r) in
          record { reached = reached_keeps marks node b Read refl lm t.reached; row = t.row });
      taken = λ k l1 l2 f. absurd (lk.gap k l1 l2 f);
      kept = λ _ q l. refl;
      source = ap is_reached (mark_at-set_same marks node Read lm);
    }

-- the ends of an edge of the problem by its number
pub edge_within : (p : Flow) (k : ℕ) → IsWithin p → k < length p.edges → (edge_at p.edges k).to < p.nodes
edge_within p k i h = (i.edges k (record { from = 0; to = 0 }) h).to

visit_step : (p : Flow) (node : ℕ) (row out : ℕ → Bool) (link before : ℕ) (marks marks' : List Mark) (has has' : ℕ → ℕ → Bool) (changed : Bool)
    → IsWithin p → IsVisit p node row out link marks has → 0 < link → link ≤ length p.edges → (edge_at p.edges (link - 1)).from ≡ node → IsLink p.edges (link - 1) node before
    → ((q : ℕ) → q < p.pairs → out q ≡ false → MissesAfter p node q)
    → Spreads p.pairs out (edge_at p.edges (link - 1)).to marks marks' has has' changed → IsVisit p node row out before marks' has'
visit_step p node row out link before marks marks' has has' changed i v h0 h1 from lk out_misses s =
    let to : ℕ = (edge_at p.edges (link - 1)).to in
    let ht : (edge_at p.edges (link - 1)).to < p.nodes = edge_within p (link - 1) i (omega arith) in
    let lm : (edge_at p.edges (link - 1)).to < length marks = omega (arith, v.witnessed.marks_len, ht) in
    let e : HasEdge p node (edge_at p.edges (link - 1)).to = rw from at (edge_of_number p (link - 1) (omega arith)) in
    record {
      witnessed = witnessed_step p node to out marks marks' has has' changed v.witnessed v.source ht e out_misses s;
      others = λ a b ne ed r.
          (let t = v.others a b ne ed (spread_read p.pairs out to marks marks' has has' changed s lm a r) in
          let t2 = spread_taken p.pairs out to marks marks' has has' changed s lm (after p a (has a)) b t in
          record {
            reached = t2.reached;
            row = λ q l x. after_same p i a (has' a) (has a) q l (spread_same p.pairs out to marks marks' has has' changed s lm a r) ∙ t2.row q l x;
          });
      taken = λ k l1 l2 f. elim (cases_lt k (link - 1)) [
        | inl less ↦ absurd (lk.gap k l1 less f)
        | inr more ↦ elim (cases_eq k (link - 1)) [
          | inl is ↦ rw is (spread_takes p.pairs out to marks marks' has has' changed s lm)
          | inr other ↦ spread_taken p.pairs out to marks marks' has has' changed s lm out (edge_at p.edges k).to (v.taken k (omega (arith, more, other)) l2 f)
        ]
      ];
      kept = λ r q l. spread_same p.pairs out to marks marks' has has' changed s lm node r q l ∙ v.kept (spread_read p.pairs out to marks marks' has has' changed s lm node r) q l;
      source = spread_reached p.pairs out to marks marks' has has' changed s lm node v.source;
    }

-- one more edge of the node has been read
pub visit_reads : (p : Flow) (node : ℕ) (row out : ℕ → Bool) (link : ℕ) (edge : Edge) (before : ℕ) (marks marks' : List Mark) (has has' : ℕ → ℕ → Bool) (changed : Bool)
    → IsWithin p → IsVisit p node row out link marks has → 0 < link → link ≤ length p.edges → (edge_at p.edges (link - 1)).from ≡ node
    → edge ≡ edge_at p.edges (link - 1) → IsLink p.edges (link - 1) edge.from before
    → ((q : ℕ) → q < p.pairs → out q ≡ false → MissesAfter p node q)
    → Spreads p.pairs out edge.to marks marks' has has' changed → IsVisit p node row out before marks' has'
visit_reads p node row out link edge before marks marks' has has' changed i v h0 h1 from is lk out_misses s =
    let f : edge.from ≡ node = ap (λ (x : Edge). x.from) is ∙ from in
    visit_step p node row out link before marks marks' has has' changed i v h0 h1 from (subst (λ n. IsLink p.edges (link - 1) n before) f lk) out_misses
    (subst (λ n. Spreads p.pairs out n marks marks' has has' changed) (ap (λ (x : Edge). x.to) is) s)

-- the next link of the node
pub next_link : (p : Flow) (node link : ℕ) (edge : Edge) (before : ℕ) → link ≤ length p.edges → (edge_at p.edges (link - 1)).from ≡ node → edge ≡ edge_at p.edges (link - 1)
    → IsLink p.edges (link - 1) edge.from before → (before ≤ length p.edges) × (before < link ⊎ (link ≡ 0)) × (0 < before → (edge_at p.edges (before - 1)).from ≡ node)
next_link p node link edge before h from is lk =
    (omega (arith, lk.within), elim (cases_eq link 0) [ inl z ↦ inr z | inr n ↦ inl (omega (arith, lk.within, n)) ], λ s. lk.lands s ∙ ap (λ (x : Edge). x.from) is ∙ from)

-- when all its edges have been read
pub visit_ends : (p : Flow) (node : ℕ) (row out : ℕ → Bool) (marks : List Mark) (has : ℕ → ℕ → Bool) → IsWithin p → IsVisit p node row out 0 marks has → IsAfter p node row out → IsSearch p marks has
visit_ends p node row out marks has i v f = record {
  witnessed = v.witnessed;
  settled = λ a b e r. elim (cases_eq a node) [
    | inl is ↦
        (let e2 : HasEdge p node b = rw is at e in
        let r2 : is_read (mark_at marks node) ≡ true = rw is at r in
        let k = number_of_edge p node b e2 in
        let t0 = v.taken k.0 (omega arith) k.1 k.2 in
        let t : HasTaken p.pairs marks has out b = rw k.3 at t0 in
        rw is (record {
          reached = t.reached;
          row = λ q l x. after_same p i node (has node) row q l (v.kept r2) ∙ sym (f q l) ∙ t.row q l x;
        }))
    | inr other ↦ v.others a b other e r
  ];
}

-- nothing waits where no node of a listing waits
pub done_all : (p : Flow) (order : List ℕ) (marks : List Mark) → IsListing p.nodes order → length marks ≡ p.nodes
    → ((k : ℕ) → k < length order → is_waiting (mark_at marks (get_or order k 0)) ≡ false) → IsDone marks
done_all p order marks o l d n = elim (cases_lt n p.nodes) [
  | inl within ↦
      (let k = o.listed n within in
      let is : get_or order k.0 0 ≡ n = get_or_default order k.0 0 n k.1 ∙ k.2 in
      ap (λ x. is_waiting (mark_at marks x)) (sym is) ∙ d k.0 k.1)
  | inr past ↦ ap is_waiting (get_or_past marks n Unreached (omega (arith, l, past)))
]

-- the row of a node lies in the words
pub row_fits : (node nodes width len : ℕ) → node < nodes → nodes * width ≤ len → node * width + width ≤ len
row_fits node nodes width len h l = let m = mul-le (node + 1) width nodes width (omega arith) (omega arith) in omega (arith, m, l)

-- no node of the order so far waits
pub done_read : (order : List ℕ) (marks : List Mark) (i : ℕ) → get_or order i 0 < length marks → ((k : ℕ) → k < i → is_waiting (mark_at marks (get_or order k 0)) ≡ false)
    → (k : ℕ) → k < i + 1 → is_waiting (mark_at (set marks (get_or order i 0) Read) (get_or order k 0)) ≡ false
done_read order marks i h b = below_more (λ k. is_waiting (mark_at (set marks (get_or order i 0) Read) (get_or order k 0)) ≡ false) i
    (λ k l. elim (cases_eq (get_or order k 0) (get_or order i 0)) [
      | inl is ↦ rw is (ap is_waiting (mark_at-set_same marks (get_or order i 0) Read h))
      | inr other ↦ ap is_waiting (mark_at-set_other marks (get_or order i 0) (get_or order k 0) Read other) ∙ b k l
    ])
    (ap is_waiting (mark_at-set_same marks (get_or order i 0) Read h))
