use Rattle.std.proofs.Common.{◌≡◌, ℕ, zero, suc, ◌<◌, ◌≤◌, Bool, true, false, List, [], ◌∷◌, ◌++◌, length, arith, refl, ap, sym, ◌∙◌, inl, inr}
use Rattle.std.proofs.lemmas.Bool.{cases_lt}
use Rattle.std.proofs.lemmas.List.{get_or_past}
use Rattle.kt_solve.specs.declared.effect.Transfer.{Transfer}
use Rattle.kt_solve.specs.declared.effect.Transfer.TheVariants.{Keep, Set, Clear, CopyFrom}
use Rattle.kt_solve.specs.declared.mark.Mark.{Mark}
use Rattle.kt_solve.specs.declared.mark.Mark.TheVariants.{Unreached}
use Rattle.kt_solve.specs.Flow.{Flow, HasEdge, Follow, IsPath, IsReached, Holds, along, after, nothing_set, outcome, transfer_of, IsWithin}
use Rattle.kt_solve.specs.Marks.{is_reached, mark_at}
use Rattle.kt_solve.specs.Orders.{CanLose, CopiesNothing, IsLoop, HasLoops}
use Rattle.kt_solve.specs.Search.{Misses, MissesAfter, IsAfter}
use Rattle.kt_solve.specs.Sweeps.{IsSweep, IsSettledBelow}
use Rattle.kt_solve.proofs.Marking.{true_not_false}
use Rattle.kt_solve.proofs.Paths.{along-push, after_mono, edge_ends, Misses_over, IsReached_over, transfer_within, CopyWithin}
use Rattle.kt_solve.proofs.Solved.{Answers}

marked_within : (p : Flow) (marks : List Mark) → length marks ≡ p.nodes → (x : ℕ) → is_reached (mark_at marks x) ≡ true → x < p.nodes
marked_within p marks l x m = elim (cases_lt x (length marks)) [
  | inl small ↦ omega (arith, l, small)
  | inr large ↦ true_not_false _ m (ap is_reached (get_or_past marks x Unreached large))
]

keep_not_clear : (t : Transfer) → t ≡ Keep → t ≡ Clear → ⊥
keep_not_clear t a b = cc

-- a transfer that can't lose its pair keeps it set
kept_step : (t : Transfer) (f : ℕ → Bool) (q : ℕ) → (CanLose t → ⊥) → f q ≡ true → outcome t f q ≡ true
kept_step Keep f q n e = e
kept_step Set f q n e = refl
kept_step Clear f q n e = absurd (n tt)
kept_step (CopyFrom r) f q n e = absurd (n tt)

-- One sweep in an order that has its loops: every node's edges onwards are settled, and each mark and missing pair comes
-- over one of them.
module _ (p : Flow) (place : ℕ → ℕ) (done : ℕ) (marks : List Mark) (has : ℕ → ℕ → Bool) (w : IsWithin p) (s : IsSweep p place done marks has) (d : IsSettledBelow p place done marks has)
    (all : (x : ℕ) → x < p.nodes → place x < done) (apart : (x y : ℕ) → x < p.nodes → y < p.nodes → place x ≡ place y → x ≡ y) (first : place p.entry ≡ 0) (loops : HasLoops p place) where
  -- from a reached node of a loop down to its head
  head_reached : (u v : ℕ) → v < p.nodes → IsLoop p place u v → (k x : ℕ) → place x ≤ k → place v ≤ place x → place x ≤ place u → is_reached (mark_at marks x) ≡ true → is_reached (mark_at marks v) ≡ true
  head_reached u v hv l zero x hk h1 h2 m =
      let e : x ≡ v = apart x v (marked_within p marks s.marks_len x m) hv (omega arith) in rw e at m
  head_reached u v hv l (suc k) x hk h1 h2 m = elim (cases_lt (place v) (place x)) [
    | inr same ↦ (let e : x ≡ v = apart x v (marked_within p marks s.marks_len x m) hv (omega (arith, same, h1)) in rw e at m)
    | inl more ↦ elim (s.reach x m) [
      | inl is ↦ (let e : place x ≡ 0 = ap place is ∙ first in absurd (omega (arith, e, more)))
      | inr r ↦ elim (cases_lt (place r.0) (place v)) [
        | inl before ↦ absurd (l.entered r.0 x r.1.0 before more h2)
        | inr inside ↦ head_reached u v hv l k r.0 (omega (arith, r.1.1, hk)) inside (omega (arith, r.1.1, h2)) r.1.3
      ]
    ]
  ]

  -- what the head keeps and has, each node of the loop has
  loop_row : (u v q : ℕ) → v < p.nodes → q < p.pairs → IsLoop p place u v → transfer_of p v q ≡ Keep → has v q ≡ true
      → (k x : ℕ) → x < p.nodes → place x ≤ k → place v ≤ place x → place x ≤ place u → (b : Bool) → has x q ≡ b → b ≡ true
  loop_row u v q hv hq l t e k x hx hk h1 h2 true f = refl
  loop_row u v q hv hq l t e zero x hx hk h1 h2 false f =
      let same : x ≡ v = apart x v hx hv (omega arith) in
      true_not_false (has v q) e (rw same at f)
  loop_row u v q hv hq l t e (suc k) x hx hk h1 h2 false f = elim (cases_lt (place v) (place x)) [
    | inr low ↦ (let same : x ≡ v = apart x v hx hv (omega (arith, low, h1)) in true_not_false (has v q) e (rw same at f))
    | inl more ↦ elim (s.unset x q hx hq f) [
      | inl is ↦ (let e0 : place x ≡ 0 = ap place is ∙ first in absurd (omega (arith, e0, more)))
      | inr r ↦ elim (cases_lt (place r.0) (place v)) [
        | inl before ↦ absurd (l.entered r.0 x r.1.0 before more h2)
        | inr inside ↦
            (let ha : r.0 < p.nodes = (edge_ends p r.0 x w r.1.0).from in
            let up : place r.0 ≤ place u = omega (arith, r.1.1, h2) in
            let had : has r.0 q ≡ true = loop_row u v q hv hq l t e k r.0 ha (omega (arith, r.1.1, hk)) inside up (has r.0 q) refl in
            let keeps : CanLose (transfer_of p r.0 q) → ⊥ = λ c. keep_not_clear (transfer_of p v q) t (l.cleared r.0 q ha hq inside up c) in
            true_not_false (after p r.0 (has r.0) q) (kept_step (transfer_of p r.0 q) (has r.0) q keeps had) r.2)
      ]
    ]
  ]

  -- after a node: it is reached, and what its row after the effects has is set
  record IsSoundAfter (n : ℕ) (state : ℕ → Bool) : Type 0 where
    pub reached : is_reached (mark_at marks n) ≡ true
    pub row : (q : ℕ) → q < p.pairs → after p n (has n) q ≡ true → state q ≡ true

  onwards : (a b : ℕ) (state : ℕ → Bool) → HasEdge p a b → place a < place b → IsSoundAfter a state → IsSoundAfter b (after p b state)
  onwards a b state e h i =
      let t = d.settled a b e (all a (edge_ends p a b w e).from) h i.reached in
      record {
        reached = t.reached;
        row = λ q hq f. after_mono p w b (has b) state q hq (λ r hr g. i.row r hr (t.row r hr g)) f;
      }

  back_bit : (a b q : ℕ) (state : ℕ → Bool) → HasEdge p a b → place b ≤ place a → IsSoundAfter a state → q < p.pairs
      → (t : Transfer) → transfer_of p b q ≡ t → CopiesNothing t → outcome t (has b) q ≡ true → outcome t state q ≡ true
  back_bit a b q state e h i hq Keep t c f =
      let ends = edge_ends p a b w e in
      let l = loops a b e h in
      let had : has a q ≡ true = loop_row a b q ends.to hq l t f (place a) a ends.from (omega arith) h (omega arith) (has a q) refl in
      let keeps : CanLose (transfer_of p a q) → ⊥ = λ x. keep_not_clear (transfer_of p b q) t (l.cleared a q ends.from hq h (omega arith) x) in
      i.row q hq (kept_step (transfer_of p a q) (has a) q keeps had)
  back_bit a b q state e h i hq Set t c f = refl
  back_bit a b q state e h i hq Clear t c f = f
  back_bit a b q state e h i hq (CopyFrom r) t c f = absurd c

  back : (a b : ℕ) (state : ℕ → Bool) → HasEdge p a b → place b ≤ place a → IsSoundAfter a state → IsSoundAfter b (after p b state)
  back a b state e h i =
      let ends = edge_ends p a b w e in
      let l = loops a b e h in
      record {
        reached = head_reached a b ends.to l (place a) a (omega arith) h (omega arith) i.reached;
        row = λ q hq f. back_bit a b q state e h i hq (transfer_of p b q) refl (l.no_copy q hq) f;
      }

  over : (a b : ℕ) (state : ℕ → Bool) → HasEdge p a b → IsSoundAfter a state → IsSoundAfter b (after p b state)
  over a b state e i = elim (cases_lt (place a) (place b)) [
    | inl on ↦ onwards a b state e on i
    | inr down ↦ back a b state e down i
  ]

  walk_after : (xs : List ℕ) (a n : ℕ) (state : ℕ → Bool) → IsSoundAfter a state → Follow p a (xs ++ n ∷ []) → IsSoundAfter n (along p (xs ++ n ∷ []) state)
  walk_after [] a n state i f = over a n state f.0 i
  walk_after (b ∷ ys) a n state i f = walk_after ys b n (after p b state) (over a b state f.0 i) f.1

  start_after : IsSoundAfter p.entry (after p p.entry nothing_set)
  start_after = record {
    reached = s.entry;
    row = λ q hq f. after_mono p w p.entry (has p.entry) nothing_set q hq (λ r hr g. true_not_false (has p.entry r) g (s.entry_row r hr)) f;
  }

  path_after : (front : List ℕ) (n : ℕ) → IsPath p (front ++ n ∷ []) → IsSoundAfter n (along p (front ++ n ∷ []) nothing_set)
  path_after [] n h = rw h.0 start_after
  path_after (a ∷ xs) n h =
      let i : IsSoundAfter a (after p a nothing_set) = rw h.0 start_after in
      walk_after xs a n (after p a nothing_set) i h.1

  -- each mark has its path, by the places
  mark_path : (k x : ℕ) → place x ≤ k → is_reached (mark_at marks x) ≡ true → IsReached p x
  mark_path zero x h m = elim (s.reach x m) [
    | inl is ↦ rw is ([], (refl, tt))
    | inr r ↦ absurd (omega (arith, r.1.1, h))
  ]
  mark_path (suc k) x h m = elim (s.reach x m) [
    | inl is ↦ rw is ([], (refl, tt))
    | inr r ↦ IsReached_over p r.0 x (mark_path k r.0 (omega (arith, r.1.1, h)) r.1.3) r.1.0
  ]

  miss_after : (n q : ℕ) (t : Transfer) → ((r : ℕ) → r < p.pairs → has n r ≡ false → Misses p n r) → q < p.pairs → is_reached (mark_at marks n) ≡ true → CopyWithin p.pairs t
      → outcome t (has n) q ≡ false → (front : List ℕ) × IsPath p (front ++ n ∷ []) × (outcome t (along p front nothing_set) q ≡ false)
  miss_after n q Keep u hq m f e = u q hq e
  miss_after n q Set u hq m f e = true_not_false true refl e
  miss_after n q Clear u hq m f e = let r = mark_path (place n) n (omega arith) m in (r.0, r.1, refl)
  miss_after n q (CopyFrom r) u hq m f e = u r f e

  miss_over : (n q : ℕ) → ((r : ℕ) → r < p.pairs → has n r ≡ false → Misses p n r) → q < p.pairs → is_reached (mark_at marks n) ≡ true
      → after p n (has n) q ≡ false → MissesAfter p n q
  miss_over n q u hq m e =
      let r = miss_after n q (transfer_of p n q) u hq m (transfer_within p w n q) e in
      (r.0, r.1, ap (λ (g : ℕ → Bool). g q) (along-push p r.0 n nothing_set) ∙ r.2)

  entry_misses : (x q : ℕ) → x ≡ p.entry → Misses p x q
  entry_misses x q is = rw is ([], (refl, tt), refl)

  unset_path : (k x q : ℕ) → place x ≤ k → x < p.nodes → q < p.pairs → has x q ≡ false → Misses p x q
  unset_path zero x q h hx hq f = elim (s.unset x q hx hq f) [
    | inl is ↦ entry_misses x q is
    | inr r ↦ absurd (omega (arith, r.1.1, h))
  ]
  unset_path (suc k) x q h hx hq f = elim (s.unset x q hx hq f) [
    | inl is ↦ entry_misses x q is
    | inr r ↦ Misses_over p r.0 x q
        (miss_over r.0 q (λ y hy g. unset_path k r.0 y (omega (arith, r.1.1, h)) (edge_ends p r.0 x w r.1.0).from hy g) hq r.1.3 r.2) r.1.0
  ]

  module _ (has' : ℕ → ℕ → Bool) (f : (n : ℕ) → n < p.nodes → IsAfter p n (has n) (has' n)) where
    once_from : (n q : ℕ) → n < p.nodes → q < p.pairs → Holds p n q → (b : Bool) → has' n q ≡ b → b ≡ true
    once_from n q hn hq h true e = refl
    once_from n q hn hq h false e =
        let i = path_after h.0.0 n h.0.1 in
        let m = miss_over n q (λ y hy g. unset_path (place n) n y (omega arith) hn hy g) hq i.reached (sym (f n hn q hq) ∙ e) in
        true_not_false (along p (m.0 ++ n ∷ []) nothing_set q) (h.1 m.0 m.1) m.2

    -- the answer of the one sweep
    pub once_searched : Answers p marks has'
    once_searched = record {
      marks_len = s.marks_len;
      reached_to = λ n h t. mark_path (place n) n (omega arith) t;
      reached_from = λ n h r. (path_after r.0 n r.1).reached;
      holds_to = λ n q hn hq m e. (mark_path (place n) n (omega arith) m, λ front path. (path_after front n path).row q hq (sym (f n hn q hq) ∙ e));
      holds_from = λ n q hn hq h. once_from n q hn hq h (has' n q) refl;
    }
