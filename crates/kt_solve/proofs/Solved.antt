use Rattle.std.proofs.Common.{◌≡◌, ℕ, ◌<◌, Bool, true, false, List, [], ◌∷◌, ◌++◌, length, arith, refl, ap, sym, ◌∙◌}
use Rattle.std.proofs.lemmas.List.{length-map}
use Rattle.kt_solve.specs.declared.mark.Mark.{Mark}
use Rattle.kt_solve.specs.Flow.{Flow, Follow, IsPath, IsReached, Holds, along, after, nothing_set, IsWithin}
use Rattle.kt_solve.specs.Marks.{is_reached, mark_at}
use Rattle.kt_solve.specs.Search.{IsSearch, IsDone, IsAfter}
use Rattle.kt_solve.specs.Table.{Solves, table_of, reached_at, set_at}
use Rattle.kt_solve.specs.Words.{row_bit}
use Rattle.kt_solve.proofs.Marking.{true_not_false, read_from, and_left, and_right, and_true}
use Rattle.kt_solve.proofs.Paths.{along-push, after_mono}
use Rattle.kt_solve.proofs.Told.{reached_at-table_of, set_at-table_of}
use Rattle.kt_solve.proofs.Visiting.{after_misses}

-- What marks and rows say of the end of a walk: it is reached, and what its row has is set in the state.
pub record IsSound (pairs : ℕ) (marks : List Mark) (has : ℕ → ℕ → Bool) (n : ℕ) (state : ℕ → Bool) : Type 0 where
  pub reached : is_reached (mark_at marks n) ≡ true
  pub row : (q : ℕ) → q < pairs → has n q ≡ true → state q ≡ true

-- rows and marks that answer for every path
pub record Answers (p : Flow) (marks : List Mark) (has' : ℕ → ℕ → Bool) : Type 0 where
  pub marks_len : length marks ≡ p.nodes
  pub reached_to : (n : ℕ) → n < p.nodes → is_reached (mark_at marks n) ≡ true → IsReached p n
  pub reached_from : (n : ℕ) → n < p.nodes → IsReached p n → is_reached (mark_at marks n) ≡ true
  pub holds_to : (n q : ℕ) → n < p.nodes → q < p.pairs → is_reached (mark_at marks n) ≡ true → has' n q ≡ true → Holds p n q
  pub holds_from : (n q : ℕ) → n < p.nodes → q < p.pairs → Holds p n q → has' n q ≡ true

-- as lists
pub told : (p : Flow) (width : ℕ) (marks : List Mark) (words : List ℕ) → Answers p marks (row_bit words width) → Solves p (table_of p.pairs width marks words)
told p width marks words a =
    let is : (n : ℕ) → n < p.nodes → reached_at (table_of p.pairs width marks words) n ≡ is_reached (mark_at marks n) =
    λ n h. reached_at-table_of p.pairs width marks words n (omega (arith, a.marks_len, h)) in
    let has : (n q : ℕ) → n < p.nodes → q < p.pairs → set_at (table_of p.pairs width marks words) n q ≡ row_bit words width n q =
    λ n q h l. set_at-table_of p.pairs width marks words n q (omega (arith, a.marks_len, h)) l in
    record {
      nodes = length-map marks is_reached ∙ a.marks_len;
      pairs = refl;
      reached = λ n h. (λ t. a.reached_to n h (sym (is n h) ∙ t), λ r. is n h ∙ a.reached_from n h r);
      holds = λ n q h l. (
        λ t.
            let t1 = and_left (reached_at (table_of p.pairs width marks words) n) (set_at (table_of p.pairs width marks words) n q) t in
            let t2 = and_right (reached_at (table_of p.pairs width marks words) n) (set_at (table_of p.pairs width marks words) n q) t in
            a.holds_to n q h l (sym (is n h) ∙ t1) (sym (has n q h l) ∙ t2),
        λ k. and_true (reached_at (table_of p.pairs width marks words) n) (set_at (table_of p.pairs width marks words) n q) (is n h ∙ a.reached_from n h k.0) (has n q h l ∙ a.holds_from n q h l k),
      );
    }

module _ (p : Flow) (marks : List Mark) (has : ℕ → ℕ → Bool) (i : IsWithin p) (k : IsSearch p marks has) (d : IsDone marks) where
  start_sound : IsSound p.pairs marks has p.entry nothing_set
  start_sound = record {
    reached = k.witnessed.entry;
    row = λ q l e. true_not_false (has p.entry q) e (k.witnessed.entry_row q l);
  }

  over_edge : (a b : ℕ) (s : ℕ → Bool) → IsSound p.pairs marks has a s → Follow p a (b ∷ []) → IsSound p.pairs marks has b (after p a s)
  over_edge a b s w f =
      let t = k.settled a b f.0 (read_from (mark_at marks a) w.reached (d a)) in
      record { reached = t.reached; row = λ q l e. after_mono p i a (has a) s q l w.row (t.row q l e) }

  -- along a walk from a to n
  walk_sound : (xs : List ℕ) (a n : ℕ) (s : ℕ → Bool) → IsSound p.pairs marks has a s → Follow p a (xs ++ n ∷ []) → IsSound p.pairs marks has n (along p xs (after p a s))
  walk_sound [] a n s w f = over_edge a n s w f
  walk_sound (b ∷ ys) a n s w f = walk_sound ys b n (after p a s) (over_edge a b s w (f.0, tt)) f.1

  path_sound : (front : List ℕ) (n : ℕ) → IsPath p (front ++ n ∷ []) → IsSound p.pairs marks has n (along p front nothing_set)
  path_sound [] n h = rw h.0 start_sound
  path_sound (a ∷ xs) n h =
      let w : IsSound p.pairs marks has a nothing_set = rw h.0 start_sound in
      walk_sound xs a n nothing_set w h.1

  module _ (has' : ℕ → ℕ → Bool) (f : (n : ℕ) → n < p.nodes → IsAfter p n (has n) (has' n)) where
    holds_from_false : (n q : ℕ) → n < p.nodes → q < p.pairs → Holds p n q → (b : Bool) → has' n q ≡ b → b ≡ true
    holds_from_false n q hn hq h true e = refl
    holds_from_false n q hn hq h false e =
        let w = path_sound h.0.0 n h.0.1 in
        let m = after_misses p marks has n q i k.witnessed hn hq w.reached (sym (f n hn q hq) ∙ e) in
        true_not_false (along p (m.0 ++ n ∷ []) nothing_set q) (h.1 m.0 m.1) m.2

    -- the answer of the search
    pub searched : Answers p marks has'
    searched = record {
      marks_len = k.witnessed.marks_len;
      reached_to = λ n h t. k.witnessed.path n t;
      reached_from = λ n h r. (path_sound r.0 n r.1).reached;
      holds_to = λ n q hn hq m e. (
        k.witnessed.path n m,
        λ front path.
            let w = path_sound front n path in
            ap (λ (g : ℕ → Bool). g q) (along-push p front n nothing_set)
            ∙ after_mono p i n (has n) (along p front nothing_set) q hq w.row (sym (f n hn q hq) ∙ e),
      );
      holds_from = λ n q hn hq h. holds_from_false n q hn hq h (has' n q) refl;
    }
