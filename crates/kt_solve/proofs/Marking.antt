use Rattle.std.proofs.Common.{◌≡◌, ◌≢◌, ℕ, ◌<◌, ◌≤◌, Bool, true, false, not, ◌&&◌, cond, ◌⊎◌, List, length, set, arith, refl, ap, ◌∙◌, inl, inr}
use Rattle.std.specs.List.{sum}
use Rattle.std.proofs.lemmas.Bool.{cases_eq}
use Rattle.std.proofs.lemmas.List.{get_or-set_same, get_or-set_other}
use Rattle.std.proofs.lemmas.List.Sums.{sum_by-set}
use Rattle.kt_solve.specs.declared.mark.Mark.{Mark}
use Rattle.kt_solve.specs.declared.mark.Mark.TheVariants.{Unreached, Waiting, Read}
use Rattle.kt_solve.specs.Marks.{is_reached, is_waiting, is_read, mark_at, weight}
use Rattle.kt_solve.specs.Search.{Advances}

pub true_not_false : {P : Type 0} (b : Bool) → b ≡ true → b ≡ false → P
true_not_false b t f = absurd (cc)

pub and_left : (x y : Bool) → (x && y) ≡ true → x ≡ true
and_left true y e = refl
and_left false y e = e

pub and_right : (x y : Bool) → (x && y) ≡ true → y ≡ true
and_right true y e = e
and_right false y e = true_not_false false e refl

pub and_false : (x y : Bool) → (x && y) ≡ false → (x ≡ false) ⊎ (y ≡ false)
and_false true y e = inr e
and_false false y e = inl refl

pub and_true : (x y : Bool) → x ≡ true → y ≡ true → (x && y) ≡ true
and_true true y a b = b
and_true false y a b = a

-- a reached node that doesn't wait has been read
pub read_from : (m : Mark) → is_reached m ≡ true → is_waiting m ≡ false → is_read m ≡ true
read_from Unreached r w = true_not_false false r refl
read_from Waiting r w = true_not_false true refl w
read_from Read r w = refl

pub waiting_reached : (m : Mark) → is_waiting m ≡ true → is_reached m ≡ true
waiting_reached Unreached w = true_not_false false w refl
waiting_reached Waiting w = refl
waiting_reached Read w = refl

-- the mark that was written, and the others
pub mark_at-set_same : (marks : List Mark) (to : ℕ) (m : Mark) → to < length marks → mark_at (set marks to m) to ≡ m
mark_at-set_same marks to m h = get_or-set_same marks to m Unreached h

pub mark_at-set_other : (marks : List Mark) (to k : ℕ) (m : Mark) → k ≢ to → mark_at (set marks to m) k ≡ mark_at marks k
mark_at-set_other marks to k m ne = get_or-set_other marks to k m Unreached ne

-- no node stops being reached
pub reached_keeps : (marks : List Mark) (to k : ℕ) (m : Mark) → is_reached m ≡ true → to < length marks → is_reached (mark_at marks k) ≡ true → is_reached (mark_at (set marks to m) k) ≡ true
reached_keeps marks to k m r h e = elim (cases_eq k to) [
  | inl same ↦ rw same (ap is_reached (mark_at-set_same marks to m h) ∙ r)
  | inr other ↦ ap is_reached (mark_at-set_other marks to k m other) ∙ e
]

-- a node that was reached or waits now is what the mark counts
pub weight_reaches : (marks : List Mark) (words words' : List ℕ) (to : ℕ) → to < length marks → is_reached (mark_at marks to) ≡ false → sum words' ≤ sum words → weight (set marks to Waiting) words' < weight marks words
weight_reaches marks words words' to h e l =
    let s = sum_by-set (λ (m : Mark). cond (not (is_reached m)) 1 0) marks to Waiting Unreached h in
    let was : ◌≡◌ {A = ℕ} (cond (not (is_reached (mark_at marks to))) 1 0) 1 = ap (λ (b : Bool). cond (not b) 1 0) e in
    omega (arith, s, was, l)

pub weight_kept : (marks : List Mark) (words : List ℕ) (to : ℕ) (m : Mark) → to < length marks → is_reached (mark_at marks to) ≡ true → is_reached m ≡ true → weight (set marks to m) words ≡ weight marks words
weight_kept marks words to m h e r =
    let s = sum_by-set (λ (m : Mark). cond (not (is_reached m)) 1 0) marks to m Unreached h in
    let was : ◌≡◌ {A = ℕ} (cond (not (is_reached (mark_at marks to))) 1 0) 0 = ap (λ (b : Bool). cond (not b) 1 0) e in
    let now : ◌≡◌ {A = ℕ} (cond (not (is_reached m)) 1 0) 0 = ap (λ (b : Bool). cond (not b) 1 0) r in
    omega (arith, s, was, now)

pub weight_falls : (marks : List Mark) (words words' : List ℕ) (to : ℕ) → to < length marks → sum words' < sum words → weight (set marks to Waiting) words' < weight marks words
weight_falls marks words words' to h l =
    let s = sum_by-set (λ (m : Mark). cond (not (is_reached m)) 1 0) marks to Waiting Unreached h in
    omega (arith, s, l)

-- what a step that changed something, or nothing, makes of what was reached so far
pub progress_more : (ch : Bool) (m0 m1 m2 : List Mark) (w0 w1 w2 : List ℕ) → cond ch (weight m1 w1 < weight m0 w0) ((m1 ≡ m0) × (w1 ≡ w0)) → weight m2 w2 < weight m1 w1 → weight m2 w2 < weight m0 w0
progress_more true m0 m1 m2 w0 w1 w2 c h = omega (arith, c, h)
progress_more false m0 m1 m2 w0 w1 w2 c h = let e : weight m1 w1 ≡ weight m0 w0 = rw (c.0, c.1) refl in omega (arith, e, h)

pub progress_same : (ch : Bool) (m0 m1 m2 : List Mark) (w0 w1 w2 : List ℕ) → cond ch (weight m1 w1 < weight m0 w0) ((m1 ≡ m0) × (w1 ≡ w0)) → m2 ≡ m1 → w2 ≡ w1 → cond ch (weight m2 w2 < weight m0 w0) ((m2 ≡ m0) × (w2 ≡ w0))
progress_same ch m0 m1 m2 w0 w1 w2 c e f = rw (e, f) c

-- one step after another
pub advances_then : (ch : Bool) (m0 m1 m2 : List Mark) (w0 w1 w2 : List ℕ) → Advances ch m0 m1 w0 w1 → Advances true m1 m2 w1 w2 → Advances true m0 m2 w0 w2
advances_then true m0 m1 m2 w0 w1 w2 a b = omega (arith, a, b)
advances_then false m0 m1 m2 w0 w1 w2 a b = omega (arith, a, b)

pub advances_else : (ch : Bool) (m0 m1 m2 : List Mark) (w0 w1 w2 : List ℕ) → Advances ch m0 m1 w0 w1 → Advances false m1 m2 w1 w2 → Advances ch m0 m2 w0 w2
advances_else true m0 m1 m2 w0 w1 w2 a b = omega (arith, a, b)
advances_else false m0 m1 m2 w0 w1 w2 a b = omega (arith, a, b)

-- the first mark of a visit leaves the weight
pub progress_visit : (ch : Bool) (m0 m1 : List Mark) (w0 w1 : List ℕ) (node : ℕ) → node < length m0 → is_reached (mark_at m0 node) ≡ true
    → cond ch (weight m1 w1 < weight (set m0 node Read) w0) ((m1 ≡ set m0 node Read) × (w1 ≡ w0)) → Advances ch m0 m1 w0 w1
progress_visit true m0 m1 w0 w1 node h r c = let k = weight_kept m0 w0 node Read h r refl in omega (arith, c, k)
progress_visit false m0 m1 w0 w1 node h r c = let k = weight_kept m0 w0 node Read h r refl in let e : weight m1 w1 ≡ weight (set m0 node Read) w0 = rw (c.0, c.1) refl in e ∙ k
