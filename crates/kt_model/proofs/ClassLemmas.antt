-- `supers` has exactly what a class is under.
use Rattle.std.proofs.Common.{◌≡◌, ◌⊎◌, ◌≤◌, ◌==◌, ℕ, suc, zero, Bool, true, false, cond, List, [], ◌∷◌, length, Contains, inl, inr, refl, sym, subst, arith}
use Rattle.std.specs.List.{list_any}
use Rattle.kt_model.specs.Classes.{Classes, any, supers_of, Climbs, Sub, each_once, listed, climbed, supers, IsRanked, here, up}
use Rattle.kt_model.proofs.ListLemmas.{Has, contains_has, has_contains, has_left, has_right, has_either, has_flat, has_unflat, has_one, has_of_any}

pub has_once : (seen xs : List ℕ) (x : ℕ) → Has xs x → Has seen x ⊎ Has (each_once seen xs) x
unfolding Has
has_once seen [] x h = absurd h
has_once seen (y ∷ ys) x h =
    step (list_any (λ z. z == y) seen) refl (λ new r. has_once new ys x r) h
  where
    step : (b : Bool) → list_any (λ z. z == y) seen ≡ b → ((new : List ℕ) → Has ys x → Has new x ⊎ Has (each_once new ys) x) → Has (y ∷ ys) x → Has seen x ⊎ Has (cond b (each_once seen ys) (y ∷ each_once (y ∷ seen) ys)) x
    step true t tail (inl e) = inl (subst (λ z. Has seen z) e (has_of_any seen y t))
    step true t tail (inr r) = tail seen r
    step false t tail (inl e) = inr (inl e)
    step false t tail (inr r) =
        elim (tail (y ∷ seen) r) [ inl s ↦ (elim s [ inl e ↦ inr (inl e) | inr o ↦ inl o ]) | inr m ↦ inr (inr m) ]

pub has_of_once : (seen xs : List ℕ) (x : ℕ) → Has (each_once seen xs) x → Has xs x
unfolding Has
has_of_once seen [] x h = absurd h
has_of_once seen (y ∷ ys) x h = step (list_any (λ z. z == y) seen) (λ new r. has_of_once new ys x r) h
  where
    step : (b : Bool) → ((new : List ℕ) → Has (each_once new ys) x → Has ys x) → Has (cond b (each_once seen ys) (y ∷ each_once (y ∷ seen) ys)) x → Has (y ∷ ys) x
    step true tail r = inr (tail seen r)
    step false tail (inl e) = inl e
    step false tail (inr r) = inr (tail (y ∷ seen) r)

pub has_listed : (cs : List ℕ) (x : ℕ) → (x ≡ any) ⊎ Has cs x → Has (listed cs) x
unfolding Has listed
has_listed cs x (inl e) = has_right (each_once (any ∷ []) cs) (any ∷ []) x (inl (sym e))
has_listed cs x (inr h) =
    elim (has_once (any ∷ []) cs x h) [ inl s ↦ has_right (each_once (any ∷ []) cs) (any ∷ []) x s | inr m ↦ has_left (each_once (any ∷ []) cs) (any ∷ []) x m ]

pub has_of_listed : (cs : List ℕ) (x : ℕ) → Has (listed cs) x → (x ≡ any) ⊎ Has cs x
unfolding Has listed
has_of_listed cs x h =
    elim (has_either (each_once (any ∷ []) cs) (any ∷ []) x h) [ inl l ↦ inr (has_of_once (any ∷ []) cs x l) | inr r ↦ inl (sym (has_one any x r)) ]

pub climbs_of_climbed : (rows : Classes) (n c d : ℕ) → Has (climbed rows n c) d → Climbs rows c d
unfolding Has climbed
climbs_of_climbed rows zero c d (inl e) = subst (λ z. Climbs rows c z) e here
climbs_of_climbed rows zero c d (inr h) = absurd h
climbs_of_climbed rows (suc n) c d (inl e) = subst (λ z. Climbs rows c z) e here
climbs_of_climbed rows (suc n) c d (inr h) =
    let w = has_unflat (climbed rows n) (supers_of rows c) d h in
    up (has_contains _ w.0 w.1.0) (climbs_of_climbed rows n w.0 d w.1.1)

pub climbed_first : (rows : Classes) (n c : ℕ) → Has (climbed rows n c) c
unfolding Has climbed
climbed_first rows zero c = inl refl
climbed_first rows (suc n) c = inl refl

pub climbed_of_climbs : (rows : Classes) (r : IsRanked rows) {c d : ℕ} → (n : ℕ) → r.rank c ≤ n → Climbs rows c d → Has (climbed rows n c) d
unfolding Has climbed
climbed_of_climbs rows r n b here = climbed_first rows n _
climbed_of_climbs rows r {c} {d} zero b (up {s = s} h more) =
    let f = r.falls c s h in absurd (omega arith)
climbed_of_climbs rows r {c} {d} (suc n) b (up {s = s} h more) =
    let f = r.falls c s h in
    inr (has_flat (climbed rows n) (supers_of rows c) s d (contains_has _ s h) (climbed_of_climbs rows r n (omega arith) more))

pub sub_of_supers : (rows : Classes) (c d : ℕ) → Contains (supers rows c) d → Sub rows c d
sub_of_supers rows c d h =
    elim (has_of_listed _ d (contains_has _ d h)) [ inl e ↦ inl e | inr m ↦ inr (climbs_of_climbed rows (length rows) c d m) ]

pub supers_of_sub : (rows : Classes) → IsRanked rows → (c d : ℕ) → Sub rows c d → Contains (supers rows c) d
supers_of_sub rows r c d (inl e) = has_contains _ d (has_listed _ d (inl e))
supers_of_sub rows r c d (inr m) =
    let b = r.below c in has_contains _ d (has_listed _ d (inr (climbed_of_climbs rows r (length rows) (omega arith) m)))
