-- The locals of a call in a list of slots.
use Rattle.std.proofs.Common.{◌≡◌, ℕ, zero, suc, ◌<◌, Bool, true, false, nat_eq, if◌then◌else◌, List, [], ◌∷◌, ◌++◌, length, Option, Some, None, slice_get, slice_set, refl, sym, ap, ◌∙◌, arith, true≢false}
use Rattle.std.proofs.lemmas.Bool.{eqb-true, eq-eqb}
use Rattle.std.proofs.Math.Path.{fun_ext}
use Rattle.kt_mean.specs.declared.states.Value.{Value}
use Rattle.kt_mean.specs.Frames.{with_local}
use Rattle.kt_run.specs.Slots.{held}

abbrev pub flat : Option (Option Value) → Option Value
flat (Some o) = o
flat None = None

pub held_slice : (vs : List (Option Value)) (x : ℕ) → held vs x ≡ flat (slice_get vs x)
held_slice [] x = refl
held_slice (v ∷ vs) zero = refl
held_slice (v ∷ vs) (suc x) = held_slice vs x

push_at : (vs : List (Option Value)) (y : ℕ) → held (vs ++ None ∷ []) y ≡ held vs y
push_at [] zero = refl
push_at [] (suc y) = refl
push_at (v ∷ vs) zero = refl
push_at (v ∷ vs) (suc y) = push_at vs y

pub held_push : (vs : List (Option Value)) → held (vs ++ None ∷ []) ≡ held vs
held_push vs = fun_ext (push_at vs)

set_same : (vs : List (Option Value)) (x : ℕ) (o : Option Value) → x < length vs → held (slice_set vs x o) x ≡ o
set_same [] x o h = absurd (omega arith)
set_same (v ∷ vs) zero o h = refl
set_same (v ∷ vs) (suc x) o h = set_same vs x o (omega arith)

set_other : (vs : List (Option Value)) (x y : ℕ) (o : Option Value) → (y ≡ x → ⊥) → held (slice_set vs x o) y ≡ held vs y
set_other [] x y o h = refl
set_other (v ∷ vs) zero zero o h = absurd (h refl)
set_other (v ∷ vs) zero (suc y) o h = refl
set_other (v ∷ vs) (suc x) zero o h = refl
set_other (v ∷ vs) (suc x) (suc y) o h = set_other vs x y o (λ e. h (ap suc e))

set_at : (vs : List (Option Value)) (x : ℕ) (o : Option Value) → x < length vs → (y : ℕ) → held (slice_set vs x o) y ≡ with_local (held vs) x o y
set_at vs x o h y = by (nat_eq y x) refl
  where
    by : (b : Bool) → nat_eq y x ≡ b → held (slice_set vs x o) y ≡ (if b then o else held vs y)
    by true e = ap (λ z. held (slice_set vs x o) z) (eqb-true y x e) ∙ set_same vs x o h
    by false e = set_other vs x y o (λ i. true≢false (sym (eq-eqb y x i) ∙ e))

pub held_set : (vs : List (Option Value)) (x : ℕ) (o : Option Value) → x < length vs → held (slice_set vs x o) ≡ with_local (held vs) x o
held_set vs x o h = fun_ext (set_at vs x o h)

-- what stands in a slot
pub held_at : (vs : List (Option Value)) (x : ℕ) (o : Option (Option Value)) → o ≡ slice_get vs x → flat o ≡ held vs x
held_at vs x o e = ap flat e ∙ sym (held_slice vs x)
