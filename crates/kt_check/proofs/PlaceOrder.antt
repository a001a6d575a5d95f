-- The first of findings in order, and two findings of which none stands before the other.
use Rattle.std.proofs.Common.{◌≡◌, ◌≢◌, List, [], ◌∷◌, Contains, inl, inr, refl, sym, ap, subst, ◌∙◌, Ordering, Less, Equal, Greater}
use Rattle.std.specs.List.{AllByRecursion}
use Rattle.std.specs.List.Sorted.{IsStrictlySortedBy}
use Rattle.std.specs.Ordering.{ordering_reverse, is_eq}
use Rattle.std.proofs.lemmas.Cmp.{tied_itself}
use Rattle.kt_model.specs.Order.{by_place}
use Rattle.kt_model.specs.declared.finding.Finding.{Finding}
use Rattle.kt_model.proofs.FindingLemmas.{by_place_total, ties, same_is}
use Rattle.kt_model.proofs.ListLemmas.{Has, contains_has, has_first}

neither_greater : (r s : Ordering) → r ≡ ordering_reverse s → r ≢ Greater → s ≢ Greater → r ≡ Equal
neither_greater Equal s h f g = refl
neither_greater Greater s h f g = absurd (f refl)
neither_greater Less Less h f g = absurd (cc)
neither_greater Less Equal h f g = absurd (cc)
neither_greater Less Greater h f g = absurd (g refl)

-- Two findings of which none stands before the other are one.
pub both_first : (f g : Finding) → by_place f g ≢ Greater → by_place g f ≢ Greater → f ≡ g
both_first f g h k =
    same_is f g (ties f g ∙ ap is_eq (neither_greater (by_place f g) (by_place g f) (by_place_total.antisymm f g) h k))

-- A finding doesn't stand before itself.
pub not_before_itself : (f : Finding) → by_place f f ≢ Greater
not_before_itself f h = let e : by_place f f ≡ Equal = tied_itself by_place_total f in let e' : Equal ≡ Greater = sym e ∙ h in cc

-- what holds of all holds of each
each : {X : Type 0} (P : X → Type 0) (xs : List X) (x : X) → AllByRecursion P xs → Has xs x → P x
unfolding Has
each P [] x all h = absurd h
each P (y ∷ ys) x all (inl e) = subst P e all.0
each P (y ∷ ys) x all (inr h) = each P ys x all.1 h

-- None of findings in order stands before the first.
pub first_is_least : (f : Finding) (rest : List Finding) (g : Finding) → IsStrictlySortedBy by_place (f ∷ rest) → Contains (f ∷ rest) g → by_place f g ≢ Greater
unfolding IsStrictlySortedBy
first_is_least f rest g up there = elim (has_first f rest g (contains_has (f ∷ rest) g there)) [
  | inl e ↦ subst (λ (k : Finding). by_place f k ≢ Greater) e (not_before_itself f)
  | inr h ↦ λ greater. let less : by_place f g ≡ Less = each (λ (k : Finding). by_place f k ≡ Less) rest g up.0 h in let e : Less ≡ Greater = sym less ∙ greater in cc
]
