-- A class has nothing under a name that neither it nor a class above it declares.
use Rattle.std.proofs.Common.{◌≡◌, ◌==◌, ◌||◌, ℕ, Bool, true, false, cond, List, [], ◌∷◌, map, Option, Some, None, inl, inr, refl, sym, ap, ◌∙◌, find, option_and_then}
use Rattle.std.specs.List.{list_any, position, filter_map, cons_option}
use Rattle.std.proofs.lemmas.Bool.{eqb-true, false≢true}
use Rattle.std.proofs.lemmas.List.Quantifiers.{position-Some}
use Rattle.std.proofs.lemmas.List.Folds.{list_any_at}
use Rattle.kt_model.specs.declared.class_table.Member.{Member}
use Rattle.kt_model.specs.declared.class_table.MemberRow.{MemberRow}
use Rattle.kt_model.specs.Classes.{Outlines, written, supers, each_once}
use Rattle.kt_model.specs.Members.{members_of, place_of, own, candidates, candidate_in, is_hidden, member_of, implementation_of, names_above, settled_at, settled_of}
use Rattle.kt_model.proofs.ListLemmas.{Has, any_of_has, has_flat}
use Rattle.kt_model.proofs.ClassLemmas.{has_once, has_listed, climbed_first}

-- a class is among its `supers`
pub has_itself : (os : Outlines) (c : ℕ) → Has (supers (written os) c) c
has_itself os c = has_listed _ c (inr (climbed_first (written os) _ c))

-- the name is one of the members'
has_name : (ms : List MemberRow) (name : ℕ) → list_any (λ m. m.name == name) ms ≡ true → Has (map (λ m. m.name) ms) name
unfolding Has
has_name [] name h = absurd (false≢true h)
has_name (m ∷ ms) name h = step (m.name == name) refl (has_name ms name) h
  where
    step : (b : Bool) → (m.name == name) ≡ b → (list_any (λ m. m.name == name) ms ≡ true → Has (map (λ m. m.name) ms) name) → (b || list_any (λ m. m.name == name) ms) ≡ true → Has (map (λ m. m.name) (m ∷ ms)) name
    step true e rest g = inl (eqb-true m.name name e)
    step false e rest g = inr (rest g)

placed : (ms : List MemberRow) (name i : ℕ) → position (λ m. m.name == name) ms ≡ Some i → Has (map (λ m. m.name) ms) name
placed [] name i e = cc
placed (m ∷ ms) name i e =
    let at = position-Some (λ (m : MemberRow). m.name == name) (m ∷ ms) i m e in
    has_name (m ∷ ms) name (list_any_at (λ (m : MemberRow). m.name == name) (m ∷ ms) i m at.0 at.1)

-- what a class declares stands among the names of those above
module _ (os : Outlines) (c name : ℕ) (absent : Has (names_above os c) name → ⊥) where
  none_own : (d : ℕ) → Has (supers (written os) c) d → own os d name ≡ None
  unfolding names_above
  none_own d h = step (place_of os d name) refl
    where
      step : (o : Option ℕ) → place_of os d name ≡ o → own os d name ≡ None
      step None e = rw e refl
      step (Some i) e = absurd (absent (has_flat (λ d. map (λ m. m.name) (members_of os d)) (supers (written os) c) d name h (placed (members_of os d) name i e)))

  none_in : (ds : List ℕ) → ((d : ℕ) → Has ds d → Has (supers (written os) c) d) → filter_map (candidate_in os c name) ds ≡ []
  unfolding Has
  none_in [] within = refl
  none_in (d ∷ ds) within =
      rw (none_own d (within d (inl refl))) (step (d == c || is_hidden os c name d) (filter_map (candidate_in os c name) ds) (none_in ds (λ e h. within e (inr h))))
    where
      step : (b : Bool) (rest : List Member) → rest ≡ [] → cons_option (cond b None None) rest ≡ []
      step true rest e = e
      step false rest e = e

  none_inherited : candidates os c name ≡ []
  unfolding candidates
  none_inherited = none_in (supers (written os) c) (λ d h. h)

  pub none_there : member_of os c name ≡ None
  unfolding member_of
  none_there = rw (none_own c (has_itself os c), none_inherited) refl

  pub none_implemented : implementation_of os c name ≡ None
  unfolding implementation_of
  none_implemented = rw none_there refl

find_settled : (os : Outlines) (c name : ℕ) (names : List ℕ) → find (λ s. s.name == name) (map (settled_at os c) names) ≡ cond (list_any (λ y. y == name) names) (Some (settled_at os c name)) None
find_settled os c name [] = refl
find_settled os c name (n ∷ names) = step (n == name) refl (find_settled os c name names)
  where
    step : (b : Bool) → (n == name) ≡ b → find (λ s. s.name == name) (map (settled_at os c) names) ≡ cond (list_any (λ y. y == name) names) (Some (settled_at os c name)) None → cond b (Some (settled_at os c n)) (find (λ s. s.name == name) (map (settled_at os c) names)) ≡ cond (b || list_any (λ y. y == name) names) (Some (settled_at os c name)) None
    step true e rest = ap (λ k. Some (settled_at os c k)) (eqb-true n name e)
    step false e rest = rest

-- what a look-up among what a class has gives
pub found_settled : (os : Outlines) (c name : ℕ) → (member_of os c name ≡ option_and_then (λ s. s.member) (find (λ s. s.name == name) (settled_of os c))) × (implementation_of os c name ≡ option_and_then (λ s. s.implementation) (find (λ s. s.name == name) (settled_of os c)))
unfolding settled_of Has
found_settled os c name =
    rw (find_settled os c name (each_once [] (names_above os c))) (step (list_any (λ y. y == name) (each_once [] (names_above os c))) refl)
  where
    absent : list_any (λ y. y == name) (each_once [] (names_above os c)) ≡ false → Has (names_above os c) name → ⊥
    absent e h =
        elim (has_once [] (names_above os c) name h) [ inl none ↦ none | inr m ↦ false≢true (sym e ∙ any_of_has _ name m) ]

    step : (b : Bool) → list_any (λ y. y == name) (each_once [] (names_above os c)) ≡ b → (member_of os c name ≡ option_and_then (λ s. s.member) (cond b (Some (settled_at os c name)) None)) × (implementation_of os c name ≡ option_and_then (λ s. s.implementation) (cond b (Some (settled_at os c name)) None))
    step true e = (refl, refl)
    step false e = (none_there os c name (absent e), none_implemented os c name (absent e))
