-- What a search finds in rows with strictly rising keys.
use Rattle.std.proofs.Common.{◌≡◌, ◌≢◌, ℕ, zero, suc, ◌+◌, ◌<◌, ◌≤◌, Bool, true, false, ◌↔◌, inl, inr, cond, List, [], ◌∷◌, length, get_or, refl, sym, ap, ◌∙◌, arith, is_lt, is_eq, Less, Equal, Greater, Option, Some, None, IsNone, All}
use Rattle.std.specs.declared.cmp.Ordering.{Ordering}
use Rattle.std.specs.Cmp.{IsTotalOrder}
use Rattle.std.specs.Ordering.{ordering_index, ordering_reverse}
use Rattle.std.specs.List.Sorted.{IsNonDecreasingBy, IsPartitionPoint}
use Rattle.std.proofs.lemmas.List.Sorted.{searchable_from_sorted}
use Rattle.std.proofs.lemmas.Bool.{cases_order}
use Rattle.std.proofs.lemmas.Cmp.{alike_right}
use Rattle.kt_table.specs.Table.{rises, first_value}
use Rattle.kt_table.proofs.Rising.{less, rises_after, later_above, adjacent_from_rises}

module _ {K V : Type 0} (cmp : K → K → Ordering) (o : IsTotalOrder cmp) (key : K) where
  -- of rising rows one with the key gives the value
  pub first_at : (rows : List (K × V)) → rises cmp rows ≡ true → (i : ℕ) (d : K × V) → i < length rows → cmp (get_or rows i d).0 key ≡ Equal → first_value cmp rows key ≡ Some (get_or rows i d).1
  first_at [] e i d h is = absurd (omega arith)
  first_at (row ∷ rows) e zero d h is = ap (λ (r : Ordering). cond (is_eq r) (Some row.1) (first_value cmp rows key)) is
  first_at (row ∷ rows) e (suc i) d h is =
      let below : cmp row.0 key ≡ Less = sym (alike_right o _ _ row.0 is) ∙ later_above cmp o row.0 rows e i d (omega arith) in
      ap (λ (r : Ordering). cond (is_eq r) (Some row.1) (first_value cmp rows key)) below ∙ first_at rows (rises_after cmp row.0 rows e) i d (omega arith) is

  -- of rising rows each with the key gives the value that was found
  pub one_row : (rows : List (K × V)) → rises cmp rows ≡ true → (found : Option V) → found ≡ first_value cmp rows key → All (λ row. cmp row.0 key ≡ Equal → found ≡ Some row.1) rows
  one_row rows e found first i d h is = first ∙ first_at rows e i d h is

  -- where no value is found no row has the key
  none_with_key : (rows : List (K × V)) → first_value cmp rows key ≡ None → All (λ row. cmp row.0 key ≢ Equal) rows
  none_with_key [] none i d h is = omega arith
  none_with_key (row ∷ rows) none zero d h is = cc (ap (λ (r : Ordering). cond (is_eq r) (Some row.1) (first_value cmp rows key)) is)
  none_with_key (row ∷ rows) none (suc i) d h is = none_with_key rows (past (is_eq (cmp row.0 key)) none) i d (omega arith) is
    where
      past : (b : Bool) → cond b (Some row.1) (first_value cmp rows key) ≡ None → first_value cmp rows key ≡ None
      past true e = cc
      past false e = e

  -- where no row has the key no value is found
  pub none_found : (rows : List (K × V)) → All (λ row. cmp row.0 key ≢ Equal) rows → first_value cmp rows key ≡ None
  none_found [] none = refl
  none_found (row ∷ rows) none =
      unequal (cmp row.0 key) (none 0 row (omega arith)) ∙ none_found rows (λ i d h. none (suc i) d (omega arith))
    where
      unequal : (r : Ordering) → r ≢ Equal → cond (is_eq r) (Some row.1) (first_value cmp rows key) ≡ first_value cmp rows key
      unequal Less ne = refl
      unequal Equal ne = absurd (ne refl)
      unequal Greater ne = refl

  -- no value is found exactly where no row has the key
  pub none_iff : (rows : List (K × V)) (found : Option V) → found ≡ first_value cmp rows key → IsNone found ↔ All (λ row. cmp row.0 key ≢ Equal) rows
  none_iff rows found first = (λ none. none_with_key rows (sym first ∙ is_none found none), λ all. to_none found (first ∙ none_found rows all))
    where
      is_none : (r : Option V) → IsNone r → r ≡ None
      is_none None e = refl
      is_none (Some v) e = cc

      to_none : (r : Option V) → r ≡ None → IsNone r
      to_none None e = refl
      to_none (Some v) e = cc

  -- rows that rise answer a search in order
  pub searchable : (rows : List (K × V)) → rises cmp rows ≡ true → IsNonDecreasingBy (λ row. ordering_index (cmp row.0 key)) rows
  searchable rows e = searchable_from_sorted o (λ (row : K × V). row.0) rows key (λ k d low h. not_below rows e k d h)
    where
      not_less : (r : Ordering) → ordering_reverse r ≡ Less → is_lt r ≡ false
      not_less Less e = cc
      not_less Equal e = refl
      not_less Greater e = refl

      not_below : (rows : List (K × V)) → rises cmp rows ≡ true → (k : ℕ) (d : K × V) → k + 1 < length rows → is_lt (cmp (get_or rows (k + 1) d).0 (get_or rows k d).0) ≡ false
      not_below [] e k d h = absurd (omega arith)
      not_below (row ∷ rows) e k d h = not_less _ (sym (o.antisymm _ _) ∙ less _ (adjacent_from_rises cmp row rows e k d h))

  -- a place between the rows below the key and those above it is that of no row
  pub none_between : (rows : List (K × V)) (place : ℕ) → IsPartitionPoint (λ row. cmp row.0 key ≡ Less) (λ row. cmp row.0 key ≡ Greater) rows place → All (λ row. cmp row.0 key ≢ Equal) rows
  none_between rows place sides k d h is =
      elim (cases_order k place) [
        | inl at ↦ at_or_above (omega arith)
        | inr apart ↦ elim apart [
          | inl below ↦ (let low : cmp (get_or rows k d).0 key ≡ Less = sides.0 k d (omega arith) below in cc)
          | inr above ↦ at_or_above (omega arith)
        ]
      ]
    where
      at_or_above : place ≤ k → ⊥
      at_or_above from = let high : cmp (get_or rows k d).0 key ≡ Greater = sides.1 k d from h in cc
