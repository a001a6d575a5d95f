-- Rows that rise by tree, and the one row of a tree.
use Rattle.std.proofs.Common.{◌≡◌, ◌≢◌, ℕ, zero, suc, ◌+◌, ◌<◌, ◌≤◌, false, List, [], ◌∷◌, map, length, get_or, Some, None, find, ◌==◌, refl, sym, ap, ◌∙◌, subst, arith, cond, eq-eqb, inl, inr, Less, Equal, Greater, is_lt}
use Rattle.std.specs.Ordering.{nat_cmp, ordering_index}
use Rattle.std.specs.Cmp.{nat_cmp_is}
use Rattle.std.specs.List.Sorted.{IsStrictlyIncreasing, IsNonDecreasingBy, IsPartitionPoint}
use Rattle.std.proofs.lemmas.Bool.{cases_order}
use Rattle.std.proofs.lemmas.Cmp.{nat_cmp_total}
use Rattle.std.proofs.lemmas.Bool.Decides.{eqb_tells}
use Rattle.std.proofs.lemmas.Map.Lookups.{exact_unsigned}
use Rattle.std.proofs.lemmas.List.{get_or-map, length-map}
use Rattle.std.proofs.lemmas.List.Kept.{AllPairs-from_increasing}
use Rattle.std.proofs.lemmas.List.Sorted.{searchable_from_sorted}
use Rattle.kt_model.specs.declared.uses.UseRow.{UseRow}

-- each tree of a list of rows is below those behind it
pub record Rising (rows : List UseRow) : Type 0 where
  pub rise : (i j : ℕ) (d : UseRow) → i < j → j < length rows → (get_or rows i d).tree < (get_or rows j d).tree

-- what rises does so behind its first row
pub rising_rest : (row : UseRow) (rows : List UseRow) → Rising (row ∷ rows) → Rising rows
rising_rest row rows r = record { rise = λ i j d h k. r.rise (suc i) (suc j) d (omega arith) (omega arith) }

-- the test of two numbers that differ
differs : (a b : ℕ) → a ≢ b → (a == b) ≡ false
differs a b h = elim (eqb_tells a b) as (λ x. (a == b) ≡ false) [ inl p ↦ absurd (h p.1) | inr p ↦ p.0 ]

-- a row whose tree is another
pub passed_over : (t : ℕ) (row : UseRow) (rows : List UseRow) → row.tree ≢ t → find (λ r. r.tree == t) (row ∷ rows) ≡ find (λ r. r.tree == t) rows
passed_over t row rows h = ap (λ b. cond b (Some row) (find (λ r. r.tree == t) rows)) (differs row.tree t h)

-- the row at a place is the one that is found for its tree
pub found_at : (t : ℕ) (rows : List UseRow) (i : ℕ) (d : UseRow) → Rising rows → i < length rows → (get_or rows i d).tree ≡ t → find (λ r. r.tree == t) rows ≡ Some (get_or rows i d)
found_at t [] i d r h e = absurd (omega arith)
found_at t (row ∷ rows) zero d r h e = ap (λ b. cond b (Some row) (find (λ r'. r'.tree == t) rows)) (eq-eqb row.tree t e)
found_at t (row ∷ rows) (suc i) d r h e =
    passed_over t row rows (λ same. let below = r.rise zero (suc i) d (omega arith) h in omega arith) ∙ found_at t rows i d (rising_rest row rows r) (omega arith) e

-- where no row has the tree none is found
pub not_found : (t : ℕ) (rows : List UseRow) (d : UseRow) → ((k : ℕ) → k < length rows → (get_or rows k d).tree ≢ t) → find (λ r. r.tree == t) rows ≡ None
not_found t [] d h = refl
not_found t (row ∷ rows) d h = passed_over t row rows (h zero (omega arith)) ∙ not_found t rows d (λ k l. h (suc k) (omega arith))

-- what the rows' trees say of the rows
pub rising : (rows : List UseRow) → IsStrictlyIncreasing (map (λ row. row.tree) rows) → Rising rows
rising rows up = record {
  rise = λ i j d h k.
      let below = AllPairs-from_increasing (map (λ row. row.tree) rows) up i j d.tree h (subst (λ n. j < n) (sym (length-map rows (λ (row : UseRow). row.tree))) k) in
      let at_i : get_or (map (λ row. row.tree) rows) i d.tree ≡ (get_or rows i d).tree = get_or-map (λ (row : UseRow). row.tree) rows i d d.tree (omega arith) in
      let at_j : get_or (map (λ row. row.tree) rows) j d.tree ≡ (get_or rows j d).tree = get_or-map (λ (row : UseRow). row.tree) rows j d d.tree k in
      omega arith;
}

-- rows that rise answer a search in order
pub searchable : (t : ℕ) (rows : List UseRow) → Rising rows → IsNonDecreasingBy (λ row. ordering_index (nat_cmp row.tree t)) rows
searchable t rows r =
    searchable_from_sorted nat_cmp_total (λ (row : UseRow). row.tree) rows t
    (λ k d low h. ap is_lt (sym (nat_cmp_is _ _ Greater (r.rise k (k + 1) d (omega arith) h))))

-- what compares as another is another
apart : (a t : ℕ) → nat_cmp a t ≢ Equal → a ≢ t
apart a t h e = h (sym (nat_cmp_is a t Equal e))

-- a row that is found
pub search_found : (t : ℕ) (rows : List UseRow) (i : ℕ) (d : UseRow) → Rising rows → i < length rows → nat_cmp (get_or rows i d).tree t ≡ Equal → Some (get_or rows i d) ≡ find (λ r. r.tree == t) rows
search_found t rows i d r h e = sym (found_at t rows i d r h (exact_unsigned _ _ e))

-- a place between the rows of lesser trees and those of greater ones is that of no row
outside_row : (t : ℕ) (rows : List UseRow) (i : ℕ) → IsPartitionPoint (λ row. nat_cmp row.tree t ≡ Less) (λ row. nat_cmp row.tree t ≡ Greater) rows i → (k : ℕ) (d : UseRow) → k < length rows → nat_cmp (get_or rows k d).tree t ≢ Equal
outside_row t rows i sides k d h is =
    elim (cases_order k i) [
      | inl at ↦ at_or_above (omega arith)
      | inr apart ↦ elim apart [
        | inl below ↦ (let low : nat_cmp (get_or rows k d).tree t ≡ Less = sides.0 k d (omega arith) below in cc)
        | inr above ↦ at_or_above (omega arith)
      ]
    ]
  where
    at_or_above : i ≤ k → ⊥
    at_or_above from = let high : nat_cmp (get_or rows k d).tree t ≡ Greater = sides.1 k d from h in cc

-- a search that finds none
pub search_failed : (t : ℕ) (rows : List UseRow) (i : ℕ) → IsPartitionPoint (λ row. nat_cmp row.tree t ≡ Less) (λ row. nat_cmp row.tree t ≡ Greater) rows i → None ≡ find (λ r. r.tree == t) rows
search_failed t [] i sides = refl
search_failed t (row ∷ rows) i sides =
    sym (not_found t (row ∷ rows) row (λ k h. apart _ t (outside_row t (row ∷ rows) i sides k row h)))
