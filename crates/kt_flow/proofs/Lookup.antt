-- Notes that rise by tree, and the one note of a tree.
use Rattle.std.proofs.Common.{◌≡◌, ◌≢◌, ℕ, ◌+◌, ◌<◌, ◌≤◌, List, map, length, get_or, Contains, sym, ap, ◌∙◌, subst, arith, inl, inr, Less, Equal, Greater, is_lt}
use Rattle.std.specs.Ordering.{nat_cmp, ordering_index}
use Rattle.std.specs.Cmp.{nat_cmp_is}
use Rattle.std.specs.List.Sorted.{IsNonDecreasingBy, IsPartitionPoint}
use Rattle.std.proofs.lemmas.Bool.{cases_order}
use Rattle.std.proofs.lemmas.Cmp.{nat_cmp_total}
use Rattle.std.proofs.lemmas.Map.Lookups.{exact_unsigned}
use Rattle.std.proofs.lemmas.List.{get_or-map, length-map, get_or_default}
use Rattle.std.proofs.lemmas.List.Elements.{Contains-get_or}
use Rattle.std.proofs.lemmas.List.Kept.{AllPairs-from_increasing}
use Rattle.std.proofs.lemmas.List.Sorted.{searchable_from_sorted}
use Rattle.kt_flow.specs.declared.notes.TreeNote.{TreeNote}
use Rattle.kt_flow.specs.Notes.{AreRising}

-- each tree of a list of notes is below those behind it
pub record Rising (notes : List TreeNote) : Type 0 where
  pub rise : (i j : ℕ) (d : TreeNote) → i < j → j < length notes → (get_or notes i d).tree < (get_or notes j d).tree

-- what the numbers of the trees say of the notes
pub rising : (notes : List TreeNote) → AreRising notes → Rising notes
rising notes up = record {
  rise = λ i j d h k.
      let below = AllPairs-from_increasing (map (λ n. n.tree) notes) up i j d.tree h (subst (λ n. j < n) (sym (length-map notes (λ (n : TreeNote). n.tree))) k) in
      let at_i : get_or (map (λ n. n.tree) notes) i d.tree ≡ (get_or notes i d).tree = get_or-map (λ (n : TreeNote). n.tree) notes i d d.tree (omega arith) in
      let at_j : get_or (map (λ n. n.tree) notes) j d.tree ≡ (get_or notes j d).tree = get_or-map (λ (n : TreeNote). n.tree) notes j d d.tree k in
      omega arith;
}

-- a tree has one note
pub one_note : (notes : List TreeNote) (n m : TreeNote) → AreRising notes → Contains notes n → Contains notes m → n.tree ≡ m.tree → n ≡ m
one_note notes n m up h k e =
    elim (cases_order h.0 k.0) [
      | inl same ↦ sym h.2 ∙ ap (λ i. get_or notes i n) same ∙ (get_or_default notes k.0 n m k.1) ∙ k.2
      | inr apart ↦ elim apart [ inl below ↦ absurd (differ n m h k below e) | inr above ↦ absurd (differ m n k h above (sym e)) ]
    ]
  where
    differ : (a b : TreeNote) (x : Contains notes a) (y : Contains notes b) → x.0 < y.0 → a.tree ≡ b.tree → ⊥
    differ a b x y lt same =
        let r = (rising notes up).rise x.0 y.0 a lt y.1 in
        let p : (get_or notes x.0 a).tree ≡ a.tree = ap (λ (n : TreeNote). n.tree) x.2 in
        let q : (get_or notes y.0 a).tree ≡ b.tree = ap (λ (n : TreeNote). n.tree) (get_or_default notes y.0 a b y.1 ∙ y.2) in
        omega arith

-- notes that rise answer a search in order
pub searchable : (t : ℕ) (notes : List TreeNote) → AreRising notes → IsNonDecreasingBy (λ n. ordering_index (nat_cmp n.tree t)) notes
searchable t notes up =
    searchable_from_sorted nat_cmp_total (λ (n : TreeNote). n.tree) notes t
    (λ k d low h. ap is_lt (sym (nat_cmp_is _ _ Greater ((rising notes up).rise k (k + 1) d (omega arith) h))))

-- a note that is found
pub search_found : (t : ℕ) (notes : List TreeNote) (i : ℕ) (d : TreeNote) → i < length notes → nat_cmp (get_or notes i d).tree t ≡ Equal → Contains notes (get_or notes i d) × ((get_or notes i d).tree ≡ t)
search_found t notes i d h e = (Contains-get_or notes i d h, exact_unsigned _ _ e)

-- a search that finds none: a place between the notes of lesser trees and those of greater ones is that of no note
pub search_failed : (t : ℕ) (notes : List TreeNote) (i : ℕ) → IsPartitionPoint (λ n. nat_cmp n.tree t ≡ Less) (λ n. nat_cmp n.tree t ≡ Greater) notes i → (n : TreeNote) → Contains notes n → n.tree ≢ t
search_failed t notes i sides n h e =
    elim (cases_order h.0 i) [
      | inl at ↦ at_or_above (omega arith) same
      | inr apart ↦ elim apart [ inl below ↦ below_place below same | inr above ↦ at_or_above (omega arith) same ]
    ]
  where
    same : nat_cmp (get_or notes h.0 n).tree t ≡ Equal
    same = sym (nat_cmp_is _ t Equal (ap (λ (m : TreeNote). m.tree) h.2 ∙ e))

    below_place : h.0 < i → nat_cmp (get_or notes h.0 n).tree t ≡ Equal → ⊥
    below_place below is = let low : nat_cmp (get_or notes h.0 n).tree t ≡ Less = sides.0 h.0 n (omega arith) below in cc

    at_or_above : i ≤ h.0 → nat_cmp (get_or notes h.0 n).tree t ≡ Equal → ⊥
    at_or_above from is = let high : nat_cmp (get_or notes h.0 n).tree t ≡ Greater = sides.1 h.0 n from h.1 in cc
