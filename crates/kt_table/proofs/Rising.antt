-- What rows with strictly rising keys are, three ways: as a test, by each two neighbours, and by each two rows.
use Rattle.std.proofs.Common.{◌≡◌, ℕ, zero, suc, ◌+◌, ◌<◌, Bool, true, false, ◌&&◌, ◌↔◌, List, [], ◌∷◌, length, get_or, refl, sym, ap, subst, ◌∙◌, arith, IsTrue, is_lt, Less, Equal, Greater}
use Rattle.std.specs.declared.cmp.Ordering.{Ordering}
use Rattle.std.specs.Cmp.{IsTotalOrder}
use Rattle.std.specs.Map.{keys_of}
use Rattle.std.specs.List.{AllByRecursion, AllAdjacentBelow, IsAllAdjacentAnswer}
use Rattle.std.specs.List.Sorted.{IsStrictlySortedBy}
use Rattle.kt_table.specs.Table.{rises, rises_from}

-- both tests of a conjunction that is true
pub both_true : (a b : Bool) → a && b ≡ true → (a ≡ true) × (b ≡ true)
both_true true b e = (refl, e)
both_true false b e = (e, cc)

-- a conjunction of two true tests
pub true_both : (a b : Bool) → a ≡ true → b ≡ true → a && b ≡ true
true_both a b p q = ap (λ x. x && b) p ∙ q

-- what is below is `Less`
pub less : (r : Ordering) → is_lt r ≡ true → r ≡ Less
less Less e = refl
less Equal e = cc
less Greater e = cc

module _ {K V : Type 0} (cmp : K → K → Ordering) where
  -- rows whose keys rise from a key on rise
  pub rises_after : (key : K) (rows : List (K × V)) → rises_from cmp key rows ≡ true → rises cmp rows ≡ true
  rises_after key [] e = refl
  rises_after key (row ∷ rows) e = (both_true _ _ e).1

  -- rows of which each key is below the next rise
  pub rises_from_adjacent : (row : K × V) (rows : List (K × V)) → AllAdjacentBelow (λ x y. true ≡ is_lt (cmp x.0 y.0)) (row ∷ rows) (length (row ∷ rows)) → rises_from cmp row.0 rows ≡ true
  rises_from_adjacent row [] adjacent = refl
  rises_from_adjacent row (next ∷ rows) adjacent =
      true_both _ _ (sym (adjacent 0 row (omega arith)))
      (rises_from_adjacent next rows (λ k d h.
      let P : ℕ → Type 0 = λ n. true ≡ is_lt (cmp (get_or (next ∷ rows) k d).0 (get_or (row ∷ next ∷ rows) n d).0) in
      let same : suc k + 1 ≡ suc (k + 1) = omega arith in
      subst P same (adjacent (suc k) d (omega arith))))

  -- of rows that rise each key is below the next
  pub adjacent_from_rises : (row : K × V) (rows : List (K × V)) → rises_from cmp row.0 rows ≡ true → (k : ℕ) (d : K × V) → k + 1 < length (row ∷ rows) → is_lt (cmp (get_or (row ∷ rows) k d).0 (get_or (row ∷ rows) (k + 1) d).0) ≡ true
  adjacent_from_rises row [] e k d h = absurd (omega arith)
  adjacent_from_rises row (next ∷ rows) e zero d h = (both_true _ _ e).0
  adjacent_from_rises row (next ∷ rows) e (suc k) d h =
      let P : ℕ → Type 0 = λ n. is_lt (cmp (get_or (next ∷ rows) k d).0 (get_or (row ∷ next ∷ rows) n d).0) ≡ true in
      let same : suc (k + 1) ≡ suc k + 1 = omega arith in
      subst P same (adjacent_from_rises next rows (both_true _ _ e).1 k d (omega arith))

  -- what a look at each two neighbours answers is whether the keys rise
  pub rises_answer : (rows : List (K × V)) (answer : Bool) → IsAllAdjacentAnswer (λ x y b. b ≡ is_lt (cmp x.0 y.0)) rows answer → answer ≡ rises cmp rows
  rises_answer [] true adjacent = refl
  rises_answer [] false (k, h, falls) = absurd (omega arith)
  rises_answer (row ∷ rows) true adjacent = sym (rises_from_adjacent row rows adjacent)
  rises_answer (row ∷ rows) false (k, h, falls) = not_risen (rises_from cmp row.0 rows) (λ e. falls row ∙ adjacent_from_rises row rows e k row h)
    where
      not_risen : (b : Bool) → (b ≡ true → false ≡ true) → false ≡ b
      not_risen true f = f refl
      not_risen false f = refl

  module _ (o : IsTotalOrder cmp) where
    -- a key from which rows rise is below each of their keys
    pub later_above : (key : K) (rows : List (K × V)) → rises_from cmp key rows ≡ true → (j : ℕ) (d : K × V) → j < length rows → cmp key (get_or rows j d).0 ≡ Less
    later_above key [] e j d h = absurd (omega arith)
    later_above key (row ∷ rows) e zero d h = less _ (both_true _ _ e).0
    later_above key (row ∷ rows) e (suc j) d h =
        o.trans _ _ _ (less _ (both_true _ _ e).0) (later_above row.0 rows (both_true _ _ e).1 j d (omega arith))

    -- what is below a key from which rows rise is below each of their keys
    below_all : (low key : K) (rows : List (K × V)) → cmp low key ≡ Less → rises_from cmp key rows ≡ true → AllByRecursion (λ y. cmp low y ≡ Less) (keys_of rows)
    below_all low key [] below e = tt
    below_all low key (row ∷ rows) below e =
        let next : cmp low row.0 ≡ Less = o.trans _ _ _ below (less _ (both_true _ _ e).0) in
        (next, below_all low row.0 rows next (both_true _ _ e).1)

    -- keys that rise are sorted strictly
    pub sorted_from_rises : (key : K) (rows : List (K × V)) → rises_from cmp key rows ≡ true → IsStrictlySortedBy cmp (key ∷ keys_of rows)
    unfolding IsStrictlySortedBy
    sorted_from_rises key [] e = (tt, tt)
    sorted_from_rises key (row ∷ rows) e =
        let below : cmp key row.0 ≡ Less = less _ (both_true _ _ e).0 in
        ((below, below_all key row.0 rows below (both_true _ _ e).1), sorted_from_rises row.0 rows (both_true _ _ e).1)

    -- keys that are sorted strictly rise
    pub rises_from_sorted : (key : K) (rows : List (K × V)) → IsStrictlySortedBy cmp (key ∷ keys_of rows) → rises_from cmp key rows ≡ true
    unfolding IsStrictlySortedBy
    rises_from_sorted key [] s = refl
    rises_from_sorted key (row ∷ rows) s = true_both _ _ (ap is_lt s.0.0) (rises_from_sorted row.0 rows s.1)

    -- the test is true exactly of keys that are sorted strictly
    pub rises-iff : (rows : List (K × V)) → IsTrue (rises cmp rows) ↔ IsStrictlySortedBy cmp (keys_of rows)
    unfolding IsStrictlySortedBy
    rises-iff [] = (λ _. tt, λ _. refl)
    rises-iff (row ∷ rows) = (sorted_from_rises row.0 rows, rises_from_sorted row.0 rows)
