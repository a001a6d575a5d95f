use Rattle.std.proofs.Common.{ℕ, ◌+◌, ◌<◌, List, [], ◌∷◌, ◌++◌, length}
use borrow.Author.Count.{below_more}
use Rattle.std.specs.List.{Contains}
use Rattle.std.specs.Prelude.{IsPermutation}
use Rattle.std.proofs.lemmas.List.Elements.{Contains-append_left}
use Rattle.std.proofs.lemmas.List.{get_or_push, length_push}
use Rattle.std.proofs.lemmas.List.Sorted.{Contains-permutation, All-permutation}
use Rattle.kt_solve.specs.Walks.{IsListing}
use Rattle.std.proofs.Common.{arith, refl}

-- the last element of a list is one of it
pub Contains_last : (xs : List ℕ) (x : ℕ) → Contains (xs ++ x ∷ []) x
Contains_last xs x = (length xs, omega (arith, length_push xs x), get_or_push xs x x (length xs) refl)

-- one more node is listed
pub listed_more : (order : List ℕ) (k : ℕ) → ((n : ℕ) → n < k → Contains order n) → (n : ℕ) → n < k + 1 → Contains (order ++ k ∷ []) n
listed_more order k b = below_more (λ n. Contains (order ++ k ∷ []) n) k (λ n l. Contains-append_left order (k ∷ []) n (b n l)) (Contains_last order k)

-- a listing in another order
pub listing_permuted : (nodes : ℕ) (xs ys : List ℕ) → IsPermutation xs ys → IsListing nodes xs → IsListing nodes ys
listing_permuted nodes xs ys p i = record {
  within = All-permutation (λ (n : ℕ). n < nodes) xs ys p i.within;
  listed = λ n h. Contains-permutation xs ys n p (i.listed n h);
}
