-- Where the numbers of trees rise from above 0, none stands twice.
use Rattle.std.proofs.Common.{◌≡◌, ◌≢◌, ℕ, zero, suc, ◌+◌, ◌<◌, ◌≤◌, List, [], ◌∷◌, ◌++◌, AllPairs, map, length, get_or, refl, ap, inl, inr, arith, cond, ◌==◌}
use Rattle.std.specs.List.Sorted.{IsStrictlyIncreasing}
use Rattle.std.proofs.lemmas.Bool.Decides.{eqb_tells}
use Rattle.std.proofs.lemmas.List.Kept.{AllPairs-from_increasing}
use Rattle.kt_model.specs.BodyTrees.{Tree, Trees, Operation', Name', Paren', Not', And', Or', If', Declare', Local', Assign', Compound', Call', Return', Throw', Shut', Empty', First', number}
use Rattle.kt_model.specs.NodeKeys.{AreNumbered, all_times, only_if, times}
use Rattle.kt_model.specs.TreesWithin.{all_trees_in, trees_in}
use Rattle.kt_model.proofs.NodeKeyLaws.{here}

differ : (a b x : ℕ) → a ≢ b → only_if a b x ≡ 0
unfolding only_if
differ a b x h = elim (eqb_tells a b) as (λ t. cond (a == b) x 0 ≡ 0) [ inl p ↦ absurd (h p.1) | inr p ↦ ap (λ t. cond t x 0) p.0 ]

-- how often a number stands in a list
abbrev count : ℕ → List ℕ → ℕ
count m [] = 0
count m (x ∷ xs) = only_if m x 1 + count m xs

-- how many trees of a list have a number
abbrev numbered : ℕ → List Tree → ℕ
numbered m ts = count m (map number ts)

numbered-append : (m : ℕ) (xs ys : List Tree) → numbered m (xs ++ ys) ≡ numbered m xs + numbered m ys
numbered-append m [] ys = omega arith
numbered-append m (t ∷ xs) ys = let e = numbered-append m xs ys in omega arith

mutual
  unfolding trees_in

  times-numbered : (m : ℕ) (t : Tree) → times m t ≡ numbered m (trees_in t)
  times-numbered m (Operation' n o parts) = let e = all_times-numbered m parts in omega arith
  times-numbered m (Name' n at x) = omega arith
  times-numbered m (Paren' n e) = let a = times-numbered m e in omega arith
  times-numbered m (Not' n e) = let a = times-numbered m e in omega arith
  times-numbered m (And' n a b) =
      let x = times-numbered m a in let y = times-numbered m b in
      let both = numbered-append m (trees_in a) (trees_in b) in omega arith
  times-numbered m (Or' n a b) =
      let x = times-numbered m a in let y = times-numbered m b in
      let both = numbered-append m (trees_in a) (trees_in b) in omega arith
  times-numbered m (If' n braces c a b) =
      let z = times-numbered m c in let x = all_times-numbered m a in let y = all_times-numbered m b in
      let arms = numbered-append m (all_trees_in a) (all_trees_in b) in
      let all = numbered-append m (trees_in c) (all_trees_in a ++ all_trees_in b) in omega arith
  times-numbered m (Declare' n x) = omega arith
  times-numbered m (Local' n at x e) = let a = times-numbered m e in omega arith
  times-numbered m (Assign' n at x fixed e) = let a = times-numbered m e in omega arith
  times-numbered m (Compound' n at x fixed o operand) = let a = all_times-numbered m operand in omega arith
  times-numbered m (Call' n f returns arguments) = let a = all_times-numbered m arguments in omega arith
  times-numbered m (Return' n value) = let a = all_times-numbered m value in omega arith
  times-numbered m (Throw' n e) = let a = times-numbered m e in omega arith
  times-numbered m (Shut' n) = omega arith

  all_times-numbered : (m : ℕ) (ts : Trees) → all_times m ts ≡ numbered m (all_trees_in ts)
  all_times-numbered m Empty' = refl
  all_times-numbered m (First' t rest) =
      let a = times-numbered m t in let b = all_times-numbered m rest in
      let both = numbered-append m (trees_in t) (all_trees_in rest) in omega arith

-- what is below all of a list stands nowhere in it
none_below : (m : ℕ) (xs : List ℕ) → ((k : ℕ) → k < length xs → m < get_or xs k 0) → count m xs ≡ 0
none_below m [] above = refl
none_below m (x ∷ xs) above =
    let first = above zero (omega arith) in
    let e = differ m x 1 (λ same. omega arith) in
    let rest = none_below m xs (λ k h. above (suc k) (omega arith)) in omega arith

once : (m : ℕ) (xs : List ℕ) → AllPairs (λ a b. a < b) xs → count m xs ≤ 1
once m [] up = omega arith
once m (x ∷ xs) up = elim (eqb_tells m x) [
  | inl p ↦ (
      let same : m ≡ x = p.1 in
      let none = none_below m xs (λ k h. let below = up zero (suc k) 0 (omega arith) (omega arith) in omega arith) in
      let w = here m x 1 same in omega arith)
  | inr p ↦ (
      let z = differ m x 1 p.1 in
      let rest = once m xs (λ i j d h k. up (suc i) (suc j) d (omega arith) (omega arith)) in omega arith)
]

-- Trees whose numbers rise from above 0 have numbers of their own.
pub rising_numbered : (ts : Trees) → IsStrictlyIncreasing (0 ∷ map number (all_trees_in ts)) → AreNumbered ts
rising_numbered ts up m =
    let e = all_times-numbered m ts in
    let h = once m (0 ∷ map number (all_trees_in ts)) (AllPairs-from_increasing (0 ∷ map number (all_trees_in ts)) up) in omega arith
