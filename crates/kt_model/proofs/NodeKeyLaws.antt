-- No two nodes of a body have one tree, tag and copy.
use Rattle.std.proofs.Common.{◌≡◌, ◌≢◌, ℕ, ◌+◌, ◌*◌, ◌≤◌, Bool, true, false, List, [], ◌∷◌, ◌++◌, ◌==◌, cond, inl, inr, ap, arith, eq-eqb}
use Rattle.std.proofs.lemmas.Bool.Decides.{eqb_tells}
use Rattle.kt_model.specs.BodyTrees.{Tree, Trees, Operation', Name', Paren', Not', And', Or', If', Declare', Local', Assign', Compound', Call', Return', Throw', Shut', Empty', First', number}
use Rattle.kt_model.specs.ControlFlow.{Node, nodes, all_nodes, leave_nodes, in_of, out_of, body_nodes, end_node}
use Rattle.kt_model.specs.NodeKeys.{only_if, hits, occurs, times, all_times, AreNumbered, AreDistinct}

-- a number or nothing
at_most : (a b x : ℕ) → only_if a b x ≤ x
unfolding only_if
at_most a b x = elim (a == b) as (λ t. cond t x 0 ≤ x) [ true ↦ omega arith | false ↦ omega arith ]

-- nothing where the two differ
differ : (a b x : ℕ) → a ≢ b → only_if a b x ≡ 0
unfolding only_if
differ a b x h = elim (eqb_tells a b) as (λ t. cond (a == b) x 0 ≡ 0) [ inl p ↦ absurd (h p.1) | inr p ↦ ap (λ t. cond t x 0) p.0 ]

-- the two halves of a copy are two
halves : (c k : ℕ) → only_if c (2 * k) 1 + only_if c (2 * k + 1) 1 ≤ 1
halves c k = elim (eqb_tells c (2 * k)) [
  | inl p ↦ (let e : c ≡ 2 * k = p.1 in let z = differ c (2 * k + 1) 1 (λ f. omega arith) in let y = at_most c (2 * k) 1 in omega arith)
  | inr p ↦ (let z = differ c (2 * k) 1 p.1 in let y = at_most c (2 * k + 1) 1 in omega arith)
]

-- the nodes of a tree itself, by their tags and copies
own : (g c k : ℕ) → only_if g 4 (only_if c k 1) + (only_if g 17 (only_if c k 1) + (only_if g 5 (only_if c (2 * k) 1) + only_if g 5 (only_if c (2 * k + 1) 1))) ≤ 1
own g c k = elim (eqb_tells g 4) [
  | inl p ↦ (let e : g ≡ 4 = p.1 in
      let z = differ g 17 (only_if c k 1) (λ f. omega arith) in
      let x = differ g 5 (only_if c (2 * k) 1) (λ f. omega arith) in
      let y = differ g 5 (only_if c (2 * k + 1) 1) (λ f. omega arith) in
      let v = at_most g 4 (only_if c k 1) in let w = at_most c k 1 in omega arith)
  | inr p ↦ (let u = differ g 4 (only_if c k 1) p.1 in elim (eqb_tells g 17) [
    | inl q ↦ (let e : g ≡ 17 = q.1 in
        let x = differ g 5 (only_if c (2 * k) 1) (λ f. omega arith) in
        let y = differ g 5 (only_if c (2 * k + 1) 1) (λ f. omega arith) in
        let v = at_most g 17 (only_if c k 1) in let w = at_most c k 1 in omega arith)
    | inr q ↦ (let z = differ g 17 (only_if c k 1) q.1 in
        let x = at_most g 5 (only_if c (2 * k) 1) in
        let y = at_most g 5 (only_if c (2 * k + 1) 1) in
        let h = halves c k in omega arith)
  ])
]

-- what holds of a tree's own nodes holds once for its number
whole : (m n a b d e : ℕ) → a + (b + (d + e)) ≤ 1 → only_if m n a + (only_if m n b + (only_if m n d + only_if m n e)) ≤ only_if m n 1
unfolding only_if
whole m n a b d e h = elim (m == n) as (λ t. cond t a 0 + (cond t b 0 + (cond t d 0 + cond t e 0)) ≤ cond t 1 0) [ true ↦ h | false ↦ omega arith ]

occurs-append : (m g c : ℕ) (xs ys : List Node) → occurs m g c (xs ++ ys) ≡ occurs m g c xs + occurs m g c ys
occurs-append m g c [] ys = omega arith
occurs-append m g c (x ∷ xs) ys = let e = occurs-append m g c xs ys in omega arith

-- `in` and `out` of a tree, and what assumes its outcome
ends : (m g c : ℕ) (b : Bool) (k : ℕ) (t : Tree) → hits m g c (in_of k t) + occurs m g c (leave_nodes b k t) ≤ only_if m (number t) 1
ends m g c true k t = let h = whole m (number t) _ _ _ _ (own g c k) in omega arith
ends m g c false k t = let h = whole m (number t) _ _ _ _ (own g c k) in omega arith

-- `in` and `out`
sides : (m g c : ℕ) (k : ℕ) (t : Tree) → hits m g c (in_of k t) + (hits m g c (out_of k t) + 0) ≤ only_if m (number t) 1
sides m g c k t = let h = whole m (number t) _ _ _ _ (own g c k) in omega arith

-- parts between a tree's own nodes
around : (m g c : ℕ) (b : Bool) (k : ℕ) (t : Tree) (xs : List Node) (x : ℕ) → occurs m g c xs ≤ x → hits m g c (in_of k t) + occurs m g c (xs ++ leave_nodes b k t) ≤ only_if m (number t) 1 + x
around m g c b k t xs x h = let e = occurs-append m g c xs (leave_nodes b k t) in let f = ends m g c b k t in omega arith

inside : (m g c : ℕ) (k : ℕ) (t : Tree) (xs : List Node) (x : ℕ) → occurs m g c xs ≤ x → hits m g c (in_of k t) + occurs m g c (xs ++ out_of k t ∷ []) ≤ only_if m (number t) 1 + x
inside m g c k t xs x h = let e = occurs-append m g c xs (out_of k t ∷ []) in let f = sides m g c k t in omega arith

two : (m g c : ℕ) (k : ℕ) (t : Tree) (xs ys : List Node) (x y : ℕ) → occurs m g c xs ≤ x → occurs m g c ys ≤ y → hits m g c (in_of k t) + occurs m g c (xs ++ (ys ++ out_of k t ∷ [])) ≤ only_if m (number t) 1 + (x + y)
two m g c k t xs ys x y h i = let e = occurs-append m g c xs (ys ++ out_of k t ∷ []) in let f = inside m g c k t ys y i in omega arith

three : (m g c : ℕ) (b : Bool) (k : ℕ) (t : Tree) (xs ys zs : List Node) (x y z : ℕ) → occurs m g c xs ≤ x → occurs m g c ys ≤ y → occurs m g c zs ≤ z → hits m g c (in_of k t) + occurs m g c (xs ++ (ys ++ (zs ++ leave_nodes b k t))) ≤ only_if m (number t) 1 + (x + (y + z))
three m g c b k t xs ys zs x y z h i j =
    let e = occurs-append m g c xs (ys ++ (zs ++ leave_nodes b k t)) in
    let f = occurs-append m g c ys (zs ++ leave_nodes b k t) in
    let r = around m g c b k t zs z j in omega arith

append : (m g c : ℕ) (xs ys : List Node) (x y : ℕ) → occurs m g c xs ≤ x → occurs m g c ys ≤ y → occurs m g c (xs ++ ys) ≤ x + y
append m g c xs ys x y h i = let e = occurs-append m g c xs ys in omega arith

mutual
  unfolding nodes

  -- of a tree no node occurs more often than its tree's number does among the trees
  pub occurs-nodes : (m g c : ℕ) (b : Bool) (k : ℕ) (t : Tree) → occurs m g c (nodes b k t) ≤ times m t
  occurs-nodes m g c b k (Operation' n o ps) = around m g c b k (Operation' n o ps) (all_nodes k ps) (all_times m ps) (occurs-all_nodes m g c k ps)
  occurs-nodes m g c b k (Name' n at x) = ends m g c b k (Name' n at x)
  occurs-nodes m g c b k (Paren' n e) = inside m g c k (Paren' n e) (nodes b k e) (times m e) (occurs-nodes m g c b k e)
  occurs-nodes m g c b k (Not' n e) = inside m g c k (Not' n e) (nodes true k e) (times m e) (occurs-nodes m g c true k e)
  occurs-nodes m g c b k (And' n x y) = two m g c k (And' n x y) (nodes true k x) (nodes true k y) _ _ (occurs-nodes m g c true k x) (occurs-nodes m g c true k y)
  occurs-nodes m g c b k (Or' n x y) = two m g c k (Or' n x y) (nodes true k x) (nodes true k y) _ _ (occurs-nodes m g c true k x) (occurs-nodes m g c true k y)
  occurs-nodes m g c b k (If' n braces d x y) = three m g c b k (If' n braces d x y) (nodes true k d) (all_nodes k x) (all_nodes k y) _ _ _ (occurs-nodes m g c true k d) (occurs-all_nodes m g c k x) (occurs-all_nodes m g c k y)
  occurs-nodes m g c b k (Declare' n x) = ends m g c b k (Declare' n x)
  occurs-nodes m g c b k (Local' n at x e) = around m g c b k (Local' n at x e) (nodes false k e) (times m e) (occurs-nodes m g c false k e)
  occurs-nodes m g c b k (Assign' n at x fixed e) = around m g c b k (Assign' n at x fixed e) (nodes false k e) (times m e) (occurs-nodes m g c false k e)
  occurs-nodes m g c b k (Compound' n at x fixed o ps) = around m g c b k (Compound' n at x fixed o ps) (all_nodes k ps) (all_times m ps) (occurs-all_nodes m g c k ps)
  occurs-nodes m g c b k (Call' n f returns ps) = around m g c b k (Call' n f returns ps) (all_nodes k ps) (all_times m ps) (occurs-all_nodes m g c k ps)
  occurs-nodes m g c b k (Return' n ps) = inside m g c k (Return' n ps) (all_nodes k ps) (all_times m ps) (occurs-all_nodes m g c k ps)
  occurs-nodes m g c b k (Throw' n e) = inside m g c k (Throw' n e) (nodes false k e) (times m e) (occurs-nodes m g c false k e)
  occurs-nodes m g c b k (Shut' n) = let h = sides m g c k (Shut' n) in omega arith

  pub occurs-all_nodes : (m g c : ℕ) (k : ℕ) (ts : Trees) → occurs m g c (all_nodes k ts) ≤ all_times m ts
  occurs-all_nodes m g c k Empty' = omega arith
  occurs-all_nodes m g c k (First' t ts) = append m g c (nodes false k t) (all_nodes k ts) _ _ (occurs-nodes m g c false k t) (occurs-all_nodes m g c k ts)

-- the number where the two are the same
pub here : (a b x : ℕ) → a ≡ b → only_if a b x ≡ x
unfolding only_if
here a b x e = ap (λ t. cond t x 0) (eq-eqb a b e)

-- the three nodes of a body itself
three_own : (m g c : ℕ) → only_if m 0 (only_if g 0 (only_if c 0 1)) + (only_if m 0 (only_if g 1 (only_if c 0 1)) + only_if m 0 (only_if g 18 (only_if c 0 1))) ≤ only_if m 0 1
three_own m g c = elim (eqb_tells m 0) [
  | inr p ↦ (let a = differ m 0 (only_if g 0 (only_if c 0 1)) p.1 in let b = differ m 0 (only_if g 1 (only_if c 0 1)) p.1 in let d = differ m 0 (only_if g 18 (only_if c 0 1)) p.1 in omega arith)
  | inl p ↦ (
      let one = here m 0 1 p.1 in
      let w = at_most c 0 1 in
      let a = at_most m 0 (only_if g 0 (only_if c 0 1)) in let b = at_most m 0 (only_if g 1 (only_if c 0 1)) in let d = at_most m 0 (only_if g 18 (only_if c 0 1)) in
      let x = at_most g 0 (only_if c 0 1) in let y = at_most g 1 (only_if c 0 1) in let z = at_most g 18 (only_if c 0 1) in
      elim (eqb_tells g 0) [
        | inl q ↦ (let e : g ≡ 0 = q.1 in let s = differ g 1 (only_if c 0 1) (λ f. omega arith) in let t = differ g 18 (only_if c 0 1) (λ f. omega arith) in omega arith)
        | inr q ↦ (let s = differ g 0 (only_if c 0 1) q.1 in elim (eqb_tells g 1) [
          | inl r ↦ (let e : g ≡ 1 = r.1 in let t = differ g 18 (only_if c 0 1) (λ f. omega arith) in omega arith)
          | inr r ↦ (let t = differ g 1 (only_if c 0 1) r.1 in omega arith)
        ])
      ])
]

-- Where no number stands at two trees of a body, nor 0 at any, no two of its nodes have one tree, tag and copy.
pub distinct_nodes : (ps : List ℕ) (ts : Trees) → AreNumbered ts → AreDistinct (body_nodes ps ts)
distinct_nodes ps ts h m g c =
    let e = occurs-append m g c (all_nodes 0 ts) (end_node ∷ []) in
    let f = occurs-all_nodes m g c 0 ts in
    let o = three_own m g c in
    let k = h m in omega arith
