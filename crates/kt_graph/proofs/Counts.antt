-- How many nodes a tree adds, and how counts go together.
use Rattle.std.proofs.Common.{◌<◌, ◌≤◌, ◌*◌, ◌^◌, ◌⊎◌, inl, inr, ◌≡◌, ℕ, suc, ◌+◌, min, List, [], ◌∷◌, ◌++◌, length, Bool, true, false, refl, sym, ap, ◌∙◌, arith, length-append, zero-add, add-zero}
use Rattle.kt_tree.specs.declared.ast.body.Expr.{Expr}
use Rattle.kt_model.specs.declared.uses.Named.{Named}
use Rattle.kt_model.specs.BodyTrees.{expr_tree, Piece, Text', Inserted', inserted_of, Tree, Trees, Operation', Name', Paren', Not', And', Or', If', Declare', Local', Assign', Compound', Call', Return', Throw', Shut', Empty', First'}
use Rattle.kt_model.specs.ControlFlow.{Node, nodes, all_nodes, leave_nodes, out_of, body_nodes, end_node}
use Rattle.kt_model.specs.Bodies.{IsTooLarge}
use Rattle.kt_graph.specs.Sizes.{size, all_size, own_size, capped, Adds}

-- what stands between `in` and the nodes at the end of a tree
between : (b : Bool) (copy : ℕ) (t : Tree) (xs : List Node) → suc (length (xs ++ leave_nodes b copy t)) ≡ own_size b + length xs
between true copy t xs = omega (arith, length-append xs (leave_nodes true copy t))
between false copy t xs = omega (arith, length-append xs (leave_nodes false copy t))

-- and between `in` and `out`
inside : (copy : ℕ) (t : Tree) (xs : List Node) → suc (length (xs ++ out_of copy t ∷ [])) ≡ 2 + length xs
inside copy t xs = omega (arith, length-append xs (out_of copy t ∷ []))

two : (copy : ℕ) (t : Tree) (xs ys : List Node) (x y : ℕ) → length xs ≡ x → length ys ≡ y → suc (length (xs ++ (ys ++ out_of copy t ∷ []))) ≡ 2 + (x + y)
two copy t xs ys x y e f = omega (arith, length-append xs (ys ++ out_of copy t ∷ []), length-append ys (out_of copy t ∷ []))

three : (b : Bool) (copy : ℕ) (t : Tree) (xs ys zs : List Node) (x y z : ℕ) → length xs ≡ x → length ys ≡ y → length zs ≡ z → suc (length (xs ++ (ys ++ (zs ++ leave_nodes b copy t)))) ≡ own_size b + (x + (y + z))
three b copy t xs ys zs x y z e f g =
    omega (arith, length-append xs (ys ++ (zs ++ leave_nodes b copy t)), length-append ys (zs ++ leave_nodes b copy t), between b copy t zs)

append : (xs ys : List Node) (x y : ℕ) → length xs ≡ x → length ys ≡ y → length (xs ++ ys) ≡ x + y
append xs ys x y e f = omega (arith, length-append xs ys)

mutual
  unfolding nodes

  pub length-nodes : (b : Bool) (copy : ℕ) (t : Tree) → length (nodes b copy t) ≡ size b t
  length-nodes b copy (Operation' n o ps) = between b copy (Operation' n o ps) (all_nodes copy ps) ∙ ap (λ k. own_size b + k) (length-all_nodes copy ps)
  length-nodes true copy (Name' n at x) = refl
  length-nodes false copy (Name' n at x) = refl
  length-nodes b copy (Paren' n e) = inside copy (Paren' n e) (nodes b copy e) ∙ ap (λ k. 2 + k) (length-nodes b copy e)
  length-nodes b copy (Not' n e) = inside copy (Not' n e) (nodes true copy e) ∙ ap (λ k. 2 + k) (length-nodes true copy e)
  length-nodes b copy (And' n x y) = two copy (And' n x y) (nodes true copy x) (nodes true copy y) _ _ (length-nodes true copy x) (length-nodes true copy y)
  length-nodes b copy (Or' n x y) = two copy (Or' n x y) (nodes true copy x) (nodes true copy y) _ _ (length-nodes true copy x) (length-nodes true copy y)
  length-nodes b copy (If' n braces c x y) = three b copy (If' n braces c x y) (nodes true copy c) (all_nodes copy x) (all_nodes copy y) _ _ _ (length-nodes true copy c) (length-all_nodes copy x) (length-all_nodes copy y)
  length-nodes true copy (Declare' n x) = refl
  length-nodes false copy (Declare' n x) = refl
  length-nodes b copy (Local' n at x e) = between b copy (Local' n at x e) (nodes false copy e) ∙ ap (λ k. own_size b + k) (length-nodes false copy e)
  length-nodes b copy (Assign' n at x fixed e) = between b copy (Assign' n at x fixed e) (nodes false copy e) ∙ ap (λ k. own_size b + k) (length-nodes false copy e)
  length-nodes b copy (Compound' n at x fixed o ps) = between b copy (Compound' n at x fixed o ps) (all_nodes copy ps) ∙ ap (λ k. own_size b + k) (length-all_nodes copy ps)
  length-nodes b copy (Call' n f returns ps) = between b copy (Call' n f returns ps) (all_nodes copy ps) ∙ ap (λ k. own_size b + k) (length-all_nodes copy ps)
  length-nodes b copy (Return' n ps) = inside copy (Return' n ps) (all_nodes copy ps) ∙ ap (λ k. 2 + k) (length-all_nodes copy ps)
  length-nodes b copy (Throw' n e) = inside copy (Throw' n e) (nodes false copy e) ∙ ap (λ k. 2 + k) (length-nodes false copy e)
  length-nodes b copy (Shut' n) = refl

  pub length-all_nodes : (copy : ℕ) (ts : Trees) → length (all_nodes copy ts) ≡ all_size ts
  length-all_nodes copy Empty' = refl
  length-all_nodes copy (First' t ts) = append (nodes false copy t) (all_nodes copy ts) _ _ (length-nodes false copy t) (length-all_nodes copy ts)

-- ---- counts

-- the count of a tree under another name
pub counted : (b : Bool) {r : ℕ} {t u : Tree} → u ≡ t → r ≡ capped (size b t) → r ≡ capped (size b u)
counted b e h = h ∙ sym (ap (λ t. capped (size b t)) e)

pub all_counted : {r : ℕ} {t u : Trees} → u ≡ t → r ≡ capped (all_size t) → r ≡ capped (all_size u)
all_counted e h = h ∙ sym (ap (λ t. capped (all_size t)) e)

-- the count of an expression that stands in a box
pub expr_counted : (uses : ℕ → Named) (b : Bool) {r : ℕ} {x y : Expr} → x ≡ y → r ≡ capped (size b (expr_tree uses x)) → r ≡ capped (size b (expr_tree uses y))
expr_counted uses b e h = counted b (ap (expr_tree uses) (sym e)) h

-- one part
pub count_one : {r : ℕ} (t : Tree) → r ≡ capped (size false t) → r ≡ capped (all_size (First' t Empty'))
count_one {r} t h = h ∙ ap capped (sum_is (size false t))
  where
    sum_is : (n : ℕ) → n ≡ n + 0
    sum_is n = omega arith

-- two parts
pub count_two : {a b r : ℕ} (t u : Tree) → Adds a b r → a ≡ capped (size false t) → b ≡ capped (size false u) → r ≡ capped (all_size (First' t (First' u Empty')))
count_two t u add e f = add (size false t) (size false u) e f ∙ ap capped (sum_is (size false t) (size false u))
  where
    sum_is : (m n : ℕ) → m + n ≡ m + (n + 0)
    sum_is m n = omega arith

-- what stands alone
pub own_alone : (b : Bool) → capped (own_size b) ≡ capped (own_size b + 0)
own_alone true = refl
own_alone false = refl

-- a part of a string in front of others
pub count_piece : (p : Piece) (ps : List Piece) {a b r : ℕ} → Adds a b r → a ≡ capped (all_size (inserted_of (p ∷ []))) → b ≡ capped (all_size (inserted_of ps)) → r ≡ capped (all_size (inserted_of (p ∷ ps)))
count_piece (Text' bytes) ps add e f = add 0 (all_size (inserted_of ps)) e f ∙ ap capped (zero-add _)
count_piece (Inserted' t) ps add e f =
    add (size false t) (all_size (inserted_of ps)) (e ∙ ap capped (add-zero _)) f

-- ---- the size of a body

-- a body has three nodes beside those of its trees
length-body : (ps : List ℕ) (ts : Trees) → length (body_nodes ps ts) ≡ 3 + all_size ts
length-body ps ts = omega (arith, length-append (all_nodes 0 ts) (end_node ∷ []), length-all_nodes 0 ts)

-- the count of a body's nodes, by that of its trees
pub nodes_counted : (ps : List ℕ) (ts : Trees) (count nodes : ℕ) → count ≡ capped (all_size ts) → Adds 3 count nodes → nodes ≡ capped (length (body_nodes ps ts))
nodes_counted ps ts count nodes e add = add 3 (all_size ts) refl e ∙ ap capped (sym (length-body ps ts))

-- a count within the limit is exact
pub exact : (nodes n : ℕ) → nodes ≡ capped n → nodes ≤ 65536 → nodes ≡ n
exact nodes n e h = let sum : nodes ≡ min 65537 n = e in omega arith

-- a count past the limit is of a body that is too large
pub large : (nodes n classes : ℕ) → nodes ≡ capped n → 65536 < nodes → IsTooLarge n 0 classes
large nodes n classes e h = let sum : nodes ≡ min 65537 n = e in inl (omega arith)

-- and one within it is not
pub small : (n classes : ℕ) → n ≤ 65536 → IsTooLarge n 0 classes → ⊥
small n classes h (inl large) = omega arith
small n classes h (inr many) = absurd (nothing_above n classes many)
  where
    nothing_above : (n classes : ℕ) → 2 ^ 30 < n * (0 * (2 * classes + 2)) → ⊥
    nothing_above n classes h = omega arith

-- a body whose count is within the limit is not too large
pub fits : (nodes n classes : ℕ) → nodes ≡ capped n → nodes ≤ 65536 → IsTooLarge n 0 classes → ⊥
fits nodes n classes e h = small n classes (let same : nodes ≡ n = exact nodes n e h in omega arith)
