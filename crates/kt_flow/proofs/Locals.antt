-- How many locals the nodes of a body declare.
use Rattle.std.proofs.Common.{◌≡◌, ℕ, suc, ◌+◌, List, [], ◌∷◌, ◌++◌, map, length, Bool, true, false, cond, refl, sym, ap, ◌∙◌, arith, length-append, zero-add, min, nat_lt, IsTrue, ◌↔◌, ◌<◌}
use Rattle.std.proofs.lemmas.Bool.{ltb-true, lt-ltb}
use Rattle.std.specs.List.{flat_map, count_by}
use Rattle.std.proofs.lemmas.Grind.{flat_map-append}
use Rattle.std.proofs.lemmas.List.Sums.{sum_by-append}
use Rattle.kt_model.specs.BodyTrees.{Mark, Tree, Trees, Operation', Name', Paren', Not', And', Or', If', Declare', Local', Assign', Compound', Call', Return', Throw', Shut', Empty', First'}
use Rattle.kt_model.specs.ControlFlow.{Node, nodes, all_nodes, leave_nodes, in_of, out_of, in_effects, out_effects, assume, bring, end_node}
use Rattle.kt_model.specs.Bodies.{declared_by, variables_of}
use Rattle.kt_paths.specs.FlowRules.{locals_of, most_locals}
use Rattle.kt_model.specs.TreesWithin.{trees_in, all_trees_in}
use Rattle.kt_flow.specs.Notes.{note, declares_local, trees_notes}

-- how many locals nodes declare, and how many trees declare one
many : List Node → ℕ
many ns = length (variables_of ns)

locals : List Tree → ℕ
locals ts = count_by declares_local ts

here : Tree → ℕ
here t = cond (declares_local t) 1 0

many-append : (xs ys : List Node) → many (xs ++ ys) ≡ many xs + many ys
unfolding many
many-append xs ys = ap length (flat_map-append (λ (n : Node). declared_by n.effects) xs ys) ∙ length-append (variables_of xs) (variables_of ys)

many-one : (n : Node) (ns : List Node) → many (n ∷ ns) ≡ length (declared_by n.effects) + many ns
unfolding many
many-one n ns = length-append (declared_by n.effects) (variables_of ns)

many-none : many [] ≡ 0
unfolding many
many-none = refl

count_first : {X : Type 0} (p : X → Bool) (x : X) (xs : List X) → count_by p (x ∷ xs) ≡ cond (p x) 1 0 + count_by p xs
count_first p x xs = sum_by-append (λ y. cond (p y) 1 0) (x ∷ []) xs ∙ ap (λ k. k + count_by p xs) (zero-add (cond (p x) 1 0))

locals-append : (xs ys : List Tree) → locals (xs ++ ys) ≡ locals xs + locals ys
unfolding locals
locals-append xs ys = sum_by-append (λ t. cond (declares_local t) 1 0) xs ys

locals-one : (t : Tree) (ts : List Tree) → locals (t ∷ ts) ≡ here t + locals ts
unfolding locals here
locals-one t ts = count_first declares_local t ts

locals-none : locals [] ≡ 0
unfolding locals
locals-none = refl

-- a tree's `in` declares nothing, its `out` what the tree does
in_declares : (t : Tree) → length (declared_by (in_effects t)) ≡ 0
in_declares (Compound' n at x fixed o operand) = refl
in_declares t = refl

out_declares : (t : Tree) → length (declared_by (out_effects t)) ≡ here t
unfolding here declares_local
out_declares (Name' n at x) = refl
out_declares (Declare' n x) = refl
out_declares (Local' n at x e) = refl
out_declares (Assign' n at x fixed e) = refl
out_declares (Compound' n at x fixed o operand) = refl
out_declares t = refl

outs : (k : ℕ) (t : Tree) → many (out_of k t ∷ []) ≡ here t
outs k t = let a = many-one (out_of k t) [] in let b = out_declares t in let c = many-none in omega arith

assumed : (k : ℕ) (t : Tree) → many (assume k t true ∷ assume k t false ∷ []) ≡ 0
unfolding many
assumed k t = refl

leaves : (b : Bool) (k : ℕ) (t : Tree) → many (leave_nodes b k t) ≡ here t
leaves false k t = outs k t
leaves true k t =
    let a = many-one (out_of k t) (assume k t true ∷ assume k t false ∷ []) in
    let b = out_declares t in
    let c = assumed k t in omega arith

ins : (k : ℕ) (t : Tree) (ns : List Node) → many (in_of k t ∷ ns) ≡ many ns
ins k t ns = let a = many-one (in_of k t) ns in let b = in_declares t in omega arith

around : (b : Bool) (k : ℕ) (t : Tree) (xs : List Node) (ts : List Tree) → many xs ≡ locals ts → many (in_of k t ∷ (xs ++ leave_nodes b k t)) ≡ locals (t ∷ ts)
around b k t xs ts e =
    let a = ins k t (xs ++ leave_nodes b k t) in
    let f = many-append xs (leave_nodes b k t) in
    let g = leaves b k t in
    let h = locals-one t ts in omega arith

alone : (b : Bool) (k : ℕ) (t : Tree) → many (in_of k t ∷ leave_nodes b k t) ≡ locals (t ∷ [])
alone b k t = around b k t [] [] (many-none ∙ sym locals-none)

inside : (k : ℕ) (t : Tree) (xs : List Node) (ts : List Tree) → many xs ≡ locals ts → many (in_of k t ∷ (xs ++ out_of k t ∷ [])) ≡ locals (t ∷ ts)
inside k t xs ts e = around false k t xs ts e

both : (xs ys : List Node) (ts us : List Tree) → many xs ≡ locals ts → many ys ≡ locals us → many (xs ++ ys) ≡ locals (ts ++ us)
both xs ys ts us e f = let a = many-append xs ys in let b = locals-append ts us in omega arith

two : (k : ℕ) (t : Tree) (xs ys : List Node) (ts us : List Tree) → many xs ≡ locals ts → many ys ≡ locals us → many (in_of k t ∷ (xs ++ (ys ++ out_of k t ∷ []))) ≡ locals (t ∷ (ts ++ us))
two k t xs ys ts us e f =
    let a = ins k t (xs ++ (ys ++ out_of k t ∷ [])) in
    let b = many-append xs (ys ++ out_of k t ∷ []) in
    let c = many-append ys (out_of k t ∷ []) in
    let d = outs k t in
    let g = locals-one t (ts ++ us) in
    let h = locals-append ts us in omega arith

three : (b : Bool) (k : ℕ) (t : Tree) (xs ys zs : List Node) (ts us vs : List Tree) → many xs ≡ locals ts → many ys ≡ locals us → many zs ≡ locals vs → many (in_of k t ∷ (xs ++ (ys ++ (zs ++ leave_nodes b k t)))) ≡ locals (t ∷ (ts ++ (us ++ vs)))
three b k t xs ys zs ts us vs e f g =
    let a = ins k t (xs ++ (ys ++ (zs ++ leave_nodes b k t))) in
    let h = many-append xs (ys ++ (zs ++ leave_nodes b k t)) in
    let i = many-append ys (zs ++ leave_nodes b k t) in
    let j = many-append zs (leave_nodes b k t) in
    let l = leaves b k t in
    let m = locals-one t (ts ++ (us ++ vs)) in
    let n = locals-append ts (us ++ vs) in
    let o = locals-append us vs in omega arith

shut_none : (n : Mark) → locals (Shut' n ∷ []) ≡ 0
unfolding locals declares_local
shut_none n = refl

mutual
  unfolding nodes trees_in

  -- of a tree the nodes declare as many locals as the trees in it
  many-nodes : (b : Bool) (k : ℕ) (t : Tree) → many (nodes b k t) ≡ locals (trees_in t)
  many-nodes b k (Operation' n o ps) = around b k (Operation' n o ps) (all_nodes k ps) (all_trees_in ps) (many-all_nodes k ps)
  many-nodes b k (Name' n at x) = alone b k (Name' n at x)
  many-nodes b k (Paren' n e) = inside k (Paren' n e) (nodes b k e) (trees_in e) (many-nodes b k e)
  many-nodes b k (Not' n e) = inside k (Not' n e) (nodes true k e) (trees_in e) (many-nodes true k e)
  many-nodes b k (And' n x y) = two k (And' n x y) (nodes true k x) (nodes true k y) _ _ (many-nodes true k x) (many-nodes true k y)
  many-nodes b k (Or' n x y) = two k (Or' n x y) (nodes true k x) (nodes true k y) _ _ (many-nodes true k x) (many-nodes true k y)
  many-nodes b k (If' n braces c x y) = three b k (If' n braces c x y) (nodes true k c) (all_nodes k x) (all_nodes k y) _ _ _ (many-nodes true k c) (many-all_nodes k x) (many-all_nodes k y)
  many-nodes b k (Declare' n x) = alone b k (Declare' n x)
  many-nodes b k (Local' n at x e) = around b k (Local' n at x e) (nodes false k e) (trees_in e) (many-nodes false k e)
  many-nodes b k (Assign' n at x fixed e) = around b k (Assign' n at x fixed e) (nodes false k e) (trees_in e) (many-nodes false k e)
  many-nodes b k (Compound' n at x fixed o ps) = around b k (Compound' n at x fixed o ps) (all_nodes k ps) (all_trees_in ps) (many-all_nodes k ps)
  many-nodes b k (Call' n f returns ps) = around b k (Call' n f returns ps) (all_nodes k ps) (all_trees_in ps) (many-all_nodes k ps)
  many-nodes b k (Return' n ps) = inside k (Return' n ps) (all_nodes k ps) (all_trees_in ps) (many-all_nodes k ps)
  many-nodes b k (Throw' n e) = inside k (Throw' n e) (nodes false k e) (trees_in e) (many-nodes false k e)
  many-nodes b k (Shut' n) = ins k (Shut' n) [] ∙ many-none ∙ sym (shut_none n)

  many-all_nodes : (k : ℕ) (ts : Trees) → many (all_nodes k ts) ≡ locals (all_trees_in ts)
  many-all_nodes k Empty' = many-none ∙ sym locals-none
  many-all_nodes k (First' t ts) = both (nodes false k t) (all_nodes k ts) (trees_in t) (all_trees_in ts) (many-nodes false k t) (many-all_nodes k ts)

-- what notes the trees have
noted : (ts : List Tree) → locals ts ≡ count_by (λ n. n.declares) (map note ts)
unfolding locals note
noted [] = refl
noted (t ∷ ts) =
    count_first declares_local t ts ∙ ap (λ k. cond (declares_local t) 1 0 + k) (noted ts) ∙ sym (count_first (λ n. n.declares) (note t) (map note ts))

brought : (ps : List ℕ) → length (declared_by (flat_map bring ps)) ≡ length ps
brought [] = refl
brought (p ∷ ps) = ap suc (brought ps)

ended : many (end_node ∷ []) ≡ 0
unfolding many
ended = refl

-- the locals of a body are its parameters and what its notes declare
pub locals_are : (ps : List ℕ) (ts : Trees) → locals_of ps ts ≡ length ps + count_by (λ n. n.declares) (trees_notes ts)
unfolding many
locals_are ps ts =
    let a : locals_of ps ts ≡ length (declared_by (flat_map bring ps)) + many (all_nodes 0 ts ++ end_node ∷ []) = length-append (declared_by (flat_map bring ps)) (variables_of (all_nodes 0 ts ++ end_node ∷ [])) in
    let b = brought ps in
    let c = many-append (all_nodes 0 ts) (end_node ∷ []) in
    let d = ended in
    let e = many-all_nodes 0 ts in
    let f = noted (all_trees_in ts) in omega arith

-- whether there are too many, by a sum that stands still at the greatest number
pub many_locals : {declared parameters sum all p d : ℕ} → sum ≡ min (declared + parameters) 18446744073709551615 → all ≡ p + d → parameters ≡ p → declared ≡ d → IsTrue (nat_lt 250 sum) ↔ (most_locals < all)
many_locals {declared} {parameters} {sum} {all} {p} {d} is e f g = (
  λ t. (let more : 250 < sum = ltb-true 250 sum t in omega arith),
  λ more. lt-ltb 250 sum (omega arith),
)
