-- A node of a body is known by its tree, its tag and its copy: how often these three occur among nodes, and how often a number among trees.
use Rattle.std.specs.Prelude.{ℕ, ◌+◌, ◌≤◌, List, [], ◌∷◌, ◌==◌, if◌then◌else◌}
use Rattle.kt_model.specs.declared.graph.Tag.{Tag}
use Rattle.kt_model.specs.declared.graph.Tag.TheVariants as tag
use Rattle.kt_model.specs.BodyTrees.{Tree, Trees, Operation', Name', Paren', Not', And', Or', If', Declare', Local', Assign', Compound', Call', Return', Throw', Shut', Empty', First'}
use Rattle.kt_model.specs.ControlFlow.{Node}

abbrev pub tag_number : Tag → ℕ
tag_number tag.Entry = 0
tag_number tag.Params = 1
tag_number tag.Super = 2
tag_number tag.Field = 3
tag_number tag.In = 4
tag_number tag.Assume = 5
tag_number tag.Catch = 6
tag_number tag.Val = 7
tag_number tag.Head = 8
tag_number tag.Turn = 9
tag_number tag.Back = 10
tag_number tag.Next = 11
tag_number tag.Handler = 12
tag_number tag.Enter = 13
tag_number tag.Body = 14
tag_number tag.Hub = 15
tag_number tag.After = 16
tag_number tag.Out = 17
tag_number tag.End = 18

-- a number where two others are the same, else 0
unfoldable pub only_if : (a b x : ℕ) → ℕ
only_if a b x = if a == b then x else 0

-- 1 for a node with this tree, tag and copy
abbrev pub hits : (tree tag copy : ℕ) → Node → ℕ
hits n g c x = only_if n x.tree (only_if g (tag_number x.tag) (only_if c x.copy 1))

abbrev pub occurs : (tree tag copy : ℕ) → List Node → ℕ
occurs n g c [] = 0
occurs n g c (x ∷ xs) = hits n g c x + occurs n g c xs

-- how many trees in a tree have a number
abbrev mutual
  pub times : ℕ → Tree → ℕ
  times m (Operation' n o parts) = only_if m n.number 1 + all_times m parts
  times m (Name' n at x) = only_if m n.number 1
  times m (Paren' n e) = only_if m n.number 1 + times m e
  times m (Not' n e) = only_if m n.number 1 + times m e
  times m (And' n a b) = only_if m n.number 1 + (times m a + times m b)
  times m (Or' n a b) = only_if m n.number 1 + (times m a + times m b)
  times m (If' n braces c a b) = only_if m n.number 1 + (times m c + (all_times m a + all_times m b))
  times m (Declare' n x) = only_if m n.number 1
  times m (Local' n at x e) = only_if m n.number 1 + times m e
  times m (Assign' n at x fixed e) = only_if m n.number 1 + times m e
  times m (Compound' n at x fixed o operand) = only_if m n.number 1 + all_times m operand
  times m (Call' n f returns arguments) = only_if m n.number 1 + all_times m arguments
  times m (Return' n value) = only_if m n.number 1 + all_times m value
  times m (Throw' n e) = only_if m n.number 1 + times m e
  times m (Shut' n) = only_if m n.number 1

  pub all_times : ℕ → Trees → ℕ
  all_times m Empty' = 0
  all_times m (First' t rest) = times m t + all_times m rest

-- No number stands at two trees of a body, and 0 at none.
abbrev pub AreNumbered : Trees → Type 0
AreNumbered ts = (m : ℕ) → only_if m 0 1 + all_times m ts ≤ 1

-- No two nodes have one tree, tag and copy.
abbrev pub AreDistinct : List Node → Type 0
AreDistinct ns = (tree tag copy : ℕ) → occurs tree tag copy ns ≤ 1
