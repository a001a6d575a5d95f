-- The trees of a body, and what each reads, assigns and calls. By recursion; an assigned name is no tree.
use Rattle.std.specs.Prelude.{ℕ, Bool, true, List, [], ◌∷◌, ◌++◌, Option, Some, None}
use Rattle.kt_tree.specs.declared.token.Span.{Span}
use Rattle.kt_model.specs.BodyTrees.{Mark, Tree, Trees, Empty', First', Operation', Name', Paren', Not', And', Or', If', Declare', Local', Assign', Compound', Call', Return', Throw', Shut'}
use Rattle.kt_model.specs.ControlFlow.{returns_of}

-- a tree and all that is in it; all trees in those that stand one behind another
unfoldable mutual
  pub trees_in : Tree → List Tree
  trees_in (Operation' n o parts) = Operation' n o parts ∷ all_trees_in parts
  trees_in (Name' n at x) = Name' n at x ∷ []
  trees_in (Paren' n e) = Paren' n e ∷ trees_in e
  trees_in (Not' n e) = Not' n e ∷ trees_in e
  trees_in (And' n a b) = And' n a b ∷ (trees_in a ++ trees_in b)
  trees_in (Or' n a b) = Or' n a b ∷ (trees_in a ++ trees_in b)
  trees_in (If' n braces c a b) = If' n braces c a b ∷ (trees_in c ++ (all_trees_in a ++ all_trees_in b))
  trees_in (Declare' n x) = Declare' n x ∷ []
  trees_in (Local' n at x e) = Local' n at x e ∷ trees_in e
  trees_in (Assign' n at x fixed e) = Assign' n at x fixed e ∷ trees_in e
  trees_in (Compound' n at x fixed o operand) = Compound' n at x fixed o operand ∷ all_trees_in operand
  trees_in (Call' n f returns arguments) = Call' n f returns arguments ∷ all_trees_in arguments
  trees_in (Return' n value) = Return' n value ∷ all_trees_in value
  trees_in (Throw' n e) = Throw' n e ∷ trees_in e
  trees_in (Shut' n) = Shut' n ∷ []

  pub all_trees_in : Trees → List Tree
  all_trees_in Empty' = []
  all_trees_in (First' t rest) = trees_in t ++ all_trees_in rest

-- what a tree is known by; and the span of the name that it declares, reads, assigns or calls, which is its own where it has none
abbrev pub mark_of : Tree → Mark
mark_of (Operation' n o parts) = n
mark_of (Name' n at x) = n
mark_of (Paren' n e) = n
mark_of (Not' n e) = n
mark_of (And' n a b) = n
mark_of (Or' n a b) = n
mark_of (If' n braces c a b) = n
mark_of (Declare' n x) = n
mark_of (Local' n at x e) = n
mark_of (Assign' n at x fixed e) = n
mark_of (Compound' n at x fixed o operand) = n
mark_of (Call' n f returns arguments) = n
mark_of (Return' n value) = n
mark_of (Throw' n e) = n
mark_of (Shut' n) = n

abbrev pub word_of : Tree → Span
word_of t = (mark_of t).word

-- the local that a tree itself reads
abbrev pub read_by : Tree → Option ℕ
read_by (Name' n at x) = Some x
read_by (Compound' n at x fixed o operand) = Some x
read_by _ = None

-- the `val` or parameter that a tree itself assigns
abbrev pub fixed_by : Tree → Option ℕ
fixed_by (Assign' n at x true e) = Some x
fixed_by (Compound' n at x true o operand) = Some x
fixed_by _ = None

-- the function that it calls
abbrev pub called_by : Tree → Option ℕ
called_by (Call' n f returns arguments) = Some f
called_by _ = None

-- Whether it is no call, or one that returns. No other calls are open.
abbrev pub returns_at : Tree → Bool
returns_at (Call' n f returns arguments) = returns
returns_at (Operation' n o parts) = returns_of o
returns_at _ = true
