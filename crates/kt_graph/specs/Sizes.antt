-- How many nodes the graph of a tree has, by whether it is a condition; in each copy as many.
use Rattle.std.specs.Prelude.{◌≡◌, ℕ, ◌+◌, min, Bool, true, false}
use Rattle.kt_model.specs.BodyTrees.{Tree, Trees, Operation', Name', Paren', Not', And', Or', If', Declare', Local', Assign', Compound', Call', Return', Throw', Shut', Empty', First'}

-- `in`, `out`, and what assumes the outcome of a condition
abbrev pub own_size : Bool → ℕ
own_size true = 4
own_size false = 2

abbrev mutual
  pub size : Bool → Tree → ℕ
  size branching (Operation' n o parts) = own_size branching + all_size parts
  size branching (Name' n at x) = own_size branching
  size branching (Paren' n e) = 2 + size branching e
  size branching (Not' n e) = 2 + size true e
  size branching (And' n a b) = 2 + (size true a + size true b)
  size branching (Or' n a b) = 2 + (size true a + size true b)
  size branching (If' n braces c a b) = own_size branching + (size true c + (all_size a + all_size b))
  size branching (Declare' n x) = own_size branching
  size branching (Local' n at x e) = own_size branching + size false e
  size branching (Assign' n at x fixed e) = own_size branching + size false e
  size branching (Compound' n at x fixed o operand) = own_size branching + all_size operand
  size branching (Call' n f returns arguments) = own_size branching + all_size arguments
  size branching (Return' n value) = 2 + all_size value
  size branching (Throw' n e) = 2 + size false e
  size branching (Shut' n) = 1

  pub all_size : Trees → ℕ
  all_size Empty' = 0
  all_size (First' t rest) = size false t + all_size rest

-- a count that stands still one past the most nodes of a graph
abbrev pub capped : ℕ → ℕ
capped n = min 65537 n

-- the count of two parts together
abbrev pub Adds : (a b sum : ℕ) → Type 0
Adds a b sum = (x y : ℕ) → a ≡ capped x → b ≡ capped y → sum ≡ capped (x + y)
