-- The trees of a body out of which a path leads, and the trees at which that is asked.
use Rattle.std.specs.Prelude.{ℕ, Bool, true, false, ◌&&◌, not, List, Option, Some, None, nat_eq}
use Rattle.std.specs.List.{list_any}
use Rattle.kt_tree.specs.declared.ast.part.Assignment.{Assignment}
use Rattle.kt_tree.specs.declared.ast.part.Assignment.TheVariants as assignment
use Rattle.kt_model.specs.declared.uses.Named.{Named}
use Rattle.kt_model.specs.declared.uses.Named.TheVariants as named
use Rattle.kt_model.specs.BodyTrees.{Tree, Declare', Local', Assign', Compound'}

-- a tree is in the list
abbrev pub is_in : List ℕ → ℕ → Bool
is_in trees tree = list_any (λ t. nat_eq t tree) trees

-- the number of a declaration or an assignment; None of another tree
abbrev pub declared_number : Tree → Option ℕ
declared_number (Declare' n x) = Some n.number
declared_number (Local' n at x e) = Some n.number
declared_number (Assign' n at x fixed e) = Some n.number
declared_number (Compound' n at x fixed o operand) = Some n.number
declared_number _ = None

-- the number, where there is a value
abbrev pub number_if : Bool → ℕ → Option ℕ
number_if true n = Some n
number_if false n = None

-- the number of an assignment, whose value may be missing in `x++` and `x--` alone
abbrev pub assigned_number : Assignment → (valued : Bool) → ℕ → Option ℕ
assigned_number assignment.Plain valued n = number_if valued n
assigned_number assignment.Sum valued n = Some n
assigned_number (assignment.Arithmetic o) valued n = Some n

-- the number, where a name stands for a variable
abbrev pub if_variable : Named → Option ℕ → Option ℕ
if_variable (named.Variable x fixed) n = n
if_variable _ n = None

-- whether a block never ends, by whether a tree of it is of type `Nothing`, and the number of its last tree, where that is a declaration or an assignment
abbrev pub never_left : List ℕ → (nothing : Bool) → Option ℕ → Bool
never_left left nothing None = false
never_left left nothing (Some n) = nothing && not (is_in left n)
