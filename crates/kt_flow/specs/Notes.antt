-- What the rules along paths look at in the trees of a body.
use Rattle.std.specs.Prelude.{ℕ, Bool, true, false, List, [], ◌∷◌, ◌++◌, map, None}
use Rattle.std.specs.List.Sorted.{IsStrictlyIncreasing}
use Rattle.kt_tree.specs.declared.token.Span.{Span}
use Rattle.kt_tree.specs.declared.ast.body.Expr.{Expr}
use Rattle.kt_tree.specs.declared.ast.body.Stmt.{Stmt}
use Rattle.kt_tree.specs.declared.ast.body.Branch.{Branch}
use Rattle.kt_tree.specs.declared.ast.body.StringPart.{StringPart}
use Rattle.kt_model.specs.declared.uses.Named.{Named}
use Rattle.kt_model.specs.BodyTrees.{Tree, Trees, Operation', Name', Paren', Not', And', Or', If', Declare', Local', Assign', Compound', Call', Return', Throw', Shut', number, expr_tree, stmt_tree, branch_trees, piece, inserted_of}
use Rattle.kt_model.specs.TreesWithin.{trees_in, all_trees_in, word_of, read_by, fixed_by}
use Rattle.kt_flow.specs.declared.notes.TreeNote.{TreeNote}

-- whether a tree itself declares a local
unfoldable pub declares_local : Tree → Bool
declares_local (Declare' n x) = true
declares_local (Local' n at x e) = true
declares_local _ = false

-- what is noted of a tree
unfoldable pub note : Tree → TreeNote
note t = record { tree = number t; word = word_of t; read = read_by t; fixed = fixed_by t; declares = declares_local t }

-- of one that does nothing to a local
abbrev pub plain_note : ℕ → Span → TreeNote
plain_note n at = record { tree = n; word = at; read = None; fixed = None; declares = false }

-- the trees in a tree, without itself
unfoldable pub parts_in : Tree → List Tree
parts_in (Operation' n o parts) = all_trees_in parts
parts_in (Name' n at x) = []
parts_in (Paren' n e) = trees_in e
parts_in (Not' n e) = trees_in e
parts_in (And' n a b) = trees_in a ++ trees_in b
parts_in (Or' n a b) = trees_in a ++ trees_in b
parts_in (If' n braces c a b) = trees_in c ++ (all_trees_in a ++ all_trees_in b)
parts_in (Declare' n x) = []
parts_in (Local' n at x e) = trees_in e
parts_in (Assign' n at x fixed e) = trees_in e
parts_in (Compound' n at x fixed o operand) = all_trees_in operand
parts_in (Call' n f returns arguments) = all_trees_in arguments
parts_in (Return' n value) = all_trees_in value
parts_in (Throw' n e) = trees_in e
parts_in (Shut' n) = []

abbrev pub tree_notes : Tree → List TreeNote
tree_notes t = map note (trees_in t)

abbrev pub trees_notes : Trees → List TreeNote
trees_notes ts = map note (all_trees_in ts)

abbrev pub part_notes : Tree → List TreeNote
part_notes t = map note (parts_in t)

-- those of what is written
abbrev pub expr_notes : (ℕ → Named) → Expr → List TreeNote
expr_notes uses e = tree_notes (expr_tree uses e)

abbrev pub stmt_notes : (ℕ → Named) → Stmt → List TreeNote
stmt_notes uses s = tree_notes (stmt_tree uses s)

abbrev pub piece_notes : (ℕ → Named) → StringPart → List TreeNote
piece_notes uses p = trees_notes (inserted_of (piece uses p ∷ []))

abbrev pub branch_notes : (ℕ → Named) → Branch → List TreeNote
branch_notes uses b = trees_notes (branch_trees uses b)

-- The numbers of the trees rise.
abbrev pub AreRising : List TreeNote → Type 0
AreRising notes = IsStrictlyIncreasing (map (λ n. n.tree) notes)

-- They rise from above 0.
abbrev pub RiseFromZero : List TreeNote → Type 0
RiseFromZero notes = IsStrictlyIncreasing (0 ∷ map (λ n. n.tree) notes)
