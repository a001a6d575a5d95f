-- The end of a function's block, by the places of a graph.
use Rattle.std.specs.Prelude.{◌≡◌, ◌≢◌, ◌⊎◌, ◌↔◌, ℕ, ◌<◌, Bool, true, false, List, Contains, length, Option, Some, None, slice_get}
use Rattle.kt_tree.specs.declared.ast.body.Block.{Block}
use Rattle.kt_tree.specs.declared.ast.declaration.Contract.{Contract}
use Rattle.kt_tree.specs.declared.ast.declaration.File.{File}
use Rattle.kt_tree.specs.declared.ast.declaration.FunctionBody.{FunctionBody}
use Rattle.kt_tree.specs.declared.ast.declaration.FunctionBody.TheVariants as written
use Rattle.kt_tree.specs.declared.ast.declaration.FunctionDecl.{FunctionDecl}
use Rattle.kt_model.specs.Bodies.{node_at}
use Rattle.kt_model.specs.BodyTrees.{Tree, Trees, Empty', number, block_trees}
use Rattle.kt_model.specs.BuiltIns.{unit_type}
use Rattle.kt_model.specs.NameUses.{Resolved, named_at, declaration_type, function_place}
use Rattle.kt_model.specs.NodePaths.{IsReached}
use Rattle.kt_model.specs.declared.finding.Finding.{Finding}
use Rattle.kt_model.specs.declared.finding.Rule.TheVariants.{NoReturn}
use Rattle.kt_model.specs.declared.graph.Graph.{Graph}
use Rattle.kt_model.specs.declared.graph.Tag.TheVariants.{Out}
use Rattle.kt_model.specs.declared.uses.Owner.{Owner}
use Rattle.kt_model.specs.declared.uses.Owner.TheVariants as owner
use Rattle.kt_paths.specs.FlowRules.{last_tree, can_be_followed}
use Rattle.kt_flow.specs.Against.{IsAgainstBefore}
use Rattle.kt_flow.specs.declared.notes.TreeNote.{TreeNote}

-- a place is reached and is the `out` of the tree
pub record IsLeftAt (g : Graph) (tree node : ℕ) : Type 0 where
  pub same_tree : (node_at g.nodes node).tree ≡ tree
  pub leaves : (node_at g.nodes node).tag ≡ Out
  pub reached : IsReached g node

-- one before a place is
pub record IsLeftBefore (g : Graph) (tree place : ℕ) : Type 0 where
  pub node : ℕ
  pub before : node < place
  pub there : IsLeftAt g tree node

-- A walk has put in the trees of which this holds, and no others.
abbrev pub AddsTrees : (ℕ → Type 0) → List ℕ → List ℕ → Type 0
AddsTrees P old new = (tree : ℕ) → Contains new tree ↔ (Contains old tree ⊎ P tree)

-- the number of a tree, where what is behind the tree can follow it
abbrev pub number_if : Bool → ℕ → Option ℕ
number_if true n = Some n
number_if false n = None

abbrev pub followed : Tree → Option ℕ
followed t = number_if (can_be_followed t) (number t)

-- The end of trees is reached: there are none, or the last can be followed and is left.
pub data IsEndAt (g : Graph) (body : Trees) : Type 0 where
  no_tree_there : body ≡ Empty' → IsEndAt g body
  last_left : (t : Tree) (n : ℕ) → last_tree body ≡ Some t → followed t ≡ Some n → IsLeftBefore g n (length g.nodes) → IsEndAt g body

-- The end of a block is reached that is the body of a function at a place, whose result isn't `Unit`.
pub data FallsThrough (g : Graph) (uses : Resolved) (place : ℕ) : FunctionBody → Type 0 where
  block_ends : (contract : Option Contract) (block : Block) → declaration_type uses (function_place place) ≢ Some unit_type → IsEndAt g (block_trees (named_at uses) block)
      → FallsThrough g uses place (written.Block contract block)

-- NO_RETURN, in the body of an owner that has this graph
pub data IsAgainstEnd (file : File) (uses : Resolved) (g : Graph) : Owner → Finding → Type 0 where
  falls : (place : ℕ) (f : FunctionDecl) (body : FunctionBody) → slice_get file.functions place ≡ Some f → f.body ≡ Some body → FallsThrough g uses place body
      → IsAgainstEnd file uses g (owner.Function place) (record { rule = NoReturn; span = f.name.span })

-- what the nodes violate, and the end
abbrev pub IsAgainstBody : File → Resolved → Owner → List TreeNote → Graph → Finding → Type 0
IsAgainstBody file uses o notes g f = IsAgainstBefore notes g (length g.nodes) f ⊎ IsAgainstEnd file uses g o f
