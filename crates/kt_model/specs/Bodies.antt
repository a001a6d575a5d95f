-- The body of an owner, its parameters and its graph.
use Rattle.std.specs.Prelude.{◌≡◌, ℕ, ◌+◌, ◌*◌, ◌^◌, ◌<◌, ◌⊎◌, List, [], ◌∷◌, map, length, Option, Some, None, slice_get, slice_index_or}
use Rattle.std.specs.List.{flat_map, range_with_len}
use Rattle.kt_tree.specs.declared.ast.declaration.FunctionBody.{FunctionBody}
use Rattle.kt_tree.specs.declared.ast.declaration.FunctionBody.TheVariants as written
use Rattle.kt_tree.specs.declared.ast.declaration.FunctionDecl.{FunctionDecl}
use Rattle.kt_tree.specs.declared.ast.declaration.File.{File}
use Rattle.kt_model.specs.declared.uses.Owner.{Owner}
use Rattle.kt_model.specs.declared.uses.Owner.TheVariants as owner
use Rattle.kt_model.specs.declared.uses.Named.{Named}
use Rattle.kt_model.specs.declared.graph.Graph.{Graph}
use Rattle.kt_model.specs.declared.graph.EdgeRow.{EdgeRow}
use Rattle.kt_model.specs.declared.graph.Variable.{Variable}
use Rattle.kt_model.specs.declared.graph.FlowEffect.{FlowEffect}
use Rattle.kt_model.specs.declared.graph.FlowEffect.TheVariants as effect
use Rattle.kt_model.specs.declared.graph.Tag.TheVariants as tag
use Rattle.kt_model.specs.NameUses.{Resolved, named_at, parameters_at}
use Rattle.kt_model.specs.BodyTrees.{Trees, Empty', First', expr_tree, block_trees}
use Rattle.kt_model.specs.ControlFlow.{Node, Edge, node, body_nodes, body_edges}

-- A contract block belongs to no body.
abbrev pub written_trees : (ℕ → Named) → FunctionBody → Trees
written_trees uses (written.Expr e) = First' (expr_tree uses e) Empty'
written_trees uses (written.Block contract block) = block_trees uses block

abbrev pub body_trees_of : (ℕ → Named) → Option FunctionBody → Trees
body_trees_of uses (Some body) = written_trees uses body
body_trees_of uses None = Empty'

abbrev pub function_trees : (ℕ → Named) → Option FunctionDecl → Trees
function_trees uses (Some f) = body_trees_of uses f.body
function_trees uses None = Empty'

-- The trees of an owner's body. Those of members, getters and classes are not open yet.
abbrev pub owner_trees : File → Resolved → Owner → Trees
owner_trees file uses (owner.Function f) = function_trees (named_at uses) (slice_get file.functions f)
owner_trees file uses _ = Empty'

abbrev pub owner_parameters : Resolved → Owner → List ℕ
owner_parameters uses (owner.Function f) = parameters_at uses f
owner_parameters uses _ = []

-- what a place stands for in a list of nodes; past its end a node that no body has
abbrev pub node_at : List Node → ℕ → Node
node_at ns i = slice_index_or ns i (node 0 tag.Entry 1 [])

abbrev pub edge_at : List Node → EdgeRow → Edge
edge_at ns row = (node_at ns row.from, node_at ns row.to)

unfoldable pub edges_at : List Node → List EdgeRow → List Edge
edges_at ns rows = map (edge_at ns) rows

-- what effects declare
abbrev pub declared_by : List FlowEffect → List Variable
declared_by [] = []
declared_by (effect.Declare v ∷ es) = v ∷ declared_by es
declared_by (_ ∷ es) = declared_by es

abbrev pub variables_of : List Node → List Variable
variables_of ns = flat_map (λ (n : Node). declared_by n.effects) ns

-- a body is too large for its graph, by its nodes, the targets of facts, and the classes
abbrev pub IsTooLarge : (nodes targets classes : ℕ) → Type 0
IsTooLarge nodes targets classes = (65536 < nodes) ⊎ (2 ^ 30 < nodes * (targets * (2 * classes + 2)))

-- The graph of a body with these parameters and trees: exactly its nodes and edges.
pub record IsGraphOf (parameters : List ℕ) (body : Trees) (classes : ℕ) (g : Graph) : Type 0 where
  pub same_nodes : g.nodes ≡ body_nodes parameters body
  pub same_edges : edges_at g.nodes g.edges ≡ body_edges parameters body
  pub same_variables : g.variables ≡ variables_of g.nodes
  pub no_targets : g.targets ≡ []
  pub in_order : g.order ≡ range_with_len 0 (length g.nodes)
  pub same_classes : g.classes ≡ classes
