-- A graph under construction, read as nodes and as edges between nodes.
--
-- Numbers are decoded in the whole list of nodes, which ends with those that are there. So an edge means the same pair of nodes before and after each
-- addition.
use Rattle.std.specs.Prelude.{◌≡◌, ℕ, ◌+◌, ◌*◌, List, [], ◌∷◌, ◌++◌, map, length, reverse, Option, Some, None, Bool, true, false}
use Rattle.kt_model.specs.declared.graph.EdgeRow.{EdgeRow}
use Rattle.kt_model.specs.declared.graph.FlowEffect.TheVariants as effect
use Rattle.kt_model.specs.declared.graph.Tag.TheVariants as tag
use Rattle.kt_model.specs.BodyTrees.{Tree, Trees}
use Rattle.kt_model.specs.ControlFlow as flow
use Rattle.kt_model.specs.ControlFlow.{Node, Edge, Effects, node, on, nodes, all_nodes, edges, all_edges, in_of, entry_of, body_nodes, body_edges, last_nodes, last_edges, test_edges, on_true_of, on_false_of, inside_of}
use Rattle.kt_model.specs.Bodies.{node_at, edges_at}
use Rattle.kt_graph.specs.declared.building.Builder.{Builder}
use Rattle.kt_graph.specs.declared.building.Exits.{Exits}
use Rattle.kt_graph.specs.declared.building.Exits.TheVariants as exits
use Rattle.kt_graph.specs.declared.building.FlowContext.{FlowContext}

-- a list of nodes that ends with those of a graph, behind those that are still to come
pub record Ends (b : Builder) (ns : List Node) : Type 0 where
  pub rest : List Node
  pub is : ns ≡ rest ++ reverse b.nodes.items
  pub ahead : length rest ≡ b.ahead

-- What was added in front. The edges are those given, whatever nodes come before.
pub record Grows (old new : Builder) (nodes : List Node) (edges : List Node → List Edge) : Type 0 where
  pub has_nodes : reverse new.nodes.items ≡ nodes ++ reverse old.nodes.items
  pub has_room : old.ahead ≡ new.ahead + length nodes
  pub has_edges : (ns : List Node) → Ends new ns → edges_at ns (reverse new.edges.items) ≡ edges ns ++ edges_at ns (reverse old.edges.items)

-- The same, and what was found is told of the nodes.
pub record Enters (old new : Builder) (nodes : List Node) (edges : List Node → List Edge) (Found : List Node → Type 0) : Type 0 where
  pub grows : Grows old new nodes edges
  pub is_found : (ns : List Node) → Ends new ns → Found ns

abbrev pub place_at : List Node → Option ℕ → List Node
place_at ns None = []
place_at ns (Some i) = node_at ns i ∷ []

abbrev pub context_at : List Node → FlowContext → flow.FlowContext
context_at ns c = record {
  jumps = record { returns = place_at ns c.returns };
  always = map (node_at ns) c.always.now;
  copy = c.copy;
}

abbrev pub exits_at : List Node → Exits → flow.Exits
exits_at ns (exits.Then next) = flow.Then (place_at ns next)
exits_at ns (exits.Branch on_true on_false) = flow.Branch (place_at ns on_true) (place_at ns on_false)

abbrev pub is_branch : Exits → Bool
is_branch (exits.Then next) = false
is_branch (exits.Branch on_true on_false) = true

-- one node was added that leads to a place
abbrev pub StepsTo : Builder → Builder → Node → FlowContext → Option ℕ → ℕ → Type 0
StepsTo old new x context to n =
    Enters old new (x ∷ []) (λ ns. on (context_at ns context) x (place_at ns to)) (λ ns. node_at ns n ≡ x)

abbrev pub in_at : ℕ → ℕ → Effects → Node
in_at n copy es = node n tag.In copy es

abbrev pub out_at : ℕ → ℕ → Effects → Node
out_at n copy es = node n tag.Out copy es

-- what assumes the outcome of a condition, of which no facts are known yet
abbrev pub assume_at : ℕ → ℕ → Bool → Node
assume_at n copy true = node n tag.Assume (2 * copy) (effect.Assume [] ∷ [])
assume_at n copy false = node n tag.Assume (2 * copy + 1) (effect.Assume [] ∷ [])

-- a tree was left: its `out` was added, and where it is a condition what assumes its outcome
abbrev pub Leaves : Builder → Builder → ℕ → Effects → FlowContext → Exits → ℕ → Type 0
Leaves old new n es context leads o =
    Enters old new (last_nodes (is_branch leads) (out_at n context.copy es) (assume_at n context.copy true) (assume_at n context.copy false))
    (λ ns. last_edges (context_at ns context) (out_at n context.copy es) (assume_at n context.copy true) (assume_at n context.copy false) (exits_at ns leads))
    (λ ns. node_at ns o ≡ out_at n context.copy es)

-- the `out` of a test was added, and its outcomes lead where they are sent
abbrev pub Tests : Builder → Builder → ℕ → FlowContext → Exits → Option ℕ → Option ℕ → Type 0
Tests old new n context leads on_true on_false =
    Enters old new (out_at n context.copy [] ∷ []) (λ ns. test_edges (context_at ns context) (out_at n context.copy []) (exits_at ns leads))
    (λ ns. (place_at ns on_true ≡ on_true_of (out_at n context.copy []) (exits_at ns leads))
    × (place_at ns on_false ≡ on_false_of (out_at n context.copy []) (exits_at ns leads)))

-- the `out` of parentheses was added, and what is inside leads where it is sent
pub record Encloses (old new : Builder) (n : ℕ) (context : FlowContext) (leads inner : Exits) : Type 0 where
  pub same_branch : is_branch inner ≡ is_branch leads
  pub encloses : Enters old new (out_at n context.copy [] ∷ []) (λ ns. test_edges (context_at ns context) (out_at n context.copy []) (exits_at ns leads)) (λ ns. exits_at ns inner ≡ inside_of (out_at n context.copy []) (exits_at ns leads))

-- the graph of a tree was added, and `n` is its `in`
pub record WalksTree (old new : Builder) (t : Tree) (context : FlowContext) (leads : Exits) (n : ℕ) : Type 0 where
  pub tree_walked : Enters old new (nodes (is_branch leads) context.copy t) (λ ns. edges (context_at ns context) (exits_at ns leads) t) (λ ns. node_at ns n ≡ in_of context.copy t)

-- the graph of trees one behind another was added, and they begin at `n`
pub record WalksTrees (old new : Builder) (ts : Trees) (context : FlowContext) (next n : Option ℕ) : Type 0 where
  pub trees_walked : Enters old new (all_nodes context.copy ts) (λ ns. all_edges (context_at ns context) (place_at ns next) ts) (λ ns. place_at ns n ≡ entry_of context.copy (place_at ns next) ts)

-- a place that is led to only by what returns
abbrev pub place_if : Bool → ℕ → Option ℕ
place_if true n = Some n
place_if false n = None

-- all nodes and edges of a body were added, each with its final number
pub record IsBuilt (parameters : List ℕ) (body : Trees) (b : Builder) : Type 0 where
  pub built_nodes : reverse b.nodes.items ≡ body_nodes parameters body
  pub built_edges : edges_at (reverse b.nodes.items) (reverse b.edges.items) ≡ body_edges parameters body
