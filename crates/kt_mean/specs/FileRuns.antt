-- The program of a file whose names are resolved, with exactly its dead trees marked. This project's own.
--
-- After the Kotlin specification, "Control- and data-flow analysis": what no path of the graph reaches is dead. Paths go by nodes; all of them, one at a
-- time.
use Rattle.std.specs.Prelude.{◌≡◌, ℕ, Bool, List, ◌∷◌, Some, Contains, IsTrue, ◌↔◌}
use Rattle.kt_tree.specs.declared.ast.declaration.File.{File}
use Rattle.kt_model.specs.NameUses.{Resolved}
use Rattle.kt_model.specs.ControlFlow.{Node, body_nodes, body_edges}
use Rattle.kt_model.specs.declared.graph.Tag.TheVariants.{In}
use Rattle.kt_model.specs.BodyPaths.{IsNodePath}
use Rattle.kt_mean.specs.Evaluation.{Function, Program}
use Rattle.kt_mean.specs.Programs.{function_at, program_of, main_of}

-- A tree is dead that is entered at a node of some body's graph, where no path of any body's graph ends at such a node.
pub record IsDeadTree (file : File) (uses : Resolved) (tree : ℕ) : Type 0 where
  pub place : ℕ
  pub function : Function
  pub is : function_at file uses place ≡ Some function
  pub node : Node
  pub among : Contains (body_nodes function.parameters function.body) node
  pub same_tree : node.tree ≡ tree
  pub enters : node.tag ≡ In
  pub unreached : (place : ℕ) (f : Function) (n : Node) (path : List Node) → function_at file uses place ≡ Some f
      → IsNodePath (body_edges f.parameters f.body) (n ∷ path) → n.tree ≡ tree → n.tag ≡ In → ⊥

-- The program of a file: `main` is its first function of that kind, and exactly its dead trees are marked.
pub record IsProgram (file : File) (uses : Resolved) (p : Program) : Type 0 where
  pub dead : ℕ → Bool
  pub main : ℕ
  pub is_main : main_of file ≡ Some main
  pub is_dead : (n : ℕ) → IsTrue (dead n) ↔ IsDeadTree file uses n
  pub program : p ≡ program_of file uses dead main
