-- The theorem of soundness for the meaning of bodies, over the definitions alone.
--
-- It speaks of all trees: of those whose forms are open, which are told with the contract, and of the others since typing refuses them. A body is typed by its
-- own function's result, which each `return` in it must fit.
use Rattle.std.specs.Prelude.{◌≡◌, ◌≢◌, ℕ, true, false, List, [], Some, None, IsSome, Contains}
use Rattle.kt_tree.specs.declared.ast.declaration.File.{File}
use Rattle.kt_model.specs.Classes.{Classes, supers_of}
use Rattle.kt_model.specs.NameUses.{Resolved}
use Rattle.kt_model.specs.BodyTrees.{BuiltIn', Mark, Operation', Tree, Trees}
use Rattle.kt_model.specs.BuiltIns.{built_in_named}
use Rattle.kt_model.specs.declared.built_ins.BuiltIn.{BuiltIn}
use Rattle.kt_model.specs.ControlFlow.{body_edges}
use Rattle.kt_paths.specs.FlowRules.{IsEndReached}
use Rattle.kt_typing.specs.Typing.{Signature, SettlesLeft, nothing, unit, signature_of, body_judged}
use Rattle.kt_model.specs.declared.uses.Owner.TheVariants as owner
use Rattle.kt_mean.specs.Frames.{NotWrong}
use Rattle.kt_mean.specs.Evaluation.{Function, Program}
use Rattle.kt_mean.specs.Programs.{function_at}
use Rattle.kt_mean.specs.FileRuns.{IsProgram}
use Rattle.kt_mean.specs.WholeRun.{whole}
use Rattle.kt_model.specs.TreesWithin.{all_trees_in, called_by, returns_at}
use Rattle.kt_sound.specs.FlowOfBody.{IsFine}

-- ---- what is asked of a body

-- A called function is one of the file's; a call returns unless the result of its function, of the file or built in, is `Nothing`. Each parameter has a
-- written type: else a local that the body declares could have the same number, and hold the argument in place of a value of its own type.
pub record IsResolvedBody (p : Program) (f : Function) : Type 0 where
  pub calls : (t : Tree) (g : ℕ) → Contains (all_trees_in f.body) t → called_by t ≡ Some g → IsSome (p.functions g)
  pub stops : (t : Tree) (g : ℕ) (callee : Function) → Contains (all_trees_in f.body) t → called_by t ≡ Some g → p.functions g ≡ Some callee → returns_at t ≡ false
      → callee.result ≡ Some nothing
  pub stops_built_in : (n : Mark) (name : ℕ) (arguments : Trees) (b : BuiltIn) → Contains (all_trees_in f.body) (Operation' n (BuiltIn' name false) arguments)
      → built_in_named name ≡ Some b → b.result ≡ nothing
  pub typed_parameters : (x : ℕ) → Contains f.parameters x → IsSome (p.written x)

-- No typing rule is violated in the body of the function at this place, by the function's written result, and no rule along a path of its graph. Where the
-- function's result isn't `Unit` no path leads to the end of its block.
pub record IsAcceptedBody (file : File) (classes : Classes) (uses : Resolved) (p : Program) (place : ℕ) (f : Function) : Type 0 where
  pub resolved : IsResolvedBody p f
  pub left : SettlesLeft f.parameters f.body
  pub typed : (body_judged file classes uses left.is_left (owner.Function place)).findings ≡ []
  pub fine : IsFine (body_edges f.parameters f.body) f.body
  pub ends : f.is_expression ≡ false → f.result ≢ Some unit → IsEndReached f.parameters f.body → ⊥

-- `Any`, `Unit`, `Boolean`, `Int` and `String` have no written supertypes.
pub record HasBuiltInClasses (classes : Classes) : Type 0 where
  pub any_class : supers_of classes 0 ≡ []
  pub unit_class : supers_of classes 1 ≡ []
  pub boolean_class : supers_of classes 2 ≡ []
  pub int_class : supers_of classes 3 ≡ []
  pub string_class : supers_of classes 4 ≡ []

-- `main` can be called, and takes nothing.
pub record IsMainCallable (uses : Resolved) (main : ℕ) : Type 0 where
  pub signature : Signature
  pub is : signature_of uses main ≡ Some signature
  pub takes_nothing : signature.most ≡ 0

-- The program of a file whose bodies are accepted, and whose `main` can be called.
pub record IsAcceptedProgram (file : File) (classes : Classes) (uses : Resolved) (p : Program) : Type 0 where
  pub is_program : IsProgram file uses p
  pub built_in : HasBuiltInClasses classes
  pub bodies : (place : ℕ) (f : Function) → function_at file uses place ≡ Some f → IsAcceptedBody file classes uses p place f
  pub main : IsMainCallable uses p.main

-- The run of an accepted program never ends by a wrong use.
abbrev pub BodiesNeverWrong : Type 0
BodiesNeverWrong =
    (file : File) (classes : Classes) (uses : Resolved) (p : Program) (steps : ℕ) (input : List ℕ) → IsAcceptedProgram file classes uses p
    → NotWrong (whole p steps input).ending
