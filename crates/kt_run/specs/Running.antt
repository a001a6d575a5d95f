-- The meaning of a file's trees as the evaluator goes over them, and what a whole run of a file owes to the written meaning.
use Rattle.std.specs.Prelude.{◌≡◌, ◌++◌, ℕ, pos, Bool, true, false, List, [], ◌∷◌, Option, Some, None, Result, Ok, Err}
use Rattle.kt_tree.specs.declared.ast.declaration.File.{File}
use Rattle.kt_tree.specs.declared.ast.part.Assignment.{Assignment}
use Rattle.kt_tree.specs.declared.ast.part.Assignment.TheVariants as assignment
use Rattle.kt_model.specs.declared.uses.Named.{Named}
use Rattle.kt_model.specs.declared.uses.Named.TheVariants as named
use Rattle.kt_model.specs.NameUses.{Resolved, named_at}
use Rattle.kt_model.specs.BodyTrees.{Operation, Sum', Arithmetic', Tree, Trees, Empty', First', expr_tree, stmt_tree}
use Rattle.kt_outside.specs.Outside.{OutputState}
use Rattle.kt_outside.specs.Texts.{PutsWhole, PutsFront}
use Rattle.kt_mean.specs.Events.{text_of}
use Rattle.kt_mean.specs.Frames.{Run, ◌>>=◌, pure, wrong, NotWrong}
use Rattle.kt_mean.specs.Evaluation.{Program, eval, tree_at, with_values, built_in, called, operated, checked, read, store, write, local_tree, assign_tree}
use Rattle.kt_mean.specs.Programs.{function_at, program_of}
use Rattle.kt_mean.specs.WholeRun.{whole, run_ending}
use Rattle.kt_mean.specs.declared.states.Value.{Value}
use Rattle.kt_mean.specs.declared.states.Value.TheVariants as value
use Rattle.kt_mean.specs.declared.states.Way.TheVariants as way
use Rattle.kt_mean.specs.declared.states.Limit.{Limit}
use Rattle.kt_mean.specs.declared.states.Limit.TheVariants as limit
use Rattle.kt_mean.specs.declared.states.RunEnding.{RunEnding}
use Rattle.kt_mean.specs.declared.states.RunEnding.TheVariants as ending
use Rattle.kt_run.specs.Scene.{PutsSome}
use Rattle.kt_run.specs.declared.evaluator.ResolvedFile.{ResolvedFile}
use Rattle.kt_run.specs.declared.evaluator.Node.{Node}
use Rattle.kt_run.specs.declared.evaluator.Node.TheVariants as node
use Rattle.kt_run.specs.declared.state.Halt.{Halt}
use Rattle.kt_run.specs.declared.state.Halt.TheVariants as halt
use Rattle.kt_run.specs.declared.run.End.{End}
use Rattle.kt_run.specs.declared.run.End.TheVariants as end

-- ---- what the evaluator looks at

-- A file without its written types and dead trees: where no wrong use comes, the meaning is the same without them.
abbrev pub bare : Program → Program
bare p = record { functions = p.functions; written = λ x. None; dead = λ n. false; main = 0 }

abbrev pub bare_program : File → Resolved → Program
bare_program file uses = record { functions = function_at file uses; written = λ x. None; dead = λ n. false; main = 0 }

abbrev pub program_seen : ResolvedFile → Program
program_seen s = bare_program s.file.now s.uses.now

-- what the names in its trees stand for
abbrev pub names : ResolvedFile → ℕ → Named
names s = named_at s.uses.now

abbrev pub tree_seen : ResolvedFile → Node → Tree
tree_seen s (node.Expr e) = expr_tree (names s) e.now
tree_seen s (node.Stmt t) = stmt_tree (names s) t.now

-- a tree whose parts are entered at most so deep in one another
abbrev pub part : ResolvedFile → ℕ → Tree → Run Value
part s depth = eval (program_seen s) depth

-- what a tree does behind its step
abbrev pub shape : ResolvedFile → ℕ → Tree → Run Value
shape s depth = tree_at (program_seen s) (part s depth)

-- the values of trees, from left to right, behind those that are there
abbrev pub collected : (Tree → Run Value) → List Value → Trees → Run (List Value)
collected go done Empty' = pure done
collected go done (First' t rest) = go t >>= (λ v. collected go (done ++ v ∷ []) rest)

-- ---- trees by what their names stand for

abbrev pub name_run : Named → Run Value
name_run (named.Variable x fixed) = read x
name_run _ = wrong

module _ (p : Program) (go : Tree → Run Value) where
  abbrev pub call_run : Named → Trees → Run Value
  call_run (named.Function f returns) arguments = with_values p go arguments (called p go (p.functions f))
  call_run (named.BuiltIn name returns) arguments = with_values p go arguments (built_in name)
  call_run _ arguments = wrong

  abbrev pub local_run : Named → Option Tree → Run Value
  local_run (named.Variable x fixed) None = store x None
  local_run (named.Variable x fixed) (Some e) = local_tree p go x e
  local_run _ e = wrong

  -- the operand of a compound assignment, 1 where it is not written
  abbrev pub operand_run : Option Tree → Run Value
  operand_run None = pure (value.Int (pos 1))
  operand_run (Some e) = go e

  abbrev pub compound_run : ℕ → Bool → Operation → Option Tree → Run Value
  compound_run x fixed o e = read x >>= (λ old. operand_run e >>= (λ v. operated o (old ∷ v ∷ []) >>= (λ w. checked (p.written x) w (write fixed x w))))

  abbrev pub assign_run : Named → Assignment → Option Tree → Run Value
  assign_run (named.Variable x fixed) assignment.Plain None = wrong
  assign_run (named.Variable x fixed) assignment.Plain (Some e) = assign_tree p go x fixed e
  assign_run (named.Variable x fixed) assignment.Sum e = compound_run x fixed Sum' e
  assign_run (named.Variable x fixed) (assignment.Arithmetic o) e = compound_run x fixed (Arithmetic' o) e
  assign_run _ a e = wrong

-- ---- the end of a call

-- the answer of a call, by that of its body, where it is no wrong use
abbrev pub answered : Bool → Result Value Halt → Result Value Halt
answered true (Ok v) = Ok v
answered false (Ok v) = Ok value.Unit
answered b (Err (halt.Way (way.Return v))) = Ok v
answered b (Err (halt.Way (way.Throw e))) = Err (halt.Way (way.Throw e))
answered b (Err (halt.Over k)) = Err (halt.Over k)
answered b (Err halt.OutputFault) = Err halt.OutputFault
answered b (Err halt.NoMemory) = Err halt.NoMemory

-- ---- a whole run

-- No input leads to a wrong use.
abbrev pub NeverWrong : Program → ℕ → Type 0
NeverWrong p steps = (input : List ℕ) → NotWrong (whole p steps input).ending

-- With some of its trees dead, no input leads a file to a wrong use.
pub record IsNeverWrong (file : File) (uses : Resolved) (main steps : ℕ) : Type 0 where
  pub dead : ℕ → Bool
  pub never_wrong : NeverWrong (program_of file uses dead main) steps

-- The run came to the end that the written meaning has on this input, and its whole text was put.
pub record RunsWhole (p : Program) (steps : ℕ) (input : List ℕ) (old new : OutputState) (e : RunEnding) : Type 0 where
  pub ending_is : run_ending (whole p steps input).ending ≡ Some e
  pub puts : PutsWhole old new (text_of (whole p steps input).events)

-- On each input the run does what its answer says: at its end the whole text is put, and after a failed put or without memory a front of it.
abbrev pub RunsOn : Program → ℕ → List ℕ → OutputState → OutputState → End → Type 0
RunsOn p steps input old new end.Done = RunsWhole p steps input old new ending.Done
RunsOn p steps input old new end.Steps = RunsWhole p steps input old new ending.Steps
RunsOn p steps input old new end.Calls = RunsWhole p steps input old new ending.Calls
RunsOn p steps input old new end.Store = RunsWhole p steps input old new ending.Store
RunsOn p steps input old new end.Text = RunsWhole p steps input old new ending.Text
RunsOn p steps input old new (end.Uncaught e) = RunsWhole p steps input old new (ending.Uncaught e)
RunsOn p steps input old new end.WriteFault = PutsFront old new (text_of (whole p steps input).events)
RunsOn p steps input old new end.NoMemory = PutsSome old new (text_of (whole p steps input).events)

abbrev pub end_of_limit : Limit → End
end_of_limit limit.Steps = end.Steps
end_of_limit limit.Calls = end.Calls
end_of_limit limit.Store = end.Store
end_of_limit limit.Text = end.Text

-- what the answer of the call of `main` says of the run; no `return` leaves a call
abbrev pub end_told : Result Value Halt → End
end_told (Ok v) = end.Done
end_told (Err (halt.Way (way.Return v))) = end.Done
end_told (Err (halt.Way (way.Throw e))) = end.Uncaught e
end_told (Err (halt.Over k)) = end_of_limit k
end_told (Err halt.OutputFault) = end.WriteFault
end_told (Err halt.NoMemory) = end.NoMemory
