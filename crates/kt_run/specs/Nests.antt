-- A function value that evaluates trees to a depth: a private word of this crate.
use Rattle.std.specs.Prelude.{◌≡◌, ℕ, Result}
use denote.Ref.{Bor, MutBor}
use Rattle.kt_outside.specs.Outside.{OutputState}
use Rattle.kt_mean.specs.declared.states.Value.{Value}
use Rattle.kt_run.specs.declared.evaluator.ResolvedFile.{ResolvedFile}
use Rattle.kt_run.specs.declared.evaluator.Node.{Node}
use Rattle.kt_run.specs.declared.state.State.{State}
use Rattle.kt_run.specs.declared.state.Halt.{Halt}
use Rattle.kt_run.specs.Scene.{scene, Right, Runs}
use Rattle.kt_run.specs.Running.{part, tree_seen}

-- It may be called where no wrong use comes, and then does what the meaning does to that depth.
pub record Nests {O : Type 0} (depth : ℕ) (resolved : ResolvedFile) (output_state : O → OutputState)
    (pre : ℕ → Bor ResolvedFile → MutBor State → MutBor O → Node → Type 0)
    (post : ℕ → Bor ResolvedFile → MutBor State → MutBor O → Node → Result Value Halt → MutBor State → MutBor O → Type 0) : Type 0 where
  pub callable : (s : Bor ResolvedFile) (state : MutBor State) (out : MutBor O) (t : Node)
      → s.now ≡ resolved → Right (part resolved depth (tree_seen resolved t)) state.now → pre depth s state out t
  pub runs : (s : Bor ResolvedFile) (old new : MutBor State) (out out' : MutBor O) (t : Node) (r : Result Value Halt)
      → s.now ≡ resolved → post depth s old out t r new out'
      → Runs (part resolved depth (tree_seen resolved t)) (scene old.now (output_state out.now)) r (scene new.now (output_state out'.now))
