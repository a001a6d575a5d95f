-- A whole run of a file, from the call of its `main`.
use Rattle.std.proofs.Common.{◌≡◌, ℕ, nat_lt, Bool, true, false, List, [], Option, Some, None, Result, Ok, Err, refl, sym, ap, subst, ◌∙◌}
use Rattle.kt_model.specs.declared.kinds.KtType.{KtType}
use Rattle.kt_model.specs.BodyTrees.{Tree}
use Rattle.kt_outside.specs.Outside.{OutputState}
use Rattle.kt_outside.specs.Texts.{PutsWhole, PutsFront}
use Rattle.kt_mean.specs.Events.{Event, text_of}
use Rattle.kt_mean.specs.declared.states.Value.{Value}
use Rattle.kt_mean.specs.declared.states.Value.TheVariants as value
use Rattle.kt_mean.specs.declared.states.Way.TheVariants as way
use Rattle.kt_mean.specs.declared.states.Limit.TheVariants as limit
use Rattle.kt_mean.specs.declared.states.RunEnding.{RunEnding}
use Rattle.kt_mean.specs.declared.states.RunEnding.TheVariants as ending
use Rattle.kt_mean.specs.Frames.{Locals, no_locals, Frame, State, Ending, Gave, Left, Over, Wrong, Outcome, Run, NotWrong, wrong, over, turned}
use Rattle.kt_mean.specs.Evaluation.{Program, Function, choose, fits, is_unit, ended, call_end, resume, most_calls, arguments_fit, block, begun, invoke, limited, called, eval}
use Rattle.kt_mean.specs.WholeRun.{start, whole, run_ending, limit_ending}
use Rattle.kt_run.specs.declared.state.State.{State as Kept}
use Rattle.kt_run.specs.declared.state.Halt.{Halt}
use Rattle.kt_run.specs.declared.state.Halt.TheVariants as halt
use Rattle.kt_run.specs.Slots.{held}
use Rattle.kt_run.specs.Scene.{Scene, scene, seen, Right, PutsSome, Runs}
use Rattle.kt_run.specs.Running.{bare, NeverWrong, RunsWhole, RunsOn, end_told}
use Rattle.kt_run.proofs.BareRuns.{whole_bare}

-- ---- no `return` leaves a call

abbrev Stays : Ending Value → Type 0
Stays (Gave v s) = Unit {0}
Stays (Left (way.Return v) s) = ⊥
Stays (Left (way.Throw x) s) = Unit {0}
Stays (Over k) = Unit {0}
Stays Wrong = Unit {0}

choose_stays : (b : Bool) (v : Value) (s : State) → Stays (choose b (Gave v s) Wrong)
choose_stays true v s = tt
choose_stays false v s = tt

ended_stays : (b : Bool) (result : Option KtType) (v : Value) (s : State) → Stays (ended b result v s)
ended_stays true result v s = choose_stays (fits result v) v s
ended_stays false result v s = choose_stays (is_unit result) value.Unit s

end_stays : (f : Function) (here : Frame) (calls : ℕ) (e : Ending Value) → Stays (call_end f here calls e)
end_stays f here calls (Gave v s) = ended_stays f.is_expression f.result v (resume here calls s)
end_stays f here calls (Left (way.Return v) s) = choose_stays (fits f.result v) v (resume here calls s)
end_stays f here calls (Left (way.Throw x) s) = tt
end_stays f here calls (Over k) = tt
end_stays f here calls Wrong = tt

module _ (p : Program) (go : Tree → Run Value) where
  invoke_stays : (f : Function) (vs : List Value) (s : State) → Stays (invoke p go f vs s).ending
  unfolding invoke turned
  invoke_stays f vs s = end_stays f s.here s.calls (block p go f.body (begun f vs s)).ending

  limited_stays : (r : Run Value) (s : State) → Stays (r s).ending → Stays (limited r s).ending
  unfolding limited over
  limited_stays r s h = by (nat_lt s.calls most_calls) where
    by : (b : Bool) → Stays (choose b r (over limit.Calls) s).ending
    by true = h
    by false = tt

  called_stays : (o : Option Function) (vs : List Value) (s : State) → Stays (called p go o vs s).ending
  unfolding wrong
  called_stays None vs s = tt
  called_stays (Some f) vs s = by (arguments_fit p.written f.parameters vs) where
    by : (b : Bool) → Stays (choose b (limited (invoke p go f vs)) wrong s).ending
    by true = limited_stays (invoke p go f vs) s (invoke_stays f vs s)
    by false = tt

-- ---- how a run ends

ends : (e : Ending Value) → Stays e → NotWrong e → (r : RunEnding) × (run_ending e ≡ Some r)
ends (Gave v s) stays h = (ending.Done, refl)
ends (Left (way.Return v) s) stays h = absurd stays
ends (Left (way.Throw x) s) stays h = (ending.Uncaught x, refl)
ends (Over k) stays h = (limit_ending k, refl)
ends Wrong stays h = absurd h

-- a run that is no wrong use comes to an end
pub whole_ends : (p : Program) (steps : ℕ) (input : List ℕ) → NotWrong (whole p steps input).ending → (r : RunEnding) × (run_ending (whole p steps input).ending ≡ Some r)
whole_ends p steps input h = ends (whole p steps input).ending (called_stays p (eval p steps) (p.functions p.main) [] (start steps input)) h

-- ---- the run

-- `main`, over the trees of the program that the evaluator sees
abbrev pub main_call : Program → ℕ → List Value → Run Value
main_call p steps values = called (bare p) (eval (bare p) steps) (p.functions p.main) values

-- the state in which a run begins
abbrev pub first_state : List (Option Value) → ℕ → Kept
first_state frame steps = record { frame = frame; calls = 0; steps = steps; cells = 0; text = 0 }

begins : (frame : List (Option Value)) (steps : ℕ) (input : List ℕ) → held frame ≡ no_locals → seen (first_state frame steps) input ≡ start steps input
begins frame steps input e = ap (λ (l : Locals). record { here = record { locals = l }; calls = 0; steps = steps; cells = 0; text = 0; input = input }) e

whole_is : (p : Program) (frame : List (Option Value)) (steps : ℕ) → held frame ≡ no_locals → NeverWrong p steps → (input : List ℕ) → whole p steps input ≡ main_call p steps [] (seen (first_state frame steps) input)
whole_is p frame steps e h input = whole_bare p steps input (h input) ∙ ap (main_call p steps []) (sym (begins frame steps input e))

pub main_right : (p : Program) (frame : List (Option Value)) (steps : ℕ) → held frame ≡ no_locals → NeverWrong p steps → Right (main_call p steps []) (first_state frame steps)
main_right p frame steps e h = record { right = λ input. subst (λ (o : Outcome Value). NotWrong o.ending) (whole_is p frame steps e h input) (h input) }

at_end : (p : Program) (steps : ℕ) (input : List ℕ) (old new : OutputState) (e : Ending Value) (r : RunEnding) (events : List Event) → whole p steps input ≡ record { ending = e; events = events } → run_ending e ≡ Some r → PutsWhole old new (text_of events) → RunsWhole p steps input old new r
at_end p steps input old new e r events is told puts = record {
  ending_is = ap (λ (o : Outcome Value). run_ending o.ending) is ∙ told;
  puts = subst (λ (o : Outcome Value). PutsWhole old new (text_of o.events)) (sym is) puts;
}

pub runs_on : (p : Program) (frame : List (Option Value)) (steps : ℕ) (old : OutputState) (r : Result Value Halt) (t : Scene) → held frame ≡ no_locals → NeverWrong p steps → Runs (main_call p steps []) (scene (first_state frame steps) old) r t → (input : List ℕ) → RunsOn p steps input old t.out (end_told r)
runs_on p frame steps old (Ok v) t e n h input = at_end p steps input old t.out (Gave v (seen t.state input)) ending.Done h.events (whole_is p frame steps e n input ∙ h.is input) refl h.puts
runs_on p frame steps old (Err (halt.Way (way.Throw x))) t e n h input = at_end p steps input old t.out (Left (way.Throw x) (seen t.state input)) (ending.Uncaught x) h.events (whole_is p frame steps e n input ∙ h.is input) refl h.puts
runs_on p frame steps old (Err (halt.Way (way.Return v))) t e n h input =
    absurd (subst (λ (o : Outcome Value). Stays o.ending) (h.is input) (called_stays (bare p) (eval (bare p) steps) (p.functions p.main) [] (seen (first_state frame steps) input)))
runs_on p frame steps old (Err (halt.Over limit.Steps)) t e n h input = at_end p steps input old t.out (Over limit.Steps) ending.Steps h.events (whole_is p frame steps e n input ∙ h.is input) refl h.puts
runs_on p frame steps old (Err (halt.Over limit.Calls)) t e n h input = at_end p steps input old t.out (Over limit.Calls) ending.Calls h.events (whole_is p frame steps e n input ∙ h.is input) refl h.puts
runs_on p frame steps old (Err (halt.Over limit.Store)) t e n h input = at_end p steps input old t.out (Over limit.Store) ending.Store h.events (whole_is p frame steps e n input ∙ h.is input) refl h.puts
runs_on p frame steps old (Err (halt.Over limit.Text)) t e n h input = at_end p steps input old t.out (Over limit.Text) ending.Text h.events (whole_is p frame steps e n input ∙ h.is input) refl h.puts
runs_on p frame steps old (Err halt.OutputFault) t e n h input = subst (λ (o : Outcome Value). PutsFront old t.out (text_of o.events)) (sym (whole_is p frame steps e n input)) (h.front input)
runs_on p frame steps old (Err halt.NoMemory) t e n h input = subst (λ (o : Outcome Value). PutsSome old t.out (text_of o.events)) (sym (whole_is p frame steps e n input)) (h.front input)
