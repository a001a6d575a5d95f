-- The forms of trees: arguments, calls, and what a tree of a file is as plain data.
use Rattle.std.proofs.Common.{◌≡◌, ◌≢◌, ℕ, suc, ◌+◌, ◌≤◌, ◌<◌, pos, Bool, true, false, ◌&&◌, List, [], ◌∷◌, ◌++◌, length, map, drop, get_or, Option, Some, None, option_map, Result, Ok, Err, refl, sym, ap, subst, ◌∙◌, add-one, append_assoc, append-nil}
use Rattle.std.proofs.Math.Path.{fun_ext}
use Rattle.std.proofs.Math.Seq.{drop-cons}
use Rattle.std.proofs.lemmas.Bool.{false≢true, lt-ltb, le-ltb}
use Rattle.kt_tree.specs.declared.token.Span.{Span}
use Rattle.kt_tree.specs.declared.ast.part.Assignment.{Assignment}
use Rattle.kt_tree.specs.declared.ast.part.Assignment.TheVariants as assignment
use Rattle.kt_tree.specs.declared.ast.body.Expr.{Expr}
use Rattle.kt_tree.specs.declared.ast.body.Stmt.{Stmt}
use Rattle.kt_model.specs.declared.kinds.KtType.{KtType}
use Rattle.kt_model.specs.declared.uses.Named.{Named}
use Rattle.kt_model.specs.declared.uses.Named.TheVariants as named
use Rattle.kt_model.specs.BodyTrees.{Operation, Sum', Arithmetic', Mark, Tree, Trees, Empty', First', expr_tree, stmt_tree, listed, name_tree, call_tree, local_tree as local_shape, assign_tree as assign_shape, seen as seen_in, seen_trees, seen_optional}
use Rattle.kt_outside.specs.Outside.{OutputState}
use Rattle.kt_outside.specs.Texts.{PutsFront}
use Rattle.kt_mean.specs.Events.{text_of}
use Rattle.kt_mean.specs.declared.states.Value.{Value}
use Rattle.kt_mean.specs.declared.states.Value.TheVariants as value
use Rattle.kt_mean.specs.declared.states.Way.TheVariants as way
use Rattle.kt_mean.specs.declared.states.Limit.TheVariants as limit
use Rattle.kt_mean.specs.Frames.{Locals, Frame, State, Ending, Gave, Left, Over, Wrong, Outcome, Run, NotWrong, ◌>>=◌, over, wrong, turned}
use Rattle.kt_mean.specs.Evaluation.{Program, Function, choose, fits, is_unit, with_values, block, block_from, arguments_fit, most_calls, begun, given, ended, call_end, invoke, limited, called, checked, read, write, operated, compound_tree, tree_at}
use Rattle.kt_run.specs.declared.state.State.{State as Kept}
use Rattle.kt_run.specs.declared.state.Halt.{Halt}
use Rattle.kt_run.specs.declared.state.Halt.TheVariants as halt
use Rattle.kt_run.specs.Scene.{Scene, scene, seen, Right, PutsSome, Runs}
use Rattle.kt_run.specs.Running.{collected, name_run, call_run, local_run, assign_run, compound_run, answered}
use Rattle.kt_run.proofs.Chain.{pure_bind, bind_assoc, quiet_runs}
use Rattle.kt_run.proofs.Steps.{wrong_comes}

-- ---- lists

-- the rest of a list at a place begins with the item there
pub drop_item : {A : Type 0} (xs : List A) (i : ℕ) (x : A) → i < length xs → x ≡ get_or xs i x → drop i xs ≡ x ∷ drop (i + 1) xs
drop_item xs i x h e = rw (add-one) (drop-cons xs i x h) ∙ ap (λ y. y ∷ drop (i + 1) xs) (sym e)

module _ (go : Tree → Run Value) (uses : ℕ → Named) where
  -- one argument, then those behind it
  pub arguments_next : (vs : List Value) (xs : List Expr) (i : ℕ) (x : Expr) → i < length xs → x ≡ get_or xs i x → collected go vs (seen_trees (map (seen_in uses) (drop i xs))) ≡ (go (expr_tree uses x) >>= (λ v. collected go (vs ++ v ∷ []) (seen_trees (map (seen_in uses) (drop (i + 1) xs)))))
  arguments_next vs xs i x h e = ap (λ l. collected go vs (seen_trees (map (seen_in uses) l))) (drop_item xs i x h e)

module _ (p : Program) (go : Tree → Run Value) (uses : ℕ → Named) where
  -- one statement, then those behind it
  pub statements_next : (v : Value) (xs : List Stmt) (i : ℕ) (x : Stmt) → i < length xs → x ≡ get_or xs i x → block_from p go v (listed (map (stmt_tree uses) (drop i xs))) ≡ (go (stmt_tree uses x) >>= (λ w. block_from p go w (listed (map (stmt_tree uses) (drop (i + 1) xs)))))
  statements_next v xs i x h e = ap (λ l. block_from p go v (listed (map (stmt_tree uses) l))) (drop_item xs i x h e)

-- ---- arguments

module _ (p : Program) (go : Tree → Run Value) where
  -- the values of trees behind some that are there, then what is done with all
  values_behind : (done : List Value) (ts : Trees) (f : List Value → Run Value) → with_values p go ts (λ vs. f (done ++ vs)) ≡ (collected go done ts >>= f)
  values_behind done Empty' f = ap f (append-nil done) ∙ sym (pure_bind done f)
  values_behind done (First' t rest) f =
      ap (λ k. go t >>= k) (fun_ext (λ v.
      ap (λ k. with_values p go rest k) (fun_ext (λ vs. ap f (sym (append_assoc done (v ∷ []) vs))))
      ∙ values_behind (done ++ v ∷ []) rest f))
      ∙ sym (bind_assoc (go t) (λ v. collected go (done ++ v ∷ []) rest) f)

  pub values_same : (ts : Trees) (f : List Value → Run Value) → with_values p go ts f ≡ (collected go [] ts >>= f)
  values_same ts f = values_behind [] ts f

  -- ---- calls

  fit_length : (written : ℕ → Option KtType) (xs : List ℕ) (vs : List Value) → arguments_fit written xs vs ≡ true → length xs ≡ length vs
  fit_length written [] [] h = refl
  fit_length written [] (v ∷ vs) h = absurd (false≢true h)
  fit_length written (x ∷ xs) [] h = absurd (false≢true h)
  fit_length written (x ∷ xs) (v ∷ vs) h = by (fits (written x) v) h (fit_length written xs vs) where
    by : (b : Bool) → (b && arguments_fit written xs vs) ≡ true → (arguments_fit written xs vs ≡ true → length xs ≡ length vs) → length (x ∷ xs) ≡ length (v ∷ vs)
    by true k rest = ap suc (rest k)
    by false k rest = absurd (false≢true k)

  fit : (f : Function) (vs : List Value) (s : Kept) → Right (called p go (Some f) vs) s → arguments_fit p.written f.parameters vs ≡ true
  fit f vs s h = by (arguments_fit p.written f.parameters vs) h where
    by : (b : Bool) → Right (choose b (limited (invoke p go f vs)) wrong) s → b ≡ true
    by true k = refl
    by false k = absurd (wrong_comes s k)

  -- a call that is no wrong use has as many arguments as the function parameters
  pub called_length : (f : Function) (vs : List Value) (s : Kept) → Right (called p go (Some f) vs) s → length f.parameters ≡ length vs
  called_length f vs s h = fit_length p.written f.parameters vs (fit f vs s h)

  pub called_same : (f : Function) (vs : List Value) (s : Kept) → Right (called p go (Some f) vs) s → called p go (Some f) vs ≡ limited (invoke p go f vs)
  called_same f vs s h = ap (λ b. choose b (limited (invoke p go f vs)) wrong) (fit f vs s h)

  -- one call too many
  pub too_many : (r : Run Value) (s : Kept) (out : OutputState) → most_calls ≤ s.calls → Runs (limited r) (scene s out) (Err (halt.Over limit.Calls)) (scene s out)
  unfolding limited over
  too_many r s out h = quiet_runs (limited r) s (Err (halt.Over limit.Calls)) s out (λ input. ap (λ b. choose b r (over limit.Calls) (seen s input)) (le-ltb s.calls most_calls h))

  pub within : (r : Run Value) (s : Kept) → s.calls < most_calls → (input : List ℕ) → limited r (seen s input) ≡ r (seen s input)
  unfolding limited
  within r s h input = ap (λ b. choose b r (over limit.Calls) (seen s input)) (lt-ltb s.calls most_calls h)

  -- what is right at a call's end is right before
  end_first : (f : Function) (here : Frame) (calls : ℕ) (e : Ending Value) → NotWrong (call_end f here calls e) → NotWrong e
  end_first f here calls (Gave v s) h = tt
  end_first f here calls (Left (way.Return v) s) h = tt
  end_first f here calls (Left (way.Throw x) s) h = tt
  end_first f here calls (Over k) h = tt
  end_first f here calls Wrong h = h

  -- as a call begins, with these locals
  abbrev pub begun_with : Kept → List ℕ → Locals → State
  begun_with s input l = record { here = record { locals = l }; calls = s.calls + 1; steps = s.steps; cells = s.cells; text = s.text; input = input }

  pub body_right : (f : Function) (vs : List Value) (s b : Kept) → ((input : List ℕ) → seen b input ≡ begun f vs (seen s input)) → s.calls < most_calls → Right (limited (invoke p go f vs)) s → Right (block p go f.body) b
  unfolding invoke turned
  body_right f vs s b e h k = record {
    right = λ input. subst (λ x. NotWrong (block p go f.body x).ending) (sym (e input))
        (end_first f (seen s input).here (seen s input).calls (block p go f.body (begun f vs (seen s input))).ending
        (subst (λ (o : Outcome Value). NotWrong o.ending) (within (invoke p go f vs) s h input) (k.right input)));
  }

  abbrev value_end : Bool → Value → Value
  value_end true v = v
  value_end false v = value.Unit

  answered_ok : (b : Bool) (v : Value) → answered b (Ok v) ≡ Ok (value_end b v)
  answered_ok true v = refl
  answered_ok false v = refl

  given_is : (result : Option KtType) (v : Value) (s : State) → NotWrong (given result v s) → given result v s ≡ Gave v s
  given_is result v s h = by (fits result v) h where
    by : (b : Bool) → NotWrong (choose b (Gave v s) Wrong) → choose b (Gave v s) Wrong ≡ Gave v s
    by true k = refl
    by false k = absurd k

  ended_is : (b : Bool) (result : Option KtType) (v : Value) (s : State) → NotWrong (ended b result v s) → ended b result v s ≡ Gave (value_end b v) s
  ended_is true result v s h = given_is result v s h
  ended_is false result v s h = by (is_unit result) h where
    by : (c : Bool) → NotWrong (choose c (Gave value.Unit s) Wrong) → choose c (Gave value.Unit s) Wrong ≡ Gave value.Unit s
    by true k = refl
    by false k = absurd k

  -- a call's outcome, by that of its body
  abbrev call_outcome : Function → Kept → Outcome Value → Outcome Value
  call_outcome f s o = record { ending = call_end f (seen s []).here s.calls o.ending; events = o.events }

  invoke_is : (f : Function) (vs : List Value) (s b : Kept) → ((input : List ℕ) → seen b input ≡ begun f vs (seen s input)) → s.calls < most_calls → (input : List ℕ) → limited (invoke p go f vs) (seen s input) ≡ call_outcome f s (block p go f.body (seen b input))
  unfolding invoke turned
  invoke_is f vs s b e h input = within (invoke p go f vs) s h input ∙ ap (λ x. call_outcome f s (block p go f.body x)) (sym (e input))

  -- back in the caller's frame
  abbrev pub back : Kept → Kept → Kept
  back s t = record t { frame = s.frame; calls = s.calls }

  end_right : (f : Function) (vs : List Value) (s b : Kept) → ((input : List ℕ) → seen b input ≡ begun f vs (seen s input)) → s.calls < most_calls → Right (limited (invoke p go f vs)) s → (input : List ℕ) (o : Outcome Value) → block p go f.body (seen b input) ≡ o → NotWrong (call_outcome f s o).ending
  end_right f vs s b e h k input o is = subst (λ (x : Outcome Value). NotWrong x.ending) (invoke_is f vs s b e h input ∙ ap (call_outcome f s) is) (k.right input)

  pub invoke_runs : (f : Function) (vs : List Value) (s b : Kept) (out : OutputState) (r : Result Value Halt) (t : Scene) → ((input : List ℕ) → seen b input ≡ begun f vs (seen s input)) → s.calls < most_calls → Right (limited (invoke p go f vs)) s → Runs (block p go f.body) (scene b out) r t → Runs (limited (invoke p go f vs)) (scene s out) (answered f.is_expression r) (scene (back s t.state) t.out)
  invoke_runs f vs s b out (Ok v) t e h k done = subst (λ r. Runs (limited (invoke p go f vs)) (scene s out) r (scene (back s t.state) t.out)) (sym (answered_ok f.is_expression v)) (record {
    events = done.events;
    puts = done.puts;
    is = λ input. invoke_is f vs s b e h input ∙ ap (call_outcome f s) (done.is input) ∙ ap (λ x. record { ending = x; events = done.events }) (ended_is f.is_expression f.result v _ (end_right f vs s b e h k input _ (done.is input)));
  })
  invoke_runs f vs s b out (Err (halt.Way (way.Return v))) t e h k done = record {
    events = done.events;
    puts = done.puts;
    is = λ input. invoke_is f vs s b e h input ∙ ap (call_outcome f s) (done.is input) ∙ ap (λ x. record { ending = x; events = done.events }) (given_is f.result v _ (end_right f vs s b e h k input _ (done.is input)));
  }
  invoke_runs f vs s b out (Err (halt.Way (way.Throw x))) t e h k done = record {
    events = done.events;
    puts = done.puts;
    is = λ input. invoke_is f vs s b e h input ∙ ap (call_outcome f s) (done.is input);
  }
  invoke_runs f vs s b out (Err (halt.Over l)) t e h k done = record {
    events = done.events;
    puts = done.puts;
    is = λ input. invoke_is f vs s b e h input ∙ ap (call_outcome f s) (done.is input);
  }
  invoke_runs f vs s b out (Err halt.OutputFault) t e h k done = record { front = λ input. subst (λ (o : Outcome Value). PutsFront out t.out (text_of o.events)) (sym (invoke_is f vs s b e h input)) (done.front input) }
  invoke_runs f vs s b out (Err halt.NoMemory) t e h k done = record { front = λ input. subst (λ (o : Outcome Value). PutsSome out t.out (text_of o.events)) (sym (invoke_is f vs s b e h input)) (done.front input) }

  -- ---- trees by what their names stand for

  pub call_is : (n : Named) (arguments : Trees) (m : Mark) → tree_at p go (call_tree n arguments m) ≡ call_run p go n arguments
  call_is (named.Variable x fixed) arguments m = refl
  call_is (named.Function f r) arguments m = refl
  call_is (named.BuiltIn f r) arguments m = refl
  call_is named.Other arguments m = refl

  pub no_call : (n : Named) (arguments : Trees) (s : Kept) → ((f : ℕ) (r : Bool) → n ≢ named.Function f r) → ((f : ℕ) (r : Bool) → n ≢ named.BuiltIn f r) → Right (call_run p go n arguments) s → ⊥
  no_call (named.Variable x fixed) arguments s a b h = wrong_comes s h
  no_call (named.Function f r) arguments s a b h = a f r refl
  no_call (named.BuiltIn f r) arguments s a b h = b f r refl
  no_call named.Other arguments s a b h = wrong_comes s h

  pub name_is : (n : Named) (i : ℕ) (at : Span) → tree_at p go (name_tree n i at) ≡ name_run n
  name_is (named.Variable x fixed) i at = refl
  name_is (named.Function f r) i at = refl
  name_is (named.BuiltIn f r) i at = refl
  name_is named.Other i at = refl

  module _ (uses : ℕ → Named) where
    pub local_is : (n : Named) (m : Mark) (e : Option Expr) → tree_at p go (local_shape n m (option_map (seen_in uses) e)) ≡ local_run p go n (option_map (expr_tree uses) e)
    local_is (named.Variable x fixed) m None = refl
    local_is (named.Variable x fixed) m (Some e) = refl
    local_is (named.Function f r) m e = refl
    local_is (named.BuiltIn f r) m e = refl
    local_is named.Other m e = refl

    pub no_local_here : (n : Named) (e : Option Tree) (s : Kept) → ((x : ℕ) (fixed : Bool) → n ≢ named.Variable x fixed) → Right (local_run p go n e) s → ⊥
    no_local_here (named.Variable x fixed) e s a h = a x fixed refl
    no_local_here (named.Function f r) e s a h = wrong_comes s h
    no_local_here (named.BuiltIn f r) e s a h = wrong_comes s h
    no_local_here named.Other e s a h = wrong_comes s h

    pub no_assigned : (n : Named) (a : Assignment) (e : Option Tree) (s : Kept) → ((x : ℕ) (fixed : Bool) → n ≢ named.Variable x fixed) → Right (assign_run p go n a e) s → ⊥
    no_assigned (named.Variable x fixed) a e s other h = other x fixed refl
    no_assigned (named.Function f r) a e s other h = wrong_comes s h
    no_assigned (named.BuiltIn f r) a e s other h = wrong_comes s h
    no_assigned named.Other a e s other h = wrong_comes s h

    compound_is : (x : ℕ) (fixed : Bool) (o : Operation) (e : Option Expr) → compound_tree p go x fixed o (seen_optional (option_map (seen_in uses) e)) ≡ compound_run p go x fixed o (option_map (expr_tree uses) e)
    compound_is x fixed o None =
        ap (λ k. read x >>= k) (fun_ext (λ old. sym (pure_bind (value.Int (pos 1)) (λ v. operated o (old ∷ v ∷ []) >>= (λ w. checked (p.written x) w (write fixed x w))))))
    compound_is x fixed o (Some e) = refl

    assigned_is : (x : ℕ) (fixed : Bool) (i : ℕ) (at word : Span) (a : Assignment) (e : Option Expr) → tree_at p go (assign_shape (named.Variable x fixed) i at (Some word) a (option_map (seen_in uses) e)) ≡ assign_run p go (named.Variable x fixed) a (option_map (expr_tree uses) e)
    assigned_is x fixed i at word assignment.Plain None = refl
    assigned_is x fixed i at word assignment.Plain (Some e) = refl
    assigned_is x fixed i at word assignment.Sum e = compound_is x fixed Sum' e
    assigned_is x fixed i at word (assignment.Arithmetic o) e = compound_is x fixed (Arithmetic' o) e

    -- an assignment that is no wrong use has a name at its left
    pub assign_is : (n : Named) (i : ℕ) (at : Span) (name : Option Span) (a : Assignment) (e : Option Expr) (s : Kept) → Right (tree_at p go (assign_shape n i at name a (option_map (seen_in uses) e))) s → tree_at p go (assign_shape n i at name a (option_map (seen_in uses) e)) ≡ assign_run p go n a (option_map (expr_tree uses) e)
    assign_is (named.Variable x fixed) i at (Some word) a e s h = assigned_is x fixed i at word a e
    assign_is (named.Variable x fixed) i at None a e s h = absurd (wrong_comes s h)
    assign_is (named.Function f r) i at name a e s h = refl
    assign_is (named.BuiltIn f r) i at name a e s h = refl
    assign_is named.Other i at name a e s h = refl
