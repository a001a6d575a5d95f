-- What single steps do.
use Rattle.std.proofs.Common.{FitsSigned, to_z, of_z, ◌≡◌, ◌≢◌, ℕ, suc, ◌+◌, ◌-◌, ◌<◌, ◌≤◌, arith, ◌==◌, ℤ, pos, Bool, true, false, List, [], ◌∷◌, ◌++◌, length, Option, Some, None, IsSome, MatchResult, Result, Ok, Err, refl, sym, ap, subst, ◌∙◌}
use Rattle.std.specs.Int.{w32, int_wrapping_add}
use Rattle.std.proofs.lemmas.Bool.{lt-ltb, le-ltb, eqb-true}
use Rattle.std.proofs.lemmas.Int.{to_z-of_z}
use Rattle.kt_model.specs.declared.uses.Named.{Named}
use Rattle.kt_model.specs.declared.uses.Named.TheVariants as named
use Rattle.kt_model.specs.BodyTrees.{Tree}
use Rattle.kt_outside.specs.Outside.{OutputState}
use Rattle.kt_mean.specs.declared.states.Value.{Value}
use Rattle.kt_mean.specs.declared.states.Value.TheVariants as value
use Rattle.kt_mean.specs.declared.states.Exception.{Exception}
use Rattle.kt_mean.specs.declared.states.Exception.TheVariants.{FailedRequirement, FailedCheck, Error}
use Rattle.kt_mean.specs.declared.states.Way.TheVariants as way
use Rattle.kt_mean.specs.declared.states.Limit.TheVariants as limit
use Rattle.kt_mean.specs.Frames.{State, Run, NotWrong, ◌>>=◌, over, pure, leave, wrong}
use Rattle.kt_mean.specs.Evaluation.{Program, eval, entered, choose, read, read_value, store, write, write_over, most_cells, most_text, take_cells, make_text, throws, on_one, on_two, sum_of, truth_of, built_in, built_in_of_one, demanded, failed, print, text_of_value, println_name, print_name, require_name, check_name, error_name}
use Rattle.kt_run.specs.declared.state.State.{State as Kept}
use Rattle.kt_run.specs.declared.state.Halt.{Halt}
use Rattle.kt_run.specs.declared.state.Halt.TheVariants as halt
use Rattle.kt_run.specs.Slots.{held}
use Rattle.kt_run.specs.Scene.{scene, seen, Right, Runs, Quiet}
use Rattle.kt_run.specs.Running.{name_run}
use Rattle.kt_run.specs.Operators.{number_in, truth_in}
use Rattle.kt_run.proofs.Chain.{quiet_runs, quiet_then, pure_quiet, pure_runs, leave_quiet, memory_runs}

-- a wrong use doesn't come
pub wrong_comes : {A : Type 0} (s : Kept) → Right (wrong {A = A}) s → ⊥
unfolding wrong
wrong_comes s h = h.right []

-- a local that is read holds a value
pub no_value : (s : Kept) (x : ℕ) → held s.frame x ≡ None → Right (read x) s → ⊥
unfolding read wrong
no_value s x e h = subst (λ (o : Option Value). NotWrong (read_value o (seen s [])).ending) e (h.right [])

-- an assignment that is no wrong use is a write
written : (fixed : Bool) (o : Option Value) (x : ℕ) (v : Value) (s : State) → NotWrong (write_over fixed o x v s).ending → write_over fixed o x v s ≡ store x (Some v) s
unfolding wrong
written true None x v s h = refl
written true (Some u) x v s h = absurd h
written false o x v s h = refl

pub write_quiet : (fixed : Bool) (x : ℕ) (v : Value) (s : Kept) (r : Result Value Halt) (t : Kept) → Right (write fixed x v) s → Quiet (store x (Some v)) s r t → Quiet (write fixed x v) s r t
unfolding write
write_quiet fixed x v s (Ok a) t h k = λ input. written fixed (held s.frame x) x v (seen s input) (h.right input) ∙ k input
write_quiet fixed x v s (Err (halt.Way w)) t h k = λ input. written fixed (held s.frame x) x v (seen s input) (h.right input) ∙ k input
write_quiet fixed x v s (Err (halt.Over l)) t h k = λ input. written fixed (held s.frame x) x v (seen s input) (h.right input) ∙ k input
write_quiet fixed x v s (Err halt.OutputFault) t h k = k
write_quiet fixed x v s (Err halt.NoMemory) t h k = k

-- a name that is no local
pub no_local : (n : Named) (s : Kept) → ((x : ℕ) (fixed : Bool) → n ≢ named.Variable x fixed) → Right (name_run n) s → ⊥
no_local (named.Variable x fixed) s other h = other x fixed refl
no_local (named.Function f r) s other h = wrong_comes s h
no_local (named.BuiltIn f r) s other h = wrong_comes s h
no_local named.Other s other h = wrong_comes s h

-- ---- cells and texts

pub cells_over : (n : ℕ) (s : Kept) → most_cells < s.cells + n → Quiet (take_cells n) s (Err (halt.Over limit.Store)) s
unfolding take_cells over
cells_over n s h = λ input. ap (λ b. choose b (over limit.Store (seen s input)) (pure tt (record (seen s input) { cells = s.cells + n }))) (lt-ltb most_cells (s.cells + n) h)

pub cells_taken : (n count : ℕ) (s : Kept) → count ≡ s.cells + n → count ≤ most_cells → Quiet (take_cells n) s (Ok tt) (record s { cells = count })
unfolding take_cells pure
cells_taken n count s e h = λ input.
    ap (λ b. choose b (over limit.Store (seen s input)) (pure tt (record (seen s input) { cells = s.cells + n }))) (le-ltb most_cells (s.cells + n) (omega arith))
    ∙ ap (λ (k : ℕ). pure tt (record (seen s input) { cells = k })) (sym e)

pub text_over : (text : List ℕ) (s : Kept) → most_text < s.text + length text → Quiet (make_text text) s (Err (halt.Over limit.Text)) s
unfolding make_text over
text_over text s h = λ input. ap (λ b. choose b (over limit.Text (seen s input)) (pure text (record (seen s input) { text = s.text + length text }))) (lt-ltb most_text (s.text + length text) h)

pub text_counted : (text : List ℕ) (count : ℕ) (s : Kept) → count ≡ s.text + length text → count ≤ most_text → Quiet (make_text text) s (Ok text) (record s { text = count })
unfolding make_text pure
text_counted text count s e h = λ input.
    ap (λ b. choose b (over limit.Text (seen s input)) (pure text (record (seen s input) { text = s.text + length text }))) (le-ltb most_text (s.text + length text) (omega arith))
    ∙ ap (λ (k : ℕ). pure text (record (seen s input) { text = k })) (sym e)

-- what is thrown where its cells are taken
pub thrown : (e : Exception) (s t : Kept) → Quiet (take_cells 2) s (Ok tt) t → Quiet (throws e) s (Err (halt.Way (way.Throw e))) t
thrown e s t h = quiet_then (take_cells 2) (λ u. leave (way.Throw e)) tt s t (Err (halt.Way (way.Throw e))) t h (leave_quiet (way.Throw e) t)

-- ---- values

none_is_some : {A : Type 0} (a : A) → None ≡ Some a → ⊥
none_is_some a e = cc

same_some : {A : Type 0} (a b : A) → Some a ≡ Some b → a ≡ b
same_some a b e = cc

-- an integer as code hands it on
pub int_quiet : (n k : ℤ) (s : Kept) → FitsSigned w32 k → k ≡ n → Quiet (pure (value.Int n)) s (Ok (value.Int (to_z w32 (of_z w32 k)))) s
int_quiet n k s fits e = subst (λ x. Quiet (pure (value.Int n)) s (Ok (value.Int x)) s) (sym (to_z-of_z w32 k fits ∙ e)) (pure_quiet (value.Int n) s)

-- an operand that is no wrong use is a number
pub number_there : (f : ℤ → Run Value) (v : Value) (s : Kept) → Right (on_one f (v ∷ [])) s → IsSome (number_in v)
number_there f value.Unit s h = absurd (wrong_comes s h)
number_there f (value.Bool b) s h = absurd (wrong_comes s h)
number_there f (value.Int k) s h = refl
number_there f (value.Text text) s h = absurd (wrong_comes s h)

pub on_number : (f : ℤ → Run Value) (v : Value) (k : ℤ) → number_in v ≡ Some k → on_one f (v ∷ []) ≡ f k
on_number f value.Unit k e = absurd (none_is_some k e)
on_number f (value.Bool b) k e = absurd (none_is_some k e)
on_number f (value.Int a) k e = ap f (same_some a k e)
on_number f (value.Text text) k e = absurd (none_is_some k e)

pub record BothNumbers (v w : Value) : Type 0 where
  pub left : IsSome (number_in v)
  pub right : IsSome (number_in w)

pub numbers_there : (f : ℤ → ℤ → Run Value) (v w : Value) (s : Kept) → Right (on_two f (v ∷ w ∷ [])) s → BothNumbers v w
numbers_there f value.Unit w s h = absurd (wrong_comes s h)
numbers_there f (value.Bool b) w s h = absurd (wrong_comes s h)
numbers_there f (value.Int k) value.Unit s h = absurd (wrong_comes s h)
numbers_there f (value.Int k) (value.Bool b) s h = absurd (wrong_comes s h)
numbers_there f (value.Int k) (value.Int l) s h = record { left = refl; right = refl }
numbers_there f (value.Int k) (value.Text text) s h = absurd (wrong_comes s h)
numbers_there f (value.Text text) w s h = absurd (wrong_comes s h)

pub on_numbers : (f : ℤ → ℤ → Run Value) (v w : Value) (k l : ℤ) → number_in v ≡ Some k → number_in w ≡ Some l → on_two f (v ∷ w ∷ []) ≡ f k l
on_numbers f value.Unit w k l e i = absurd (none_is_some k e)
on_numbers f (value.Bool b) w k l e i = absurd (none_is_some k e)
on_numbers f (value.Int a) value.Unit k l e i = absurd (none_is_some l i)
on_numbers f (value.Int a) (value.Bool b) k l e i = absurd (none_is_some l i)
on_numbers f (value.Int a) (value.Int b) k l e i = ap (λ x. f x b) (same_some a k e) ∙ ap (f k) (same_some b l i)
on_numbers f (value.Int a) (value.Text text) k l e i = absurd (none_is_some l i)
on_numbers f (value.Text text) w k l e i = absurd (none_is_some k e)

abbrev pub added : ℤ → ℤ → Run Value
added a b = pure (value.Int (int_wrapping_add w32 a b))

-- a sum whose left operand is no text
pub sum_of_numbers : (v w : Value) → ((text : List ℕ) → v ≢ value.Text text) → sum_of (v ∷ w ∷ []) ≡ on_two added (v ∷ w ∷ [])
sum_of_numbers value.Unit w h = refl
sum_of_numbers (value.Bool b) w h = refl
sum_of_numbers (value.Int k) w h = refl
sum_of_numbers (value.Text text) w h = absurd (h text refl)

-- a truth value
pub truth_some : (v : Value) (s : Kept) → Right (truth_of v) s → IsSome (truth_in v)
truth_some value.Unit s h = absurd (wrong_comes s h)
truth_some (value.Bool b) s h = refl
truth_some (value.Int k) s h = absurd (wrong_comes s h)
truth_some (value.Text text) s h = absurd (wrong_comes s h)

pub truth_quiet : (v : Value) (b : Bool) (s : Kept) → truth_in v ≡ Some b → Quiet (truth_of v) s (Ok b) s
truth_quiet value.Unit b s e = absurd (none_is_some b e)
truth_quiet (value.Bool a) b s e = subst (λ (c : Bool). Quiet (pure c) s (Ok b) s) (same_some b a (sym e)) (pure_quiet b s)
truth_quiet (value.Int k) b s e = absurd (none_is_some b e)
truth_quiet (value.Text text) b s e = absurd (none_is_some b e)

-- an integer
pub int_runs : (k : ℕ) (r : Result Value Halt) (s : Kept) (out : OutputState) → MatchResult r (λ v. v ≡ value.Int (pos k)) (λ h. h ≡ halt.NoMemory) → Runs (pure (value.Int (pos k))) (scene s out) r (scene s out)
int_runs k (Ok v) s out e = subst (λ (w : Value). Runs (pure w) (scene s out) (Ok v) (scene s out)) e (pure_runs v (scene s out))
int_runs k (Err h) s out e = subst (λ (x : Halt). Runs (pure (value.Int (pos k))) (scene s out) (Err x) (scene s out)) (sym e) (memory_runs (pure (value.Int (pos k))) s s out)

-- ---- built-in functions

-- no value: a line end, where that is no wrong use
pub line_end : (name : ℕ) (vs : List Value) (s : Kept) → length vs < 1 → Right (built_in name vs) s → built_in name vs ≡ print (10 ∷ [])
line_end name [] s h k = by (name == println_name) k where
  by : (b : Bool) → Right (choose b (print (10 ∷ [])) wrong) s → choose b (print (10 ∷ [])) wrong ≡ print (10 ∷ [])
  by true right = refl
  by false right = absurd (wrong_comes s right)
line_end name (v ∷ vs) s h k = absurd (omega arith)

pub too_many_values : (name : ℕ) (vs : List Value) (s : Kept) → 2 ≤ length vs → Right (built_in name vs) s → ⊥
too_many_values name [] s h k = absurd (omega arith)
too_many_values name (v ∷ []) s h k = absurd (omega arith)
too_many_values name (v ∷ w ∷ vs) s h k = wrong_comes s k

not_chosen : (b : Bool) (p q : Run Value) (s : Kept) → (b ≡ true → ⊥) → Right (choose b p q) s → Right q s
not_chosen true p q s other h = absurd (other refl)
not_chosen false p q s other h = h

-- the name of no built-in function of one parameter
pub no_built_in : (name : ℕ) (v : Value) (s : Kept) → (name ≡ 20 → ⊥) → (name ≡ 21 → ⊥) → (name ≡ 23 → ⊥) → (name ≡ 24 → ⊥) → (name ≡ 25 → ⊥) → Right (built_in_of_one name v) s → ⊥
no_built_in name v s a b c d e h =
    wrong_comes s (not_chosen (name == error_name) (failed v) wrong s (λ i. e (eqb-true name 25 i))
    (not_chosen (name == check_name) (demanded FailedCheck v) _ s (λ i. d (eqb-true name 24 i))
    (not_chosen (name == require_name) (demanded FailedRequirement v) _ s (λ i. c (eqb-true name 23 i))
    (not_chosen (name == print_name) (print (text_of_value v)) _ s (λ i. b (eqb-true name 21 i))
    (not_chosen (name == println_name) (print (text_of_value v ++ 10 ∷ [])) _ s (λ i. a (eqb-true name 20 i)) h)))))

-- what is demanded, by the truth of the value
pub demanded_by : (e : Exception) (v : Value) (b : Bool) (s : Kept) (r : Result Value Halt) (t : Kept) → truth_in v ≡ Some b → Quiet (choose b (pure value.Unit) (throws e)) s r t → Quiet (demanded e v) s r t
demanded_by e v b s r t is h = quiet_then (truth_of v) (λ (holds : Bool). choose holds (pure value.Unit) (throws e)) b s s r t (truth_quiet v b s is) h

-- `error` of what is no text
pub failed_as_text : (v : Value) → ((text : List ℕ) → v ≢ value.Text text) → failed v ≡ (make_text (text_of_value v) >>= (λ t. throws (Error t)))
failed_as_text value.Unit h = refl
failed_as_text (value.Bool b) h = refl
failed_as_text (value.Int k) h = refl
failed_as_text (value.Text text) h = absurd (h text refl)

-- ---- depth

-- where no tree may be entered
pub no_depth : (p : Program) (depth : ℕ) (t : Tree) (s : Kept) (out : OutputState) → depth ≡ 0 → Runs (eval p depth t) (scene s out) (Err (halt.Over limit.Steps)) (scene s out)
unfolding eval over
no_depth p depth t s out e = subst (λ n. Runs (eval p n t) (scene s out) (Err (halt.Over limit.Steps)) (scene s out)) (sym e) (quiet_runs (over limit.Steps) s (Err (halt.Over limit.Steps)) s out (λ input. refl))

-- a tree is entered with its parts one depth less
pub deeper : (p : Program) (depth : ℕ) (t : Tree) → 0 < depth → eval p depth t ≡ entered p (eval p (depth - 1)) t
unfolding eval
deeper p depth t h = let e : depth ≡ suc (depth - 1) = omega arith in ap (λ n. eval p n t) e
