-- The number that bounds the depth is no part of the meaning of bodies.
use Rattle.std.proofs.Common.{◌≡◌, ℕ, ℤ, pos, int_eq, zero, suc, ◌+◌, ◌-◌, ◌≤◌, ◌==◌, nat_lt, length, Bool, true, false, Option, Some, None, if◌then◌else◌, List, [], ◌∷◌, ◌++◌, refl, sym, ap, ◌∙◌, arith}
use Rattle.std.specs.Int.{w32, int_wrapping_add}
use Rattle.std.proofs.lemmas.Bool.{eq-eqb}
use Rattle.kt_model.specs.declared.kinds.KtType.{KtType}
use Rattle.kt_tree.specs.declared.ast.part.Arithmetic.{Arithmetic}
use Rattle.kt_tree.specs.declared.ast.part.Arithmetic.TheVariants as arithmetic
use Rattle.kt_tree.specs.declared.ast.part.Equality.{Equality}
use Rattle.kt_model.specs.BodyTrees.{Operation, Int', Bool', Null', Template', Sign', Sum', Arithmetic', Compare', Equal', BuiltIn', Tree, Trees, Empty', First', Operation', Name', Paren', Not', And', Or', If', Declare', Local', Assign', Compound', Call', Return', Throw', Shut', number}
use Rattle.kt_mean.specs.declared.states.Value.{Value}
use Rattle.kt_mean.specs.declared.states.Value.TheVariants as value
use Rattle.kt_mean.specs.declared.states.Way.{Way}
use Rattle.kt_mean.specs.declared.states.Exception.{Exception}
use Rattle.kt_mean.specs.declared.states.Exception.TheVariants.{DivisionByZero, FailedRequirement, FailedCheck, Error}
use Rattle.kt_mean.specs.declared.states.Way.TheVariants as way
use Rattle.kt_mean.specs.declared.states.Limit.TheVariants as limit
use Rattle.kt_mean.specs.Frames.{Frame, State, Ending, Gave, Left, Over, Wrong, Outcome, Run, ◌>>=◌, ending_after, events_after, pure, leave, over, wrong, turned}
use Rattle.kt_mean.specs.Evaluation.{Function, Program, choose, fits, is_unit, spend, read, read_value, store, write, write_over, print, text_of_value, most_cells, most_text, take_cells, make_text, text_made, on_one, on_two, throws, by_divisor, arithmetic_of, sum_of, joined, has_parts, string_of, equal_of, truth_of, returned, println_name, print_name, require_name, check_name, error_name, demanded, failed, built_in, operated, most_calls, begun, resume, given, ended, call_end, with_values, block_from, block, asked, truth_tree, not_tree, and_tree, or_tree, if_tree, arguments_fit, invoke, limited, called, checked, operand_or_one, tree_at, entered, eval, meaning}
use Rattle.kt_mean.specs.WholeRun.{start}
use Rattle.kt_mean.specs.EvaluationLaws.{DepthIsNoPart, MeaningUnfolds, WholeIsMeaning}

-- the steps left are at most so many where there is a state after
abbrev pub Falls : {A : Type 0} → ℕ → Ending A → Type 0
Falls k (Gave a s) = s.steps ≤ k
Falls k (Left w s) = s.steps ≤ k
Falls k (Over l) = Unit {0}
Falls k Wrong = Unit {0}

-- The two do the same wherever at most k steps are left, and steps never rise.
pub record Like {A : Type 0} (k : ℕ) (p q : Run A) : Type 0 where
  pub same : (s : State) → s.steps ≤ k → p s ≡ q s
  pub falls : (s : State) → Falls s.steps (q s).ending

-- what follows an ending that two evaluations share
after_same : {A B : Type 0} (k n : ℕ) (e : Ending A) (f g : A → Run B) → n ≤ k → Falls n e → ((a : A) → Like k (f a) (g a)) → (ending_after e f ≡ ending_after e g) × (events_after e f ≡ events_after e g)
after_same k n (Gave a s) f g h i like = let same = (like a).same s (omega arith) in (ap (λ (o : Outcome _). o.ending) same, ap (λ (o : Outcome _). o.events) same)
after_same k n (Left w s) f g h i like = (refl, refl)
after_same k n (Over l) f g h i like = (refl, refl)
after_same k n Wrong f g h i like = (refl, refl)

falls_more : {B : Type 0} (n m : ℕ) (e : Ending B) → m ≤ n → Falls m e → Falls n e
falls_more n m (Gave b s) h i = omega arith
falls_more n m (Left w s) h i = omega arith
falls_more n m (Over l) h i = tt
falls_more n m Wrong h i = tt

after_falls : {A B : Type 0} (k n : ℕ) (e : Ending A) (f g : A → Run B) → Falls n e → ((a : A) → Like k (f a) (g a)) → Falls n (ending_after e g)
after_falls k n (Gave a s) f g h like = falls_more n s.steps ((g a s).ending) h ((like a).falls s)
after_falls k n (Left w s) f g h like = h
after_falls k n (Over l) f g h like = tt
after_falls k n Wrong f g h like = tt

-- one evaluation after another
pub bind_like : {A B : Type 0} (k : ℕ) (p q : Run A) (f g : A → Run B) → Like k p q → ((a : A) → Like k (f a) (g a)) → Like k (p >>= f) (q >>= g)
unfolding ◌>>=◌
bind_like {A} {B} k p q f g first like = record {
  same = λ s h.
      let one : p s ≡ q s = first.same s h in
      let two = after_same k s.steps (q s).ending f g h (first.falls s) like in
      ap (λ (o : Outcome A). record { ending = ending_after o.ending f; events = o.events ++ events_after o.ending f }) one
      ∙ ap (λ (e : Ending B). record { ending = e; events = (q s).events ++ events_after (q s).ending f }) two.0
      ∙ ap (λ es. record { ending = ending_after (q s).ending g; events = (q s).events ++ es }) two.1;
  falls = λ s. after_falls k s.steps (q s).ending f g (first.falls s) like;
}

-- an evaluation that leaves the steps alone
still : {A : Type 0} (k : ℕ) (p : Run A) → ((s : State) → Falls s.steps (p s).ending) → Like k p p
still k p h = record { same = λ s i. refl; falls = h }

-- one evaluation after another, where neither gains steps
bind_falls : {A B : Type 0} (s : State) (p : Run A) (f : A → Run B) → Falls s.steps (p s).ending → ((a : A) (u : State) → Falls u.steps (f a u).ending) → Falls s.steps ((p >>= f) s).ending
unfolding ◌>>=◌
bind_falls s p f h i = by (p s).ending h
  where
    by : (e : Ending _) → Falls s.steps e → Falls s.steps (ending_after e f)
    by (Gave a u) k = falls_more s.steps u.steps (f a u).ending k (i a u)
    by (Left w u) k = k
    by (Over l) k = tt
    by Wrong k = tt

pure_falls : {A : Type 0} (a : A) (s : State) → Falls s.steps (pure a s).ending
unfolding pure
pure_falls a s = omega arith

wrong_falls : (s : State) → Falls s.steps (wrong {A = Value} s).ending
unfolding wrong
wrong_falls s = tt

no_truth_falls : (s : State) → Falls s.steps (wrong {A = Bool} s).ending
unfolding wrong
no_truth_falls s = tt

leave_falls : (w : Way) (s : State) → Falls s.steps (leave {A = Value} w s).ending
unfolding leave
leave_falls w s = omega arith

choose_falls : {A : Type 0} (n : ℕ) (b : Bool) (p q : Run A) (s : State) → Falls n (p s).ending → Falls n (q s).ending → Falls n (choose b p q s).ending
choose_falls n true p q s h i = h
choose_falls n false p q s h i = i

choose_like : {A : Type 0} (k : ℕ) (b : Bool) (p q r : Run A) → Like k p q → ((s : State) → Falls s.steps (r s).ending) → Like k (choose b p r) (choose b q r)
choose_like k true p q r h i = h
choose_like k false p q r h i = still k r i

either_like : {A : Type 0} (k : ℕ) (b : Bool) (p q r t : Run A) → Like k p q → Like k r t → Like k (choose b p r) (choose b q t)
either_like k true p q r t h i = h
either_like k false p q r t h i = i

-- ---- single steps

read_falls : (s : State) (o : Option Value) → Falls s.steps (read_value o s).ending
read_falls s None = wrong_falls s
read_falls s (Some v) = pure_falls v s

store_falls : (s : State) (x : ℕ) (o : Option Value) → Falls s.steps (store x o s).ending
unfolding store
store_falls s x o = omega arith

write_falls : (s : State) (fixed : Bool) (o : Option Value) (x : ℕ) (v : Value) → Falls s.steps (write_over fixed o x v s).ending
write_falls s true None x v = store_falls s x (Some v)
write_falls s true (Some u) x v = wrong_falls s
write_falls s false o x v = store_falls s x (Some v)

print_falls : (s : State) (text : List ℕ) → Falls s.steps (print text s).ending
unfolding print
print_falls s text = omega arith

take_falls : (n : ℕ) (s : State) → Falls s.steps (take_cells n s).ending
unfolding take_cells over pure
take_falls n s = by (nat_lt most_cells (s.cells + n))
  where
    by : (b : Bool) → Falls {A = Unit {0}} s.steps (choose {A = Outcome (Unit {0})} b (over limit.Store s) (pure tt (record s { cells = s.cells + n }))).ending
    by true = tt
    by false = omega arith

make_falls : (text : List ℕ) (s : State) → Falls s.steps (make_text text s).ending
unfolding make_text over pure
make_falls text s = by (nat_lt most_text (s.text + length text))
  where
    by : (b : Bool) → Falls s.steps (choose b (over limit.Text s) (pure text (record s { text = s.text + length text }))).ending
    by true = tt
    by false = omega arith

made_falls : (text : List ℕ) (s : State) → Falls s.steps (text_made text s).ending
made_falls text s = bind_falls s (make_text text) _ (make_falls text s) (λ t u. pure_falls (value.Text t) u)

throws_falls : (e : Exception) (s : State) → Falls s.steps (throws e s).ending
throws_falls e s = bind_falls s (take_cells 2) _ (take_falls 2 s) (λ u v. leave_falls (way.Throw e) v)

one_falls : (s : State) (f : ℤ → Run Value) → ((a : ℤ) → Falls s.steps (f a s).ending) → (vs : List Value) → Falls s.steps (on_one f vs s).ending
one_falls s f h [] = wrong_falls s
one_falls s f h (value.Unit ∷ vs) = wrong_falls s
one_falls s f h (value.Bool b ∷ vs) = wrong_falls s
one_falls s f h (value.Int a ∷ []) = h a
one_falls s f h (value.Int a ∷ v ∷ vs) = wrong_falls s
one_falls s f h (value.Text t ∷ vs) = wrong_falls s

two_falls : (s : State) (f : ℤ → ℤ → Run Value) → ((a b : ℤ) → Falls s.steps (f a b s).ending) → (vs : List Value) → Falls s.steps (on_two f vs s).ending
two_falls s f h [] = wrong_falls s
two_falls s f h (value.Unit ∷ vs) = wrong_falls s
two_falls s f h (value.Bool b ∷ vs) = wrong_falls s
two_falls s f h (value.Int a ∷ []) = wrong_falls s
two_falls s f h (value.Int a ∷ value.Unit ∷ vs) = wrong_falls s
two_falls s f h (value.Int a ∷ value.Bool b ∷ vs) = wrong_falls s
two_falls s f h (value.Int a ∷ value.Int b ∷ []) = h a b
two_falls s f h (value.Int a ∷ value.Int b ∷ v ∷ vs) = wrong_falls s
two_falls s f h (value.Int a ∷ value.Text t ∷ vs) = wrong_falls s
two_falls s f h (value.Text t ∷ vs) = wrong_falls s

divisor_falls : (s : State) (b : ℤ) (v : Value) → Falls s.steps (by_divisor b (pure v) s).ending
divisor_falls s b v = by (int_eq b (pos 0))
  where
    by : (is_zero : Bool) → Falls s.steps (choose is_zero (throws DivisionByZero) (pure v) s).ending
    by true = throws_falls DivisionByZero s
    by false = pure_falls v s

arithmetic_falls : (s : State) (o : Arithmetic) (a b : ℤ) → Falls s.steps (arithmetic_of o a b s).ending
arithmetic_falls s arithmetic.Subtract a b = pure_falls _ s
arithmetic_falls s arithmetic.Multiply a b = pure_falls _ s
arithmetic_falls s arithmetic.Divide a b = divisor_falls s b _
arithmetic_falls s arithmetic.Remainder a b = divisor_falls s b _

sum_falls : (s : State) (vs : List Value) → Falls s.steps (sum_of vs s).ending
sum_falls s [] = wrong_falls s
sum_falls s (value.Unit ∷ vs) = wrong_falls s
sum_falls s (value.Bool b ∷ vs) = wrong_falls s
sum_falls s (value.Int a ∷ vs) = two_falls s (λ a b. pure (value.Int (int_wrapping_add w32 a b))) (λ a b. pure_falls (value.Int (int_wrapping_add w32 a b)) s) (value.Int a ∷ vs)
sum_falls s (value.Text t ∷ []) = wrong_falls s
sum_falls s (value.Text t ∷ v ∷ []) = made_falls _ s
sum_falls s (value.Text t ∷ v ∷ w ∷ vs) = wrong_falls s

string_falls : (s : State) (made : Bool) (text : Option (List ℕ)) → Falls s.steps (string_of made text s).ending
string_falls s true None = wrong_falls s
string_falls s false None = wrong_falls s
string_falls s true (Some text) = made_falls text s
string_falls s false (Some text) = pure_falls (value.Text text) s

equal_falls : (s : State) (o : Equality) (vs : List Value) → Falls s.steps (equal_of o vs s).ending
equal_falls s o [] = wrong_falls s
equal_falls s o (v ∷ []) = wrong_falls s
equal_falls s o (v ∷ w ∷ []) = pure_falls _ s
equal_falls s o (v ∷ w ∷ x ∷ vs) = wrong_falls s

truth_falls : (s : State) (v : Value) → Falls s.steps (truth_of v s).ending
truth_falls s value.Unit = no_truth_falls s
truth_falls s (value.Bool b) = pure_falls b s
truth_falls s (value.Int k) = no_truth_falls s
truth_falls s (value.Text t) = no_truth_falls s

returned_falls : (s : State) (vs : List Value) → Falls s.steps (returned vs s).ending
returned_falls s [] = leave_falls _ s
returned_falls s (v ∷ []) = leave_falls _ s
returned_falls s (v ∷ w ∷ vs) = wrong_falls s

demanded_falls : (s : State) (e : Exception) (v : Value) → Falls s.steps (demanded e v s).ending
demanded_falls s e v = bind_falls s (truth_of v) _ (truth_falls s v) (λ holds u. choose_falls u.steps holds (pure value.Unit) (throws e) u (pure_falls value.Unit u) (throws_falls e u))

text_falls : (s : State) (text : List ℕ) → Falls s.steps ((make_text text >>= (λ t. throws (Error t))) s).ending
text_falls s text = bind_falls s (make_text text) _ (make_falls text s) (λ t u. throws_falls (Error t) u)

failed_falls : (s : State) (v : Value) → Falls s.steps (failed v s).ending
failed_falls s value.Unit = text_falls s _
failed_falls s (value.Bool b) = text_falls s _
failed_falls s (value.Int k) = text_falls s _
failed_falls s (value.Text t) = throws_falls (Error t) s

built_in_falls : (s : State) (name : ℕ) (vs : List Value) → Falls s.steps (built_in name vs s).ending
built_in_falls s name [] = choose_falls s.steps (name == println_name) (print (10 ∷ [])) wrong s (print_falls s _) (wrong_falls s)
built_in_falls s name (v ∷ []) =
    choose_falls s.steps (name == println_name) (print (text_of_value v ++ 10 ∷ [])) _ s (print_falls s _)
    (choose_falls s.steps (name == print_name) (print (text_of_value v)) _ s (print_falls s _)
    (choose_falls s.steps (name == require_name) (demanded FailedRequirement v) _ s (demanded_falls s FailedRequirement v)
    (choose_falls s.steps (name == check_name) (demanded FailedCheck v) _ s (demanded_falls s FailedCheck v)
    (choose_falls s.steps (name == error_name) (failed v) wrong s (failed_falls s v) (wrong_falls s)))))
built_in_falls s name (v ∷ w ∷ vs) = wrong_falls s

operated_falls : (s : State) (o : Operation) (vs : List Value) → Falls s.steps (operated o vs s).ending
operated_falls s (Int' k) [] = pure_falls _ s
operated_falls s (Int' k) (v ∷ vs) = wrong_falls s
operated_falls s (Bool' b) [] = pure_falls _ s
operated_falls s (Bool' b) (v ∷ vs) = wrong_falls s
operated_falls s Null' vs = wrong_falls s
operated_falls s (Template' texts) vs = string_falls s (has_parts vs) (joined texts vs)
operated_falls s (Sign' sign) vs = one_falls s _ (λ a. pure_falls _ s) vs
operated_falls s Sum' vs = sum_falls s vs
operated_falls s (Arithmetic' o) vs = two_falls s _ (arithmetic_falls s o) vs
operated_falls s (Compare' o) vs = two_falls s _ (λ a b. pure_falls _ s) vs
operated_falls s (Equal' o) vs = equal_falls s o vs
operated_falls s (BuiltIn' name returns) vs = built_in_falls s name vs

read_like : (k x : ℕ) → Like k (read x) (read x)
unfolding read
read_like k x = still k (read x) (λ s. read_falls s (s.here.locals x))

write_like : (k : ℕ) (fixed : Bool) (x : ℕ) (v : Value) → Like k (write fixed x v) (write fixed x v)
unfolding write
write_like k fixed x v = still k (write fixed x v) (λ s. write_falls s fixed (s.here.locals x) x v)

checked_like : (k : ℕ) (written : Option KtType) (v : Value) (r : Run Value) → Like k r r → Like k (checked written v r) (checked written v r)
checked_like k written v r h = choose_like k (fits written v) r r wrong h (λ s. wrong_falls s)

-- ---- calls

given_falls : (n : ℕ) (result : Option KtType) (v : Value) (s : State) → s.steps ≤ n → Falls n (given result v s)
given_falls n result v s h = by (fits result v)
  where
    by : (b : Bool) → Falls n (choose b (Gave v s) Wrong)
    by true = h
    by false = tt

ended_falls : (n : ℕ) (b : Bool) (result : Option KtType) (v : Value) (s : State) → s.steps ≤ n → Falls n (ended b result v s)
ended_falls n true result v s h = given_falls n result v s h
ended_falls n false result v s h = by (is_unit result)
  where
    by : (b : Bool) → Falls n (choose b (Gave value.Unit s) Wrong)
    by true = h
    by false = tt

call_end_falls : (n : ℕ) (f : Function) (here : Frame) (calls : ℕ) (e : Ending Value) → Falls n e → Falls n (call_end f here calls e)
call_end_falls n f here calls (Gave v s) h = ended_falls n f.is_expression f.result v (resume here calls s) h
call_end_falls n f here calls (Left (way.Return v) s) h = given_falls n f.result v (resume here calls s) h
call_end_falls n f here calls (Left (way.Throw e) s) h = h
call_end_falls n f here calls (Over l) h = tt
call_end_falls n f here calls Wrong h = tt

limited_like : (k : ℕ) (r q : Run Value) → Like k r q → Like k (limited r) (limited q)
unfolding limited over
limited_like k r q h = record {
  same = λ s i. by (nat_lt s.calls most_calls) s i;
  falls = λ s. choose_falls s.steps (nat_lt s.calls most_calls) q (over limit.Calls) s (h.falls s) tt;
} where
  by : (b : Bool) (s : State) → s.steps ≤ k → choose b r (over limit.Calls) s ≡ choose b q (over limit.Calls) s
  by true s i = h.same s i
  by false s i = refl

-- ---- trees

module _ (p : Program) (k : ℕ) (go also : Tree → Run Value) (like : (t : Tree) → Like k (go t) (also t)) where
  values_like : (ts : Trees) (f g : List Value → Run Value) → ((vs : List Value) → Like k (f vs) (g vs)) → Like k (with_values p go ts f) (with_values p also ts g)
  values_like Empty' f g h = h []
  values_like (First' t rest) f g h = bind_like k (go t) (also t) _ _ (like t) (λ v. values_like rest (λ vs. f (v ∷ vs)) (λ vs. g (v ∷ vs)) (λ vs. h (v ∷ vs)))

  block_like : (v : Value) (ts : Trees) → Like k (block_from p go v ts) (block_from p also v ts)
  block_like v Empty' = still k (pure v) (λ s. pure_falls v s)
  block_like v (First' t rest) = bind_like k (go t) (also t) _ _ (like t) (λ w. block_like w rest)

  asked_like : (e : Tree) → Like k (asked p go e) (asked p also e)
  asked_like e = bind_like k (go e) (also e) _ _ (like e) (λ v. still k (truth_of v) (λ s. truth_falls s v))

  truth_like : (e : Tree) → Like k (truth_tree p go e) (truth_tree p also e)
  truth_like e = bind_like k (asked p go e) (asked p also e) _ _ (asked_like e) (λ b. still k (pure (value.Bool b)) (λ s. pure_falls (value.Bool b) s))

  not_like : (e : Tree) → Like k (not_tree p go e) (not_tree p also e)
  not_like e = bind_like k (asked p go e) (asked p also e) _ _ (asked_like e) (λ b. still k (pure _) (λ s. pure_falls _ s))

  and_like : (a b : Tree) → Like k (and_tree p go a b) (and_tree p also a b)
  and_like a b = bind_like k (asked p go a) (asked p also a) _ _ (asked_like a) (λ holds. either_like k holds _ _ _ _ (truth_like b) (still k (pure _) (λ s. pure_falls _ s)))

  or_like : (a b : Tree) → Like k (or_tree p go a b) (or_tree p also a b)
  or_like a b = bind_like k (asked p go a) (asked p also a) _ _ (asked_like a) (λ holds. either_like k holds _ _ _ _ (still k (pure _) (λ s. pure_falls _ s)) (truth_like b))

  if_like : (c : Tree) (a b : Trees) → Like k (if_tree p go c a b) (if_tree p also c a b)
  if_like c a b = bind_like k (asked p go c) (asked p also c) _ _ (asked_like c) (λ holds. either_like k holds _ _ _ _ (block_like value.Unit a) (block_like value.Unit b))

  invoke_like : (f : Function) (vs : List Value) → Like k (invoke p go f vs) (invoke p also f vs)
  unfolding invoke turned
  invoke_like f vs = record {
    same = λ s h. ap (λ (o : Outcome Value). record { ending = call_end f s.here s.calls o.ending; events = o.events }) ((block_like value.Unit f.body).same (begun f vs s) h);
    falls = λ s. call_end_falls s.steps f s.here s.calls (block p also f.body (begun f vs s)).ending ((block_like value.Unit f.body).falls (begun f vs s));
  }

  called_like : (o : Option Function) (vs : List Value) → Like k (called p go o vs) (called p also o vs)
  called_like None vs = still k wrong (λ s. wrong_falls s)
  called_like (Some f) vs = choose_like k (arguments_fit p.written f.parameters vs) (limited (invoke p go f vs)) (limited (invoke p also f vs)) wrong (limited_like k _ _ (invoke_like f vs)) (λ s. wrong_falls s)

  tree_like : (t : Tree) → Like k (tree_at p go t) (tree_at p also t)
  tree_like (Operation' n o parts) = values_like parts _ _ (λ vs. still k (operated o vs) (λ s. operated_falls s o vs))
  tree_like (Name' n at x) = read_like k x
  tree_like (Paren' n e) = like e
  tree_like (Not' n e) = not_like e
  tree_like (And' n a b) = and_like a b
  tree_like (Or' n a b) = or_like a b
  tree_like (If' n braces c a b) = if_like c a b
  tree_like (Declare' n x) = still k (store x None) (λ s. store_falls s x None)
  tree_like (Local' n at x e) = bind_like k _ _ _ _ (like e) (λ v. checked_like k (p.written x) v _ (still k (store x (Some v)) (λ s. store_falls s x (Some v))))
  tree_like (Assign' n at x fixed e) = bind_like k _ _ _ _ (like e) (λ v. checked_like k (p.written x) v _ (write_like k fixed x v))
  tree_like (Compound' n at x fixed o operand) =
      bind_like k _ _ _ _ (read_like k x) (λ old.
      values_like operand _ _ (λ vs.
      bind_like k _ _ _ _ (still k (operated o (old ∷ operand_or_one vs)) (λ s. operated_falls s o (old ∷ operand_or_one vs))) (λ v.
      checked_like k (p.written x) v _ (write_like k fixed x v))))
  tree_like (Call' n f returns arguments) = values_like arguments _ _ (λ vs. called_like (p.functions f) vs)
  tree_like (Return' n value) = values_like value _ _ (λ vs. still k (returned vs) (λ s. returned_falls s vs))
  tree_like (Throw' n e) = still k wrong (λ s. wrong_falls s)
  tree_like (Shut' n) = still k wrong (λ s. wrong_falls s)

-- ---- entering

-- what follows an outcome
abbrev bound : {A B : Type 0} → Outcome A → (A → Run B) → Outcome B
bound o f = record { ending = ending_after o.ending f; events = o.events ++ events_after o.ending f }

abbrev spent : Bool → State → Outcome (Unit {0})
spent none s = if none then over limit.Steps s else pure tt (record s { steps = s.steps - 1 })

spent_same : (none : Bool) (s : State) (r q : Run Value) → (none ≡ false → r (record s { steps = s.steps - 1 }) ≡ q (record s { steps = s.steps - 1 })) → bound (spent none s) (λ (u : Unit {0}). r) ≡ bound (spent none s) (λ (u : Unit {0}). q)
unfolding over pure
spent_same true s r q h = refl
spent_same false s r q h = ap (λ (o : Outcome Value). record { ending = o.ending; events = [] ++ o.events }) (h refl)

spent_falls : (none : Bool) (s : State) (q : Run Value) → Falls (s.steps - 1) (q (record s { steps = s.steps - 1 })).ending → Falls s.steps (bound (spent none s) (λ (u : Unit {0}). q)).ending
unfolding over pure
spent_falls true s q h = tt
spent_falls false s q h = falls_more s.steps (s.steps - 1) (q (record s { steps = s.steps - 1 })).ending (omega arith) h

-- entering a tree costs a step, so its parts have one fewer
entered_like : (p : Program) (k : ℕ) (go also : Tree → Run Value) → ((t : Tree) → Like k (go t) (also t)) → (t : Tree) → Like (suc k) (entered p go t) (entered p also t)
unfolding entered spend ◌>>=◌
entered_like p k go also like t = record {
  same = λ s h. spent_same (s.steps == 0) s (choose (p.dead (number t)) wrong (tree_at p go t)) (choose (p.dead (number t)) wrong (tree_at p also t))
      (λ some. choose_run (p.dead (number t)) (tree_at p go t) (tree_at p also t) (record s { steps = s.steps - 1 }) ((tree_like p k go also like t).same (record s { steps = s.steps - 1 }) (omega arith)));
  falls = λ s. spent_falls (s.steps == 0) s (choose (p.dead (number t)) wrong (tree_at p also t))
      (choose_falls (s.steps - 1) (p.dead (number t)) wrong (tree_at p also t) (record s { steps = s.steps - 1 }) (wrong_falls (record s { steps = s.steps - 1 })) ((tree_like p k go also like t).falls (record s { steps = s.steps - 1 })));
} where
  choose_run : (b : Bool) (r q : Run Value) (s : State) → r s ≡ q s → choose b wrong r s ≡ choose b wrong q s
  choose_run true r q s e = refl
  choose_run false r q s e = e

none_left : (p : Program) (n : ℕ) (t : Tree) (s : State) → s.steps ≤ 0 → eval p n t s ≡ record { ending = Over limit.Steps; events = [] }
unfolding eval entered spend ◌>>=◌ over
none_left p zero t s h = refl
none_left p (suc n) t s h =
    let none : (s.steps == 0) ≡ true = eq-eqb s.steps 0 (omega arith) in
    rw none refl

-- steps never rise
eval_falls : (p : Program) (n : ℕ) (t : Tree) (s : State) → Falls s.steps (eval p n t s).ending
unfolding eval over
eval_falls p zero t s = tt
eval_falls p (suc n) t s = (entered_like p 0 (eval p n) (eval p n) (λ u. still 0 (eval p n u) (eval_falls p n u)) t).falls s

none_like : (p : Program) (n m : ℕ) (t : Tree) → Like 0 (eval p n t) (eval p m t)
none_like p n m t = record {
  same = λ s h. none_left p n t s h ∙ sym (none_left p m t s h);
  falls = eval_falls p m t;
}

-- any two numbers from k on do the same wherever at most k steps are left
eval_like : (p : Program) (k n m : ℕ) → k ≤ n → k ≤ m → (t : Tree) → Like k (eval p n t) (eval p m t)
unfolding eval
eval_like p zero n m h i t = none_like p n m t
eval_like p (suc k) zero m h i t = absurd (omega arith)
eval_like p (suc k) (suc n) zero h i t = absurd (omega arith)
eval_like p (suc k) (suc n) (suc m) h i t = entered_like p k (eval p n) (eval p m) (eval_like p k n m (omega arith) (omega arith)) t

pub same_depth : DepthIsNoPart
same_depth p n m t s h i = (eval_like p s.steps n m h i t).same s (omega arith)

-- any number from k on does what the meaning does, wherever at most k steps are left
depth_like : (p : Program) (k n : ℕ) → k ≤ n → (t : Tree) → Like k (eval p n t) (meaning p t)
unfolding meaning
depth_like p k n h t = record {
  same = λ s i. same_depth p n s.steps t s (omega arith) (omega arith);
  falls = λ s. eval_falls p s.steps t s;
}

pub meaning-entered : MeaningUnfolds
unfolding meaning eval
meaning-entered p t s =
    let n = s.steps in
    same_depth p n (suc n) t s (omega arith) (omega arith)
    ∙ (entered_like p n (eval p n) (meaning p) (depth_like p n n (omega arith)) t).same s (omega arith)

pub whole-meaning : WholeIsMeaning
whole-meaning p steps input = (called_like p steps (eval p steps) (meaning p) (depth_like p steps steps (omega arith)) (p.functions p.main) []).same (start steps input) (omega arith)
