-- Where no wrong use comes, the meaning is the same without written types and dead trees.
use Rattle.std.proofs.Common.{◌≡◌, ℕ, zero, suc, nat_lt, Bool, true, false, ◌&&◌, not, Option, Some, None, List, [], ◌∷◌, ◌++◌, refl, ap, subst, ◌∙◌}
use Rattle.std.proofs.lemmas.Bool.{false≢true}
use Rattle.kt_model.specs.declared.kinds.KtType.{KtType}
use Rattle.kt_model.specs.BodyTrees.{Operation', Name', Paren', Not', And', Or', If', Declare', Local', Assign', Compound', Call', Return', Throw', Shut', Tree, Trees, Empty', First', number}
use Rattle.kt_mean.specs.declared.states.Value.{Value}
use Rattle.kt_mean.specs.declared.states.Value.TheVariants as value
use Rattle.kt_mean.specs.declared.states.Way.TheVariants as way
use Rattle.kt_mean.specs.declared.states.Limit.TheVariants as limit
use Rattle.kt_mean.specs.Frames.{Frame, State, Ending, Gave, Left, Over, Wrong, Outcome, Run, NotWrong, ◌>>=◌, ending_after, events_after, pure, over, wrong, turned}
use Rattle.kt_mean.specs.Evaluation.{Program, Function, choose, fits, spend, read, store, write, operated, most_calls, begun, call_end, with_values, block_from, block, asked, truth_of, truth_tree, not_tree, and_tree, or_tree, if_tree, returned, arguments_fit, invoke, limited, called, operand_or_one, tree_at, entered, eval}
use Rattle.kt_mean.specs.Events.{Event}
use Rattle.kt_mean.specs.WholeRun.{whole, start}
use Rattle.kt_run.specs.Running.{bare}

-- where the first comes to no wrong use, the second does the same
pub record Keeps {A : Type 0} (p q : Run A) : Type 0 where
  pub keeps : (s : State) → NotWrong (p s).ending → p s ≡ q s

same : {A : Type 0} (p : Run A) → Keeps p p
same p = record { keeps = λ s h. refl }

abbrev bound : {A B : Type 0} → Outcome A → (A → Run B) → Outcome B
bound o f = record { ending = ending_after o.ending f; events = o.events ++ events_after o.ending f }

first : {A B : Type 0} (e : Ending A) (f : A → Run B) → NotWrong (ending_after e f) → NotWrong e
first (Gave a s) f h = tt
first (Left w s) f h = tt
first (Over k) f h = tt
first Wrong f h = h

after : {A B : Type 0} (e : Ending A) (es : List Event) (f g : A → Run B) → ((a : A) → Keeps (f a) (g a)) → NotWrong (ending_after e f) → bound (record { ending = e; events = es }) f ≡ bound (record { ending = e; events = es }) g
after (Gave a s) es f g k h = ap (λ (o : Outcome _). record { ending = o.ending; events = es ++ o.events }) ((k a).keeps s h)
after (Left w s) es f g k h = refl
after (Over l) es f g k h = refl
after Wrong es f g k h = refl

bind_keeps : {A B : Type 0} (p q : Run A) (f g : A → Run B) → Keeps p q → ((a : A) → Keeps (f a) (g a)) → Keeps (p >>= f) (q >>= g)
unfolding ◌>>=◌
bind_keeps {A} p q f g one two = record {
  keeps = λ s h.
      let e : p s ≡ q s = one.keeps s (first (p s).ending f h) in
      ap (λ (o : Outcome A). bound o f) e
      ∙ after (q s).ending (q s).events f g two (subst (λ (o : Outcome A). NotWrong (ending_after o.ending f)) e h);
}

wrong_keeps : {A : Type 0} (q : Run A) → Keeps wrong q
unfolding wrong
wrong_keeps q = record { keeps = λ s h. absurd h }

-- what is looked at doesn't change what is done
checked_keeps : {A : Type 0} (b : Bool) (p q : Run A) → Keeps p q → Keeps (choose b p wrong) q
checked_keeps true p q k = k
checked_keeps false p q k = wrong_keeps q

dead_keeps : {A : Type 0} (b : Bool) (p q : Run A) → Keeps p q → Keeps (choose b wrong p) q
dead_keeps true p q k = wrong_keeps q
dead_keeps false p q k = k

either_keeps : {A : Type 0} (b : Bool) (p q r t : Run A) → Keeps p q → Keeps r t → Keeps (choose b p r) (choose b q t)
either_keeps true p q r t k l = k
either_keeps false p q r t k l = l

limited_keeps : (p q : Run Value) → Keeps p q → Keeps (limited p) (limited q)
unfolding limited
limited_keeps p q k = record { keeps = λ s h. by (nat_lt s.calls most_calls) s h } where
  by : (b : Bool) (s : State) → NotWrong (choose b p (over limit.Calls) s).ending → choose b p (over limit.Calls) s ≡ choose b q (over limit.Calls) s
  by true s h = k.keeps s h
  by false s h = refl

end_first : (f : Function) (here : Frame) (calls : ℕ) (e : Ending Value) → NotWrong (call_end f here calls e) → NotWrong e
end_first f here calls (Gave v s) h = tt
end_first f here calls (Left (way.Return v) s) h = tt
end_first f here calls (Left (way.Throw x) s) h = tt
end_first f here calls (Over k) h = tt
end_first f here calls Wrong h = h

fit_bare : (written : ℕ → Option KtType) (xs : List ℕ) (vs : List Value) → arguments_fit written xs vs ≡ true → arguments_fit (λ x. None) xs vs ≡ true
fit_bare written [] [] h = refl
fit_bare written [] (v ∷ vs) h = h
fit_bare written (x ∷ xs) [] h = h
fit_bare written (x ∷ xs) (v ∷ vs) h = by (fits (written x) v) (arguments_fit written xs vs) h (fit_bare written xs vs) where
  by : (b c : Bool) → (b && c) ≡ true → (c ≡ true → arguments_fit (λ x. None) xs vs ≡ true) → arguments_fit (λ x. None) xs vs ≡ true
  by true c k rest = rest k
  by false c k rest = absurd (false≢true k)

module _ (p : Program) (go also : Tree → Run Value) (part : (t : Tree) → Keeps (go t) (also t)) where
  values_keep : (ts : Trees) (f g : List Value → Run Value) → ((vs : List Value) → Keeps (f vs) (g vs)) → Keeps (with_values p go ts f) (with_values (bare p) also ts g)
  values_keep Empty' f g k = k []
  values_keep (First' t rest) f g k = bind_keeps (go t) (also t) _ _ (part t) (λ v. values_keep rest (λ vs. f (v ∷ vs)) (λ vs. g (v ∷ vs)) (λ vs. k (v ∷ vs)))

  block_keeps : (v : Value) (ts : Trees) → Keeps (block_from p go v ts) (block_from (bare p) also v ts)
  block_keeps v Empty' = same (pure v)
  block_keeps v (First' t rest) = bind_keeps (go t) (also t) _ _ (part t) (λ w. block_keeps w rest)

  asked_keeps : (e : Tree) → Keeps (asked p go e) (asked (bare p) also e)
  asked_keeps e = bind_keeps (go e) (also e) truth_of truth_of (part e) (λ v. same (truth_of v))

  truth_keeps : (e : Tree) → Keeps (truth_tree p go e) (truth_tree (bare p) also e)
  truth_keeps e = bind_keeps (asked p go e) (asked (bare p) also e) _ _ (asked_keeps e) (λ b. same (pure (value.Bool b)))

  not_keeps : (e : Tree) → Keeps (not_tree p go e) (not_tree (bare p) also e)
  not_keeps e = bind_keeps (asked p go e) (asked (bare p) also e) _ _ (asked_keeps e) (λ b. same (pure (value.Bool (not b))))

  and_keeps : (a b : Tree) → Keeps (and_tree p go a b) (and_tree (bare p) also a b)
  and_keeps a b = bind_keeps (asked p go a) (asked (bare p) also a) _ _ (asked_keeps a) (λ holds. either_keeps holds _ _ _ _ (truth_keeps b) (same (pure (value.Bool false))))

  or_keeps : (a b : Tree) → Keeps (or_tree p go a b) (or_tree (bare p) also a b)
  or_keeps a b = bind_keeps (asked p go a) (asked (bare p) also a) _ _ (asked_keeps a) (λ holds. either_keeps holds _ _ _ _ (same (pure (value.Bool true))) (truth_keeps b))

  if_keeps : (c : Tree) (a b : Trees) → Keeps (if_tree p go c a b) (if_tree (bare p) also c a b)
  if_keeps c a b = bind_keeps (asked p go c) (asked (bare p) also c) _ _ (asked_keeps c) (λ holds. either_keeps holds _ _ _ _ (block_keeps value.Unit a) (block_keeps value.Unit b))

  invoke_keeps : (f : Function) (vs : List Value) → Keeps (invoke p go f vs) (invoke (bare p) also f vs)
  unfolding invoke turned
  invoke_keeps f vs = record {
    keeps = λ s h. ap (λ (o : Outcome Value). record { ending = call_end f s.here s.calls o.ending; events = o.events })
        ((block_keeps value.Unit f.body).keeps (begun f vs s) (end_first f s.here s.calls (block p go f.body (begun f vs s)).ending h));
  }

  fitting_keeps : (b c : Bool) (r q : Run Value) → (b ≡ true → c ≡ true) → Keeps r q → Keeps (choose b r wrong) (choose c q wrong)
  fitting_keeps true true r q h k = k
  fitting_keeps true false r q h k = absurd (false≢true (h refl))
  fitting_keeps false c r q h k = wrong_keeps (choose c q wrong)

  called_keeps : (o : Option Function) (vs : List Value) → Keeps (called p go o vs) (called (bare p) also o vs)
  called_keeps None vs = same wrong
  called_keeps (Some f) vs =
      fitting_keeps (arguments_fit p.written f.parameters vs) (arguments_fit (λ x. None) f.parameters vs) _ _ (fit_bare p.written f.parameters vs) (limited_keeps _ _ (invoke_keeps f vs))

  tree_keeps : (t : Tree) → Keeps (tree_at p go t) (tree_at (bare p) also t)
  tree_keeps (Operation' n o parts) = values_keep parts _ _ (λ vs. same (operated o vs))
  tree_keeps (Name' n at x) = same (read x)
  tree_keeps (Paren' n e) = part e
  tree_keeps (Not' n e) = not_keeps e
  tree_keeps (And' n a b) = and_keeps a b
  tree_keeps (Or' n a b) = or_keeps a b
  tree_keeps (If' n braces c a b) = if_keeps c a b
  tree_keeps (Declare' n x) = same (store x None)
  tree_keeps (Local' n at x e) = bind_keeps _ _ _ _ (part e) (λ v. checked_keeps (fits (p.written x) v) (store x (Some v)) (store x (Some v)) (same (store x (Some v))))
  tree_keeps (Assign' n at x fixed e) = bind_keeps _ _ _ _ (part e) (λ v. checked_keeps (fits (p.written x) v) (write fixed x v) (write fixed x v) (same (write fixed x v)))
  tree_keeps (Compound' n at x fixed o operand) =
      bind_keeps _ _ _ _ (same (read x)) (λ old.
      values_keep operand _ _ (λ vs.
      bind_keeps _ _ _ _ (same (operated o (old ∷ operand_or_one vs))) (λ v.
      checked_keeps (fits (p.written x) v) (write fixed x v) (write fixed x v) (same (write fixed x v)))))
  tree_keeps (Call' n f returns arguments) = values_keep arguments _ _ (λ vs. called_keeps (p.functions f) vs)
  tree_keeps (Return' n value) = values_keep value _ _ (λ vs. same (returned vs))
  tree_keeps (Throw' n e) = same wrong
  tree_keeps (Shut' n) = same wrong

  entered_keeps : (t : Tree) → Keeps (entered p go t) (entered (bare p) also t)
  unfolding entered
  entered_keeps t = bind_keeps spend spend _ _ (same spend) (λ u. dead_keeps (p.dead (number t)) (tree_at p go t) (tree_at (bare p) also t) (tree_keeps t))

eval_keeps : (p : Program) (depth : ℕ) (t : Tree) → Keeps (eval p depth t) (eval (bare p) depth t)
unfolding eval
eval_keeps p zero t = same (over limit.Steps)
eval_keeps p (suc depth) t = entered_keeps p (eval p depth) (eval (bare p) depth) (eval_keeps p depth) t

-- a whole run
pub whole_bare : (p : Program) (steps : ℕ) (input : List ℕ) → NotWrong (whole p steps input).ending → whole p steps input ≡ called (bare p) (eval (bare p) steps) (p.functions p.main) [] (start steps input)
whole_bare p steps input h = (called_keeps p (eval p steps) (eval (bare p) steps) (eval_keeps p steps) (p.functions p.main) []).keeps (start steps input) h
