use Rattle.std.proofs.Common.{◌≡◌, ◌≢◌, ℕ, ◌+◌, ◌<◌, Bool, true, false, cond, List, [], ◌∷◌, ◌++◌, Some, length, get_or, take, arith, refl, ap, sym, ◌∙◌, inl, inr}
use Rattle.std.specs.List.{list_any, position, position_or_len, slice_get}
use Rattle.std.specs.Option.{MatchOption}
use Rattle.std.proofs.lemmas.Bool.{cases_lt, eqb-true, eq-eqb, lt-ltb, le-ltb, false_from_ne_true, true≢false}
use Rattle.std.proofs.lemmas.List.{get_or-take, length-take-le, take_more}
use Rattle.std.proofs.lemmas.List.Folds.{list_any_none}
use Rattle.std.proofs.lemmas.List.Elements.{All-from_get_or}
use Rattle.std.proofs.lemmas.List.Sums.{fails_before_first, passes_at_first}
use Rattle.std.proofs.lemmas.Option.{slice_get-get_or}
use Rattle.indexmap.specs.IndexSet.{insert_key}
use Rattle.kt_model.specs.declared.graph.Variable.{Variable}
use Rattle.kt_model.specs.declared.graph.Variable.TheVariants.{Local, Field}
use Rattle.kt_model.specs.contracts.graph.VariablePartialEq.TheImpl as derived
use Rattle.kt_model.specs.NodePaths.{variable_is}

abbrev eq : Variable → Variable → Bool
eq = (derived.ghosts).eq

-- what a derived `==` of variables computes
eq_is : (x y : Variable) → eq x y ≡ variable_is x y
eq_is (Local a) (Local b) = refl
eq_is (Local a) (Field b) = refl
eq_is (Field a) (Local b) = refl
eq_is (Field a) (Field b) = refl

-- variables are one exactly where the test says so
pub is_same : (x y : Variable) → variable_is x y ≡ true → x ≡ y
is_same (Local a) (Local b) e = ap Local (eqb-true a b e)
is_same (Local a) (Field b) e = absurd (true≢false (sym e))
is_same (Field a) (Local b) e = absurd (true≢false (sym e))
is_same (Field a) (Field b) e = ap Field (eqb-true a b e)

pub same_is : (x : Variable) → variable_is x x ≡ true
same_is (Local a) = eq-eqb a a refl
same_is (Field a) = eq-eqb a a refl

pub apart_is : (x y : Variable) → x ≢ y → variable_is x y ≡ false
apart_is x y ne = false_from_ne_true (variable_is x y) (λ e. ne (is_same x y e))

-- one more variable is listed
pub numbered_more : (vars : List Variable) (i : ℕ) (v : Variable) → i < length vars → v ≡ get_or vars i (Local 0)
    → ((j k : ℕ) → j < length vars → k < length vars → get_or vars j (Local 0) ≡ get_or vars k (Local 0) → j ≡ k)
    → insert_key eq (take i vars) v ≡ take (i + 1) vars
numbered_more vars i v h is once =
    let new : list_any (eq v) (take i vars) ≡ false = list_any_none (eq v) (take i vars) (All-from_get_or (λ x. eq v x ≡ false) (take i vars) (Local 0)
    (λ k l.
    (let lt : k < i = omega (arith, length-take-le i vars (omega arith), l) in
    let g : get_or (take i vars) k (Local 0) ≡ get_or vars k (Local 0) = get_or-take i vars k (Local 0) lt in
    eq_is v (get_or (take i vars) k (Local 0)) ∙ apart_is v (get_or (take i vars) k (Local 0)) (λ e. (let j = once i k h (omega arith) (sym is ∙ e ∙ g) in omega (arith, j, lt)))))) in
    ap (λ b. cond b (take i vars) (take i vars ++ v ∷ [])) new ∙ ap (λ x. take i vars ++ x ∷ []) is ∙ sym (take_more vars i (Local 0) h)

-- the place of a variable in the list
pub place_is : (v : Variable) (vars : List Variable) → MatchOption (position (eq v) vars) ((k : ℕ) → k < length vars → get_or vars k (Local 0) ≢ v) (λ k. slice_get vars k ≡ Some v)
place_is v vars = elim (cases_lt (position_or_len (eq v) vars) (length vars)) [
  | inl there ↦ rw (lt-ltb (position_or_len (eq v) vars) (length vars) there)
      (slice_get-get_or vars (position_or_len (eq v) vars) (Local 0) there
      ∙ ap Some (sym (is_same v (get_or vars (position_or_len (eq v) vars) (Local 0)) (sym (eq_is v _) ∙ passes_at_first (eq v) vars (Local 0) there))))
  | inr none ↦ rw (le-ltb (position_or_len (eq v) vars) (length vars) none)
      (λ k l e.
      (let no = fails_before_first (eq v) vars k (Local 0) (omega (arith, l, none)) in
      true≢false (sym (same_is v) ∙ ap (λ x. variable_is v x) (sym e) ∙ sym (eq_is v _) ∙ no)))
]
