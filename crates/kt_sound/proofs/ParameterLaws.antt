-- Arguments and parameters: arguments that typing lets through fit, and so does the frame in which a body begins.
use Rattle.std.proofs.Common.{◌≡◌, ℕ, nat_eq, nat_le, is_some, Bool, true, false, ◌&&◌, ◌||◌, if◌then◌else◌, Option, Some, None, List, [], ◌∷◌, length, inl, inr, refl, sym, ap, subst, ◌∙◌, arith}
use Rattle.std.specs.Prelude.{IsSome}
use Rattle.std.specs.List.{flat_map}
use Rattle.std.proofs.lemmas.Bool.{eqb-true, leb-true, false≢true}
use Rattle.kt_model.specs.ControlFlow.{bring, entry_node, params_node}
use Rattle.kt_model.specs.NodePaths.{assigned_after}
use Rattle.kt_model.specs.declared.graph.Variable.TheVariants.{Local}
use Rattle.kt_model.specs.declared.kinds.KtType.{KtType}
use Rattle.kt_typing.specs.Typing.{LocalTypes, value_way, parameter_ways}
use Rattle.kt_model.proofs.ListLemmas.{Has}
use Rattle.kt_mean.specs.declared.states.Value.{Value}
use Rattle.kt_mean.specs.Evaluation.{fits, arguments_fit, new_locals}
use Rattle.kt_sound.proofs.TypingSteps.{none-some, some-some, AsWritten}
use Rattle.kt_sound.proofs.ValueTypes.{Lies, and_left, and_right}
use Rattle.kt_sound.proofs.BodyStanding.{Agrees, Gives, AllGive}
use Rattle.kt_sound.proofs.BodySteps.{nat_eq-sym}

both : (a b : Bool) → a ≡ true → b ≡ true → (a && b) ≡ true
both true b e f = f
both false b e f = absurd (false≢true e)

-- ---- arguments

-- neither fewer nor more
pub same_count : (least k : ℕ) → (nat_le least k && nat_le k least) ≡ true → k ≡ least
same_count least k e =
    let low = leb-true least k (and_left (nat_le least k) (nat_le k least) e) in
    let high = leb-true k least (and_right (nat_le least k) (nat_le k least) e) in
    omega arith

value_fits : (o found : Option KtType) (v : Value) → Gives (value_way o) found v → fits o v ≡ true
value_fits None found v h = refl
value_fits (Some t) found v h = h.1

-- Values that are checked against the written types of parameters, of which there are as many, fit.
pub checked_fit : (typed written : ℕ → Option KtType) → ((x : ℕ) → written x ≡ typed x) → (xs : List ℕ) (found : List (Option KtType)) (vs : List Value) → length found ≡ length xs
    → AllGive (parameter_ways typed xs) found vs → arguments_fit written xs vs ≡ true
checked_fit typed written same [] [] [] e g = refl
checked_fit typed written same [] [] (v ∷ vs) e g = absurd g
checked_fit typed written same [] (t ∷ ts) vs e g = absurd (omega (arith, e))
checked_fit typed written same (x ∷ xs) [] vs e g = absurd (omega (arith, e))
checked_fit typed written same (x ∷ xs) (t ∷ ts) [] e g = absurd g
checked_fit typed written same (x ∷ xs) (t ∷ ts) (v ∷ vs) e g =
    both (fits (written x) v) (arguments_fit written xs vs) (subst (λ o. fits o v ≡ true) (sym (same x)) (value_fits (typed x) t v g.0))
    (checked_fit typed written same xs ts vs (omega (arith, e)) g.1)

-- ---- the frame in which a body begins

or_true : (a : Bool) → (a || true) ≡ true
or_true true = refl
or_true false = refl

or_false : (a : Bool) → (a || false) ≡ a
or_false true = refl
or_false false = refl

-- where parameters hold something, the graph says so
pub held_parameters : (written : ℕ → Option KtType) (xs : List ℕ) (vs : List Value) → arguments_fit written xs vs ≡ true → (y : ℕ) (b : Bool)
    → assigned_after (flat_map bring xs) (Local y) b ≡ (is_some (new_locals xs vs y) || b)
held_parameters written [] [] e y b = refl
held_parameters written [] (v ∷ vs) e y b = absurd (false≢true e)
held_parameters written (x ∷ xs) [] e y b = absurd (false≢true e)
held_parameters written (x ∷ xs) (v ∷ vs) e y b =
    held_parameters written xs vs (and_right (fits (written x) v) (arguments_fit written xs vs) e) y (if nat_eq x y then true else (if nat_eq x y then false else b))
    ∙ by (nat_eq x y) ∙ ap (λ c. is_some (if c then Some v else new_locals xs vs y) || b) (nat_eq-sym x y)
  where
    by : (c : Bool) → (is_some (new_locals xs vs y) || (if c then true else (if c then false else b))) ≡ (is_some (if c then Some v else new_locals xs vs y) || b)
    by true = or_true (is_some (new_locals xs vs y))
    by false = refl

-- What a parameter holds lies in its written type. Where it stands twice, the first value counts.
abbrev pub LiesWritten : Option KtType → Value → Type 0
LiesWritten o v = (t : KtType) × ((o ≡ Some t) × Lies v t)

fit_lies : (o : Option KtType) (v : Value) → IsSome o → fits o v ≡ true → LiesWritten o v
fit_lies None v i e = absurd (false≢true i)
fit_lies (Some t) v i e = (t, (refl, e))

pub parameter_lies : (written : ℕ → Option KtType) (xs : List ℕ) (vs : List Value) → arguments_fit written xs vs ≡ true → ((y : ℕ) → Has xs y → IsSome (written y)) → (y : ℕ) (v : Value)
    → new_locals xs vs y ≡ Some v → LiesWritten (written y) v
unfolding Has
parameter_lies written [] vs e typed y v h = absurd (none-some v h)
parameter_lies written (x ∷ xs) [] e typed y v h = absurd (none-some v h)
parameter_lies written (x ∷ xs) (u ∷ vs) e typed y v h =
    by (nat_eq y x) refl h (parameter_lies written xs vs (and_right (fits (written x) u) (arguments_fit written xs vs) e) (λ z j. typed z (inr j)) y v)
  where
    by : (c : Bool) → nat_eq y x ≡ c → (if c then Some u else new_locals xs vs y) ≡ Some v → (new_locals xs vs y ≡ Some v → LiesWritten (written y) v) → LiesWritten (written y) v
    by true i held rest =
        let first = fit_lies (written x) u (typed x (inl refl)) (and_left (fits (written x) u) (arguments_fit written xs vs) e) in
        subst (λ z. LiesWritten (written z) v) (sym (eqb-true y x i)) (subst (λ z. LiesWritten (written x) z) (some-some u v held) first)
    by false i held rest = rest held

-- So the frame agrees with the graph behind the node of the parameters.
pub begun_agrees : (typed written : ℕ → Option KtType) → ((x : ℕ) → written x ≡ typed x) → (locals : LocalTypes) (xs : List ℕ) (vs : List Value) → arguments_fit written xs vs ≡ true
    → ((y : ℕ) → Has xs y → IsSome (written y)) → AsWritten typed locals → Agrees locals (params_node xs ∷ entry_node ∷ []) (record { locals = new_locals xs vs })
begun_agrees typed written same locals xs vs e has as_written = record {
  held = λ x. sym (held_parameters written xs vs e x false ∙ or_false (is_some (new_locals xs vs x)));
  typed = λ x v t i j.
      let l = parameter_lies written xs vs e has x v i in
      subst (λ z. Lies v z) (as_written x t l.0 j (sym (same x) ∙ l.1.0)) l.1.1;
}
