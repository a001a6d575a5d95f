-- Values and upper bounds: a value of one of two types is one of their upper bound.
use Rattle.std.proofs.Common.{◌≡◌, ◌⊎◌, ℕ, ◌==◌, cond, Bool, true, false, Option, Some, None, unwrap_or, List, [], ◌∷◌, inl, inr, refl, sym, ap, subst, ◌∙◌, if◌then◌else◌}
use Rattle.std.specs.List.{find}
use Rattle.std.proofs.lemmas.Bool.{eqb-true, false≢true}
use Rattle.kt_model.specs.Classes.{Classes, any, supers}
use Rattle.kt_model.specs.Subtypes.{class_of, head_of, is_under, common_class, joined, upper_of}
use Rattle.kt_model.specs.declared.kinds.KtType.{KtType}
use Rattle.kt_model.specs.declared.kinds.Head.{Head}
use Rattle.kt_model.specs.declared.kinds.Head.TheVariants as head
use Rattle.kt_model.proofs.ListLemmas.{Has, any_of_has}
use Rattle.kt_mean.specs.declared.states.Value.{Value}
use Rattle.kt_mean.specs.Evaluation.{is_of}
use Rattle.kt_sound.specs.BodySoundness.{HasBuiltInClasses}
use Rattle.kt_sound.proofs.TypingSteps.{none-some, some-some}
use Rattle.kt_sound.proofs.ValueTypes.{Lies, of_any, of_above}

-- ---- heads

own_if : (c k : ℕ) (b : Bool) (h other : Head) → (c == k) ≡ b → class_of h ≡ Some k → class_of other ≡ Some c → class_of (if b then h else other) ≡ Some c
own_if c k true h other e i j = i ∙ ap (λ z. Some z) (sym (eqb-true c k e))
own_if c k false h other e i j = j

-- the head of a class has that class
own_class : (c : ℕ) → class_of (head_of c) ≡ Some c
own_class c =
    own_if c 0 (c == 0) head.Any _ refl refl
    (own_if c 1 (c == 1) head.Unit _ refl refl
    (own_if c 2 (c == 2) head.Boolean _ refl refl
    (own_if c 3 (c == 3) head.Int _ refl refl
    (own_if c 4 (c == 4) head.Str (head.Class c) refl refl refl))))

-- ---- the common class

-- what is found passes the test, and is in the list
found_there : {X : Type 0} (test : X → Bool) (xs : List X) (x : X) → find test xs ≡ Some x → (test x ≡ true) × Has xs x
unfolding Has
found_there test [] x e = absurd (none-some x e)
found_there {X} test (y ∷ ys) x e = by (test y) refl e (found_there test ys x)
  where
    by : (b : Bool) → test y ≡ b → cond b (Some y) (find test ys) ≡ Some x → (find test ys ≡ Some x → (test x ≡ true) × Has ys x) → (test x ≡ true) × ((y ≡ x) ⊎ Has ys x)
    by true i f rest = let same = some-some y x f in (subst (λ z. test z ≡ true) same i, inl same)
    by false i f rest = let r = rest f in (r.0, inr r.1)

-- a value of one of two classes is one of their common class
of_common : (classes : Classes) → HasBuiltInClasses classes → (v : Value) (a b : ℕ) → (is_of (Some a) v ≡ true) ⊎ (is_of (Some b) v ≡ true) → is_of (Some (common_class classes a b)) v ≡ true
unfolding common_class
of_common classes h v a b l = by (find (λ c. is_under classes b c) (supers classes a)) refl
  where
    by : (o : Option ℕ) → find (λ c. is_under classes b c) (supers classes a) ≡ o → is_of (Some (unwrap_or o any)) v ≡ true
    by None e = of_any v any refl
    by (Some c) e =
        let there = found_there (λ c. is_under classes b c) (supers classes a) c e in
        elim l [ inl i ↦ of_above classes h v a c i (any_of_has (supers classes a) c there.1) | inr i ↦ of_above classes h v b c i there.0 ]

-- ---- the upper bound

of_joined : (classes : Classes) → HasBuiltInClasses classes → (v : Value) (a b : Head) (o q : Option ℕ) → class_of a ≡ o → class_of b ≡ q → (is_of o v ≡ true) ⊎ (is_of q v ≡ true)
    → is_of (class_of (joined classes a b o q)) v ≡ true
of_joined classes h v a b None q i j (inl l) = absurd (false≢true l)
of_joined classes h v a b None q i j (inr l) = subst (λ z. is_of z v ≡ true) (sym j) l
of_joined classes h v a b (Some x) None i j (inl l) = subst (λ z. is_of z v ≡ true) (sym i) l
of_joined classes h v a b (Some x) None i j (inr l) = absurd (false≢true l)
of_joined classes h v a b (Some x) (Some y) i j l = subst (λ z. is_of z v ≡ true) (sym (own_class (common_class classes x y))) (of_common classes h v x y l)

-- a value of one of two types is one of their upper bound
pub lies_upper : (classes : Classes) → HasBuiltInClasses classes → (v : Value) (a b : KtType) → Lies v a ⊎ Lies v b → Lies v (upper_of classes a b)
lies_upper classes h v a b l = of_joined classes h v a.head b.head (class_of a.head) (class_of b.head) refl refl l
