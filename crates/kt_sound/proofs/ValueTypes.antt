-- Values and types: a value of a type is one of each type above it.
use Rattle.std.proofs.Common.{◌≡◌, ◌⊎◌, ℕ, ℤ, zero, suc, ◌==◌, ◌||◌, ◌&&◌, if◌then◌else◌, Bool, true, false, Option, Some, None, List, [], ◌∷◌, ◌++◌, length, inl, inr, refl, sym, ap, subst}
use Rattle.std.specs.List.{flat_map}
use Rattle.std.proofs.lemmas.Bool.{eqb-true, eq-eqb, false≢true}
use Rattle.kt_model.specs.Classes.{Classes, any, supers_of, each_once, listed, climbed, supers}
use Rattle.kt_model.specs.Subtypes.{class_of, is_under}
use Rattle.kt_model.specs.declared.kinds.KtType.{KtType}
use Rattle.kt_model.specs.declared.kinds.Head.{Head}
use Rattle.kt_model.specs.declared.kinds.Head.TheVariants as head
use Rattle.kt_typing.specs.Typing.{is_head_under, is_subtype, is_string, is_text, int, boolean, unit, is_unit}
use Rattle.kt_model.proofs.ListLemmas.{Has, has_of_any, has_first, no_more}
use Rattle.kt_mean.specs.declared.states.Value.{Value}
use Rattle.kt_mean.specs.declared.states.Value.TheVariants as value
use Rattle.kt_mean.specs.Evaluation.{class_of_value, is_of, lies}
use Rattle.kt_sound.specs.BodySoundness.{HasBuiltInClasses}

-- ---- classes without written supertypes

climbed_alone : (classes : Classes) (n c : ℕ) → supers_of classes c ≡ [] → climbed classes n c ≡ c ∷ []
unfolding climbed
climbed_alone classes zero c e = refl
climbed_alone classes (suc n) c e = ap (λ (ss : List ℕ). c ∷ flat_map (climbed classes n) ss) e

in_two : (c b x : ℕ) → Has (c ∷ b ∷ []) x → (x ≡ c) ⊎ (x ≡ b)
in_two c b x h = elim (has_first c (b ∷ []) x h) [
  | inl e ↦ inl (sym e)
  | inr r ↦ elim (has_first b [] x r) [ inl e ↦ inr (sym e) | inr n ↦ absurd (no_more x n) ]
]

in_one : (b c x : ℕ) → Has (b ∷ []) x → (x ≡ c) ⊎ (x ≡ b)
in_one b c x h = elim (has_first b [] x h) [ inl e ↦ inr (sym e) | inr n ↦ absurd (no_more x n) ]

listed_alone : (c x : ℕ) → Has (listed (c ∷ [])) x → (x ≡ c) ⊎ (x ≡ any)
unfolding listed
listed_alone c x = by (any == c)
  where
    by : (b : Bool) → Has ((if b || false then each_once (any ∷ []) [] else c ∷ each_once (c ∷ any ∷ []) []) ++ any ∷ []) x → (x ≡ c) ⊎ (x ≡ any)
    by true h = in_one any c x h
    by false h = in_two c any x h

above_alone : (classes : Classes) (c x : ℕ) → supers_of classes c ≡ [] → is_under classes c x ≡ true → (x ≡ c) ⊎ (x ≡ any)
above_alone classes c x e h = listed_alone c x (subst (λ cs. Has (listed cs) x) (climbed_alone classes (length classes) c e) (has_of_any (supers classes c) x h))

-- ---- values

abbrev pub Lies : Value → KtType → Type 0
Lies v t = lies v t ≡ true

either : (a b : Bool) → (a || b) ≡ true → (a ≡ true) ⊎ (b ≡ true)
either true b e = inl refl
either false b e = inr e

pub and_left : (a b : Bool) → (a && b) ≡ true → a ≡ true
and_left true b e = refl
and_left false b e = e

pub and_right : (a b : Bool) → (a && b) ≡ true → b ≡ true
and_right true b e = e
and_right false b e = absurd (false≢true e)

or_left : (a b : Bool) → a ≡ true → (a || b) ≡ true
or_left true b e = refl
or_left false b e = absurd (false≢true e)

or_right : (a b : Bool) → b ≡ true → (a || b) ≡ true
or_right true b e = refl
or_right false b e = e

pub of_any : (v : Value) (c : ℕ) → c ≡ any → is_of (Some c) v ≡ true
of_any v c e = or_left (c == any) (c == class_of_value v) (eq-eqb c any e)

of_own : (v : Value) (c : ℕ) → c ≡ class_of_value v → is_of (Some c) v ≡ true
of_own v c e = or_right (c == any) (c == class_of_value v) (eq-eqb c (class_of_value v) e)

-- the class of a value has no written supertypes
class_alone : (classes : Classes) → HasBuiltInClasses classes → (v : Value) → supers_of classes (class_of_value v) ≡ []
class_alone classes h value.Unit = h.unit_class
class_alone classes h (value.Bool b) = h.boolean_class
class_alone classes h (value.Int k) = h.int_class
class_alone classes h (value.Text text) = h.string_class

pub of_above : (classes : Classes) → HasBuiltInClasses classes → (v : Value) (a c : ℕ) → is_of (Some a) v ≡ true → is_under classes a c ≡ true → is_of (Some c) v ≡ true
of_above classes h v a c l u =
    elim (either (a == any) (a == class_of_value v) l) [
      | inl e ↦ elim (above_alone classes any c h.any_class (subst (λ x. is_under classes x c ≡ true) (eqb-true a any e) u)) [ inl i ↦ of_any v c i | inr i ↦ of_any v c i ]
      | inr e ↦ elim (above_alone classes (class_of_value v) c (class_alone classes h v) (subst (λ x. is_under classes x c ≡ true) (eqb-true a (class_of_value v) e) u)) [ inl i ↦ of_own v c i | inr i ↦ of_any v c i ]
    ]

heads_above : (classes : Classes) → HasBuiltInClasses classes → (v : Value) (a b : Option ℕ) → is_of a v ≡ true → is_head_under classes a b ≡ true → is_of b v ≡ true
heads_above classes h v None b l u = absurd (false≢true l)
heads_above classes h v (Some a) None l u = absurd (false≢true u)
heads_above classes h v (Some a) (Some c) l u = of_above classes h v a c l u

-- a value of a type is one of each type above it
pub lies_above : (classes : Classes) → HasBuiltInClasses classes → (v : Value) (d t : KtType) → Lies v d → is_subtype classes d t ≡ true → Lies v t
unfolding is_subtype
lies_above classes h v d t l u = heads_above classes h v (class_of d.head) (class_of t.head) l (and_left _ _ u)

-- a number
pub int_of : (v : Value) → Lies v int → (k : ℤ) × (v ≡ value.Int k)
int_of value.Unit h = absurd (false≢true h)
int_of (value.Bool b) h = absurd (false≢true h)
int_of (value.Int k) h = (k, refl)
int_of (value.Text text) h = absurd (false≢true h)

-- a truth value
pub bool_of : (v : Value) → Lies v boolean → (b : Bool) × (v ≡ value.Bool b)
bool_of value.Unit h = absurd (false≢true h)
bool_of (value.Bool b) h = (b, refl)
bool_of (value.Int k) h = absurd (false≢true h)
bool_of (value.Text text) h = absurd (false≢true h)

-- the test for `Unit`
pub unit_is : (h : Head) (nullable : Bool) → is_unit (record { head = h; nullable = nullable }) ≡ true → record { head = h; nullable = nullable } ≡ unit
unit_is head.Any b e = absurd (false≢true e)
unit_is head.Nothing b e = absurd (false≢true e)
unit_is head.Unit true e = absurd (false≢true e)
unit_is head.Unit false e = refl
unit_is head.Boolean b e = absurd (false≢true e)
unit_is head.Int b e = absurd (false≢true e)
unit_is head.Str b e = absurd (false≢true e)
unit_is (head.Class c) b e = absurd (false≢true e)

text_by_head : (v : Value) (h : Head) → is_string h ≡ true → is_of (class_of h) v ≡ true → (text : List ℕ) × (v ≡ value.Text text)
text_by_head v head.Any e l = absurd (false≢true e)
text_by_head v head.Nothing e l = absurd (false≢true e)
text_by_head v head.Unit e l = absurd (false≢true e)
text_by_head v head.Boolean e l = absurd (false≢true e)
text_by_head v head.Int e l = absurd (false≢true e)
text_by_head value.Unit head.Str e l = absurd (false≢true l)
text_by_head (value.Bool b) head.Str e l = absurd (false≢true l)
text_by_head (value.Int k) head.Str e l = absurd (false≢true l)
text_by_head (value.Text text) head.Str e l = (text, refl)
text_by_head v (head.Class c) e l = absurd (false≢true e)

-- a text
pub text_of : (v : Value) (t : KtType) → is_text (Some t) ≡ true → Lies v t → (text : List ℕ) × (v ≡ value.Text text)
text_of v t e l = text_by_head v t.head e l
