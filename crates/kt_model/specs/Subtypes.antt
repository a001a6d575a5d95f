-- Types: the subtype relation and the upper bound.
--
-- From the Kotlin specification, "Type system", "Subtyping" and "Least upper bound", for types without parameters: `Nothing` is under every type, and
-- a type with `?` is under none without. Of several least upper bounds this project takes the first in the order of `supers`.
use Rattle.std.specs.Prelude.{◌≡◌, ◌<◌, ◌||◌, ◌==◌, ℕ, Bool, true, length, Option, Some, None, find, unwrap_or, if◌then◌else◌}
use Rattle.std.specs.List.{list_any}
use Rattle.kt_model.specs.Classes.{Classes, any, Sub, supers}
use Rattle.kt_model.specs.declared.kinds.KtType.{KtType}
use Rattle.kt_model.specs.declared.kinds.Head.{Head}
use Rattle.kt_model.specs.declared.kinds.Head.TheVariants.{Any, Nothing, Unit as UnitHead, Boolean, Int, Str, Class}

-- the class of a head; `Nothing` has none
abbrev pub class_of : Head → Option ℕ
class_of Any = Some 0
class_of Nothing = None
class_of UnitHead = Some 1
class_of Boolean = Some 2
class_of Int = Some 3
class_of Str = Some 4
class_of (Class c) = Some c

-- the head of a class
abbrev pub head_of : ℕ → Head
head_of c =
    if c == 0 then Any else (if c == 1 then UnitHead else (if c == 2 then Boolean else (if c == 3 then Int else (if c == 4 then Str else Class c))))

-- the class that a head names is one of the list
abbrev pub HasClass : Classes → Option ℕ → Type 0
HasClass classes None = Unit {0}
HasClass classes (Some c) = c < length classes

abbrev pub NamesClass : Classes → KtType → Type 0
NamesClass classes a = HasClass classes (class_of a.head)

-- the first head is `Nothing`, or its class is under the other's
abbrev pub IsHeadUnder : Classes → Option ℕ → Option ℕ → Type 0
IsHeadUnder classes None b = Unit {0}
IsHeadUnder classes (Some a) None = ⊥
IsHeadUnder classes (Some a) (Some b) = Sub classes a b

-- a value of the first type is one of the second
abbrev pub IsSubtype : Classes → KtType → KtType → Type 0
IsSubtype classes a b = IsHeadUnder classes (class_of a.head) (class_of b.head) × (a.nullable ≡ true → b.nullable ≡ true)

-- a class is one of the other's `supers`
abbrev pub is_under : Classes → ℕ → ℕ → Bool
is_under classes a c = list_any (λ d. d == c) (supers classes a)

-- the first of the one's `supers` that the other is under
unfoldable pub common_class : Classes → ℕ → ℕ → ℕ
common_class classes a b = unwrap_or (find (λ c. is_under classes b c) (supers classes a)) any

-- `Nothing` gives the other
abbrev pub joined : Classes → Head → Head → Option ℕ → Option ℕ → Head
joined classes a b None other = b
joined classes a b (Some x) None = a
joined classes a b (Some x) (Some y) = head_of (common_class classes x y)

abbrev pub upper_of : Classes → KtType → KtType → KtType
upper_of classes a b =
    record { head = joined classes a.head b.head (class_of a.head) (class_of b.head); nullable = a.nullable || b.nullable }
