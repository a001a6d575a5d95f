-- Inheritance, over the written classes. A class's number is its place: the built-in classes come first, then those of the file in the order of
-- the text.
--
-- From the Kotlin specification, "Inheritance": the relation is the reflexive, transitive closure of the written supertypes, and every class is
-- under `Any`. The order in which `supers` lists the classes above one is this project's own. The code searches breadth first for what is above a
-- class, and makes each list from those of the supertypes.
use Rattle.std.specs.Prelude.{◌≡◌, ◌<◌, ◌⊎◌, ◌==◌, ℕ, suc, zero, List, [], ◌∷◌, ◌++◌, length, Contains, slice_get, map, unwrap_or, if◌then◌else◌}
use Rattle.std.specs.List.{flat_map, list_any}
use Rattle.kt_model.specs.declared.class_table.ClassRow.{ClassRow}
use Rattle.kt_model.specs.declared.class_table.ClassKind.{ClassKind}
use Rattle.kt_model.specs.declared.class_table.MemberRow.{MemberRow}

-- what is written of a class: its supertypes by their numbers, and its members
pub record Outline : Type 0 where
  pub name : ℕ
  pub kind : ClassKind
  pub supers : List ℕ
  pub members : List MemberRow

abbrev pub Outlines : Type 0
Outlines = List Outline

abbrev pub outline : ClassRow → Outline
outline row = record { name = row.name; kind = row.kind; supers = row.supers; members = row.members }

-- what is written of the classes of a table
abbrev pub outlines : List ClassRow → Outlines
outlines rows = map outline rows

-- for each class its written supertypes
abbrev pub Classes : Type 0
Classes = List (List ℕ)

abbrev pub written : Outlines → Classes
written os = map (λ o. o.supers) os

-- the class under which every class is
abbrev pub any : ℕ
any = 0

-- the written supertypes of a class, in order
abbrev pub supers_of : Classes → ℕ → List ℕ
supers_of classes c = unwrap_or (slice_get classes c) []

-- the reflexive, transitive closure of the written supertypes
pub data Climbs (classes : Classes) : ℕ → ℕ → Type 0 where
  here : {c : ℕ} → Climbs classes c c
  up : {c s d : ℕ} → Contains (supers_of classes c) s → Climbs classes s d → Climbs classes c d

-- d is properly above c
abbrev pub IsProperlyAbove : Classes → ℕ → ℕ → Type 0
IsProperlyAbove classes c d = (s : ℕ) × Contains (supers_of classes c) s × Climbs classes s d

-- every class is under `Any`
abbrev pub Sub : Classes → ℕ → ℕ → Type 0
Sub classes c d = (d ≡ any) ⊎ Climbs classes c d

-- each number once, where it stands first, and none of those seen before
abbrev pub each_once : List ℕ → List ℕ → List ℕ
each_once seen [] = []
each_once seen (x ∷ xs) = if list_any (λ y. y == x) seen then each_once seen xs else x ∷ each_once (x ∷ seen) xs

-- each class once, `Any` last
unfoldable pub listed : List ℕ → List ℕ
listed cs = each_once (any ∷ []) cs ++ any ∷ []

-- a class, then the same for each of its written supertypes in order, at most n steps up
unfoldable pub climbed : Classes → ℕ → ℕ → List ℕ
climbed classes zero c = c ∷ []
climbed classes (suc n) c = c ∷ flat_map (climbed classes n) (supers_of classes c)

-- the class, then the `supers` of each written supertype in order, each class once, `Any` last; no
-- climb is longer than there are classes, where no class is above itself
abbrev pub supers : Classes → ℕ → List ℕ
supers classes c = listed (climbed classes (length classes) c)

-- the classes can be ranked so that each stands above its subclasses: none is properly above itself
pub record IsRanked (classes : Classes) : Type 0 where
  pub rank : ℕ → ℕ
  pub falls : (c s : ℕ) → Contains (supers_of classes c) s → rank s < rank c
  pub below : (c : ℕ) → rank c < length classes
