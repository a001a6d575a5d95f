-- A list of numbers, and marks that tell its members.
use Rattle.std.specs.Prelude.{◌≡◌, ◌<◌, ◌⊎◌, ◌↔◌, ◌++◌, ℕ, Bool, true, false, List, [], ◌∷◌, Some, slice_get, Contains, length, ◌+◌, count_by, not, slice_index}
use Rattle.std.specs.Prelude.{◌==◌, ◌^◌, map, take, if◌then◌else◌}
use Rattle.std.specs.List.{list_any}
use Rattle.kt_tree.specs.declared.ast.declaration.File.{File}
use Rattle.kt_tree.specs.declared.ast.declaration.ClassDecl.{ClassDecl}
use Rattle.kt_model.specs.declared.class_table.ClassRow.{ClassRow}
use Rattle.kt_model.specs.declared.class_table.ClassKind.{ClassKind}
use Rattle.kt_model.specs.declared.finding.Finding.{Finding}
use Rattle.kt_model.specs.declared.finding.Rule.TheVariants.{SupertypeCycle}
use Rattle.kt_model.specs.TopNames.{Tops}
use Rattle.kt_model.specs.DeclarationRules.{supertype_misfits, classes_of, IsOfClass}
use Rattle.kt_model.specs.Outlines.{built_in_outline, built_in_numbers}
use Rattle.kt_model.specs.Members.{settled_of}
use Rattle.kt_model.specs.Classes.{Classes, outlines, written, any, supers_of, supers, IsProperlyAbove}

abbrev pub IsMarked : List Bool → ℕ → Type 0
IsMarked marks k = slice_get marks k ≡ Some true

-- a number is marked exactly where it is in the list
abbrev pub MarksMembers : List Bool → List ℕ → Type 0
MarksMembers marks found = (k : ℕ) → IsMarked marks k ↔ Contains found k

-- the list has grown at its end by exactly these numbers
pub record AddsNumbers (more old new : List ℕ) : Type 0 where
  pub grown : (rest : List ℕ) × (new ≡ old ++ rest)
  pub members : (k : ℕ) → Contains new k ↔ (Contains old k ⊎ Contains more k)

-- each written supertype has a number of the list
abbrev pub HasKnownSupers : Classes → Type 0
HasKnownSupers classes = (c s : ℕ) → Contains (supers_of classes c) s → s < length classes

-- n classes are properly above c, by marks that tell which
pub record CountsAbove (classes : Classes) (c n : ℕ) : Type 0 where
  pub marks : List Bool
  pub long : length marks ≡ length classes
  pub marked : (d : ℕ) → IsMarked marks d ↔ IsProperlyAbove classes c d
  pub left : count_by not marks + n ≡ length classes

-- how many classes are above each
abbrev pub CountsAll : Classes → List ℕ → Type 0
CountsAll classes counts = (c : ℕ) → c < length classes → CountsAbove classes c (slice_index counts c)

-- which classes are properly above themselves
abbrev pub MarksCycles : Classes → List Bool → Type 0
MarksCycles classes cycles = (c : ℕ) → c < length classes → IsMarked cycles c ↔ IsProperlyAbove classes c c

-- what is violated at a class, its being on a cycle given
abbrev pub class_findings : Tops → List ClassKind → Bool → ClassDecl → List Finding
class_findings tops kinds true c = record { rule = SupertypeCycle; span = c.name.span } ∷ []
class_findings tops kinds false c = supertype_misfits tops kinds c

-- what is violated at one of the first n classes
abbrev pub IsOfClassBefore : File → ℕ → Finding → Type 0
IsOfClassBefore file n f = (w : IsOfClass file f) × (w.place < n)

-- a class behind those found, where it is neither `Any` nor one of them
abbrev pub add_once : List ℕ → ℕ → List ℕ
add_once found c = if list_any (λ y. y == c) (any ∷ found) then found else found ++ c ∷ []

-- the count falls along the written supertypes
abbrev pub FallsAlong : Classes → List ℕ → Type 0
FallsAlong classes counts = (c s : ℕ) → Contains (supers_of classes c) s → slice_index counts s < slice_index counts c

-- the classes with fewer classes above them than n have theirs
abbrev pub IsFilled : Classes → List ℕ → ℕ → Classes → Type 0
IsFilled classes counts n aboves = (c : ℕ) → c < length classes → slice_index counts c < n → supers_of aboves c ≡ supers classes c

-- those with n, as far as i, have theirs too
abbrev pub IsFilledTo : Classes → List ℕ → ℕ → ℕ → Classes → Type 0
IsFilledTo classes counts n i aboves = (c : ℕ) → c < i → slice_index counts c ≡ n → supers_of aboves c ≡ supers classes c

-- Each row has the classes above its class.
abbrev pub HasAboves : List ClassRow → Type 0
HasAboves rows = (c : ℕ) (row : ClassRow) → slice_get rows c ≡ Some row → row.above ≡ supers (written (outlines rows)) c

-- and members that have numbers below 2 ^ 32
pub record IsRowed (rows : List ClassRow) : Type 0 where
  pub aboves : HasAboves rows
  pub few : (c : ℕ) (row : ClassRow) → slice_get rows c ≡ Some row → length row.members < 2 ^ 32

-- rows with these classes above theirs
abbrev pub AreRowsOf : Classes → List ClassRow → Type 0
AreRowsOf aboves rows = (c : ℕ) (row : ClassRow) → slice_get rows c ≡ Some row → (row.above ≡ supers_of aboves c) × (length row.members < 2 ^ 32)

-- the classes above each class of a file
abbrev pub HaveAboves : File → Classes → Type 0
HaveAboves file aboves = (c : ℕ) → c < length aboves → supers_of aboves c ≡ supers (classes_of file) c

-- the rows of the first n built-in classes
abbrev pub AreBuiltIn : ℕ → List ClassRow → Type 0
AreBuiltIn n rows = outlines rows ≡ map built_in_outline (take n built_in_numbers)

-- what the first n classes have is settled
abbrev pub AreSettled : ℕ → List ClassRow → Type 0
AreSettled n rows = (c : ℕ) (row : ClassRow) → c < n → slice_get rows c ≡ Some row → row.settled ≡ settled_of (outlines rows) c
