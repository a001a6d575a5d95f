-- What a written word names at the top of a file.
--
-- From the Kotlin specification, "Scopes and identifiers": a top-level declaration of the file hides one that is built in. A function of the file
-- hides a built-in class of its name; that word then names no class. The first names of the name table are those of the built-in classes. The code
-- looks words up in lists of the file's names.
use Rattle.std.specs.Prelude.{◌==◌, ◌&&◌, ◌+◌, ℕ, Bool, not, List, map, nat_lt, codes, position, Option, Some, None, if◌then◌else◌, nat_eq}
use Rattle.std.specs.List.{list_any}
use Rattle.kt_tree.specs.Names.{place_of}
use Rattle.kt_tree.specs.declared.ast.declaration.File.{File}
use Rattle.kt_model.specs.declared.kinds.Head.{Head}
use Rattle.kt_model.specs.declared.kinds.Head.TheVariants.{Nothing}
use Rattle.kt_model.specs.Subtypes.{head_of}

-- `Any`, `Unit`, `Boolean`, `Int`, `String`, `Throwable` and seven exceptions
abbrev pub built_in_classes : ℕ
built_in_classes = 13

-- the names of a file's classes and functions, and the numbers of the names `Nothing` and `main`
pub record Tops : Type 0 where
  pub class_names : List ℕ
  pub function_names : List ℕ
  pub nothing : ℕ
  pub main : ℕ

abbrev pub top_names : File → Tops
top_names file =
    record { class_names = map (λ c. c.name.name) file.classes; function_names = map (λ f. f.name.name) file.functions; nothing = place_of file.names (codes "Nothing"); main = place_of file.names (codes "main") }

abbrev pub is_function_name : Tops → ℕ → Bool
is_function_name tops name = list_any (λ f. f == name) tops.function_names

-- the number of the class that a word names
unfoldable pub class_named : Tops → ℕ → Option ℕ
class_named tops name = by (position (λ c. c == name) tops.class_names)
  where
    by : Option ℕ → Option ℕ
    by (Some place) = Some (built_in_classes + place)
    by None = if nat_lt name built_in_classes && not (is_function_name tops name) then Some name else None

-- the head of the type that a word names: a class, or `Nothing`
unfoldable pub head_named : Tops → ℕ → Option Head
head_named tops name = by (class_named tops name)
  where
    by : Option ℕ → Option Head
    by (Some class) = Some (head_of class)
    by None = if nat_eq name tops.nothing && not (is_function_name tops name) then Some Nothing else None
