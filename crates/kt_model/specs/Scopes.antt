-- What a name stands for: looking back from it, the nearest declaration of that name in a scope that is still open.
--
-- From the Kotlin specification, "Scopes and identifiers": inner scopes come before outer ones, then the top of the file, then what is built in; what a
-- file declares hides what is built in. A name that is read or assigned means a variable, and the name of a call a function: variables are passed over.
-- The numbers of declarations are this project's own. The code keeps a stack of the open scopes; here the list of all events before a name is read
-- backwards, and a scope that was closed on the way is passed over.
use Rattle.std.specs.Prelude.{ℕ, zero, suc, ◌+◌, ◌==◌, ◌&&◌, Bool, true, false, not, List, [], ◌∷◌, ◌++◌, map, length, position, Contains, ◌↔◌, ◌≡◌, Option, Some, None, option_map, if◌then◌else◌}
use Rattle.std.specs.List.{flat_map, range_with_len}
use Rattle.std.specs.List.Sorted.{IsStrictlyIncreasing}
use Rattle.kt_tree.specs.declared.ast.declaration.File.{File}
use Rattle.kt_tree.specs.declared.ast.declaration.FunctionDecl.{FunctionDecl}
use Rattle.kt_model.specs.declared.kinds.KtType.{KtType}
use Rattle.kt_model.specs.declared.kinds.Head.{Head}
use Rattle.kt_model.specs.declared.kinds.Head.TheVariants as head
use Rattle.kt_model.specs.declared.uses.Declaration.{Declaration}
use Rattle.kt_model.specs.declared.uses.DeclarationKind.TheVariants as kind
use Rattle.kt_model.specs.declared.uses.UseRow.{UseRow}
use Rattle.kt_model.specs.declared.name_events.NameEvent.{NameEvent}
use Rattle.kt_model.specs.declared.name_events.NameEvent.TheVariants.{Opens, Closes, Parameter, Local, Reads, Calls, Assigns}
use Rattle.kt_model.specs.NameUses.{Resolved}
use Rattle.kt_model.specs.declared.built_ins.BuiltIn.{BuiltIn}
use Rattle.kt_model.specs.BuiltIns.{built_in_functions}
use Rattle.kt_model.specs.TopNames.{Tops, top_names, class_named}
use Rattle.kt_model.specs.DeclarationRules.{first_place}
use Rattle.kt_model.specs.Outlines.{written_type, function_result}
use Rattle.kt_model.specs.NameEvents.{Events, parameter_events, function_events, file_events}

-- ---- the declarations of a file

abbrev pub is_nothing_head : Head → Bool
is_nothing_head head.Nothing = true
is_nothing_head _ = false

-- `Nothing` without `?`
abbrev pub is_nothing : Option KtType → Bool
is_nothing (Some type) = is_nothing_head type.head && not type.nullable
is_nothing None = false

abbrev pub built_in_declaration : BuiltIn → Declaration
built_in_declaration b =
    record { kind = kind.BuiltIn; name = b.name; span = first_place; is_var = false; is_nothing = is_nothing (Some b.result); written = Some b.result }

abbrev pub function_declaration : Tops → ℕ → FunctionDecl → Declaration
function_declaration tops place f =
    record { kind = kind.Function place; name = f.name.name; span = f.name.span; is_var = false; is_nothing = is_nothing (function_result tops f); written = function_result tops f }

-- those of functions that have the places from n on
abbrev pub function_declarations : Tops → ℕ → List FunctionDecl → List Declaration
function_declarations tops n [] = []
function_declarations tops n (f ∷ fs) = function_declaration tops n f ∷ function_declarations tops (n + 1) fs

-- the declaration that an event is
abbrev pub declaration_by : Tops → NameEvent → List Declaration
declaration_by tops (Parameter name type) =
    record { kind = kind.Parameter; name = name.name; span = name.span; is_var = false; is_nothing = false; written = Some (written_type tops type) } ∷ []
declaration_by tops (Local tree name is_var type) =
    record { kind = kind.Local; name = name.name; span = name.span; is_var = is_var; is_nothing = false; written = option_map (written_type tops) type } ∷ []
declaration_by tops _ = []

-- the built-in functions, the file's functions, then parameters and locals in the order of their events
unfoldable pub declarations_of : File → List Declaration
declarations_of file =
    map built_in_declaration built_in_functions ++ function_declarations (top_names file) 0 file.functions ++ flat_map (declaration_by (top_names file)) (file_events file)

-- ---- what a variable's name stands for

-- how many parameters and locals events declare
abbrev pub declared_count : Events → ℕ
declared_count [] = 0
declared_count (Parameter name type ∷ events) = suc (declared_count events)
declared_count (Local tree name is_var type ∷ events) = suc (declared_count events)
declared_count (_ ∷ events) = declared_count events

-- The place, among all parameters and locals, of the nearest one of that name in an open scope. The events stand backwards, and `closed` scopes that
-- were closed on the way are still to be passed over.
abbrev pub nearest : (name closed : ℕ) → Events → Option ℕ
nearest name closed [] = None
nearest name closed (Closes ∷ before) = nearest name (suc closed) before
nearest name (suc closed) (Opens ∷ before) = nearest name closed before
nearest name zero (Parameter w type ∷ before) = if w.name == name then Some (declared_count before) else nearest name zero before
nearest name zero (Local tree w is_var type ∷ before) = if w.name == name then Some (declared_count before) else nearest name zero before
nearest name closed (_ ∷ before) = nearest name closed before

-- the declaration of a built-in function by its place, and of a function of the file
abbrev pub first_function : ℕ
first_function = length built_in_functions

abbrev pub first_variable : Tops → ℕ
first_variable tops = first_function + length tops.function_names

-- the declaration of the variable that a name means
abbrev pub variable_named : Tops → Events → ℕ → Option ℕ
variable_named tops before name = option_map (λ place. first_variable tops + place) (nearest name zero before)

-- ---- what has a name outside of functions

pub data Top : Type 0 where
  -- a function of the file or a built-in one, by its declaration
  OfFunction : (declaration : ℕ) → Top
  -- a class of the file or a built-in one; none can be called yet
  OfClass : Top
  Unnamed : Top

unfoldable pub top_named : Tops → ℕ → Top
top_named tops name = by (position (λ f. f == name) tops.function_names)
  where
    built_in : Option ℕ → Top
    built_in (Some place) = OfFunction place
    built_in None = Unnamed

    class : Option ℕ → Top
    class (Some c) = OfClass
    class None = built_in (position (λ b. b.name == name) built_in_functions)

    by : Option ℕ → Top
    by (Some place) = OfFunction (first_function + place)
    by None = class (class_named tops name)

-- the declaration of the function that the name of a call means
abbrev pub function_of : Top → Option ℕ
function_of (OfFunction declaration) = Some declaration
function_of _ = None

-- ---- uses

-- the use of a tree, where its name stands for something
abbrev pub use_of : ℕ → Option ℕ → List UseRow
use_of tree (Some declaration) = record { tree = tree; declaration = declaration } ∷ []
use_of tree None = []

-- the use that an event is, behind the events before it, which stand backwards; a local is a use of itself
unfoldable pub use_by : Tops → Events → NameEvent → List UseRow
use_by tops before (Local tree name is_var type) = use_of tree (Some (first_variable tops + declared_count before))
use_by tops before (Reads tree name) = use_of tree (variable_named tops before name.name)
use_by tops before (Assigns tree name) = use_of tree (variable_named tops before name.name)
use_by tops before (Calls tree name) = use_of tree (function_of (top_named tops name.name))
use_by tops before _ = []

-- what each event gives, with the events before it, which stand backwards
unfoldable pub looking_back : {A : Type 0} → (Events → NameEvent → List A) → Events → Events → List A
looking_back f before [] = []
looking_back f before (event ∷ events) = f before event ++ looking_back f (event ∷ before) events

-- the declarations of the parameters of functions, of which the first declares the variable with that number first
abbrev pub parameters_from : ℕ → List FunctionDecl → List (List ℕ)
parameters_from n [] = []
parameters_from n (f ∷ fs) =
    range_with_len n (declared_count (flat_map parameter_events f.parameters)) ∷ parameters_from (n + declared_count (function_events f)) fs

-- What the names of a file stand for. The rows rise by tree, so there is one such value and no other.
pub record IsResolved (file : File) (uses : Resolved) : Type 0 where
  pub same_declared : uses.declared ≡ declarations_of file
  pub rising : IsStrictlyIncreasing (map (λ row. row.tree) uses.rows)
  pub same_uses : (row : UseRow) → Contains uses.rows row ↔ Contains (looking_back (use_by (top_names file)) [] (file_events file)) row
  pub same_parameters : uses.parameters ≡ parameters_from (first_variable (top_names file)) file.functions
