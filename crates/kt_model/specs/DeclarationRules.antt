-- The rules on declarations that need no members: what is declared twice, unknown types, supertypes, cycles of classes, and `main`.
--
-- From the Kotlin specification, "Declarations", "Inheritance" and "Scopes and identifiers"; that `main` is a function without parameters is this
-- project's own. Each rule is a condition on one site, or on one class. The code walks the declarations once.
use Rattle.std.specs.Prelude.{◌≡◌, ◌==◌, ◌&&◌, ◌||◌, ◌⊎◌, ℕ, Bool, true, false, not, List, [], ◌∷◌, ◌++◌, Contains, nat_lt, if◌then◌else◌, ◌+◌, map, Option, Some, None, slice_get, is_some}
use Rattle.std.specs.List.{flat_map, filter_map, list_any, cons_option}
use Rattle.std.specs.Option.{is_none}
use Rattle.kt_tree.specs.declared.token.Span.{Span}
use Rattle.kt_tree.specs.declared.ast.part.Ident.{Ident}
use Rattle.kt_tree.specs.declared.ast.part.TypeRef.{TypeRef}
use Rattle.kt_tree.specs.declared.ast.declaration.File.{File}
use Rattle.kt_tree.specs.declared.ast.declaration.ClassDecl.{ClassDecl}
use Rattle.kt_tree.specs.declared.ast.declaration.ClassKeyword.{ClassKeyword}
use Rattle.kt_tree.specs.declared.ast.declaration.ClassKeyword.TheVariants as keyword
use Rattle.kt_tree.specs.declared.ast.declaration.Supertype.{Supertype}
use Rattle.kt_tree.specs.declared.ast.declaration.FunctionDecl.{FunctionDecl}
use Rattle.kt_tree.specs.declared.ast.declaration.FunctionBody.{FunctionBody}
use Rattle.kt_tree.specs.declared.ast.declaration.FunctionBody.TheVariants as body
use Rattle.kt_tree.specs.declared.ast.declaration.Modifier.{Modifier}
use Rattle.kt_tree.specs.declared.ast.declaration.ModifierKind.{ModifierKind}
use Rattle.kt_tree.specs.declared.ast.declaration.ModifierKind.TheVariants as modifier
use Rattle.kt_model.specs.declared.class_table.ClassKind.{ClassKind}
use Rattle.kt_model.specs.declared.class_table.ClassKind.TheVariants as kind
use Rattle.kt_model.specs.declared.kinds.Head.{Head}
use Rattle.kt_model.specs.declared.kinds.Head.TheVariants.{Unit as UnitHead}
use Rattle.kt_model.specs.declared.finding.Rule.{Rule}
use Rattle.kt_model.specs.declared.finding.Rule.TheVariants.{Duplicate, UnknownType, Supertype as SupertypeRule, SupertypeCycle, NoMain}
use Rattle.kt_model.specs.declared.finding.Finding.{Finding}
use Rattle.kt_model.specs.Classes.{Classes, IsProperlyAbove}
use Rattle.kt_model.specs.TopNames.{Tops, built_in_classes, top_names, class_named, head_named}
use Rattle.kt_model.specs.declared.body_site.BodySite.TheVariants.{Written, Untyped}
use Rattle.kt_model.specs.Sites.{Site, OfType, OfSuper, OfNames, OfFunctions, OfBody, file_sites}

-- the finding of a rule at a span, where its condition holds
abbrev pub where_ : Bool → Rule → Span → List Finding
where_ condition rule span = if condition then (record { rule = rule; span = span } ∷ []) else []

-- UNKNOWN_TYPE: a written type or supertype names no class. `Nothing` is a type, and no supertype.
abbrev pub unknown_type : Tops → Site → List Finding
unknown_type tops (OfType w) = where_ (is_none (head_named tops w.name.name)) UnknownType w.name.span
unknown_type tops (OfSuper s) = where_ (is_none (class_named tops s.name.name)) UnknownType s.name.span
unknown_type tops (OfNames words) = []
unknown_type tops (OfFunctions fs) = []
unknown_type tops (OfBody (Written w)) = where_ (is_none (head_named tops w.name.name)) UnknownType w.name.span
unknown_type tops (OfBody (Untyped x)) = []

-- another word of the list, which stands before it, has the same name
abbrev pub has_earlier : List Ident → Ident → Bool
has_earlier words w = list_any (λ e. e.name == w.name && nat_lt e.span.start w.span.start) words

-- DUPLICATE: a name is declared already.
abbrev pub duplicate : Tops → Site → List Finding
duplicate tops (OfNames words) = flat_map (λ w. where_ (has_earlier words w) Duplicate w.span) words
duplicate tops (OfType w) = []
duplicate tops (OfSuper s) = []
duplicate tops (OfFunctions fs) = []
duplicate tops (OfBody s) = []

abbrev pub is_unit : Option Head → Bool
is_unit (Some UnitHead) = true
is_unit _ = false

-- A function without a written result gives `Unit` where its body is no expression.
abbrev pub gives_unit : Option FunctionBody → Bool
gives_unit (Some (body.Expr e)) = false
gives_unit _ = true

abbrev pub has_unit_result : Tops → Option TypeRef → Option FunctionBody → Bool
has_unit_result tops None b = gives_unit b
has_unit_result tops (Some w) b = not w.nullable && is_unit (head_named tops w.name.name)

abbrev pub has_none : {A : Type 0} → List A → Bool
has_none [] = true
has_none (x ∷ xs) = false

unfoldable pub is_main : Tops → FunctionDecl → Bool
is_main tops f = f.name.name == tops.main && has_none f.parameters && has_unit_result tops f.result f.body

-- the begin of a source
abbrev pub first_place : Span
first_place = record { start = 0; end = 0 }

-- NO_MAIN: no function of the file is `main` without parameters and with the result `Unit`.
abbrev pub no_main : Tops → Site → List Finding
no_main tops (OfFunctions fs) = where_ (not (list_any (is_main tops) fs)) NoMain first_place
no_main tops (OfNames words) = []
no_main tops (OfType w) = []
no_main tops (OfSuper s) = []
no_main tops (OfBody s) = []

-- all rules that are tried at a site of the declarations
unfoldable pub declaration_rules : Tops → Site → List Finding
declaration_rules tops site = unknown_type tops site ++ duplicate tops site ++ no_main tops site

-- ---- supertypes

abbrev pub same_modifier : ModifierKind → ModifierKind → Bool
same_modifier modifier.Public modifier.Public = true
same_modifier modifier.Private modifier.Private = true
same_modifier modifier.Open modifier.Open = true
same_modifier modifier.Abstract modifier.Abstract = true
same_modifier modifier.Final modifier.Final = true
same_modifier modifier.Override modifier.Override = true
same_modifier modifier.Inline modifier.Inline = true
same_modifier _ _ = false

abbrev pub has_modifier : List Modifier → ModifierKind → Bool
has_modifier ms k = list_any (λ m. same_modifier m.kind k) ms

-- A class is final unless it is `open` or `abstract`.
abbrev pub kind_by : ClassKeyword → List Modifier → ClassKind
kind_by keyword.Interface ms = kind.Interface
kind_by keyword.Class ms =
    if has_modifier ms modifier.Abstract then kind.Abstract else (if has_modifier ms modifier.Open then kind.Open else kind.Final)

abbrev pub class_kind : ClassDecl → ClassKind
class_kind c = kind_by c.keyword c.modifiers

-- `Any` and the exceptions are open; `Unit`, `Boolean`, `Int` and `String` are final.
abbrev pub built_in_kinds : List ClassKind
built_in_kinds =
    kind.Open ∷ kind.Final ∷ kind.Final ∷ kind.Final ∷ kind.Final ∷ kind.Open ∷ kind.Open ∷ kind.Open ∷ kind.Open ∷ kind.Open ∷ kind.Open ∷ kind.Open ∷ kind.Open ∷ []

-- for each class its kind
abbrev pub kinds_of : File → List ClassKind
kinds_of file = built_in_kinds ++ map class_kind file.classes

abbrev pub is_interface_kind : Option ClassKind → Bool
is_interface_kind (Some kind.Interface) = true
is_interface_kind _ = false

abbrev pub is_final_kind : Option ClassKind → Bool
is_final_kind (Some kind.Final) = true
is_final_kind _ = false

-- a word of a list of supertypes names a class that is no interface
abbrev pub names_no_interface : List ClassKind → Option ℕ → Bool
names_no_interface kinds None = false
names_no_interface kinds (Some d) = not (is_interface_kind (slice_get kinds d))

abbrev pub names_class : ℕ → Option ℕ → Bool
names_class d None = false
names_class d (Some e) = e == d

abbrev pub is_interface_word : ClassKeyword → Bool
is_interface_word keyword.Interface = true
is_interface_word keyword.Class = false

-- A class d doesn't fit as a supertype behind those that the list names before it: it is named already; or it is a class that is final, has no
-- `( )`, stands under an interface, or is a second class; or it is an interface with `( )`.
abbrev pub misfits : List ClassKind → ClassKeyword → List (Option ℕ) → Bool → ℕ → Bool
misfits kinds under before has_arguments d =
    list_any (names_class d) before || (if is_interface_kind (slice_get kinds d) then has_arguments else (is_final_kind (slice_get kinds d) || not has_arguments || is_interface_word under || list_any (names_no_interface kinds) before))

-- A word that names no class is no misfit.
abbrev pub misfits_named : List ClassKind → ClassKeyword → List (Option ℕ) → Bool → Option ℕ → Bool
misfits_named kinds under before has_arguments None = false
misfits_named kinds under before has_arguments (Some d) = misfits kinds under before has_arguments d

-- SUPERTYPE: the written supertypes that don't fit, behind those named before
abbrev pub misfits_behind : Tops → List ClassKind → ClassKeyword → List (Option ℕ) → List Supertype → List Finding
misfits_behind tops kinds under before [] = []
misfits_behind tops kinds under before (s ∷ rest) =
    where_ (misfits_named kinds under before (is_some s.arguments) (class_named tops s.name.name)) SupertypeRule s.name.span ++ misfits_behind tops kinds under (before ++ class_named tops s.name.name ∷ []) rest

unfoldable pub supertype_misfits : Tops → List ClassKind → ClassDecl → List Finding
supertype_misfits tops kinds c = misfits_behind tops kinds c.keyword [] c.supertypes

-- ---- the hierarchy

-- the classes that the written supertypes name
abbrev pub supers_named : Tops → List Supertype → List ℕ
supers_named tops ss = filter_map (λ s. class_named tops s.name.name) ss

-- `Exception` is under `Throwable`, `RuntimeException` under `Exception`, the five others under `RuntimeException`.
abbrev pub built_in_above : List (Option ℕ)
built_in_above =
    None ∷ None ∷ None ∷ None ∷ None ∷ None ∷ Some 5 ∷ Some 6 ∷ Some 7 ∷ Some 7 ∷ Some 7 ∷ Some 7 ∷ Some 7 ∷ []

abbrev pub built_in_supers : Classes
built_in_supers = map (λ above. cons_option above []) built_in_above

-- for each class of a file, the built-in ones first, its written supertypes
unfoldable pub classes_of : File → Classes
classes_of file = built_in_supers ++ map (λ c. supers_named (top_names file) c.supertypes) file.classes

abbrev pub IsOnCycle : File → ℕ → Type 0
IsOnCycle file place = IsProperlyAbove (classes_of file) (built_in_classes + place) (built_in_classes + place)

-- What is violated at a class of the file by its place: SUPERTYPE_CYCLE where it is properly above itself, else SUPERTYPE at each misfit.
pub data IsViolatedAt (file : File) (place : ℕ) (c : ClassDecl) (f : Finding) : Type 0 where
  cycle : IsOnCycle file place → f ≡ record { rule = SupertypeCycle; span = c.name.span } → IsViolatedAt file place c f
  misfit : (IsOnCycle file place → ⊥) → Contains (supertype_misfits (top_names file) (kinds_of file) c) f → IsViolatedAt file place c f

pub record IsOfClass (file : File) (f : Finding) : Type 0 where
  pub place : ℕ
  pub decl : ClassDecl
  pub declared : slice_get file.classes place ≡ Some decl
  pub violated : IsViolatedAt file place decl f

-- what is violated in the declarations
abbrev pub IsViolated : File → Finding → Type 0
IsViolated file f =
    Contains (flat_map (declaration_rules (top_names file)) (file_sites file)) f ⊎ IsOfClass file f
