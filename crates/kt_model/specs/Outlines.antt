-- What is written of the classes of a file: the part of the class table that needs no inheritance but for names.
--
-- From the Kotlin specification, "Declarations", "Property declaration" and "Function declaration". Which types need not be written is this project's own,
-- and so are the numbers of the built-in names: the classes from 0, then `toString` 13, `length` 14, `toIntOrNull` 15, `message` 16, `equals` 17 and
-- `hashCode` 18. A word that names no type stands here for `Any`; a table is made only where each names one.
use Rattle.std.specs.Prelude.{◌==◌, ◌&&◌, ◌||◌, ◌+◌, ◌-◌, ℕ, Bool, true, false, not, List, [], ◌∷◌, ◌++◌, map, find, position, Option, Some, None, unwrap_or, slice_get, nat_lt, if◌then◌else◌, option_and_then, is_some}
use Rattle.std.specs.List.{list_any, filter_map, cons_option}
use Rattle.std.specs.Option.{option_map}
use Rattle.kt_tree.specs.declared.ast.part.TypeRef.{TypeRef}
use Rattle.kt_tree.specs.declared.ast.body.Expr.{Expr}
use Rattle.kt_tree.specs.declared.ast.body.ExprKind.{ExprKind, Int, Bool as Truth, Null, Name, Call', Template'}
use Rattle.kt_tree.specs.declared.ast.declaration.File.{File}
use Rattle.kt_tree.specs.declared.ast.declaration.ClassDecl.{ClassDecl}
use Rattle.kt_tree.specs.declared.ast.declaration.ClassParameter.{ClassParameter}
use Rattle.kt_tree.specs.declared.ast.declaration.FunctionDecl.{FunctionDecl}
use Rattle.kt_tree.specs.declared.ast.declaration.PropertyDecl.{PropertyDecl}
use Rattle.kt_tree.specs.declared.ast.declaration.ParameterType.{ParameterType}
use Rattle.kt_tree.specs.declared.ast.declaration.ParameterType.TheVariants.{Value, Function as FunctionType}
use Rattle.kt_tree.specs.declared.ast.declaration.Member.{Member}
use Rattle.kt_tree.specs.declared.ast.declaration.Member.TheVariants as member
use Rattle.kt_tree.specs.declared.ast.declaration.FunctionBody.{FunctionBody}
use Rattle.kt_tree.specs.declared.ast.declaration.Modifier.{Modifier}
use Rattle.kt_tree.specs.declared.ast.declaration.ModifierKind.TheVariants as modifier
use Rattle.kt_model.specs.declared.class_table.ClassKind.TheVariants as kind
use Rattle.kt_model.specs.declared.class_table.MemberKind.{MemberKind}
use Rattle.kt_model.specs.declared.class_table.MemberKind.TheVariants.{Function, AbstractFunction, Field, Getter, AbstractProperty}
use Rattle.kt_model.specs.declared.class_table.MemberRow.{MemberRow}
use Rattle.kt_model.specs.declared.class_table.ParamType.{ParamType}
use Rattle.kt_model.specs.declared.class_table.ParamType.TheVariants as param
use Rattle.kt_model.specs.declared.kinds.KtType.{KtType}
use Rattle.kt_model.specs.declared.kinds.Head.{Head}
use Rattle.kt_model.specs.declared.kinds.Head.TheVariants as head
use Rattle.kt_model.specs.Subtypes.{head_of}
use Rattle.kt_model.specs.Classes.{Outline, Outlines, supers}
use Rattle.kt_model.specs.TopNames.{Tops, top_names, built_in_classes, class_named, head_named}
use Rattle.kt_model.specs.Sites.{parameters_of, declared_in}
use Rattle.kt_model.specs.DeclarationRules.{gives_unit, has_modifier, is_interface_word, class_kind, supers_named, built_in_kinds, built_in_above, classes_of}

abbrev pub written_type : Tops → TypeRef → KtType
written_type tops w = record { head = unwrap_or (head_named tops w.name.name) head.Any; nullable = w.nullable }

-- a type without `?`
abbrev pub plain : Head → KtType
plain h = record { head = h; nullable = false }

abbrev pub parameter_type : Tops → ParameterType → ParamType
parameter_type tops (Value w) = param.Value (written_type tops w)
parameter_type tops (FunctionType ws result) = param.Lambda (map (written_type tops) ws) (written_type tops result)

-- A function without a written result gives `Unit`, where its body is no expression.
abbrev pub result_by : Tops → Option TypeRef → Option FunctionBody → Option KtType
result_by tops (Some w) b = Some (written_type tops w)
result_by tops None b = if gives_unit b then Some (plain head.Unit) else None

abbrev pub function_result : Tops → FunctionDecl → Option KtType
function_result tops f = result_by tops f.result f.body

-- for each function of a file its result type
abbrev pub results_of : File → List (Option KtType)
results_of file = map (function_result (top_names file)) file.functions

-- ---- types that are read off

abbrev pub to_string : ℕ
to_string = 13

abbrev pub is_function_of : ℕ → Member → Bool
is_function_of name (member.Function f) = f.name.name == name
is_function_of name (member.Property p) = false
is_function_of name (member.Init b) = false

-- A class of the file declares a function of that name.
abbrev pub declares_function : File → ℕ → ℕ → Bool
declares_function file name d =
    if nat_lt d built_in_classes then false else list_any (is_function_of name) (unwrap_or (option_map declared_in (slice_get file.classes (d - built_in_classes))) [])

-- whether a class has a member function of that name, the classes above it given
unfoldable pub has_function : File → List ℕ → ℕ → Bool
has_function file above name = name == to_string || list_any (declares_function file name) above

-- the type of what a call creates or gives
abbrev pub called_type : Tops → List (Option KtType) → ℕ → Option KtType
called_type tops results name = by (position (λ f. f == name) tops.function_names)
  where
    by : Option ℕ → Option KtType
    by (Some place) = option_and_then (λ result. result) (slice_get results place)
    by None = option_map (λ c. plain (head_of c)) (class_named tops name)

-- the type of a parameter of the constructor
abbrev pub parameter_named : Tops → List ClassParameter → ℕ → Option KtType
parameter_named tops ps name = option_map (λ p. written_type tops p.written) (find (λ p. p.name.name == name) ps)

-- what is known where a type is read off
pub record Around : Type 0 where
  pub file : File
  pub above : List ℕ
  pub parameters : List ClassParameter

-- The type of an initialiser that is a literal, a string, a call of a class or of a function of the file that is no member of the class, or the name of
-- a parameter of the constructor.
abbrev pub read_off : Around → ExprKind → Option KtType
read_off around (Int n) = Some (plain head.Int)
read_off around (Truth b) = Some (plain head.Boolean)
read_off around Null = Some (record { head = head.Nothing; nullable = true })
read_off around (Template' shape parts) = Some (plain head.Str)
read_off around (Call' callee shape arguments lambda) =
    if has_function around.file around.above callee.name then None else called_type (top_names around.file) (results_of around.file) callee.name
read_off around (Name x) = parameter_named (top_names around.file) around.parameters x
read_off around _ = None

abbrev pub value_type : Around → Option Expr → Option KtType
value_type around None = None
value_type around (Some e) = read_off around e.kind

abbrev pub property_type : Around → Option TypeRef → Option Expr → Option KtType
property_type around (Some w) value = Some (written_type (top_names around.file) w)
property_type around None value = value_type around value

-- ---- members

-- A member may be overridden where it is `open`, `abstract`, `override` without `final`, or stands in an interface, and isn't private.
abbrev pub may_override : List Modifier → Bool → Bool
may_override ms in_interface =
    not (has_modifier ms modifier.Private) && (has_modifier ms modifier.Open || has_modifier ms modifier.Abstract || (has_modifier ms modifier.Override && not (has_modifier ms modifier.Final)) || in_interface)

abbrev pub property_row : Tops → ClassParameter → Bool → MemberRow
property_row tops p is_var =
    record { name = p.name.name; kind = Field; is_var = is_var; is_private = has_modifier p.modifiers modifier.Private; may_override = may_override p.modifiers false; params = []; result = Some (written_type tops p.written) }

-- the member that a parameter of the constructor is, if it is one
abbrev pub parameter_row : Tops → ClassParameter → Option MemberRow
parameter_row tops p = option_map (property_row tops p) p.is_var

-- A function is abstract by its word, or in an interface where it has no body.
abbrev pub function_kind : Bool → FunctionDecl → MemberKind
function_kind in_interface f =
    if has_modifier f.modifiers modifier.Abstract || (in_interface && not (is_some f.body)) then AbstractFunction else Function

-- A property is abstract by its word, or in an interface where it has no getter.
abbrev pub property_kind : Bool → PropertyDecl → MemberKind
property_kind in_interface p =
    if has_modifier p.modifiers modifier.Abstract || (in_interface && not (is_some p.getter)) then AbstractProperty else (if is_some p.getter then Getter else Field)

abbrev pub function_row : Tops → Bool → FunctionDecl → MemberRow
function_row tops in_interface f =
    record { name = f.name.name; kind = function_kind in_interface f; is_var = false; is_private = has_modifier f.modifiers modifier.Private; may_override = may_override f.modifiers in_interface; params = map (λ p. parameter_type tops p.kind) f.parameters; result = function_result tops f }

abbrev pub declared_property_row : Around → Bool → PropertyDecl → MemberRow
declared_property_row around in_interface p =
    record { name = p.name.name; kind = property_kind in_interface p; is_var = p.is_var; is_private = has_modifier p.modifiers modifier.Private; may_override = may_override p.modifiers in_interface; params = []; result = property_type around p.written p.value }

abbrev pub member_row : Around → Bool → Member → Option MemberRow
member_row around in_interface (member.Init b) = None
member_row around in_interface (member.Function f) = Some (function_row (top_names around.file) in_interface f)
member_row around in_interface (member.Property p) = Some (declared_property_row around in_interface p)

-- the constructor's properties, then the others in the order of the text
unfoldable pub class_members : File → List ℕ → ClassDecl → List MemberRow
class_members file above c =
    filter_map (parameter_row (top_names file)) (parameters_of c) ++ filter_map (member_row (record { file = file; above = above; parameters = parameters_of c }) (is_interface_word c.keyword)) (declared_in c)

abbrev pub class_outline : File → List ℕ → ClassDecl → Outline
class_outline file above c =
    record { name = c.name.name; kind = class_kind c; supers = supers_named (top_names file) c.supertypes; members = class_members file above c }

-- those of classes that have the numbers from n on
abbrev pub outlines_from : File → ℕ → List ClassDecl → Outlines
outlines_from file n [] = []
outlines_from file n (c ∷ cs) = class_outline file (supers (classes_of file) n) c ∷ outlines_from file (n + 1) cs

-- ---- what is built in

abbrev pub built_in_field : ℕ → KtType → MemberRow
built_in_field name t =
    record { name = name; kind = Field; is_var = false; is_private = false; may_override = false; params = []; result = Some t }

-- `length: Int` and `toIntOrNull(): Int?` of `String`, `message: String?` of `Throwable`
abbrev pub built_in_members : ℕ → List MemberRow
built_in_members class =
    if class == 4 then (built_in_field 14 (plain head.Int) ∷ record { name = 15; kind = Function; is_var = false; is_private = false; may_override = false; params = []; result = Some (record { head = head.Int; nullable = true }) } ∷ []) else (if class == 5 then (built_in_field 16 (record { head = head.Str; nullable = true }) ∷ []) else [])

-- a built-in class's name has its number
abbrev pub built_in_outline : ℕ → Outline
built_in_outline class =
    record { name = class; kind = unwrap_or (slice_get built_in_kinds class) kind.Open; supers = cons_option (unwrap_or (slice_get built_in_above class) None) []; members = built_in_members class }

abbrev pub built_in_numbers : List ℕ
built_in_numbers = 0 ∷ 1 ∷ 2 ∷ 3 ∷ 4 ∷ 5 ∷ 6 ∷ 7 ∷ 8 ∷ 9 ∷ 10 ∷ 11 ∷ 12 ∷ []

-- what is written of the classes of a file, the built-in ones first
unfoldable pub outlines_of : File → Outlines
outlines_of file = map built_in_outline built_in_numbers ++ outlines_from file built_in_classes file.classes
