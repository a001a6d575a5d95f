-- The rules on declarations that need the members of classes: modifiers, bodies, types that must be written, reserved names, overriding, members
-- that a class inherits more than once, and abstract members.
--
-- From the Kotlin specification, "Declarations", "Inheritance" and "Overriding"; the list of modifiers, the reserved names and which types must be
-- written are this project's own. Each rule is a condition on one declaration. The code walks the declarations once, and reads members off the
-- class table.
use Rattle.std.specs.Prelude.{◌==◌, ◌&&◌, ◌||◌, ◌+◌, ℕ, Bool, true, false, not, List, [], ◌∷◌, ◌++◌, Contains, Option, Some, None, find, is_some, nat_lt}
use Rattle.std.specs.List.{flat_map, list_any, list_all}
use Rattle.std.specs.Option.{is_none}
use Rattle.kt_tree.specs.declared.ast.part.Ident.{Ident}
use Rattle.kt_tree.specs.declared.ast.part.TypeRef.{TypeRef}
use Rattle.kt_tree.specs.declared.ast.body.Expr.{Expr}
use Rattle.kt_tree.specs.declared.ast.body.ExprKind.{ExprKind, Int, Bool as Truth, Null, Name, Call', Template'}
use Rattle.kt_tree.specs.declared.ast.declaration.File.{File}
use Rattle.kt_tree.specs.declared.ast.declaration.ClassDecl.{ClassDecl}
use Rattle.kt_tree.specs.declared.ast.declaration.ClassKeyword.{ClassKeyword}
use Rattle.kt_tree.specs.declared.ast.declaration.ClassKeyword.TheVariants as keyword
use Rattle.kt_tree.specs.declared.ast.declaration.ClassParameter.{ClassParameter}
use Rattle.kt_tree.specs.declared.ast.declaration.FunctionDecl.{FunctionDecl}
use Rattle.kt_tree.specs.declared.ast.declaration.PropertyDecl.{PropertyDecl}
use Rattle.kt_tree.specs.declared.ast.declaration.Getter.{Getter}
use Rattle.kt_tree.specs.declared.ast.declaration.Member.{Member as MemberDecl}
use Rattle.kt_tree.specs.declared.ast.declaration.Member.TheVariants as member
use Rattle.kt_tree.specs.declared.ast.declaration.Modifier.{Modifier}
use Rattle.kt_tree.specs.declared.ast.declaration.ModifierKind.{ModifierKind}
use Rattle.kt_tree.specs.declared.ast.declaration.ModifierKind.TheVariants as modifier
use Rattle.kt_model.specs.declared.body_site.BodySite.{BodySite}
use Rattle.kt_model.specs.declared.body_site.BodySite.TheVariants.{Written, Untyped}
use Rattle.kt_model.specs.declared.modified.Modified.{Modified}
use Rattle.kt_model.specs.declared.modified.Modified.TheVariants as modified
use Rattle.kt_model.specs.declared.class_table.ClassKind.{ClassKind}
use Rattle.kt_model.specs.declared.class_table.ClassKind.TheVariants as kind
use Rattle.kt_model.specs.declared.class_table.Member.{Member}
use Rattle.kt_model.specs.declared.class_table.MemberRow.{MemberRow}
use Rattle.kt_model.specs.declared.finding.Rule.TheVariants as rule
use Rattle.kt_model.specs.declared.finding.Finding.{Finding}
use Rattle.kt_model.specs.Classes.{Outlines, written, supers, each_once}
use Rattle.kt_model.specs.TopNames.{Tops, top_names, built_in_classes, is_function_name, class_named}
use Rattle.kt_model.specs.Sites.{parameters_of, declared_in, body_sites}
use Rattle.kt_model.specs.DeclarationRules.{where_, same_modifier, has_modifier, gives_unit, is_interface_word, class_kind}
use Rattle.kt_model.specs.Members.{members_of, row_of, declares, candidates, fitting, have_one_shape, result_fits, result_same, same_type, rows_test, names_above, implementation_of}
use Rattle.kt_model.specs.Outlines.{Around, written_type, has_function, to_string, outlines_of}

-- ---- modifiers

abbrev pub for_class : ModifierKind → Bool
for_class modifier.Public = true
for_class modifier.Private = true
for_class modifier.Open = true
for_class modifier.Abstract = true
for_class modifier.Final = true
for_class _ = false

abbrev pub for_interface : ModifierKind → Bool
for_interface modifier.Public = true
for_interface modifier.Private = true
for_interface _ = false

abbrev pub for_function : ModifierKind → Bool
for_function modifier.Public = true
for_function modifier.Private = true
for_function modifier.Inline = true
for_function _ = false

abbrev pub for_property : ModifierKind → Bool
for_property modifier.Public = true
for_property modifier.Private = true
for_property modifier.Open = true
for_property modifier.Final = true
for_property modifier.Override = true
for_property _ = false

-- what a property of the constructor may have, and `abstract`
abbrev pub for_member : ModifierKind → Bool
for_member modifier.Abstract = true
for_member k = for_property k

-- a declaration may have this modifier
abbrev pub allows : Modified → ModifierKind → Bool
allows modified.Class k = for_class k
allows modified.Interface k = for_interface k
allows modified.Function k = for_function k
allows modified.Member k = for_member k
allows modified.Property k = for_property k
allows modified.Parameter k = false

abbrev pub is_in_class : Modified → Bool
is_in_class modified.Member = true
is_in_class modified.Property = true
is_in_class _ = false

-- the forbidden pairs, the last two of members and of properties of the constructor
abbrev pub excludes : Bool → ModifierKind → ModifierKind → Bool
excludes in_class modifier.Public modifier.Private = true
excludes in_class modifier.Abstract modifier.Final = true
excludes in_class modifier.Open modifier.Final = true
excludes in_class modifier.Private modifier.Abstract = in_class
excludes in_class modifier.Private modifier.Open = in_class
excludes in_class _ _ = false

abbrev pub clashes : Bool → ModifierKind → ModifierKind → Bool
clashes in_class a b = excludes in_class a b || excludes in_class b a

-- the same word stands before it
abbrev pub is_repeated : List Modifier → Modifier → Bool
is_repeated ms m = list_any (λ e. same_modifier e.kind m.kind && nat_lt e.span.start m.span.start) ms

abbrev pub is_misplaced : Modified → List Modifier → Modifier → Bool
is_misplaced form ms m =
    not (allows form m.kind) || is_repeated ms m || list_any (λ e. clashes (is_in_class form) e.kind m.kind) ms

-- MODIFIER: a word that the declaration may not have, that it has already, or that another of its words forbids.
unfoldable pub modifiers : Modified → List Modifier → List Finding
modifiers form ms = flat_map (λ m. where_ (is_misplaced form ms m) rule.Modifier m.span) ms

-- ---- bodies

abbrev pub is_abstract_word : List Modifier → Bool
is_abstract_word ms = has_modifier ms modifier.Abstract

-- a class that is neither abstract nor an interface
abbrev pub is_concrete : ClassKind → Bool
is_concrete kind.Final = true
is_concrete kind.Open = true
is_concrete _ = false

-- A function has a body unless it is abstract, or stands in an interface; an abstract one has none.
abbrev pub misfits_function : Bool → FunctionDecl → Bool
misfits_function in_interface f =
    (is_none f.body && not (is_abstract_word f.modifiers) && not in_interface) || (is_abstract_word f.modifiers && is_some f.body)

-- a getter's written type is another than the property's
abbrev pub differs : Tops → Option TypeRef → Option TypeRef → Bool
differs tops (Some a) (Some b) = not (same_type (written_type tops a) (written_type tops b))
differs tops _ _ = false

abbrev pub getter_misfits : Tops → PropertyDecl → Option Getter → Bool
getter_misfits tops p None = false
getter_misfits tops p (Some g) = p.is_var || is_some p.value || differs tops p.written g.written

-- No initialiser stands in an interface, nor an initialiser or a getter at an abstract property; a getter stands at no `var`, at no property with an
-- initialiser, and has no other type. (Without a written type and an initialiser the property has no type, and any type of the getter passes.)
abbrev pub misfits_property : Tops → Bool → PropertyDecl → Bool
misfits_property tops in_interface p =
    (in_interface && is_some p.value) || (is_abstract_word p.modifiers && (is_some p.value || is_some p.getter)) || getter_misfits tops p p.getter

-- an abstract member in a class that isn't abstract
abbrev pub is_stray : ClassDecl → List Modifier → Bool
is_stray c ms = is_abstract_word ms && is_concrete (class_kind c)

-- BODY: a body is missing, or one stands where none may. An `init` block in an interface is named at the interface.
abbrev pub member_body : Tops → ClassDecl → MemberDecl → List Finding
member_body tops c (member.Init block) = where_ (is_interface_word c.keyword) rule.Body c.name.span
member_body tops c (member.Function f) =
    where_ (misfits_function (is_interface_word c.keyword) f || is_stray c f.modifiers) rule.Body f.name.span
member_body tops c (member.Property p) =
    where_ (misfits_property tops (is_interface_word c.keyword) p || is_stray c p.modifiers) rule.Body p.name.span

-- ---- types that must be written

-- The initialiser is a literal, a string, a call of a class or of a function of the file that is no member of the class, or the name of a parameter of
-- the constructor.
abbrev pub is_readable : Around → ExprKind → Bool
is_readable around (Int n) = true
is_readable around (Truth b) = true
is_readable around Null = true
is_readable around (Template' shape parts) = true
is_readable around (Call' callee shape arguments lambda) =
    not (has_function around.file around.above callee.name) && (is_function_name (top_names around.file) callee.name || is_some (class_named (top_names around.file) callee.name))
is_readable around (Name x) = list_any (λ p. p.name.name == x) around.parameters
is_readable around _ = false

abbrev pub has_readable : Around → Option Expr → Bool
has_readable around None = false
has_readable around (Some e) = is_readable around e.kind

-- A function whose body is an expression needs its type.
abbrev pub lacks_result : FunctionDecl → Bool
lacks_result f = is_none f.result && not (gives_unit f.body)

-- NO_TYPE: a function with an expression as body, or a property whose type can't be read off, has no written type.
abbrev pub member_type : Around → MemberDecl → List Finding
member_type around (member.Init block) = []
member_type around (member.Function f) = where_ (lacks_result f) rule.NoType f.name.span
member_type around (member.Property p) =
    where_ (is_none p.written && not (has_readable around p.value)) rule.NoType p.name.span

-- NO_TYPE of a local: it has neither a written type nor an initialiser.
abbrev pub local_type : BodySite → List Finding
local_type (Written w) = []
local_type (Untyped x) = record { rule = rule.NoType; span = x.span } ∷ []

-- ---- members

-- `toString`, `equals` and `hashCode`
abbrev pub is_reserved : ℕ → Bool
is_reserved name = name == to_string || name == 17 || name == 18

-- RESERVED_MEMBER: a member has a name that no class may declare.
abbrev pub reserved : Ident → List Finding
reserved x = where_ (is_reserved x.name) rule.ReservedMember x.span

-- the row of the class's own member of a name
abbrev pub own_row : Outlines → ℕ → ℕ → Option MemberRow
own_row os c name = find (λ m. m.name == name) (members_of os c)

-- A member fits a candidate: it is marked `override`, the candidate is open to it, kinds and parameter types are equal, its result type is a subtype; a
-- `var` is overridden by a `var` of the same type; and the member isn't private.
abbrev pub overrides : Outlines → Bool → MemberRow → MemberRow → Bool
overrides os is_override mine theirs =
    is_override && theirs.may_override && have_one_shape mine theirs && result_fits os mine.result theirs.result && (not theirs.is_var || (mine.is_var && result_same mine.result theirs.result)) && not mine.is_private

abbrev pub overrides_all : Outlines → Bool → Option MemberRow → List Member → Bool
overrides_all os is_override mine [] = not is_override
overrides_all os is_override mine ms = list_all (λ m. rows_test (overrides os is_override) mine (row_of os m)) ms

-- OVERRIDE: a member doesn't fit a candidate, or is marked `override` without one.
abbrev pub overriding : Outlines → ℕ → Ident → List Modifier → List Finding
overriding os c x ms =
    where_ (not (overrides_all os (has_modifier ms modifier.Override) (own_row os c x.name) (candidates os c x.name))) rule.Override x.span

-- the rules on a member by its name and its modifiers
abbrev pub member_name : Outlines → ℕ → Ident → List Modifier → List Finding
member_name os c x ms = reserved x ++ overriding os c x ms

-- ---- what a class inherits

abbrev pub has_several : List Member → Bool
has_several [] = false
has_several (m ∷ []) = false
has_several _ = true

-- The class declares nothing under the name, and has several candidates, which don't fit.
abbrev pub conflicts : Outlines → ℕ → ℕ → Bool
conflicts os c name =
    not (declares os name c) && has_several (candidates os c name) && is_none (fitting os (candidates os c name))

-- The class has nothing that is not abstract under the name, and no conflict.
abbrev pub lacks : Outlines → ℕ → ℕ → Bool
lacks os c name = is_none (implementation_of os c name) && not (conflicts os c name)

-- the names of a class's members
unfoldable pub member_names : Outlines → ℕ → List ℕ
member_names os c = each_once [] (names_above os c)

-- CONFLICT: the members that a class inherits under one name don't fit.
abbrev pub conflict : Outlines → ℕ → ClassDecl → List Finding
conflict os n c = where_ (list_any (conflicts os n) (member_names os n)) rule.Conflict c.name.span

-- ABSTRACT_MEMBER: a class that is neither abstract nor an interface has a member without an implementation.
abbrev pub abstract_member : Outlines → ℕ → ClassDecl → List Finding
abstract_member os n c =
    where_ (is_concrete (class_kind c) && list_any (lacks os n) (member_names os n)) rule.AbstractMember c.name.span

-- ---- all of them

abbrev pub class_form : ClassKeyword → Modified
class_form keyword.Class = modified.Class
class_form keyword.Interface = modified.Interface

abbrev pub parameter_form : Option Bool → Modified
parameter_form None = modified.Parameter
parameter_form (Some is_var) = modified.Property

-- a parameter of the constructor is a member where it is a property
abbrev pub property_name : Outlines → ℕ → ClassParameter → Option Bool → List Finding
property_name os n p None = []
property_name os n p (Some is_var) = member_name os n p.name p.modifiers

unfoldable pub parameter_rules : Outlines → ℕ → ClassParameter → List Finding
parameter_rules os n p = modifiers (parameter_form p.is_var) p.modifiers ++ property_name os n p p.is_var

abbrev pub declared_name : Outlines → ℕ → MemberDecl → List Finding
declared_name os n (member.Init block) = []
declared_name os n (member.Function f) = modifiers modified.Member f.modifiers ++ member_name os n f.name f.modifiers
declared_name os n (member.Property p) = modifiers modified.Member p.modifiers ++ member_name os n p.name p.modifiers

-- what stands round the members of a class
abbrev pub around_class : File → Outlines → ℕ → ClassDecl → Around
around_class file os n c =
    record { file = file; above = supers (written os) n; parameters = parameters_of c }

unfoldable pub member_rules : File → Outlines → ℕ → ClassDecl → MemberDecl → List Finding
member_rules file os n c m =
    declared_name os n m ++ member_body (top_names file) c m ++ member_type (around_class file os n c) m

unfoldable pub class_rules : File → Outlines → ℕ → ClassDecl → List Finding
class_rules file os n c =
    modifiers (class_form c.keyword) c.modifiers ++ flat_map (parameter_rules os n) (parameters_of c) ++ flat_map (member_rules file os n c) (declared_in c) ++ conflict os n c ++ abstract_member os n c

-- the rules on a function of the file's top
unfoldable pub function_rules : FunctionDecl → List Finding
function_rules f =
    modifiers modified.Function f.modifiers ++ where_ (misfits_function false f) rule.Body f.name.span ++ where_ (lacks_result f) rule.NoType f.name.span

-- those of classes that have the numbers from n on
abbrev pub rules_from : File → Outlines → ℕ → List ClassDecl → List Finding
rules_from file os n [] = []
rules_from file os n (c ∷ cs) = class_rules file os n c ++ rules_from file os (n + 1) cs

-- what is violated in the declarations of a file, its members looked at
unfoldable pub misdeclared : File → List Finding
misdeclared file =
    rules_from file (outlines_of file) built_in_classes file.classes ++ flat_map function_rules file.functions ++ flat_map local_type (body_sites file)

abbrev pub IsMisdeclared : File → Finding → Type 0
IsMisdeclared file f = Contains (misdeclared file) f
