-- The places of a file at which the rules on declarations are tried: those of its declarations in the order of the text, then those inside bodies.
use Rattle.std.specs.Prelude.{List, [], ◌∷◌, ◌++◌, map, Option, Some, None, unwrap_or}
use Rattle.std.specs.List.{flat_map, filter_map}
use Rattle.std.specs.Option.{option_map}
use Rattle.kt_tree.specs.declared.ast.part.Ident.{Ident}
use Rattle.kt_tree.specs.declared.ast.part.TypeRef.{TypeRef}
use Rattle.kt_tree.specs.declared.ast.declaration.File.{File}
use Rattle.kt_tree.specs.declared.ast.declaration.ClassDecl.{ClassDecl}
use Rattle.kt_tree.specs.declared.ast.declaration.ClassParameter.{ClassParameter}
use Rattle.kt_tree.specs.declared.ast.declaration.Supertype.{Supertype}
use Rattle.kt_tree.specs.declared.ast.declaration.FunctionDecl.{FunctionDecl}
use Rattle.kt_tree.specs.declared.ast.declaration.Getter.{Getter}
use Rattle.kt_tree.specs.declared.ast.declaration.Parameter.{Parameter}
use Rattle.kt_tree.specs.declared.ast.declaration.ParameterType.{ParameterType}
use Rattle.kt_tree.specs.declared.ast.declaration.ParameterType.TheVariants.{Value, Function as FunctionType}
use Rattle.kt_tree.specs.declared.ast.declaration.Member.{Member}
use Rattle.kt_tree.specs.declared.ast.declaration.Member.TheVariants.{Init, Function, Property}
use Rattle.kt_tree.specs.declared.ast.declaration.FunctionBody.{FunctionBody}
use Rattle.kt_tree.specs.declared.ast.declaration.FunctionBody.TheVariants as body
use Rattle.kt_tree.specs.declared.ast.declaration.Contract.{Contract}
use Rattle.kt_tree.specs.declared.ast.declaration.EffectKind.{EffectKind}
use Rattle.kt_tree.specs.declared.ast.declaration.EffectKind.TheVariants.{Returns, CallsInPlace}
use Rattle.kt_tree.specs.declared.ast.body.Expr.{Expr}
use Rattle.kt_model.specs.declared.body_site.BodySite.{BodySite}
use Rattle.kt_model.specs.TreeSites.{BodySites, expr_sites, block_sites}

pub data Site : Type 0 where
  -- a written type
  OfType : TypeRef → Site
  -- a written supertype
  OfSuper : Supertype → Site
  -- names that are declared side by side
  OfNames : List Ident → Site
  -- the functions of the file
  OfFunctions : List FunctionDecl → Site
  -- what a rule looks at inside a body
  OfBody : BodySite → Site

-- the parameters of a class's constructor, and its members
abbrev pub parameters_of : ClassDecl → List ClassParameter
parameters_of c = unwrap_or c.parameters []

abbrev pub declared_in : ClassDecl → List Member
declared_in c = unwrap_or c.members []

abbrev pub written_sites : Option TypeRef → List Site
written_sites None = []
written_sites (Some w) = OfType w ∷ []

abbrev pub type_sites : ParameterType → List Site
type_sites (Value w) = OfType w ∷ []
type_sites (FunctionType ws result) = map OfType ws ++ OfType result ∷ []

abbrev pub parameter_sites : Parameter → List Site
parameter_sites p = type_sites p.kind

unfoldable pub function_sites : FunctionDecl → List Site
function_sites f =
    OfNames (map (λ p. p.name) f.parameters) ∷ flat_map parameter_sites f.parameters ++ written_sites f.result

abbrev pub getter_sites : Option Getter → List Site
getter_sites None = []
getter_sites (Some g) = written_sites g.written

abbrev pub member_sites : Member → List Site
member_sites (Init block) = []
member_sites (Function f) = function_sites f
member_sites (Property p) = written_sites p.written ++ getter_sites p.getter

-- the name of a property of the constructor
abbrev pub property_word : ClassParameter → Option Ident
property_word p = option_map (λ is_var. p.name) p.is_var

abbrev pub member_word : Member → Option Ident
member_word (Init block) = None
member_word (Function f) = Some f.name
member_word (Property p) = Some p.name

-- the names of a class's members
unfoldable pub member_words : ClassDecl → List Ident
member_words c = filter_map property_word (parameters_of c) ++ filter_map member_word (declared_in c)

unfoldable pub class_sites : ClassDecl → List Site
class_sites c =
    OfNames (map (λ p. p.name) (parameters_of c)) ∷ OfNames (member_words c) ∷ map (λ p. OfType p.written) (parameters_of c) ++ map OfSuper c.supertypes ++ flat_map member_sites (declared_in c)

-- the names of the top
unfoldable pub top_words : File → List Ident
top_words file = map (λ c. c.name) file.classes ++ map (λ f. f.name) file.functions

-- ---- inside bodies

-- the conditions of a contract are trees too
abbrev pub effect_sites : EffectKind → BodySites
effect_sites (Returns returned condition) = expr_sites condition
effect_sites (CallsInPlace parameter kind) = []

abbrev pub contract_sites : Option Contract → BodySites
contract_sites None = []
contract_sites (Some c) = flat_map (λ e. effect_sites e.kind) c.effects

abbrev pub sites_in_body : FunctionBody → BodySites
sites_in_body (body.Expr e) = expr_sites e
sites_in_body (body.Block contract block) = contract_sites contract ++ block_sites block

abbrev pub sites_in_function : Option FunctionBody → BodySites
sites_in_function None = []
sites_in_function (Some b) = sites_in_body b

abbrev pub sites_in_value : Option Expr → BodySites
sites_in_value None = []
sites_in_value (Some e) = expr_sites e

abbrev pub sites_in_getter : Option Getter → BodySites
sites_in_getter None = []
sites_in_getter (Some g) = sites_in_body g.body

abbrev pub sites_in_member : Member → BodySites
sites_in_member (Init block) = block_sites block
sites_in_member (Function f) = sites_in_function f.body
sites_in_member (Property p) = sites_in_value p.value ++ sites_in_getter p.getter

-- the arguments of a supertype
abbrev pub sites_in_super : Supertype → BodySites
sites_in_super s = flat_map expr_sites (unwrap_or s.arguments [])

unfoldable pub sites_in_class : ClassDecl → BodySites
sites_in_class c = flat_map sites_in_super c.supertypes ++ flat_map sites_in_member (declared_in c)

-- what the rules on declarations look at inside the bodies of a file
unfoldable pub body_sites : File → BodySites
body_sites file =
    flat_map sites_in_class file.classes ++ flat_map (λ f. sites_in_function f.body) file.functions

unfoldable pub file_sites : File → List Site
file_sites file =
    OfNames (top_words file) ∷ OfFunctions file.functions ∷ flat_map class_sites file.classes ++ flat_map function_sites file.functions ++ map OfBody (body_sites file)
