-- What the names of a file stand for, as the graph of a body looks at it.
use Rattle.std.specs.Prelude.{ℕ, ◌+◌, not, List, Option, Some, None, find, length, ◌==◌, [], slice_get, unwrap_or, option_and_then}
use Rattle.kt_model.specs.BuiltIns.{built_in_functions}
use Rattle.kt_model.specs.declared.kinds.KtType.{KtType}
use Rattle.kt_model.specs.declared.uses.Declaration.{Declaration}
use Rattle.kt_model.specs.declared.uses.DeclarationKind.TheVariants as kind
use Rattle.kt_model.specs.declared.uses.UseRow.{UseRow}
use Rattle.kt_model.specs.declared.uses.Named.{Named}
use Rattle.kt_model.specs.declared.uses.Named.TheVariants as named

-- the declarations of a file, the rows of uses, and the declarations of each function's parameters
pub record Resolved : Type 0 where
  pub declared : List Declaration
  pub rows : List UseRow
  pub parameters : List (List ℕ)

-- what a declaration at a place is to a name
abbrev pub named_by : ℕ → Declaration → Named
named_by place d = elim d.kind [
  | kind.Local ↦ named.Variable place (not d.is_var)
  | kind.Parameter ↦ named.Variable place (not d.is_var)
  | kind.Function f ↦ named.Function f (not d.is_nothing)
  | kind.BuiltIn ↦ named.BuiltIn d.name (not d.is_nothing)
  | _ ↦ named.Other
]

abbrev pub named_if : ℕ → Option Declaration → Named
named_if place (Some d) = named_by place d
named_if place None = named.Other

-- what the name in a tree stands for: by the row of the tree
abbrev pub named_in : Resolved → Option UseRow → Named
named_in u (Some row) = named_if row.declaration (slice_get u.declared row.declaration)
named_in u None = named.Other

unfoldable pub named_at : Resolved → ℕ → Named
named_at u tree = named_in u (find (λ row. row.tree == tree) u.rows)

-- the declarations of a function's parameters
abbrev pub parameters_at : Resolved → ℕ → List ℕ
parameters_at u f = unwrap_or (slice_get u.parameters f) []

-- the written type of a declaration; of a function it is the result
abbrev pub declaration_type : Resolved → ℕ → Option KtType
declaration_type resolved x = option_and_then (λ d. d.written) (slice_get resolved.declared x)

-- the declaration of a function of the file: they stand behind the built-in ones
abbrev pub function_place : ℕ → ℕ
function_place f = length built_in_functions + f
