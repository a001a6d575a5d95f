-- The program of a file: what a run looks at of its functions. This project's own.
use Rattle.std.specs.Prelude.{ℕ, Bool, true, false, position, Option, Some, option_map, slice_get}
use Rattle.kt_tree.specs.declared.ast.declaration.File.{File}
use Rattle.kt_tree.specs.declared.ast.declaration.FunctionDecl.{FunctionDecl}
use Rattle.kt_tree.specs.declared.ast.declaration.FunctionBody.{FunctionBody}
use Rattle.kt_tree.specs.declared.ast.declaration.FunctionBody.TheVariants as written
use Rattle.kt_model.specs.NameUses.{Resolved, named_at, parameters_at, declaration_type, function_place}
use Rattle.kt_model.specs.TopNames.{top_names}
use Rattle.kt_model.specs.DeclarationRules.{is_main}
use Rattle.kt_model.specs.Bodies.{body_trees_of}
use Rattle.kt_mean.specs.Evaluation.{Function, Program}

abbrev pub is_expression : Option FunctionBody → Bool
is_expression (Some (written.Expr e)) = true
is_expression _ = false

abbrev pub function_of : Resolved → ℕ → FunctionDecl → Function
function_of uses place f =
    record { parameters = parameters_at uses place; body = body_trees_of (named_at uses) f.body; is_expression = is_expression f.body; result = declaration_type uses (function_place place) }

abbrev pub function_at : File → Resolved → ℕ → Option Function
function_at file uses place = option_map (function_of uses place) (slice_get file.functions place)

-- a file with what its names stand for, and the numbers of its dead trees; `main` is the function at that place
abbrev pub program_of : File → Resolved → (ℕ → Bool) → ℕ → Program
program_of file uses dead main =
    record { functions = function_at file uses; written = declaration_type uses; dead = dead; main = main }

-- the place of `main`
abbrev pub main_of : File → Option ℕ
main_of file = position (is_main (top_names file)) file.functions
