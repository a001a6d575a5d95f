-- The built-in functions that are open: how many arguments each takes, of which type, and what it gives.
--
-- From Kotlin's standard library, `kotlin.io` and the preconditions of `kotlin`: `println` and `print` take any value; `println` also none; `require` and
-- `check` take a truth value, `error` any value but `null`, and it never returns. The numbers are those of the built-in names.
-- To open a function: a line here.
use Rattle.std.specs.Prelude.{ℕ, true, false, List, [], ◌∷◌, ◌==◌, Option, find}
use Rattle.kt_model.specs.declared.built_ins.BuiltIn.{BuiltIn}
use Rattle.kt_model.specs.declared.kinds.KtType.{KtType}
use Rattle.kt_model.specs.declared.kinds.Head.TheVariants as head

-- `Any?`
abbrev pub any_value : KtType
any_value = record { head = head.Any; nullable = true }

abbrev pub unit_type : KtType
unit_type = record { head = head.Unit; nullable = false }

abbrev pub println : BuiltIn
println = record { name = 20; least = 0; most = 1; parameter = any_value; result = unit_type }

abbrev pub print : BuiltIn
print = record { name = 21; least = 1; most = 1; parameter = any_value; result = unit_type }

abbrev pub boolean_type : KtType
boolean_type = record { head = head.Boolean; nullable = false }

abbrev pub require : BuiltIn
require = record { name = 23; least = 1; most = 1; parameter = boolean_type; result = unit_type }

abbrev pub check : BuiltIn
check = record { name = 24; least = 1; most = 1; parameter = boolean_type; result = unit_type }

abbrev pub error : BuiltIn
error = record { name = 25; least = 1; most = 1; parameter = record { head = head.Any; nullable = false }; result = record { head = head.Nothing; nullable = false } }

-- in the order of their names' numbers
abbrev pub built_in_functions : List BuiltIn
built_in_functions = println ∷ print ∷ require ∷ check ∷ error ∷ []

-- the built-in function of that name, where it is open
abbrev pub built_in_named : ℕ → Option BuiltIn
built_in_named name = find (λ b. b.name == name) built_in_functions
