-- The rules on names inside bodies: phase 6.
--
-- From the Kotlin specification, "Scopes and identifiers" and "Local property declaration": a name must stand for something that is declared, and one
-- scope has no two locals of one name. Each rule is a condition on one event and the events before it, which stand backwards. The code looks into a
-- stack of the open scopes.
use Rattle.std.specs.Prelude.{ℕ, zero, suc, ◌==◌, ◌&&◌, ◌||◌, Bool, true, false, not, List, [], ◌∷◌, ◌++◌, Contains, is_some}
use Rattle.kt_tree.specs.declared.ast.declaration.File.{File}
use Rattle.kt_model.specs.declared.finding.Finding.{Finding}
use Rattle.kt_model.specs.declared.finding.Rule.TheVariants.{UnknownName, NotAValue, NotAFunction, DuplicateLocal}
use Rattle.kt_model.specs.declared.name_events.NameEvent.{NameEvent}
use Rattle.kt_model.specs.declared.name_events.NameEvent.TheVariants.{Opens, Closes, Parameter, Local, Reads, Calls, Assigns}
use Rattle.kt_model.specs.TopNames.{Tops, top_names}
use Rattle.kt_model.specs.DeclarationRules.{where_}
use Rattle.kt_model.specs.NameEvents.{Events, file_events}
use Rattle.kt_model.specs.Scopes.{Top, OfFunction, Unnamed, top_named, nearest, looking_back}

abbrev pub is_unnamed : Top → Bool
is_unnamed Unnamed = true
is_unnamed _ = false

abbrev pub is_function : Top → Bool
is_function (OfFunction declaration) = true
is_function _ = false

abbrev pub is_variable : Events → ℕ → Bool
is_variable before name = is_some (nearest name zero before)

-- Only a variable has the name.
abbrev pub is_variable_alone : Tops → Events → ℕ → Bool
is_variable_alone tops before name = is_variable before name && is_unnamed (top_named tops name)

-- UNKNOWN_NAME: nothing has the name of a value; no function has the name of a call, and no variable alone. A class can't be called yet.
abbrev pub unknown_name : Tops → Events → NameEvent → List Finding
unknown_name tops before (Reads tree w) =
    where_ (not (is_variable before w.name) && is_unnamed (top_named tops w.name)) UnknownName w.span
unknown_name tops before (Assigns tree w) =
    where_ (not (is_variable before w.name) && is_unnamed (top_named tops w.name)) UnknownName w.span
unknown_name tops before (Calls tree w) =
    where_ (not (is_function (top_named tops w.name)) && not (is_variable_alone tops before w.name)) UnknownName w.span
unknown_name tops before _ = []

-- NOT_A_VALUE: no variable has the name of a value, but a function or a class.
abbrev pub not_a_value : Tops → Events → NameEvent → List Finding
not_a_value tops before (Reads tree w) =
    where_ (not (is_variable before w.name) && not (is_unnamed (top_named tops w.name))) NotAValue w.span
not_a_value tops before (Assigns tree w) =
    where_ (not (is_variable before w.name) && not (is_unnamed (top_named tops w.name))) NotAValue w.span
not_a_value tops before _ = []

-- NOT_A_FUNCTION: only a variable has the name of a call.
abbrev pub not_a_function : Tops → Events → NameEvent → List Finding
not_a_function tops before (Calls tree w) = where_ (is_variable_alone tops before w.name) NotAFunction w.span
not_a_function tops before _ = []

-- The innermost open scope declares the name already. `closed` scopes that were closed on the way back are still to be passed over.
abbrev pub is_declared_here : (name closed : ℕ) → Events → Bool
is_declared_here name closed [] = false
is_declared_here name closed (Closes ∷ before) = is_declared_here name (suc closed) before
is_declared_here name zero (Opens ∷ before) = false
is_declared_here name (suc closed) (Opens ∷ before) = is_declared_here name closed before
is_declared_here name zero (Parameter w type ∷ before) = w.name == name || is_declared_here name zero before
is_declared_here name zero (Local tree w is_var type ∷ before) = w.name == name || is_declared_here name zero before
is_declared_here name closed (_ ∷ before) = is_declared_here name closed before

-- DUPLICATE_LOCAL: a local's own scope declares its name already.
abbrev pub duplicate_local : Events → NameEvent → List Finding
duplicate_local before (Local tree w is_var type) = where_ (is_declared_here w.name zero before) DuplicateLocal w.span
duplicate_local before _ = []

-- all rules that are tried at an event
unfoldable pub name_rules : Tops → Events → NameEvent → List Finding
name_rules tops before event =
    unknown_name tops before event ++ not_a_value tops before event ++ not_a_function tops before event ++ duplicate_local before event

-- what is violated in the names of a file
abbrev pub IsNameViolated : File → Finding → Type 0
IsNameViolated file f = Contains (looking_back (name_rules (top_names file)) [] (file_events file)) f
