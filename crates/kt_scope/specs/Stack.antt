-- The stack of open scopes that the code keeps while it goes over what happens to names. Lists of it begin with what came last. This project's own.
use Rattle.std.specs.Prelude.{ℕ, ◌+◌, ◌==◌, ◌||◌, Bool, true, false, List, [], ◌∷◌, ◌++◌, length, reverse, Option, Some, None, if◌then◌else◌, ◌≡◌}
use Rattle.kt_tree.specs.declared.token.Span.{Span}
use Rattle.kt_model.specs.declared.finding.Finding.{Finding}
use Rattle.kt_model.specs.declared.finding.Rule.TheVariants.{UnknownName, NotAValue, NotAFunction}
use Rattle.kt_model.specs.declared.uses.Declaration.{Declaration}
use Rattle.kt_model.specs.declared.name_events.NameEvent.{NameEvent}
use Rattle.kt_model.specs.declared.name_events.NameEvent.TheVariants.{Opens, Closes, Parameter, Local}
use Rattle.kt_model.specs.TopNames.{Tops}
use Rattle.kt_model.specs.DeclarationRules.{where_}
use Rattle.kt_model.specs.NameEvents.{Events}
use Rattle.kt_model.specs.NameRules.{name_rules}
use Rattle.kt_model.specs.Scopes.{Top, OfFunction, OfClass, Unnamed, declared_count, declaration_by, first_function, first_variable, use_by}
use Rattle.kt_scope.specs.declared.scopes.Open.{Open}
use Rattle.kt_scope.specs.declared.scopes.Open.TheVariants.{Scope, Variable}
use Rattle.kt_scope.specs.declared.resolver.Resolver.{Resolver}
use Rattle.kt_scope.specs.declared.resolver.TopName.{TopName}
use Rattle.kt_scope.specs.declared.resolver.TopName.TheVariants as top

-- without the innermost scope
abbrev pub closed : List Open → List Open
closed [] = []
closed (Scope ∷ stack) = stack
closed (Variable name declaration ∷ stack) = closed stack

-- the declaration of the innermost variable of that name
abbrev pub variable_in : ℕ → List Open → Option ℕ
variable_in name [] = None
variable_in name (Scope ∷ stack) = variable_in name stack
variable_in name (Variable other declaration ∷ stack) = if other == name then Some declaration else variable_in name stack

-- the innermost scope has a variable of that name
abbrev pub is_declared_in : ℕ → List Open → Bool
is_declared_in name [] = false
is_declared_in name (Scope ∷ stack) = false
is_declared_in name (Variable other declaration ∷ stack) = other == name || is_declared_in name stack

-- the stack behind events, which stand backwards, where the first variable has that declaration
abbrev pub opened : ℕ → Events → List Open
opened first [] = []
opened first (Opens ∷ before) = Scope ∷ opened first before
opened first (Closes ∷ before) = closed (opened first before)
opened first (Parameter name type ∷ before) = Variable name.name (first + declared_count before) ∷ opened first before
opened first (Local tree name is_var type ∷ before) = Variable name.name (first + declared_count before) ∷ opened first before
opened first (_ ∷ before) = opened first before

-- what each of the events gives, which stand backwards
abbrev pub given : {A : Type 0} → (Events → NameEvent → List A) → Events → List A
given f [] = []
given f (event ∷ before) = given f before ++ f before event

abbrev pub top_of : TopName → Top
top_of (top.Function place) = OfFunction (first_function + place)
top_of (top.BuiltIn place) = OfFunction place
top_of top.Class = OfClass
top_of top.Unnamed = Unnamed

-- what is violated at the name of a value, and at that of a call, by the variable and by what else has it
abbrev pub value_findings : Option ℕ → Top → Span → List Finding
value_findings (Some declaration) top span = []
value_findings None Unnamed span = where_ true UnknownName span
value_findings None _ span = where_ true NotAValue span

abbrev pub call_findings : Option ℕ → Top → Span → List Finding
call_findings variable (OfFunction declaration) span = []
call_findings variable OfClass span = where_ true UnknownName span
call_findings (Some declaration) Unnamed span = where_ true NotAFunction span
call_findings None Unnamed span = where_ true UnknownName span

-- where a pass over events stands behind some, which stand backwards; `tops_declared` are the declarations of what has a name outside of functions
pub record Reaches (tops : Tops) (tops_declared : List Declaration) (before : Events) (r : Resolver) : Type 0 where
  pub scopes : reverse r.scopes.items ≡ opened (first_variable tops) before
  pub count : length r.declared.items ≡ first_variable tops + declared_count before
  pub declared : r.declared.items ≡ tops_declared ++ given (λ earlier event. declaration_by tops event) before
  pub uses : r.rows.items ≡ given (use_by tops) before
  pub found : r.found.items ≡ given (name_rules tops) before
