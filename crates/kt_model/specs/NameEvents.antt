-- The names in the bodies of a file as one list of what happens to them, in the order in which it counts.
--
-- From the Kotlin specification, "Scopes and identifiers" and "Local property declaration": a function's body, a block and a branch in braces have a
-- scope each, a function's parameters one round its body, and a local is visible behind its declaration, so not in its own initialiser. The list is
-- this project's own. Shapes that are not open yet, and the bodies of members and classes, give nothing. To open one: a clause here.
use Rattle.std.specs.Prelude.{ℕ, List, [], ◌∷◌, ◌++◌, Option, Some, None, option_map}
use Rattle.std.specs.List.{flat_map}
use Rattle.kt_tree.specs.declared.token.Span.{Span}
use Rattle.kt_tree.specs.declared.ast.part.Ident.{Ident}
use Rattle.kt_tree.specs.declared.ast.body.Expr.{Expr}
use Rattle.kt_tree.specs.declared.ast.body.ExprKind.{ExprKind}
use Rattle.kt_tree.specs.declared.ast.body.Stmt.{Stmt}
use Rattle.kt_tree.specs.declared.ast.body.Block.{Block}
use Rattle.kt_tree.specs.declared.ast.body.Branch.{Branch}
use Rattle.kt_tree.specs.declared.ast.body.StringPart.{StringPart}
use Rattle.kt_tree.specs.declared.ast.body.Branch.TheOpen.{Branch-F, ExprKind-F, Stmt-F, StringPart-F, Block-F, Expr-F}
use Rattle.kt_tree.specs.declared.ast.body.Branch.TheFolds.{fold-Expr, fold-ExprKind, fold-Stmt, fold-Block, fold-Branch, fold-StringPart}
use Rattle.kt_tree.specs.declared.ast.declaration.File.{File}
use Rattle.kt_tree.specs.declared.ast.declaration.FunctionDecl.{FunctionDecl}
use Rattle.kt_tree.specs.declared.ast.declaration.FunctionBody.{FunctionBody}
use Rattle.kt_tree.specs.declared.ast.declaration.FunctionBody.TheVariants as written
use Rattle.kt_tree.specs.declared.ast.declaration.Parameter.{Parameter}
use Rattle.kt_tree.specs.declared.ast.declaration.ParameterType.{ParameterType}
use Rattle.kt_tree.specs.declared.ast.declaration.ParameterType.TheVariants as parameter
use Rattle.kt_model.specs.declared.name_events.NameEvent.{NameEvent}
use Rattle.kt_model.specs.declared.name_events.NameEvent.TheVariants.{Opens, Closes, Parameter as OfParameter, Local, Reads, Calls, Assigns}
use Rattle.kt_model.specs.BodyTrees.{nothing}

abbrev pub Events : Type 0
Events = List NameEvent

-- An expression as it is seen from around it: its events, and its name where it is a name alone.
pub record SeenEvents : Type 0 where
  pub events : Events
  pub name : Option Ident

-- the same before its number and span are known
pub record SeenEventsKind : Type 0 where
  pub at : ℕ → Span → Events
  pub name : Option ℕ

abbrev pub within : Events → SeenEventsKind
within events = record { at = λ n span. events; name = None }

abbrev pub all_of : List SeenEvents → Events
all_of parts = flat_map (λ p. p.events) parts

abbrev pub if_written : Option SeenEvents → Events
if_written (Some e) = e.events
if_written None = []

abbrev pub if_there : Option Events → Events
if_there (Some events) = events
if_there None = []

abbrev pub ident : ℕ → Span → Ident
ident name span = record { name = name; span = span }

abbrev pub kind_step : ExprKind-F Events (Unit {0}) SeenEventsKind Events Events Events (Unit {0}) SeenEvents (Unit {0}) (Unit {0}) (Unit {0}) → SeenEventsKind
kind_step (ExprKind-F.Name x) = record { at = λ n span. Reads n (ident x span) ∷ []; name = Some x }
kind_step (ExprKind-F.Template pieces) = within (flat_map (λ p. p) pieces)
kind_step (ExprKind-F.Paren e) = within e.events
kind_step (ExprKind-F.Call callee arguments None) = record { at = λ n span. Calls n callee ∷ all_of arguments; name = None }
kind_step (ExprKind-F.Sign sign e) = within e.events
kind_step (ExprKind-F.Not e) = within e.events
kind_step (ExprKind-F.Sum a b) = within (a.events ++ b.events)
kind_step (ExprKind-F.Arithmetic o a b) = within (a.events ++ b.events)
kind_step (ExprKind-F.Compare o a b) = within (a.events ++ b.events)
kind_step (ExprKind-F.Equal o a b) = within (a.events ++ b.events)
kind_step (ExprKind-F.And a b) = within (a.events ++ b.events)
kind_step (ExprKind-F.Or a b) = within (a.events ++ b.events)
kind_step (ExprKind-F.If c a b) = within (c.events ++ a ++ if_there b)
kind_step (ExprKind-F.Return None value) = within (if_written value)
kind_step (ExprKind-F.Throw e) = within e.events
kind_step _ = within []

-- A left side that is no name is an expression.
abbrev pub left_events : ℕ → SeenEvents → Events
left_events n target = by target.name
  where
    by : Option Ident → Events
    by (Some name) = Assigns n name ∷ []
    by None = target.events

abbrev pub stmt_step : Stmt-F Events (Unit {0}) SeenEventsKind Events Events Events (Unit {0}) SeenEvents (Unit {0}) (Unit {0}) (Unit {0}) → Events
stmt_step (Stmt-F.Expr e) = e.events
stmt_step (Stmt-F.Local n span is_var name type value) = if_written value ++ Local n name is_var type ∷ []
stmt_step (Stmt-F.Assign n span target a value) = left_events n target ++ if_written value
stmt_step (Stmt-F.While n span c b) = []
stmt_step (Stmt-F.DoWhile n span b c) = []
stmt_step (Stmt-F.For n span x type low p high b) = []

abbrev pub branch_step : Branch-F Events (Unit {0}) SeenEventsKind Events Events Events (Unit {0}) SeenEvents (Unit {0}) (Unit {0}) (Unit {0}) → Events
branch_step (Branch-F.Braced events) = events
branch_step (Branch-F.Single events) = events

abbrev pub piece_step : StringPart-F Events (Unit {0}) SeenEventsKind Events Events Events (Unit {0}) SeenEvents (Unit {0}) (Unit {0}) (Unit {0}) → Events
piece_step (StringPart-F.Text bytes) = []
piece_step (StringPart-F.Inserted e) = e.events

abbrev pub block_step : Block-F Events (Unit {0}) SeenEventsKind Events Events Events (Unit {0}) SeenEvents (Unit {0}) (Unit {0}) (Unit {0}) → Events
block_step b = Opens ∷ flat_map (λ s. s) b.statements ++ Closes ∷ []

abbrev pub expr_step : Expr-F Events (Unit {0}) SeenEventsKind Events Events Events (Unit {0}) SeenEvents (Unit {0}) (Unit {0}) (Unit {0}) → SeenEvents
expr_step e = record { events = e.kind.at e.number e.span; name = option_map (λ x. ident x e.span) e.kind.name }

unfoldable pub seen_events : Expr → SeenEvents
seen_events = fold-Expr Events (Unit {0}) SeenEventsKind Events Events Events (Unit {0}) SeenEvents (Unit {0}) (Unit {0}) (Unit {0}) branch_step nothing kind_step stmt_step piece_step block_step nothing expr_step nothing nothing nothing

unfoldable pub seen_events_kind : ExprKind → SeenEventsKind
seen_events_kind = fold-ExprKind Events (Unit {0}) SeenEventsKind Events Events Events (Unit {0}) SeenEvents (Unit {0}) (Unit {0}) (Unit {0}) branch_step nothing kind_step stmt_step piece_step block_step nothing expr_step nothing nothing nothing

unfoldable pub stmt_events : Stmt → Events
stmt_events = fold-Stmt Events (Unit {0}) SeenEventsKind Events Events Events (Unit {0}) SeenEvents (Unit {0}) (Unit {0}) (Unit {0}) branch_step nothing kind_step stmt_step piece_step block_step nothing expr_step nothing nothing nothing

unfoldable pub block_events : Block → Events
block_events = fold-Block Events (Unit {0}) SeenEventsKind Events Events Events (Unit {0}) SeenEvents (Unit {0}) (Unit {0}) (Unit {0}) branch_step nothing kind_step stmt_step piece_step block_step nothing expr_step nothing nothing nothing

unfoldable pub branch_events : Branch → Events
branch_events = fold-Branch Events (Unit {0}) SeenEventsKind Events Events Events (Unit {0}) SeenEvents (Unit {0}) (Unit {0}) (Unit {0}) branch_step nothing kind_step stmt_step piece_step block_step nothing expr_step nothing nothing nothing

unfoldable pub piece_events : StringPart → Events
piece_events = fold-StringPart Events (Unit {0}) SeenEventsKind Events Events Events (Unit {0}) SeenEvents (Unit {0}) (Unit {0}) (Unit {0}) branch_step nothing kind_step stmt_step piece_step block_step nothing expr_step nothing nothing nothing

abbrev pub expr_events : Expr → Events
expr_events e = (seen_events e).events

-- ---- functions

-- A parameter of function type is not open yet.
abbrev pub parameter_events : Parameter → Events
parameter_events p = by p.kind
  where
    by : ParameterType → Events
    by (parameter.Value type) = OfParameter p.name type ∷ []
    by (parameter.Function types result) = []

-- A contract is no part of the body.
abbrev pub body_events : Option FunctionBody → Events
body_events None = []
body_events (Some (written.Expr e)) = expr_events e
body_events (Some (written.Block contract block)) = block_events block

unfoldable pub function_events : FunctionDecl → Events
function_events f = Opens ∷ flat_map parameter_events f.parameters ++ body_events f.body ++ Closes ∷ []

unfoldable pub file_events : File → Events
file_events file = flat_map function_events file.functions
