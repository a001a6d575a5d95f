-- The types of a body's trees, and the findings of typing.
--
-- From the Kotlin specification, "Type system", "Expressions", "Statements" and "Local type inference": an operand or an argument must have a type
-- under the one that is asked for; a local takes its written type, else that of its initialiser. The ways in which a tree is typed, the codes and the
-- spans are this project's own. Each form has one definition: what it asks of its parts, and what it is where they have types. Forms that are not
-- open yet are refused as no part of the language, which no file that is parsed can have; so is an `if` without a second branch where its value is taken. The code
-- types each operand once, where the definition types those of a sum and of an equality anew for each question, and keeps the types of locals in a table.
use Rattle.std.specs.Prelude.{◌≡◌, ℕ, zero, suc, length, ◌==◌, ◌&&◌, ◌||◌, nat_eq, nat_le, Bool, true, false, not, List, [], ◌∷◌, ◌++◌, Option, Some, None, slice_get, option_map, Contains, IsTrue, ◌↔◌, if◌then◌else◌}
use Rattle.std.specs.Map.{lookup}
use Rattle.kt_tree.specs.declared.token.Span.{Span}
use Rattle.kt_tree.specs.declared.ast.declaration.File.{File}
use Rattle.kt_tree.specs.declared.ast.declaration.FunctionDecl.{FunctionDecl}
use Rattle.kt_tree.specs.declared.ast.declaration.FunctionBody.{FunctionBody}
use Rattle.kt_tree.specs.declared.ast.declaration.FunctionBody.TheVariants as written
use Rattle.kt_model.specs.Classes.{Classes}
use Rattle.kt_model.specs.Subtypes.{class_of, is_under, upper_of}
use Rattle.kt_model.specs.declared.built_ins.BuiltIn.{BuiltIn}
use Rattle.kt_model.specs.BuiltIns.{built_in_named}
use Rattle.kt_model.specs.NameUses.{Resolved, parameters_at, declaration_type, function_place}
use Rattle.kt_model.specs.Scopes.{is_nothing_head}
use Rattle.kt_model.specs.Bodies.{owner_parameters, owner_trees}
use Rattle.kt_model.specs.BodyPaths.{IsNodePath}
use Rattle.kt_model.specs.ControlFlow.{Node, body_edges}
use Rattle.kt_model.specs.declared.graph.Tag.TheVariants.{Out}
use Rattle.kt_model.specs.BodyTrees.{Tree, Trees, Operation', Name', Paren', Not', And', Or', If', Declare', Local', Assign', Compound', Call', Return', Throw', Shut', Empty', First', Mark, number, Operation, Int', Bool', Template', Sign', Sum', Arithmetic', Compare', Equal', BuiltIn'}
use Rattle.kt_model.specs.declared.kinds.KtType.{KtType}
use Rattle.kt_model.specs.declared.kinds.Head.{Head}
use Rattle.kt_model.specs.declared.kinds.Head.TheVariants.{Nothing, Unit as UnitHead, Boolean, Int, Str}
use Rattle.kt_model.specs.declared.finding.Finding.{Finding}
use Rattle.kt_model.specs.declared.finding.Rule.TheVariants.{Syntax, UnknownName, Mismatch, ArgumentCount, Equality}
use Rattle.kt_typing.specs.declared.claims.Way.{Way}
use Rattle.kt_typing.specs.declared.claims.Way.TheVariants.{Unvalued, Plain, Inferred, Checked}
use Rattle.kt_typing.specs.declared.claims.Claim.{Claim}
use Rattle.kt_typing.specs.declared.claims.Claim.TheVariants.{Gives, Breaks, Lacks}
use Rattle.kt_typing.specs.declared.claims.Outcome.{Outcome}
use Rattle.kt_typing.specs.declared.claims.Outcome.TheVariants.{Stands, Refused, Untyped}
use Rattle.kt_typing.specs.declared.claims.Operator.{Operator}
use Rattle.kt_typing.specs.declared.claims.TypeRow.{TypeRow}
use Rattle.kt_model.specs.declared.uses.Owner.{Owner}
use Rattle.kt_model.specs.declared.uses.Owner.TheVariants as owner

-- ---- types

-- the type of a head, without `?`
abbrev pub sure : Head → KtType
sure h = record { head = h; nullable = false }

abbrev pub int : KtType
int = sure Int

abbrev pub string : KtType
string = sure Str

abbrev pub boolean : KtType
boolean = sure Boolean

abbrev pub unit : KtType
unit = sure UnitHead

abbrev pub nothing : KtType
nothing = sure Nothing

-- the first head is `Nothing`, or its class is under the other's
abbrev pub is_head_under : Classes → Option ℕ → Option ℕ → Bool
is_head_under classes None high = true
is_head_under classes (Some low) None = false
is_head_under classes (Some low) (Some high) = is_under classes low high

-- the test of `IsSubtype`
unfoldable pub is_subtype : Classes → KtType → KtType → Bool
is_subtype classes a b = is_head_under classes (class_of a.head) (class_of b.head) && (b.nullable || not a.nullable)

-- ---- what calls ask for

-- the ways of parts one behind another: one for all, or one for the first
pub data Ways : Type 0 where
  Each : (way : Way) → Ways
  Then : (way : Way) (rest : Ways) → Ways

abbrev pub first_way : Ways → Way
first_way (Each way) = way
first_way (Then way rest) = way

abbrev pub rest_ways : Ways → Ways
rest_ways (Each way) = Each way
rest_ways (Then way rest) = rest

-- what a call needs: the least and the most number of arguments, the way of each, and what it gives
pub record Signature : Type 0 where
  pub least : ℕ
  pub most : ℕ
  pub ways : Ways
  pub result : KtType

abbrev pub built_in_signature : BuiltIn → Signature
built_in_signature b = record { least = b.least; most = b.most; ways = Each (Checked b.parameter); result = b.result }

-- ---- what typing looks at

-- the written types of the locals and parameters, what the calls of each function of the file need, the written result of the function whose body it is, and
-- whether a path leads to the `out` of the tree with that number
pub record TypeContext : Type 0 where
  pub classes : Classes
  pub written : ℕ → Option KtType
  pub signature : ℕ → Option Signature
  pub result : Option KtType
  pub is_left : ℕ → Bool

-- The types of the locals that were declared, in the order of evaluation; None where an initialiser has no type.
abbrev pub LocalTypes : Type 0
LocalTypes = List (ℕ × Option KtType)

-- the type of a local; None where it was not declared
abbrev pub look_up : LocalTypes → ℕ → Option (Option KtType)
look_up locals x = lookup (nat_eq x) locals

-- A local that was declared keeps its type.
abbrev pub bound_unless : Option (Option KtType) → LocalTypes → ℕ → Option KtType → LocalTypes
bound_unless (Some u) locals x t = locals
bound_unless None locals x t = locals ++ (x, t) ∷ []

abbrev pub bound : LocalTypes → ℕ → Option KtType → LocalTypes
bound locals x t = bound_unless (look_up locals x) locals x t

-- a declaration without an initialiser: the local has its written type
abbrev pub declared : LocalTypes → ℕ → Option KtType → LocalTypes
declared locals x (Some t) = bound locals x (Some t)
declared locals x None = locals

-- a declaration with an initialiser: the local has its written type, else the initialiser's
abbrev pub initialised : LocalTypes → ℕ → Option KtType → Option KtType → LocalTypes
initialised locals x (Some t) found = bound locals x (Some t)
initialised locals x None found = bound locals x found

-- ---- what is said of a tree

-- The type of a tree in its way, the types of the trees in it and of itself, the findings there, and the types of locals behind it.
pub record Judgement : Type 0 where
  pub found : Option KtType
  pub rows : List TypeRow
  pub findings : List Finding
  pub locals : LocalTypes

-- the same of trees one behind another
pub record Judgements : Type 0 where
  pub each_found : List (Option KtType)
  pub rows : List TypeRow
  pub findings : List Finding
  pub locals : LocalTypes

abbrev pub no_trees : LocalTypes → Judgements
no_trees locals = record { each_found = []; rows = []; findings = []; locals = locals }

abbrev pub in_front : Judgement → Judgements → Judgements
in_front x xs =
    record { each_found = x.found ∷ xs.each_found; rows = x.rows ++ xs.rows; findings = x.findings ++ xs.findings; locals = xs.locals }

abbrev pub alone : Judgement → Judgements
alone x = record { each_found = x.found ∷ []; rows = x.rows; findings = x.findings; locals = x.locals }

-- ---- what a tree is in its way

-- What must give a value of a type has a type under it.
abbrev pub stands_if : Bool → KtType → Span → Outcome
stands_if true d at = Stands d
stands_if false d at = Refused Mismatch at

abbrev pub settled : Classes → Way → KtType → Span → Outcome
settled classes (Checked t) d at = stands_if (is_subtype classes d t) d at
settled classes _ d at = Stands d

abbrev pub claimed : Classes → Way → Span → Claim → Outcome
claimed classes way at (Gives d) = settled classes way d at
claimed classes way at (Breaks rule place) = Refused rule place
claimed classes way at Lacks = Untyped

-- A tree one of whose parts has no type has none, and violates no further rule.
abbrev pub outcome : Classes → Way → Span → Bool → Claim → Outcome
outcome classes way at true claim = claimed classes way at claim
outcome classes way at false claim = Untyped

abbrev pub type_in : Outcome → Option KtType
type_in (Stands t) = Some t
type_in _ = None

abbrev pub finding_in : Outcome → List Finding
finding_in (Refused rule at) = record { rule = rule; span = at } ∷ []
finding_in _ = []

abbrev pub have_types : List (Option KtType) → Bool
have_types [] = true
have_types (Some t ∷ rest) = have_types rest
have_types (None ∷ rest) = false

abbrev pub ended : Mark → Outcome → Judgements → Judgement
ended n o parts =
    record { found = type_in o; rows = parts.rows ++ record { tree = n.number; found = type_in o } ∷ []; findings = parts.findings ++ finding_in o; locals = parts.locals }

-- a tree, by its way, its parts and what it is where they have types
abbrev pub closed : TypeContext → Way → Mark → Judgements → Claim → Judgement
closed cx way n parts claim = ended n (outcome cx.classes way n.span (have_types parts.each_found) claim) parts

-- ---- what a tree asks of its parts

-- what a tree asks of its parts, and what it is where they have types
pub record Demand : Type 0 where
  pub ways : Ways
  pub claim : Claim

-- how many trees stand one behind another
abbrev pub count : Trees → ℕ
count Empty' = 0
count (First' t rest) = suc (count rest)

-- The forms that are not open are no part of the language.
abbrev pub shut : Mark → Demand
shut n = record { ways = Each Inferred; claim = Breaks Syntax n.span }

-- a tree that has as many parts as it needs
abbrev pub demand_if : Bool → Mark → Ways → KtType → Demand
demand_if true n ways d = record { ways = ways; claim = Gives d }
demand_if false n ways d = shut n

-- `+` joins texts where its left operand is a `String` as a value. Else it takes numbers as the others do.
abbrev pub sum_operator : Bool → Operator
sum_operator true = record { left = Inferred; right = Plain; gives = string }
sum_operator false = record { left = Checked int; right = Checked int; gives = int }

-- the operators that are open, by whether the left operand is a text
abbrev pub operator_of : Operation → Bool → Option Operator
operator_of Sum' text = Some (sum_operator text)
operator_of (Arithmetic' o) text = Some (sum_operator false)
operator_of _ text = None

abbrev pub operator_demand : Option Operator → Mark → ℕ → Demand
operator_demand None n k = shut n
operator_demand (Some o) n k = demand_if (k == 2) n (Then o.left (Each o.right)) o.gives

-- A call with another number of arguments is refused at the callee's name; its arguments are then checked against nothing.
abbrev pub call_if : Bool → Signature → Mark → Demand
call_if true s n = record { ways = s.ways; claim = Gives s.result }
call_if false s n = record { ways = Each Inferred; claim = Breaks ArgumentCount n.word }

abbrev pub call_demand : Option Signature → Mark → ℕ → Demand
call_demand None n k = shut n
call_demand (Some s) n k = call_if (nat_le s.least k && nat_le k s.most) s n

-- an equality that has two operands, whose types may be apart
abbrev pub equality_demand : Bool → Demand → Mark → Demand
equality_demand true demand n = record { ways = Each Plain; claim = Breaks Equality n.span }
equality_demand false demand n = demand

-- how many parts stand among the texts of a string
abbrev pub places : List (Option (List ℕ)) → ℕ
places [] = 0
places (Some text ∷ rest) = places rest
places (None ∷ rest) = suc (places rest)

-- A tree that works on the values of so many parts: the first may be a text, the types of two may be apart.
abbrev pub operation_demand : Mark → Operation → (text apart : Bool) → ℕ → Demand
operation_demand n (Int' i) text apart k = demand_if (k == 0) n (Each Inferred) int
operation_demand n (Bool' b) text apart k = demand_if (k == 0) n (Each Inferred) boolean
operation_demand n (Template' texts) text apart k = demand_if (k == places texts) n (Each Plain) string
operation_demand n (Sign' sign) text apart k = demand_if (k == 1) n (Each (Checked int)) int
operation_demand n (Compare' o) text apart k = demand_if (k == 2) n (Each (Checked int)) boolean
operation_demand n (Equal' o) text apart k = equality_demand apart (demand_if (k == 2) n (Each Plain) boolean) n
operation_demand n (BuiltIn' name returns) text apart k = call_demand (option_map built_in_signature (built_in_named name)) n k
operation_demand n o text apart k = operator_demand (operator_of o text) n k

abbrev pub is_string : Head → Bool
is_string Str = true
is_string _ = false

abbrev pub is_text : Option KtType → Bool
is_text None = false
is_text (Some t) = is_string t.head

abbrev pub first_of : List (Option KtType) → Option KtType
first_of [] = None
first_of (t ∷ ts) = t

-- `Int`, `Boolean` and `String`: no value is of two of them
abbrev pub are_apart : Head → Head → Bool
are_apart Int Boolean = true
are_apart Int Str = true
are_apart Boolean Int = true
are_apart Boolean Str = true
are_apart Str Int = true
are_apart Str Boolean = true
are_apart a b = false

-- two operands whose declared types are apart, whatever their `?`
abbrev pub apart : List (Option KtType) → Bool
apart (Some a ∷ Some b ∷ []) = are_apart a.head b.head
apart _ = false

-- ---- names

-- a name that is read
abbrev pub name_claim : Span → Option (Option KtType) → Claim
name_claim word None = Breaks UnknownName word
name_claim word (Some None) = Lacks
name_claim word (Some (Some d)) = Gives d

-- The way of a value that is kept in a local: it is checked where the local has a type.
abbrev pub value_way : Option KtType → Way
value_way (Some t) = Checked t
value_way None = Inferred

abbrev pub type_or_none : Option (Option KtType) → Option KtType
type_or_none None = None
type_or_none (Some t) = t

abbrev pub assign_claim : Span → Option (Option KtType) → Claim
assign_claim word None = Breaks UnknownName word
assign_claim word (Some t) = Gives unit

-- ---- declarations

-- The type of a local before its initialiser: one that it has already, else its written one.
abbrev pub known_type : Option (Option KtType) → Option KtType → Option KtType
known_type (Some t) w = t
known_type None w = w

-- No local is declared inside its own initialiser.
abbrev pub declaration_claim : Mark → (before behind : Option (Option KtType)) → Claim
declaration_claim n None (Some t) = Breaks Syntax n.span
declaration_claim n before behind = Gives unit

-- ---- compound assignments

-- The old value is read as the operator's left operand; a finding there stands at the name.
abbrev pub old_value : TypeContext → Way → Span → Option (Option KtType) → LocalTypes → Judgement
old_value cx way word old locals =
    let o = claimed cx.classes way word (name_claim word old) in
    record { found = type_in o; rows = []; findings = finding_in o; locals = locals }

-- What is made is kept in the local; a finding there stands at the whole assignment.
abbrev pub kept : Outcome → Claim
kept (Stands t) = Gives unit
kept (Refused rule at) = Breaks rule at
kept Untyped = Lacks

abbrev pub kept_claim : Classes → Mark → KtType → Option KtType → Claim
kept_claim classes n d None = Lacks
kept_claim classes n d (Some t) = kept (settled classes (Checked t) d n.span)

-- `x++` and `x--` have no tree for their operand, which is a number.
abbrev pub compound_claim : TypeContext → Mark → Option Operator → Option KtType → ℕ → Claim
compound_claim cx n None t k = Breaks Syntax n.span
compound_claim cx n (Some o) t k = if nat_le k 1 then kept_claim cx.classes n o.gives t else Breaks Syntax n.span

abbrev pub left_way : Option Operator → Way
left_way None = Inferred
left_way (Some o) = o.left

abbrev pub right_way : Option Operator → Way
right_way None = Inferred
right_way (Some o) = o.right

-- ---- parentheses

-- What stands in parentheses is valued.
abbrev pub inside : Way → Way
inside Unvalued = Plain
inside way = way

-- They have the type of what is in them, and no finding of their own.
abbrev pub enclosed : Mark → Judgement → Judgement
enclosed n e = record e { rows = e.rows ++ record { tree = n.number; found = e.found } ∷ [] }

-- ---- branches and returns

-- Of the statements of a branch the last alone counts as a part.
abbrev pub last_of : List (Option KtType) → List (Option KtType)
last_of [] = []
last_of (t ∷ []) = t ∷ []
last_of (t ∷ u ∷ ts) = last_of (u ∷ ts)

-- Where the value of an `if` is taken its branches are checked as it is, else inferred. Of the statements of a branch the last alone is valued.
abbrev pub branch_way : Way → Way
branch_way (Checked t) = Checked t
branch_way way = Inferred

abbrev pub branch_ways : Way → Trees → Ways
branch_ways way Empty' = Each way
branch_ways way (First' t Empty') = Each way
branch_ways way (First' t (First' u rest)) = Then Unvalued (branch_ways way (First' u rest))

-- An `if` has the type that its branches are checked against, else their upper bound.
abbrev pub joined_type : Classes → Way → KtType → KtType → KtType
joined_type classes (Checked t) a b = t
joined_type classes way a b = upper_of classes a b

-- A block whose last tree is a declaration or an assignment has the value `Unit`, as one without trees.
abbrev pub is_declaration_or_assignment : Tree → Bool
is_declaration_or_assignment (Declare' n x) = true
is_declaration_or_assignment (Local' n at x e) = true
is_declaration_or_assignment (Assign' n at x fixed e) = true
is_declaration_or_assignment (Compound' n at x fixed o operand) = true
is_declaration_or_assignment _ = false

abbrev pub has_nothing : List (Option KtType) → Bool
has_nothing [] = false
has_nothing (None ∷ ts) = has_nothing ts
has_nothing (Some t ∷ ts) = (is_nothing_head t.head && not t.nullable) || has_nothing ts

-- whether no path leads to the end of a block that ends so, and a tree in it is of type `Nothing`, where these are the types of its trees
abbrev pub never_ends : TypeContext → List (Option KtType) → Trees → Bool
never_ends cx found Empty' = false
never_ends cx found (First' t Empty') = is_declaration_or_assignment t && (has_nothing found && not (cx.is_left (number t)))
never_ends cx found (First' t (First' u rest)) = never_ends cx found (First' u rest)

-- The value of a block that never ends need not fit.
abbrev pub end_way : Bool → Way → Way
end_way true way = Unvalued
end_way false way = way

-- A block without trees; a finding names the block. A branch that isn't there has no value.
abbrev pub empty_block : Classes → Way → LocalTypes → Option Span → Judgements
empty_block classes way locals None = no_trees locals
empty_block classes way locals (Some at) =
    let o = claimed classes way at (Gives unit) in
    record { each_found = type_in o ∷ []; rows = []; findings = finding_in o; locals = locals }

-- a branch whose value is taken, by what is said of its trees in such ways
abbrev pub of_branch : TypeContext → Way → (at : Option Span) → Trees → LocalTypes → (Ways → Judgements) → Judgements
of_branch cx way at Empty' locals judge = empty_block cx.classes way locals at
of_branch cx way at (First' t rest) locals judge =
    judge (branch_ways (end_way (never_ends cx (judge (Each Unvalued)).each_found (First' t rest)) way) (First' t rest))

-- by the types of the last statements of its branches
abbrev pub joined_claim : Classes → Way → Mark → List (Option KtType) → List (Option KtType) → Claim
joined_claim classes way n (Some a ∷ xs) (Some b ∷ ys) = Gives (joined_type classes way a b)
joined_claim classes way n (a ∷ xs) (b ∷ ys) = Lacks
joined_claim classes way n xs ys = Breaks Syntax n.span

-- a condition, and the statements of two branches behind it
abbrev pub branched : Judgement → Judgements → Judgements → Judgements
branched c a b =
    record { each_found = c.found ∷ (last_of a.each_found ++ last_of b.each_found); rows = c.rows ++ (a.rows ++ b.rows); findings = c.findings ++ (a.findings ++ b.findings); locals = b.locals }

abbrev pub is_unit : KtType → Bool
is_unit t = is_unit_head t.head && not t.nullable
  where
    is_unit_head : Head → Bool
    is_unit_head UnitHead = true
    is_unit_head _ = false

abbrev pub unit_if : Bool → Mark → Claim
unit_if true n = Gives nothing
unit_if false n = Breaks Mismatch n.span

-- A `return` without a value stands where the result is `Unit`.
abbrev pub bare_return : Option KtType → Mark → Claim
bare_return None n = Gives nothing
bare_return (Some t) n = unit_if (is_unit t) n

abbrev pub return_claim : Option KtType → Mark → ℕ → Claim
return_claim result n zero = bare_return result n
return_claim result n (suc zero) = Gives nothing
return_claim result n (suc (suc k)) = Breaks Syntax n.span

-- ---- what is not open

abbrev pub not_open : TypeContext → Way → Mark → LocalTypes → Judgement
not_open cx way n locals = closed cx way n (no_trees locals) (Breaks Syntax n.span)

-- ---- a tree in its way, given the types of the locals before it; and trees one behind another

unfoldable mutual
  pub judged : TypeContext → Way → LocalTypes → Tree → Judgement
  judged cx way locals (Operation' n o parts) =
      let text = is_text (first_of (all_judged cx (Each Inferred) locals parts).each_found) in
      let demand = operation_demand n o text (apart (all_judged cx (Each Plain) locals parts).each_found) (count parts) in
      closed cx way n (all_judged cx demand.ways locals parts) demand.claim
  judged cx way locals (Name' n at x) = closed cx way n (no_trees locals) (name_claim n.word (look_up locals x))
  judged cx way locals (Paren' n e) = enclosed n (judged cx (inside way) locals e)
  judged cx way locals (Declare' n x) = closed cx way n (no_trees (declared locals x (cx.written x))) (Gives unit)
  judged cx way locals (Local' n at x e) =
      let before = look_up locals x in
      let value = judged cx (value_way (known_type before (cx.written x))) locals e in
      let parts = alone (record value { locals = initialised value.locals x (cx.written x) value.found }) in
      closed cx way n parts (declaration_claim n before (look_up value.locals x))
  judged cx way locals (Assign' n at x fixed e) =
      let target = look_up locals x in
      closed cx way n (alone (judged cx (value_way (type_or_none target)) locals e)) (assign_claim n.word target)
  judged cx way locals (Compound' n at x fixed o operand) =
      let old = look_up locals x in
      let operator = operator_of o (is_text (type_or_none old)) in
      let parts = in_front (old_value cx (left_way operator) n.word old locals) (all_judged cx (Each (right_way operator)) locals operand) in
      closed cx way n parts (compound_claim cx n operator (type_or_none old) (count operand))
  judged cx way locals (Call' n f returns arguments) =
      let demand = call_demand (cx.signature f) n (count arguments) in
      closed cx way n (all_judged cx demand.ways locals arguments) demand.claim
  judged cx way locals (Not' n e) = closed cx way n (alone (judged cx (Checked boolean) locals e)) (Gives boolean)
  judged cx way locals (And' n a b) =
      let left = judged cx (Checked boolean) locals a in
      closed cx way n (in_front left (alone (judged cx (Checked boolean) left.locals b))) (Gives boolean)
  judged cx way locals (Or' n a b) =
      let left = judged cx (Checked boolean) locals a in
      closed cx way n (in_front left (alone (judged cx (Checked boolean) left.locals b))) (Gives boolean)
  judged cx Unvalued locals (If' n braces c a b) =
      let condition = judged cx (Checked boolean) locals c in
      let first = all_judged cx (Each Unvalued) condition.locals a in
      let second = all_judged cx (Each Unvalued) first.locals b in
      closed cx Unvalued n (branched condition first second) (Gives unit)
  -- The branches are checked, so the tree is not checked once more.
  judged cx way locals (If' n braces c a b) =
      let condition = judged cx (Checked boolean) locals c in
      let first = of_branch cx (branch_way way) braces.first a condition.locals (λ ways. all_judged cx ways condition.locals a) in
      let second = of_branch cx (branch_way way) braces.second b first.locals (λ ways. all_judged cx ways first.locals b) in
      closed cx Plain n (branched condition first second) (joined_claim cx.classes way n (last_of first.each_found) (last_of second.each_found))
  judged cx way locals (Return' n value) =
      closed cx way n (all_judged cx (Each (value_way cx.result)) locals value) (return_claim cx.result n (count value))
  -- the forms that are not open
  judged cx way locals (Throw' n e) = not_open cx way n locals
  judged cx way locals (Shut' n) = not_open cx way n locals

  pub all_judged : TypeContext → Ways → LocalTypes → Trees → Judgements
  all_judged cx ways locals Empty' = no_trees locals
  all_judged cx ways locals (First' t rest) =
      let x = judged cx (first_way ways) locals t in in_front x (all_judged cx (rest_ways ways) x.locals rest)

-- ---- a body

-- each argument is checked against the written type of its parameter
abbrev pub parameter_ways : (ℕ → Option KtType) → List ℕ → Ways
parameter_ways written [] = Each Inferred
parameter_ways written (x ∷ xs) = Then (value_way (written x)) (parameter_ways written xs)

abbrev pub function_signature : (ℕ → Option KtType) → List ℕ → KtType → Signature
function_signature written parameters result =
    record { least = length parameters; most = length parameters; ways = parameter_ways written parameters; result = result }

-- A function that is called has a written result; that of a block without one is `Unit`.
abbrev pub open_signature : (ℕ → Option KtType) → List ℕ → Option KtType → Option Signature
open_signature written parameters result = option_map (function_signature written parameters) result

unfoldable pub signature_of : Resolved → ℕ → Option Signature
signature_of resolved f =
    open_signature (declaration_type resolved) (parameters_at resolved f) (declaration_type resolved (function_place f))

abbrev pub owner_result : Resolved → Owner → Option KtType
owner_result resolved (owner.Function f) = declaration_type resolved (function_place f)
owner_result resolved _ = None

abbrev pub context_of : Classes → Resolved → (is_left : ℕ → Bool) → Owner → TypeContext
context_of classes resolved is_left o =
    record { classes = classes; written = declaration_type resolved; signature = signature_of resolved; result = owner_result resolved o; is_left = is_left }

-- parameters have their written types before the body
abbrev pub parameter_types : TypeContext → LocalTypes → List ℕ → LocalTypes
parameter_types cx locals [] = locals
parameter_types cx locals (x ∷ xs) = parameter_types cx (declared locals x (cx.written x)) xs

-- The statements of a block are not valued; an expression that is a body must give the function's result.
abbrev pub written_ways : Option KtType → FunctionBody → Ways
written_ways result (written.Expr e) = Each (value_way result)
written_ways result (written.Block contract block) = Each Unvalued

abbrev pub body_ways : Option KtType → Option FunctionBody → Ways
body_ways result None = Each Unvalued
body_ways result (Some body) = written_ways result body

abbrev pub function_ways : Option KtType → Option FunctionDecl → Ways
function_ways result None = Each Unvalued
function_ways result (Some f) = body_ways result f.body

abbrev pub owner_ways : File → Resolved → Owner → Ways
owner_ways file resolved (owner.Function f) = function_ways (declaration_type resolved (function_place f)) (slice_get file.functions f)
owner_ways file resolved _ = Each Unvalued

-- what is said of the trees of an owner's body, by which of them a path leads out of
unfoldable pub body_judged : File → Classes → Resolved → (is_left : ℕ → Bool) → Owner → Judgements
body_judged file classes resolved is_left o =
    let cx = context_of classes resolved is_left o in
    all_judged cx (owner_ways file resolved o) (parameter_types cx [] (owner_parameters resolved o)) (owner_trees file resolved o)

-- Some path of the body's graph ends at the `out` of the tree with this number.
pub record IsLeft (parameters : List ℕ) (body : Trees) (tree : ℕ) : Type 0 where
  pub node : Node
  pub same_tree : node.tree ≡ tree
  pub leaves : node.tag ≡ Out
  pub path : List Node
  pub is_path : IsNodePath (body_edges parameters body) (node ∷ path)

-- For every tree number it is settled whether a path leads out of such a tree.
pub record SettlesLeft (parameters : List ℕ) (body : Trees) : Type 0 where
  pub is_left : ℕ → Bool
  pub by_paths : (tree : ℕ) → IsTrue (is_left tree) ↔ IsLeft parameters body tree

-- A typing rule is violated in an owner's body.
pub record IsTypingFinding (file : File) (classes : Classes) (resolved : Resolved) (o : Owner) (f : Finding) : Type 0 where
  pub left : SettlesLeft (owner_parameters resolved o) (owner_trees file resolved o)
  pub violated : Contains (body_judged file classes resolved left.is_left o).findings f
