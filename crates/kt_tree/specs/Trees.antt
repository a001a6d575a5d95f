-- The trees that phrases are made into: which parts of a phrase become which part of a tree. Trees are numbered from 1 in preorder.
-- The shapes are this project's own.
use Rattle.std.specs.Prelude.{ℕ, ◌+◌, ◌-◌, Bool, true, false, ◌||◌, ◌&&◌, not, nat_lt, is_some, if◌then◌else◌, List, [], ◌∷◌, ◌++◌, length, Option, Some, None, option_map, slice_get}
use Rattle.kt_tree.specs.declared.grammar.built.Built.{Built}
use Rattle.kt_tree.specs.declared.grammar.built.Built.TheVariants as b
use Rattle.kt_tree.specs.declared.grammar.terminal.Terminal.{Terminal}
use Rattle.kt_tree.specs.declared.grammar.terminal.Terminal.TheVariants as terminal
use Rattle.kt_tree.specs.declared.grammar.phrase.Form.{Form}
use Rattle.kt_tree.specs.declared.grammar.phrase.Form.TheVariants as f
use Rattle.kt_tree.specs.declared.ast.part.Access.TheVariants as access
use Rattle.kt_tree.specs.declared.ast.part.Sign.TheVariants as sign
use Rattle.kt_tree.specs.declared.ast.part.Arithmetic.{Arithmetic}
use Rattle.kt_tree.specs.declared.ast.part.Arithmetic.TheVariants as arithmetic
use Rattle.kt_tree.specs.declared.ast.part.Comparison.{Comparison}
use Rattle.kt_tree.specs.declared.ast.part.Comparison.TheVariants as compare
use Rattle.kt_tree.specs.declared.ast.part.Equality.{Equality}
use Rattle.kt_tree.specs.declared.ast.part.Equality.TheVariants as equal
use Rattle.kt_tree.specs.declared.ast.part.Assignment.{Assignment}
use Rattle.kt_tree.specs.declared.ast.part.Assignment.TheVariants as assign
use Rattle.kt_tree.specs.declared.ast.part.Progression.{Progression}
use Rattle.kt_tree.specs.declared.ast.part.Progression.TheVariants as progress
use Rattle.kt_tree.specs.declared.token.Span.{Span}
use Rattle.kt_tree.specs.declared.token.Token.{Token}
use Rattle.kt_tree.specs.declared.token.Kind.{Kind}
use Rattle.kt_tree.specs.declared.token.Kind.TheVariants as k
use Rattle.kt_tree.specs.declared.tokens.Tokens.{Tokens}
use Rattle.kt_tree.specs.declared.ast.part.Ident.{Ident}
use Rattle.kt_tree.specs.declared.ast.part.TypeRef.{TypeRef}
use Rattle.kt_tree.specs.declared.ast.part.LambdaParameter.{LambdaParameter}
use Rattle.kt_tree.specs.declared.ast.body.Expr.{Expr}
use Rattle.kt_tree.specs.declared.ast.body.ExprKind.{ExprKind}
use Rattle.kt_tree.specs.declared.ast.body.ExprKind.TheVariants as e
use Rattle.kt_tree.specs.declared.ast.body.Stmt.{Stmt}
use Rattle.kt_tree.specs.declared.ast.body.Stmt.TheVariants as statement
use Rattle.kt_tree.specs.declared.ast.body.Block.{Block, roll-Block}
use Rattle.kt_tree.specs.declared.ast.body.Branch.{Branch}
use Rattle.kt_tree.specs.declared.ast.body.Branch.TheVariants as branches
use Rattle.kt_tree.specs.declared.ast.body.Lambda.{Lambda}
use Rattle.kt_tree.specs.declared.ast.body.WhenBranch.{WhenBranch, roll-WhenBranch}
use Rattle.kt_tree.specs.declared.ast.body.Condition.{Condition}
use Rattle.kt_tree.specs.declared.ast.body.Condition.TheVariants as conditions
use Rattle.kt_tree.specs.declared.ast.body.Catch.{Catch}
use Rattle.kt_tree.specs.declared.ast.body.Subject.{Subject}
use Rattle.kt_tree.specs.declared.ast.body.StringPart.{StringPart}
use Rattle.kt_tree.specs.declared.ast.body.StringPart.TheVariants as pieces
use Rattle.kt_tree.specs.declared.ast.declaration.FunctionDecl.{FunctionDecl}
use Rattle.kt_tree.specs.declared.ast.declaration.Parameter.{Parameter}
use Rattle.kt_tree.specs.declared.ast.declaration.ParameterType.{ParameterType}
use Rattle.kt_tree.specs.declared.ast.declaration.ParameterType.TheVariants as kind
use Rattle.kt_tree.specs.declared.ast.declaration.FunctionBody.{FunctionBody}
use Rattle.kt_tree.specs.declared.ast.declaration.FunctionBody.TheVariants as body
use Rattle.kt_tree.specs.declared.ast.declaration.Contract.{Contract}
use Rattle.kt_tree.specs.declared.ast.declaration.Effect.{Effect}
use Rattle.kt_tree.specs.declared.ast.declaration.EffectKind.{EffectKind}
use Rattle.kt_tree.specs.declared.ast.declaration.EffectKind.TheVariants as effects
use Rattle.kt_tree.specs.declared.ast.declaration.Returned.{Returned}
use Rattle.kt_tree.specs.declared.ast.declaration.Returned.TheVariants as returned
use Rattle.kt_tree.specs.declared.ast.declaration.ClassDecl.{ClassDecl}
use Rattle.kt_tree.specs.declared.ast.declaration.ClassKeyword.TheVariants as keyword
use Rattle.kt_tree.specs.declared.ast.declaration.ClassParameter.{ClassParameter}
use Rattle.kt_tree.specs.declared.ast.declaration.Supertype.{Supertype}
use Rattle.kt_tree.specs.declared.ast.declaration.Member.{Member}
use Rattle.kt_tree.specs.declared.ast.declaration.Member.TheVariants as members
use Rattle.kt_tree.specs.declared.ast.declaration.PropertyDecl.{PropertyDecl}
use Rattle.kt_tree.specs.declared.ast.declaration.Getter.{Getter}
use Rattle.kt_tree.specs.declared.ast.declaration.Modifier.{Modifier}
use Rattle.kt_tree.specs.declared.ast.declaration.ModifierKind.{ModifierKind}
use Rattle.kt_tree.specs.declared.ast.declaration.ModifierKind.TheVariants as modifiers
use Rattle.kt_tree.specs.declared.grammar.phrase.Phrase.{Phrase}
use Rattle.kt_tree.specs.declared.grammar.phrase.Phrase.TheOpen.{Phrase-F}
use Rattle.kt_tree.specs.declared.grammar.phrase.Phrase.TheFolds.{fold-Phrase}
use Rattle.kt_tree.specs.Derives.{is_tree}
use Rattle.kt_tree.specs.Parts.{◌>>=◌, end_with, many, maybe_many, kind_at, span_at, span_between, terminal_at, named, valued, after_dollar, ident, maybe_ident, ident_at, string_piece, modifier, block_of, when_branch_of, token, written, expr, stmt, block, branch, lambda_parameter, when_branch, condition, catch, parameter, parameter_type, effect, class_parameter, supertype, member, getter_body, maybe_token, maybe_type, maybe_expr, maybe_block, maybe_branch, maybe_lambda, maybe_subject, maybe_subject_name, maybe_contract, maybe_getter, maybe_body}

-- ---- operators

abbrev pub is_true : Option Kind → Bool
is_true (Some k.True) = true
is_true _ = false

abbrev pub is_var : Option Kind → Bool
is_var (Some k.Var) = true
is_var _ = false

abbrev pub prefixed : Option Kind → Expr → ExprKind
prefixed (Some k.Minus) x = e.Sign sign.Minus x
prefixed (Some k.Plus) x = e.Sign sign.Plus x
prefixed _ x = e.Not x

abbrev pub cast : Option Kind → Expr → TypeRef → ExprKind
cast (Some k.AsSafe) x t = e.AsSafe x t
cast _ x t = e.As x t

abbrev pub tested : Option Kind → Expr → TypeRef → ExprKind
tested (Some k.NotIs) x t = e.IsNot x t
tested _ x t = e.Is x t

abbrev pub condition_of : Option Kind → Span → TypeRef → Condition
condition_of (Some k.NotIs) span t = conditions.IsNot span t
condition_of _ span t = conditions.Is span t

abbrev pub sum : Option Kind → Expr → Expr → ExprKind
sum (Some k.Minus) x y = e.Arithmetic arithmetic.Subtract x y
sum _ x y = e.Sum x y

abbrev pub factor : Option Kind → Arithmetic
factor (Some k.Slash) = arithmetic.Divide
factor (Some k.Percent) = arithmetic.Remainder
factor _ = arithmetic.Multiply

abbrev pub comparison : Option Kind → Comparison
comparison (Some k.Greater) = compare.Greater
comparison (Some k.LessEqual) = compare.LessOrEqual
comparison (Some k.GreaterEqual) = compare.GreaterOrEqual
comparison _ = compare.Less

abbrev pub equality : Option Kind → Equality
equality (Some k.NotEqual) = equal.NotEqual
equality _ = equal.Equal

abbrev pub jump : Option Kind → ExprKind
jump (Some k.Continue) = e.Continue
jump _ = e.Break

-- `++` and `--` are a sum and a difference without a value
abbrev pub assignment : Option Kind → Assignment
assignment (Some k.PlusAssign) = assign.Sum
assignment (Some k.PlusPlus) = assign.Sum
assignment (Some k.MinusAssign) = assign.Arithmetic arithmetic.Subtract
assignment (Some k.MinusMinus) = assign.Arithmetic arithmetic.Subtract
assignment (Some k.StarAssign) = assign.Arithmetic arithmetic.Multiply
assignment (Some k.SlashAssign) = assign.Arithmetic arithmetic.Divide
assignment (Some k.PercentAssign) = assign.Arithmetic arithmetic.Remainder
assignment _ = assign.Plain

abbrev pub progression : Terminal → Progression
progression terminal.Until = progress.Until
progression terminal.DownTo = progress.DownTo
progression _ = progress.RangeTo

abbrev pub labelled : Option Kind → Ident → Option Ident
labelled (Some (k.ReturnAt n)) x = Some x
labelled _ x = None

abbrev pub label_at : Tokens → ℕ → Option Ident
label_at ts at = labelled (kind_at ts at) (ident_at ts at)

abbrev pub returned_of : Option Kind → Returned
returned_of (Some k.True) = returned.True
returned_of (Some k.False) = returned.False
returned_of _ = returned.Null

abbrev pub returned_literal : Tokens → Option ℕ → Returned
returned_literal ts (Some t) = returned_of (kind_at ts t)
returned_literal ts None = returned.Normal

abbrev pub subject_of : Option (Ident × Option TypeRef) → Expr → Subject
subject_of (Some p) x = record { variable = Some p.0; written = p.1; value = x }
subject_of None x = record { variable = None; written = None; value = x }

-- ---- expressions

unfoldable pub int : Tokens → List Built → ExprKind
int ts = do
  t ← token
  end_with (e.Int (valued (kind_at ts t)))

unfoldable pub boolean : Tokens → List Built → ExprKind
boolean ts = do
  t ← token
  end_with (e.Bool (is_true (kind_at ts t)))

unfoldable pub null : List Built → ExprKind
null = end_with e.Null

unfoldable pub this : List Built → ExprKind
this = end_with e.This

unfoldable pub this_piece : List Built → ExprKind
this_piece = end_with e.This

unfoldable pub name_kind : Tokens → List Built → ExprKind
name_kind ts = do
  t ← token
  end_with (e.Name (named (kind_at ts t)))

unfoldable pub template : Tokens → List Built → ExprKind
template ts = do
  mark ← token
  xs ← many (string_piece ts)
  end_with (e.Template xs)

unfoldable pub paren : List Built → ExprKind
paren = do
  mark ← token
  x ← expr
  end_with (e.Paren x)

unfoldable pub call_kind : Tokens → List Built → ExprKind
call_kind ts = do
  callee ← ident ts
  xs ← many expr
  body ← maybe_lambda
  end_with (e.Call callee xs body)

unfoldable pub member_kind : Tokens → List Built → ExprKind
member_kind ts = do
  x ← expr
  called ← ident ts
  end_with (e.Member x access.Dot called)

unfoldable pub safe_member : Tokens → List Built → ExprKind
safe_member ts = do
  x ← expr
  called ← ident ts
  end_with (e.Member x access.Safe called)

unfoldable pub member_call : Tokens → List Built → ExprKind
member_call ts = do
  x ← expr
  called ← ident ts
  xs ← many expr
  end_with (e.MemberCall x access.Dot called xs)

unfoldable pub safe_member_call : Tokens → List Built → ExprKind
safe_member_call ts = do
  x ← expr
  called ← ident ts
  xs ← many expr
  end_with (e.MemberCall x access.Safe called xs)

unfoldable pub not_null : List Built → ExprKind
not_null = do
  x ← expr
  end_with (e.NotNull x)

unfoldable pub prefixed_kind : Tokens → List Built → ExprKind
prefixed_kind ts = do
  t ← token
  x ← expr
  end_with (prefixed (kind_at ts t) x)

unfoldable pub cast_kind : Tokens → List Built → ExprKind
cast_kind ts = do
  x ← expr
  t ← token
  ty ← written
  end_with (cast (kind_at ts t) x ty)

unfoldable pub sum_kind : Tokens → List Built → ExprKind
sum_kind ts = do
  x ← expr
  t ← token
  y ← expr
  end_with (sum (kind_at ts t) x y)

unfoldable pub product_kind : Tokens → List Built → ExprKind
product_kind ts = do
  x ← expr
  t ← token
  y ← expr
  end_with (e.Arithmetic (factor (kind_at ts t)) x y)

unfoldable pub compare_kind : Tokens → List Built → ExprKind
compare_kind ts = do
  x ← expr
  t ← token
  y ← expr
  end_with (e.Compare (comparison (kind_at ts t)) x y)

unfoldable pub equal_kind : Tokens → List Built → ExprKind
equal_kind ts = do
  x ← expr
  t ← token
  y ← expr
  end_with (e.Equal (equality (kind_at ts t)) x y)

unfoldable pub and_kind : List Built → ExprKind
and_kind = do
  x ← expr
  y ← expr
  end_with (e.And x y)

unfoldable pub or_kind : List Built → ExprKind
or_kind = do
  x ← expr
  y ← expr
  end_with (e.Or x y)

unfoldable pub elvis_kind : List Built → ExprKind
elvis_kind = do
  x ← expr
  y ← expr
  end_with (e.Elvis x y)

unfoldable pub is_type : Tokens → List Built → ExprKind
is_type ts = do
  x ← expr
  t ← token
  ty ← written
  end_with (tested (kind_at ts t) x ty)

unfoldable pub if_kind : List Built → ExprKind
if_kind = do
  mark ← token
  c ← expr
  x ← branch
  y ← maybe_branch
  end_with (e.If c x y)

unfoldable pub when_kind : List Built → ExprKind
when_kind = do
  mark ← token
  x ← maybe_subject
  xs ← many when_branch
  end_with (e.When x xs)

unfoldable pub try_kind : List Built → ExprKind
try_kind = do
  mark ← token
  x ← block
  xs ← many catch
  y ← maybe_block
  end_with (e.Try x xs y)

unfoldable pub return_kind : Tokens → List Built → ExprKind
return_kind ts = do
  t ← token
  x ← maybe_expr
  end_with (e.Return (label_at ts t) x)

unfoldable pub throw : List Built → ExprKind
throw = do
  mark ← token
  x ← expr
  end_with (e.Throw x)

unfoldable pub jump_kind : Tokens → List Built → ExprKind
jump_kind ts = do
  t ← token
  end_with (jump (kind_at ts t))

-- ---- what else is made

unfoldable pub lambda : ℕ → Span → List Built → Built
lambda n span = do
  mark ← token
  xs ← many lambda_parameter
  ss ← many stmt
  end_with (b.Lambda (record { number = n; span = span; parameters = xs; body = block_of span ss }))

unfoldable pub lambda_parameter_form : Tokens → List Built → Built
lambda_parameter_form ts = do
  x ← ident ts
  ty ← maybe_type
  end_with (b.LambdaParameter (record { name = x; written = ty }))

unfoldable pub local : Tokens → ℕ → Span → List Built → Built
local ts n span = do
  t ← token
  x ← ident ts
  ty ← maybe_type
  v ← maybe_expr
  end_with (b.Stmt (statement.Local n span (is_var (kind_at ts t)) x ty v))

unfoldable pub assignment_form : Tokens → ℕ → Span → List Built → Built
assignment_form ts n span = do
  x ← expr
  t ← token
  v ← maybe_expr
  end_with (b.Stmt (statement.Assign n span x (assignment (kind_at ts t)) v))

unfoldable pub while_loop : ℕ → Span → List Built → Built
while_loop n span = do
  mark ← token
  c ← expr
  x ← branch
  end_with (b.Stmt (statement.While n span c x))

unfoldable pub do_while : ℕ → Span → List Built → Built
do_while n span = do
  mark ← token
  x ← block
  c ← expr
  end_with (b.Stmt (statement.DoWhile n span x c))

unfoldable pub for_loop : Tokens → ℕ → Span → List Built → Built
for_loop ts n span = do
  mark ← token
  v ← ident ts
  ty ← maybe_type
  low ← expr
  t ← token
  high ← expr
  x ← branch
  end_with (b.Stmt (statement.For n span v ty low (progression (terminal_at ts t)) high x))

unfoldable pub block_form : Span → List Built → Built
block_form span = do
  mark ← token
  ss ← many stmt
  end_with (b.Block (block_of span ss))

unfoldable pub written_type : Tokens → Span → List Built → Built
written_type ts span = do
  x ← ident ts
  q ← maybe_token
  end_with (b.Type (record { name = x; nullable = is_some q; span = span }))

unfoldable pub type_condition : Tokens → Span → List Built → Built
type_condition ts span = do
  t ← token
  ty ← written
  end_with (b.Condition (condition_of (kind_at ts t) span ty))

unfoldable pub else_branch : Tokens → List Built → Built
else_branch ts = do
  t ← token
  x ← branch
  end_with (b.WhenBranch (when_branch_of None (span_at ts t) x))

unfoldable pub condition_branch : Tokens → ℕ → List Built → Built
condition_branch ts first = do
  xs ← many condition
  x ← branch
  end_with (b.WhenBranch (when_branch_of (Some xs) (span_at ts first) x))

unfoldable pub catch_clause : Tokens → List Built → Built
catch_clause ts = do
  mark ← token
  x ← ident ts
  ty ← written
  y ← block
  end_with (b.Catch (record { name = x; caught = ty; body = y }))

unfoldable pub subject_name : Tokens → List Built → Built
subject_name ts = do
  x ← ident ts
  ty ← maybe_type
  end_with (b.SubjectName x ty)

unfoldable pub subject : List Built → Built
subject = do
  x ← maybe_subject_name
  v ← expr
  end_with (b.Subject (subject_of x v))

unfoldable pub function : Tokens → Span → List Built → Built
function ts span = do
  ms ← many (modifier ts)
  mark ← token
  x ← ident ts
  xs ← many parameter
  ty ← maybe_type
  y ← maybe_body
  end_with (b.Function (record { span = span; modifiers = ms; name = x; parameters = xs; result = ty; body = y }))

unfoldable pub function_block : Span → List Built → Built
function_block span = do
  mark ← token
  x ← maybe_contract
  ss ← many stmt
  end_with (b.FunctionBlock x (block_of span ss))

unfoldable pub parameter_form : Tokens → Span → List Built → Built
parameter_form ts span = do
  x ← ident ts
  ty ← parameter_type
  end_with (b.Parameter (record { span = span; name = x; kind = ty }))

unfoldable pub function_type : List Built → Built
function_type = do
  xs ← many written
  ty ← written
  end_with (b.FunctionType xs ty)

unfoldable pub contract : Tokens → Span → List Built → Built
contract ts span = do
  t ← token
  xs ← many effect
  end_with (b.Contract (record { span = span; word = span_at ts t; effects = xs }))

unfoldable pub returns_effect : Tokens → Span → List Built → Built
returns_effect ts span = do
  mark ← token
  t ← maybe_token
  x ← expr
  end_with (b.Effect (record { span = span; kind = effects.Returns (returned_literal ts t) x }))

unfoldable pub returns_not_null : Span → List Built → Built
returns_not_null span = do
  mark ← token
  x ← expr
  end_with (b.Effect (record { span = span; kind = effects.Returns returned.NotNull x }))

unfoldable pub calls_in_place : Tokens → Span → List Built → Built
calls_in_place ts span = do
  mark ← token
  x ← ident ts
  y ← maybe_ident ts
  end_with (b.Effect (record { span = span; kind = effects.CallsInPlace x y }))

unfoldable pub class_decl : Tokens → Span → List Built → Built
class_decl ts span = do
  ms ← many (modifier ts)
  mark ← token
  x ← ident ts
  xs ← maybe_many class_parameter
  ys ← many supertype
  zs ← maybe_many member
  end_with (b.Class (record { span = span; modifiers = ms; keyword = keyword.Class; name = x; parameters = xs; supertypes = ys; members = zs }))

unfoldable pub interface_decl : Tokens → Span → List Built → Built
interface_decl ts span = do
  ms ← many (modifier ts)
  mark ← token
  x ← ident ts
  ys ← many supertype
  zs ← maybe_many member
  end_with (b.Class (record { span = span; modifiers = ms; keyword = keyword.Interface; name = x; parameters = None; supertypes = ys; members = zs }))

unfoldable pub class_parameter_form : Tokens → Span → List Built → Built
class_parameter_form ts span = do
  ms ← many (modifier ts)
  t ← maybe_token
  x ← ident ts
  ty ← written
  end_with (b.ClassParameter (record { span = span; modifiers = ms; is_var = option_map (λ t. is_var (kind_at ts t)) t; name = x; written = ty }))

unfoldable pub supertype_form : Tokens → Span → List Built → Built
supertype_form ts span = do
  x ← ident ts
  xs ← maybe_many expr
  end_with (b.Supertype (record { span = span; name = x; arguments = xs }))

unfoldable pub initialiser : List Built → Built
initialiser = do
  mark ← token
  x ← block
  end_with (b.Init x)

unfoldable pub property : Tokens → Span → List Built → Built
property ts span = do
  ms ← many (modifier ts)
  t ← token
  x ← ident ts
  ty ← maybe_type
  v ← maybe_expr
  y ← maybe_getter
  end_with (b.Property (record { span = span; modifiers = ms; is_var = is_var (kind_at ts t); name = x; written = ty; value = v; getter = y }))

unfoldable pub getter : Span → List Built → Built
getter span = do
  mark ← token
  ty ← maybe_type
  y ← getter_body
  end_with (b.Getter (record { span = span; written = ty; body = y }))

-- the kind of the tree of this form
unfoldable pub expression_kind : Tokens → Form → List Built → ExprKind
expression_kind ts f.Int = int ts
expression_kind ts f.Bool = boolean ts
expression_kind ts f.Null = null
expression_kind ts f.This = this
expression_kind ts f.ThisPiece = this_piece
expression_kind ts f.Name = name_kind ts
expression_kind ts f.Template = template ts
expression_kind ts f.Paren = paren
expression_kind ts f.Call = call_kind ts
expression_kind ts f.Member = member_kind ts
expression_kind ts f.SafeMember = safe_member ts
expression_kind ts f.MemberCall = member_call ts
expression_kind ts f.SafeMemberCall = safe_member_call ts
expression_kind ts f.NotNull = not_null
expression_kind ts f.Prefixed = prefixed_kind ts
expression_kind ts f.Cast = cast_kind ts
expression_kind ts f.Sum = sum_kind ts
expression_kind ts f.Product = product_kind ts
expression_kind ts f.Compare = compare_kind ts
expression_kind ts f.Equal = equal_kind ts
expression_kind ts f.And = and_kind
expression_kind ts f.Or = or_kind
expression_kind ts f.Elvis = elvis_kind
expression_kind ts f.IsType = is_type ts
expression_kind ts f.If = if_kind
expression_kind ts f.When = when_kind
expression_kind ts f.Try = try_kind
expression_kind ts f.Return = return_kind ts
expression_kind ts f.Throw = throw
expression_kind ts f.Jump = jump_kind ts
expression_kind ts f.NamePiece = name_kind ts
expression_kind ts f.NameTarget = name_kind ts
expression_kind ts f.MemberTarget = member_kind ts
expression_kind ts _ = end_with e.Null

-- trees that are no expressions
abbrev pub is_statement : Form → Bool
is_statement f.Lambda = true
is_statement f.Local = true
is_statement f.Assignment = true
is_statement f.While = true
is_statement f.DoWhile = true
is_statement f.For = true
is_statement _ = false

-- what is assigned has the shape of an expression
abbrev pub is_assigned : Form → Bool
is_assigned f.NameTarget = true
is_assigned f.MemberTarget = true
is_assigned _ = false

abbrev pub is_expression : Form → Bool
is_expression form = is_assigned form || (is_tree form && not (is_statement form))

-- an inserted name is the tree of the word without its `$`
abbrev pub tree_span : Form → Span → Span
tree_span f.NamePiece span = after_dollar span
tree_span f.ThisPiece span = after_dollar span
tree_span _ span = span

-- what is no tree has no number
abbrev pub number_of : Form → ℕ → ℕ
number_of form n = if is_tree form then n else 0

abbrev pub expression : Tokens → Form → ℕ → Span → List Built → Expr
expression ts form n span ps = record { number = number_of form n; span = tree_span form span; kind = expression_kind ts form ps }

unfoldable pub other : Tokens → Form → ℕ → Span → ℕ → List Built → Built
other ts f.Lambda n span first = lambda n span
other ts f.LambdaParameter n span first = lambda_parameter_form ts
other ts f.Local n span first = local ts n span
other ts f.Assignment n span first = assignment_form ts n span
other ts f.While n span first = while_loop n span
other ts f.DoWhile n span first = do_while n span
other ts f.For n span first = for_loop ts n span
other ts f.Block n span first = block_form span
other ts f.WrittenType n span first = written_type ts span
other ts f.TypeCondition n span first = type_condition ts span
other ts f.ElseBranch n span first = else_branch ts
other ts f.ConditionBranch n span first = condition_branch ts first
other ts f.Catch n span first = catch_clause ts
other ts f.SubjectName n span first = subject_name ts
other ts f.Subject n span first = subject
other ts f.Function n span first = function ts span
other ts f.FunctionBlock n span first = function_block span
other ts f.Parameter n span first = parameter_form ts span
other ts f.FunctionType n span first = function_type
other ts f.Contract n span first = contract ts span
other ts f.Returns n span first = returns_effect ts span
other ts f.ReturnsNotNull n span first = returns_not_null span
other ts f.CallsInPlace n span first = calls_in_place ts span
other ts f.Class n span first = class_decl ts span
other ts f.Interface n span first = interface_decl ts span
other ts f.ClassParameter n span first = class_parameter_form ts span
other ts f.Supertype n span first = supertype_form ts span
other ts f.Initialiser n span first = initialiser
other ts f.Property n span first = property ts span
other ts f.Getter n span first = getter span
other ts f.Token n span first = end_with (b.Token first)
other ts _ n span first = end_with b.Absent

-- what a phrase of this form is made into; n is the number of the next tree
unfoldable pub assembled : Tokens → Form → ℕ → ℕ → ℕ → List Built → Built
assembled ts form first last n ps =
    if is_expression form then b.Expr (expression ts form n (span_between ts first last) ps)
    else other ts form n (span_between ts first last) first ps

-- ---- whole phrases

-- the number after n, which stands still at the end of its type
abbrev pub after : ℕ → ℕ
after n = if nat_lt n 4294967295 then n + 1 else n

-- what is built from a number on, and the number after it
abbrev pub Building : Type 0
Building = ℕ → List Built × ℕ

abbrev pub all_built : List Building → Building
all_built [] n = ([], n)
all_built (x ∷ xs) n = ((x n).0 ++ (all_built xs (x n).1).0, (all_built xs (x n).1).1)

abbrev pub is_list : Form → Bool
is_list f.List = true
is_list _ = false

abbrev pub built_as : Tokens → Form → ℕ → ℕ → ℕ → ℕ → List Built → List Built
built_as ts form first last n count parts =
    if is_list form then b.Count count ∷ parts else assembled ts form first last n parts ∷ []

-- the number of the first tree inside a phrase of this form
abbrev pub inside : Form → ℕ → ℕ
inside form n = if is_tree form then after n else n

-- a phrase, whose parts are built so
abbrev pub built_of : Tokens → Form → ℕ → ℕ → List Building → Building
built_of ts form first last parts n =
    (built_as ts form first last n (length parts) (all_built parts (inside form n)).0, (all_built parts (inside form n)).1)

abbrev pub built_step : Tokens → Phrase-F Building → Building
built_step ts p = built_of ts p.form p.first p.last p.parts

unfoldable pub built : Tokens → Phrase → Building
built ts = fold-Phrase Building (built_step ts)

-- ---- the file

abbrev pub classes_in : List Built → List ClassDecl
classes_in [] = []
classes_in (b.Class c ∷ bs) = c ∷ classes_in bs
classes_in (_ ∷ bs) = classes_in bs

abbrev pub functions_in : List Built → List FunctionDecl
functions_in [] = []
functions_in (b.Function x ∷ bs) = x ∷ functions_in bs
functions_in (_ ∷ bs) = functions_in bs
