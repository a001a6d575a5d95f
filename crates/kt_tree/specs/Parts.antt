-- Reading the parts of a phrase, from the first to the last. A part of another kind than is asked for, which no production leads to,
-- gives a blank.
use Rattle.std.specs.Prelude.{◌≡◌, ℕ, zero, suc, ◌-◌, ◌+◌, Bool, true, false, List, [], ◌∷◌, Option, Some, None, slice_get, option_map, min, nat_lt, length, if◌then◌else◌}
use Rattle.kt_tree.specs.Classes.{class_at}
use Rattle.kt_tree.specs.declared.grammar.terminal.Terminal.{Terminal}
use Rattle.kt_tree.specs.declared.grammar.terminal.Terminal.TheVariants as terminal
use Rattle.kt_tree.specs.declared.grammar.built.Built.{Built}
use Rattle.kt_tree.specs.declared.grammar.built.Built.TheVariants as b
use Rattle.kt_tree.specs.declared.token.Span.{Span}
use Rattle.kt_tree.specs.declared.token.Token.{Token}
use Rattle.kt_tree.specs.declared.token.Kind.{Kind}
use Rattle.kt_tree.specs.declared.token.Kind.TheVariants as k
use Rattle.kt_tree.specs.declared.tokens.Tokens.{Tokens}
use Rattle.kt_tree.specs.declared.ast.part.Ident.{Ident}
use Rattle.kt_tree.specs.declared.ast.part.TypeRef.{TypeRef}
use Rattle.kt_tree.specs.declared.ast.part.LambdaParameter.{LambdaParameter}
use Rattle.kt_tree.specs.declared.ast.body.Expr.{Expr}
use Rattle.kt_tree.specs.declared.ast.body.ExprKind.{ExprKind}
use Rattle.kt_tree.specs.declared.ast.body.ExprKind.TheVariants as e
use Rattle.kt_tree.specs.declared.ast.body.Stmt.{Stmt}
use Rattle.kt_tree.specs.declared.ast.body.Stmt.TheVariants as statement
use Rattle.kt_tree.specs.declared.ast.body.Block.{Block, roll-Block}
use Rattle.kt_tree.specs.declared.ast.body.Branch.{Branch}
use Rattle.kt_tree.specs.declared.ast.body.Branch.TheVariants as branches
use Rattle.kt_tree.specs.declared.ast.body.Lambda.{Lambda}
use Rattle.kt_tree.specs.declared.ast.body.WhenBranch.{WhenBranch, roll-WhenBranch}
use Rattle.kt_tree.specs.declared.ast.body.Condition.{Condition}
use Rattle.kt_tree.specs.declared.ast.body.Condition.TheVariants as conditions
use Rattle.kt_tree.specs.declared.ast.body.Catch.{Catch}
use Rattle.kt_tree.specs.declared.ast.body.Subject.{Subject}
use Rattle.kt_tree.specs.declared.ast.body.StringPart.{StringPart}
use Rattle.kt_tree.specs.declared.ast.body.StringPart.TheVariants as pieces
use Rattle.kt_tree.specs.declared.ast.declaration.FunctionDecl.{FunctionDecl}
use Rattle.kt_tree.specs.declared.ast.declaration.Parameter.{Parameter}
use Rattle.kt_tree.specs.declared.ast.declaration.ParameterType.{ParameterType}
use Rattle.kt_tree.specs.declared.ast.declaration.ParameterType.TheVariants as kind
use Rattle.kt_tree.specs.declared.ast.declaration.FunctionBody.{FunctionBody}
use Rattle.kt_tree.specs.declared.ast.declaration.FunctionBody.TheVariants as body
use Rattle.kt_tree.specs.declared.ast.declaration.Contract.{Contract}
use Rattle.kt_tree.specs.declared.ast.declaration.Effect.{Effect}
use Rattle.kt_tree.specs.declared.ast.declaration.EffectKind.{EffectKind}
use Rattle.kt_tree.specs.declared.ast.declaration.EffectKind.TheVariants as effects
use Rattle.kt_tree.specs.declared.ast.declaration.Returned.{Returned}
use Rattle.kt_tree.specs.declared.ast.declaration.Returned.TheVariants as returned
use Rattle.kt_tree.specs.declared.ast.declaration.ClassDecl.{ClassDecl}
use Rattle.kt_tree.specs.declared.ast.declaration.ClassKeyword.TheVariants as keyword
use Rattle.kt_tree.specs.declared.ast.declaration.ClassParameter.{ClassParameter}
use Rattle.kt_tree.specs.declared.ast.declaration.Supertype.{Supertype}
use Rattle.kt_tree.specs.declared.ast.declaration.Member.{Member}
use Rattle.kt_tree.specs.declared.ast.declaration.Member.TheVariants as members
use Rattle.kt_tree.specs.declared.ast.declaration.PropertyDecl.{PropertyDecl}
use Rattle.kt_tree.specs.declared.ast.declaration.Getter.{Getter}
use Rattle.kt_tree.specs.declared.ast.declaration.Modifier.{Modifier}
use Rattle.kt_tree.specs.declared.ast.declaration.ModifierKind.{ModifierKind}
use Rattle.kt_tree.specs.declared.ast.declaration.ModifierKind.TheVariants as modifiers

-- ---- blanks

abbrev pub nowhere : Span
nowhere = record { start = 0; end = 0 }

abbrev pub blank_ident : Ident
blank_ident = record { name = 0; span = nowhere }

abbrev pub blank_type : TypeRef
blank_type = record { name = blank_ident; nullable = false; span = nowhere }

abbrev pub blank_expr : Expr
blank_expr = record { number = 0; span = nowhere; kind = e.Null }

abbrev pub block_of : Span → List Stmt → Block
block_of span statements = roll-Block (record { span = span; statements = statements })

abbrev pub blank_block : Block
blank_block = block_of nowhere []

abbrev pub blank_lambda_parameter : LambdaParameter
blank_lambda_parameter = record { name = blank_ident; written = None }

abbrev pub when_branch_of : Option (List Condition) → Span → Branch → WhenBranch
when_branch_of conditions begins body = roll-WhenBranch (record { conditions = conditions; begins = begins; body = body })

abbrev pub blank_when_branch : WhenBranch
blank_when_branch = when_branch_of None nowhere (branches.Single (statement.Expr blank_expr))

abbrev pub blank_catch : Catch
blank_catch = record { name = blank_ident; caught = blank_type; body = blank_block }

abbrev pub blank_parameter : Parameter
blank_parameter = record { span = nowhere; name = blank_ident; kind = kind.Value blank_type }

abbrev pub blank_effect : Effect
blank_effect = record { span = nowhere; kind = effects.CallsInPlace blank_ident None }

abbrev pub blank_class_parameter : ClassParameter
blank_class_parameter = record { span = nowhere; modifiers = []; is_var = None; name = blank_ident; written = blank_type }

abbrev pub blank_supertype : Supertype
blank_supertype = record { span = nowhere; name = blank_ident; arguments = None }

-- ---- readers

abbrev pub Reader : Type 0 → Type 0
Reader A = List Built → A × List Built

infixl 10 ◌>>=◌
abbrev pub ◌>>=◌ : {A B : Type 0} → Reader A → (A → List Built → B) → List Built → B
r >>= f = λ ps. f (r ps).0 (r ps).1

abbrev pub give : {A : Type 0} → A → Reader A
give a ps = (a, ps)

abbrev pub end_with : {A : Type 0} → A → List Built → A
end_with a ps = a

-- what a function that reads ensures
abbrev pub Gives : {A : Type 0} → Reader A → List Built → A → List Built → Type 0
Gives r old a new = r old ≡ (a, new)

abbrev pub token_in : Built → ℕ
token_in (b.Token t) = t
token_in _ = 0

abbrev pub token : Reader ℕ
token (x ∷ ps) = (token_in x, ps)
token [] = (0, [])

abbrev pub count_in : Built → ℕ
count_in (b.Count n) = n
count_in _ = 0

abbrev pub count : Reader ℕ
count (x ∷ ps) = (count_in x, ps)
count [] = (0, [])

abbrev pub written_in : Built → TypeRef
written_in (b.Type t) = t
written_in _ = blank_type

abbrev pub written : Reader TypeRef
written (x ∷ ps) = (written_in x, ps)
written [] = (blank_type, [])

abbrev pub expr_in : Built → Expr
expr_in (b.Expr e) = e
expr_in _ = blank_expr

abbrev pub expr : Reader Expr
expr (x ∷ ps) = (expr_in x, ps)
expr [] = (blank_expr, [])

abbrev pub stmt_in : Built → Stmt
stmt_in (b.Stmt s) = s
stmt_in (b.Expr e) = statement.Expr e
stmt_in _ = statement.Expr blank_expr

abbrev pub stmt : Reader Stmt
stmt (x ∷ ps) = (stmt_in x, ps)
stmt [] = (statement.Expr blank_expr, [])

abbrev pub block_in : Built → Block
block_in (b.Block x) = x
block_in _ = blank_block

abbrev pub block : Reader Block
block (x ∷ ps) = (block_in x, ps)
block [] = (blank_block, [])

abbrev pub branch_in : Built → Branch
branch_in (b.Block x) = branches.Braced x
branch_in (b.Stmt s) = branches.Single s
branch_in (b.Expr e) = branches.Single (statement.Expr e)
branch_in _ = branches.Single (statement.Expr blank_expr)

abbrev pub branch : Reader Branch
branch (x ∷ ps) = (branch_in x, ps)
branch [] = (branches.Single (statement.Expr blank_expr), [])

abbrev pub lambda_parameter_in : Built → LambdaParameter
lambda_parameter_in (b.LambdaParameter x) = x
lambda_parameter_in _ = blank_lambda_parameter

abbrev pub lambda_parameter : Reader LambdaParameter
lambda_parameter (x ∷ ps) = (lambda_parameter_in x, ps)
lambda_parameter [] = (blank_lambda_parameter, [])

abbrev pub when_branch_in : Built → WhenBranch
when_branch_in (b.WhenBranch x) = x
when_branch_in _ = blank_when_branch

abbrev pub when_branch : Reader WhenBranch
when_branch (x ∷ ps) = (when_branch_in x, ps)
when_branch [] = (blank_when_branch, [])

abbrev pub condition_in : Built → Condition
condition_in (b.Condition x) = x
condition_in (b.Expr e) = conditions.Value e
condition_in _ = conditions.Value blank_expr

abbrev pub condition : Reader Condition
condition (x ∷ ps) = (condition_in x, ps)
condition [] = (conditions.Value blank_expr, [])

abbrev pub catch_in : Built → Catch
catch_in (b.Catch x) = x
catch_in _ = blank_catch

abbrev pub catch : Reader Catch
catch (x ∷ ps) = (catch_in x, ps)
catch [] = (blank_catch, [])

abbrev pub parameter_in : Built → Parameter
parameter_in (b.Parameter x) = x
parameter_in _ = blank_parameter

abbrev pub parameter : Reader Parameter
parameter (x ∷ ps) = (parameter_in x, ps)
parameter [] = (blank_parameter, [])

abbrev pub parameter_type_in : Built → ParameterType
parameter_type_in (b.Type t) = kind.Value t
parameter_type_in (b.FunctionType xs t) = kind.Function xs t
parameter_type_in _ = kind.Value blank_type

abbrev pub parameter_type : Reader ParameterType
parameter_type (x ∷ ps) = (parameter_type_in x, ps)
parameter_type [] = (kind.Value blank_type, [])

abbrev pub effect_in : Built → Effect
effect_in (b.Effect x) = x
effect_in _ = blank_effect

abbrev pub effect : Reader Effect
effect (x ∷ ps) = (effect_in x, ps)
effect [] = (blank_effect, [])

abbrev pub class_parameter_in : Built → ClassParameter
class_parameter_in (b.ClassParameter x) = x
class_parameter_in _ = blank_class_parameter

abbrev pub class_parameter : Reader ClassParameter
class_parameter (x ∷ ps) = (class_parameter_in x, ps)
class_parameter [] = (blank_class_parameter, [])

abbrev pub supertype_in : Built → Supertype
supertype_in (b.Supertype x) = x
supertype_in _ = blank_supertype

abbrev pub supertype : Reader Supertype
supertype (x ∷ ps) = (supertype_in x, ps)
supertype [] = (blank_supertype, [])

abbrev pub member_in : Built → Member
member_in (b.Init x) = members.Init x
member_in (b.Function x) = members.Function x
member_in (b.Property x) = members.Property x
member_in _ = members.Init blank_block

abbrev pub member : Reader Member
member (x ∷ ps) = (member_in x, ps)
member [] = (members.Init blank_block, [])

abbrev pub getter_body_in : Built → FunctionBody
getter_body_in (b.Expr e) = body.Expr e
getter_body_in (b.Block x) = body.Block None x
getter_body_in _ = body.Expr blank_expr

abbrev pub getter_body : Reader FunctionBody
getter_body (x ∷ ps) = (getter_body_in x, ps)
getter_body [] = (body.Expr blank_expr, [])

abbrev pub maybe_token_in : Built → Option ℕ
maybe_token_in (b.Token t) = Some t
maybe_token_in _ = None

abbrev pub maybe_token : Reader (Option ℕ)
maybe_token (x ∷ ps) = (maybe_token_in x, ps)
maybe_token [] = (None, [])

abbrev pub maybe_type_in : Built → Option TypeRef
maybe_type_in (b.Type t) = Some t
maybe_type_in _ = None

abbrev pub maybe_type : Reader (Option TypeRef)
maybe_type (x ∷ ps) = (maybe_type_in x, ps)
maybe_type [] = (None, [])

abbrev pub maybe_expr_in : Built → Option Expr
maybe_expr_in (b.Expr e) = Some e
maybe_expr_in _ = None

abbrev pub maybe_expr : Reader (Option Expr)
maybe_expr (x ∷ ps) = (maybe_expr_in x, ps)
maybe_expr [] = (None, [])

abbrev pub maybe_block_in : Built → Option Block
maybe_block_in (b.Block x) = Some x
maybe_block_in _ = None

abbrev pub maybe_block : Reader (Option Block)
maybe_block (x ∷ ps) = (maybe_block_in x, ps)
maybe_block [] = (None, [])

abbrev pub maybe_branch_in : Built → Option Branch
maybe_branch_in (b.Block x) = Some (branches.Braced x)
maybe_branch_in (b.Stmt s) = Some (branches.Single s)
maybe_branch_in (b.Expr e) = Some (branches.Single (statement.Expr e))
maybe_branch_in _ = None

abbrev pub maybe_branch : Reader (Option Branch)
maybe_branch (x ∷ ps) = (maybe_branch_in x, ps)
maybe_branch [] = (None, [])

abbrev pub maybe_lambda_in : Built → Option Lambda
maybe_lambda_in (b.Lambda x) = Some x
maybe_lambda_in _ = None

abbrev pub maybe_lambda : Reader (Option Lambda)
maybe_lambda (x ∷ ps) = (maybe_lambda_in x, ps)
maybe_lambda [] = (None, [])

abbrev pub maybe_subject_in : Built → Option Subject
maybe_subject_in (b.Subject x) = Some x
maybe_subject_in _ = None

abbrev pub maybe_subject : Reader (Option Subject)
maybe_subject (x ∷ ps) = (maybe_subject_in x, ps)
maybe_subject [] = (None, [])

abbrev pub maybe_subject_name_in : Built → Option (Ident × Option TypeRef)
maybe_subject_name_in (b.SubjectName x t) = Some (x, t)
maybe_subject_name_in _ = None

abbrev pub maybe_subject_name : Reader (Option (Ident × Option TypeRef))
maybe_subject_name (x ∷ ps) = (maybe_subject_name_in x, ps)
maybe_subject_name [] = (None, [])

abbrev pub maybe_count_in : Built → Option ℕ
maybe_count_in (b.Count n) = Some n
maybe_count_in _ = None

abbrev pub maybe_count : Reader (Option ℕ)
maybe_count (x ∷ ps) = (maybe_count_in x, ps)
maybe_count [] = (None, [])

abbrev pub maybe_contract_in : Built → Option Contract
maybe_contract_in (b.Contract x) = Some x
maybe_contract_in _ = None

abbrev pub maybe_contract : Reader (Option Contract)
maybe_contract (x ∷ ps) = (maybe_contract_in x, ps)
maybe_contract [] = (None, [])

abbrev pub maybe_getter_in : Built → Option Getter
maybe_getter_in (b.Getter x) = Some x
maybe_getter_in _ = None

abbrev pub maybe_getter : Reader (Option Getter)
maybe_getter (x ∷ ps) = (maybe_getter_in x, ps)
maybe_getter [] = (None, [])

abbrev pub maybe_body_in : Built → Option FunctionBody
maybe_body_in (b.Expr e) = Some (body.Expr e)
maybe_body_in (b.FunctionBlock c x) = Some (body.Block c x)
maybe_body_in _ = None

abbrev pub maybe_body : Reader (Option FunctionBody)
maybe_body (x ∷ ps) = (maybe_body_in x, ps)
maybe_body [] = (None, [])

-- so many
unfoldable pub times : {A : Type 0} → ℕ → Reader A → Reader (List A)
times zero r ps = ([], ps)
times (suc n) r ps = ((r ps).0 ∷ (times n r (r ps).1).0, (times n r (r ps).1).1)

-- a list
abbrev pub many : {A : Type 0} → Reader A → Reader (List A)
many r ps = times (count ps).0 r (count ps).1

abbrev pub if_counted : {A : Type 0} → Reader A → Option ℕ → Reader (Option (List A))
if_counted r (Some n) ps = (Some (times n r ps).0, (times n r ps).1)
if_counted r None ps = (None, ps)

-- a list, or none
abbrev pub maybe_many : {A : Type 0} → Reader A → Reader (Option (List A))
maybe_many r ps = if_counted r (maybe_count ps).0 (maybe_count ps).1

-- ---- tokens

abbrev pub kind_of : Option Token → Option Kind
kind_of (Some t) = Some t.kind
kind_of None = None

abbrev pub span_of : Option Token → Span
span_of (Some t) = t.span
span_of None = nowhere

abbrev pub kind_at : Tokens → ℕ → Option Kind
kind_at ts at = kind_of (slice_get ts.list at)

abbrev pub span_at : Tokens → ℕ → Span
span_at ts at = span_of (slice_get ts.list at)

-- from the first token up to the one before the last place
abbrev pub span_between : Tokens → ℕ → ℕ → Span
span_between ts first last = record { start = (span_at ts first).start; end = (span_at ts (last - 1)).end }

abbrev pub named : Option Kind → ℕ
named (Some (k.Id n)) = n
named (Some (k.NamePart n)) = n
named (Some (k.ReturnAt n)) = n
named _ = 0

abbrev pub valued : Option Kind → ℕ
valued (Some (k.Int n)) = n
valued _ = 0

abbrev pub bytes_of : Option Kind → List ℕ
bytes_of (Some (k.Text bytes)) = bytes
bytes_of _ = []

abbrev pub ident_at : Tokens → ℕ → Ident
ident_at ts at = record { name = named (kind_at ts at); span = span_at ts at }

-- the word without the `$` before it
abbrev pub after_dollar : Span → Span
after_dollar s = record { start = min (s.start + 1) 4294967295; end = s.end }

abbrev pub ident : Tokens → Reader Ident
ident ts ps = (ident_at ts (token ps).0, (token ps).1)

abbrev pub maybe_ident : Tokens → Reader (Option Ident)
maybe_ident ts ps = (option_map (ident_at ts) (maybe_token ps).0, (maybe_token ps).1)

abbrev pub piece_of : Tokens → Built → StringPart
piece_of ts (b.Expr x) = pieces.Inserted x
piece_of ts (b.Token t) = pieces.Text (bytes_of (kind_at ts t))
piece_of ts _ = pieces.Text []

abbrev pub string_piece : Tokens → Reader StringPart
string_piece ts (x ∷ ps) = (piece_of ts x, ps)
string_piece ts [] = (pieces.Text [], [])

abbrev pub terminal_at : Tokens → ℕ → Terminal
terminal_at ts at = if nat_lt at (length ts.list) then (class_at ts at).terminal else terminal.End

abbrev pub modifier_kind : Terminal → ModifierKind
modifier_kind terminal.Private = modifiers.Private
modifier_kind terminal.Open = modifiers.Open
modifier_kind terminal.Abstract = modifiers.Abstract
modifier_kind terminal.Final = modifiers.Final
modifier_kind terminal.Override = modifiers.Override
modifier_kind terminal.Inline = modifiers.Inline
modifier_kind _ = modifiers.Public

abbrev pub modifier_at : Tokens → ℕ → Modifier
modifier_at ts at = record { kind = modifier_kind (terminal_at ts at); span = span_at ts at }

abbrev pub modifier : Tokens → Reader Modifier
modifier ts ps = (modifier_at ts (token ps).0, (token ps).1)
