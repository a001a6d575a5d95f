-- The rules on the shapes of trees: phase 7.
--
-- From the Kotlin specification, "Assignments": what is assigned is a name or a property; an index is not in the profile. "Conditional expressions" and "When
-- expressions": one that is used as an expression has an `else`. Which trees are valued is this project's list: each that is a part of a tree or a declaration, but
-- no statement; the last statement of a branch where its `if` or `when` is valued, and of the body and the catches of a valued `try`. What the last statement of a
-- lambda is comes with lambdas. By recursion on the tree, each tree before its parts; whether a tree is valued is said from around it.
use Rattle.std.specs.Prelude.{Bool, true, false, not, is_some, ◌&&◌, List, [], ◌∷◌, ◌++◌, Option, Some, None, Contains}
use Rattle.std.specs.List.{flat_map, list_any}
use Rattle.kt_tree.specs.declared.token.Span.{Span}
use Rattle.kt_tree.specs.declared.ast.part.Access.{Access}
use Rattle.kt_tree.specs.declared.ast.part.Access.TheVariants as access
use Rattle.kt_tree.specs.declared.ast.body.Expr.{Expr}
use Rattle.kt_tree.specs.declared.ast.body.ExprKind.{ExprKind}
use Rattle.kt_tree.specs.declared.ast.body.Stmt.{Stmt}
use Rattle.kt_tree.specs.declared.ast.body.Block.{Block}
use Rattle.kt_tree.specs.declared.ast.body.Branch.{Branch}
use Rattle.kt_tree.specs.declared.ast.body.StringPart.{StringPart}
use Rattle.kt_tree.specs.declared.ast.body.Condition.{Condition}
use Rattle.kt_tree.specs.declared.ast.body.Catch.{Catch}
use Rattle.kt_tree.specs.declared.ast.body.Lambda.{Lambda}
use Rattle.kt_tree.specs.declared.ast.body.Subject.{Subject}
use Rattle.kt_tree.specs.declared.ast.body.WhenBranch.{WhenBranch}
use Rattle.kt_tree.specs.declared.ast.body.Branch.TheOpen.{Branch-F, Condition-F, ExprKind-F, Stmt-F, StringPart-F, Block-F, Catch-F, Expr-F, Lambda-F, Subject-F, WhenBranch-F}
use Rattle.kt_tree.specs.declared.ast.body.Branch.TheFolds.{fold-Branch, fold-Condition, fold-ExprKind, fold-Stmt, fold-StringPart, fold-Block, fold-Catch, fold-Expr, fold-Lambda, fold-Subject, fold-WhenBranch}
use Rattle.kt_tree.specs.declared.ast.declaration.ClassDecl.{ClassDecl}
use Rattle.kt_tree.specs.declared.ast.declaration.FunctionDecl.{FunctionDecl}
use Rattle.kt_tree.specs.declared.ast.declaration.FunctionBody.{FunctionBody}
use Rattle.kt_tree.specs.declared.ast.declaration.FunctionBody.TheVariants as written
use Rattle.kt_tree.specs.declared.ast.declaration.Contract.{Contract}
use Rattle.kt_tree.specs.declared.ast.declaration.Effect.{Effect}
use Rattle.kt_tree.specs.declared.ast.declaration.EffectKind.{EffectKind}
use Rattle.kt_tree.specs.declared.ast.declaration.EffectKind.TheVariants as effect
use Rattle.kt_tree.specs.declared.ast.declaration.File.{File}
use Rattle.kt_tree.specs.declared.ast.declaration.Getter.{Getter}
use Rattle.kt_tree.specs.declared.ast.declaration.Member.{Member}
use Rattle.kt_tree.specs.declared.ast.declaration.Member.TheVariants as member
use Rattle.kt_model.specs.DeclarationRules.{where_}
use Rattle.kt_model.specs.Sites.{declared_in}
use Rattle.kt_model.specs.declared.finding.Finding.{Finding}
use Rattle.kt_model.specs.declared.finding.Rule.TheVariants.{AssignTarget, NoElse, ValueExpected}

-- what is violated in a tree where it is valued, and where it is not
abbrev pub ByUse : Type 0
ByUse = Bool → List Finding

-- of a kind of expression: whether it may be assigned, whether it is an `if` or a `when` without `else`, and what is violated in its parts
pub record KindShape : Type 0 where
  pub is_target : Bool
  pub lacks_else : Bool
  pub inside : ByUse

-- of an expression
pub record ExprShape : Type 0 where
  pub span : Span
  pub is_target : Bool
  pub whole : ByUse

-- of a statement: whether it can stand for a value, as an assignment and a loop can't
pub record StmtShape : Type 0 where
  pub span : Span
  pub is_value : Bool
  pub whole : ByUse

-- of a branch of a `when`
pub record CaseShape : Type 0 where
  pub is_else : Bool
  pub whole : ByUse

-- ---- parts

-- a part that is valued
abbrev pub taken : ExprShape → List Finding
taken e = e.whole true

abbrev pub taken_if : Option ExprShape → List Finding
taken_if (Some e) = taken e
taken_if None = []

abbrev pub each_taken : List ExprShape → List Finding
each_taken es = flat_map taken es

abbrev pub given_if : Option (List Finding) → List Finding
given_if (Some found) = found
given_if None = []

abbrev pub whole_if : Option ByUse → ByUse
whole_if (Some part) valued = part valued
whole_if None valued = []

abbrev pub joined : List (List Finding) → List Finding
joined founds = flat_map (λ found. found) founds

abbrev pub joined_if : Option (List (List Finding)) → List Finding
joined_if (Some founds) = joined founds
joined_if None = []

-- statements one behind another: only the last can be valued
abbrev pub in_turn : List StmtShape → ByUse
in_turn [] valued = []
in_turn (s ∷ []) valued = s.whole valued
in_turn (s ∷ t ∷ rest) valued = s.whole false ++ in_turn (t ∷ rest) valued

-- ---- kinds of trees

-- parts that are the same whether the tree is valued or not
abbrev pub inner : List Finding → KindShape
inner found = record { is_target = false; lacks_else = false; inside = λ valued. found }

abbrev pub target_if : Bool → List Finding → KindShape
target_if is_target found = record { is_target = is_target; lacks_else = false; inside = λ valued. found }

abbrev pub is_dot : Access → Bool
is_dot access.Dot = true
is_dot access.Safe = false

abbrev pub kind_step : ExprKind-F ByUse (List Finding) KindShape StmtShape (List Finding) ByUse ByUse ExprShape (List Finding) (List Finding) CaseShape → KindShape
kind_step (ExprKind-F.Int k) = inner []
kind_step (ExprKind-F.Bool b) = inner []
kind_step ExprKind-F.Null = inner []
kind_step ExprKind-F.This = inner []
kind_step (ExprKind-F.Name x) = target_if true []
kind_step (ExprKind-F.Template pieces) = inner (joined pieces)
kind_step (ExprKind-F.Paren e) = inner (taken e)
kind_step (ExprKind-F.Call callee arguments lambda) = inner (each_taken arguments ++ given_if lambda)
kind_step (ExprKind-F.Member receiver how name) = target_if (is_dot how) (taken receiver)
kind_step (ExprKind-F.MemberCall receiver how name arguments) = inner (taken receiver ++ each_taken arguments)
kind_step (ExprKind-F.NotNull e) = inner (taken e)
kind_step (ExprKind-F.Sign sign e) = inner (taken e)
kind_step (ExprKind-F.Not e) = inner (taken e)
kind_step (ExprKind-F.As e type) = inner (taken e)
kind_step (ExprKind-F.AsSafe e type) = inner (taken e)
kind_step (ExprKind-F.Sum a b) = inner (taken a ++ taken b)
kind_step (ExprKind-F.Arithmetic o a b) = inner (taken a ++ taken b)
kind_step (ExprKind-F.Compare o a b) = inner (taken a ++ taken b)
kind_step (ExprKind-F.Equal o a b) = inner (taken a ++ taken b)
kind_step (ExprKind-F.And a b) = inner (taken a ++ taken b)
kind_step (ExprKind-F.Or a b) = inner (taken a ++ taken b)
kind_step (ExprKind-F.Elvis a b) = inner (taken a ++ taken b)
kind_step (ExprKind-F.«ExprKind::Is» e type) = inner (taken e)
kind_step (ExprKind-F.«ExprKind::IsNot» e type) = inner (taken e)
kind_step (ExprKind-F.If c a b) =
    record { is_target = false; lacks_else = not (is_some b); inside = λ valued. taken c ++ a valued ++ whole_if b valued }
kind_step (ExprKind-F.When subject branches) =
    record { is_target = false; lacks_else = not (list_any (λ b. b.is_else) branches); inside = λ valued. given_if subject ++ flat_map (λ b. b.whole valued) branches }
kind_step (ExprKind-F.Try body catches last) =
    record { is_target = false; lacks_else = false; inside = λ valued. body valued ++ flat_map (λ c. c valued) catches ++ whole_if last false }
kind_step (ExprKind-F.Return label value) = inner (taken_if value)
kind_step (ExprKind-F.Throw e) = inner (taken e)
kind_step ExprKind-F.Break = inner []
kind_step ExprKind-F.Continue = inner []

-- NO_ELSE: a valued `if` or `when` has no `else`.
abbrev pub expr_step : Expr-F ByUse (List Finding) KindShape StmtShape (List Finding) ByUse ByUse ExprShape (List Finding) (List Finding) CaseShape → ExprShape
expr_step e =
    record { span = e.span; is_target = e.kind.is_target; whole = λ valued. where_ (valued && e.kind.lacks_else) NoElse e.span ++ e.kind.inside valued }

-- ASSIGN_TARGET: a left side is neither a name nor a member behind `.`. It is not valued itself, but what is in it is.
abbrev pub stmt_step : Stmt-F ByUse (List Finding) KindShape StmtShape (List Finding) ByUse ByUse ExprShape (List Finding) (List Finding) CaseShape → StmtShape
stmt_step (Stmt-F.Expr e) = record { span = e.span; is_value = true; whole = e.whole }
stmt_step (Stmt-F.Local n span is_var name type value) = record { span = span; is_value = true; whole = λ valued. taken_if value }
stmt_step (Stmt-F.Assign n span target a value) =
    record { span = span; is_value = false; whole = λ valued. where_ (not target.is_target) AssignTarget target.span ++ target.whole false ++ taken_if value }
stmt_step (Stmt-F.While n span c b) = record { span = span; is_value = false; whole = λ valued. taken c ++ b false }
stmt_step (Stmt-F.DoWhile n span b c) = record { span = span; is_value = false; whole = λ valued. b false ++ taken c }
stmt_step (Stmt-F.For n span x type low p high b) = record { span = span; is_value = false; whole = λ valued. taken low ++ taken high ++ b false }

-- VALUE_EXPECTED: a valued branch without braces is an assignment or a loop.
abbrev pub branch_step : Branch-F ByUse (List Finding) KindShape StmtShape (List Finding) ByUse ByUse ExprShape (List Finding) (List Finding) CaseShape → ByUse
branch_step (Branch-F.Braced block) valued = block valued
branch_step (Branch-F.Single s) valued = where_ (valued && not s.is_value) ValueExpected s.span ++ s.whole valued

abbrev pub condition_step : Condition-F ByUse (List Finding) KindShape StmtShape (List Finding) ByUse ByUse ExprShape (List Finding) (List Finding) CaseShape → List Finding
condition_step (Condition-F.«Condition::Is» span type) = []
condition_step (Condition-F.«Condition::IsNot» span type) = []
condition_step (Condition-F.Value e) = taken e

abbrev pub piece_step : StringPart-F ByUse (List Finding) KindShape StmtShape (List Finding) ByUse ByUse ExprShape (List Finding) (List Finding) CaseShape → List Finding
piece_step (StringPart-F.Text bytes) = []
piece_step (StringPart-F.Inserted e) = taken e

abbrev pub block_step : Block-F ByUse (List Finding) KindShape StmtShape (List Finding) ByUse ByUse ExprShape (List Finding) (List Finding) CaseShape → ByUse
block_step b = in_turn b.statements

abbrev pub catch_step : Catch-F ByUse (List Finding) KindShape StmtShape (List Finding) ByUse ByUse ExprShape (List Finding) (List Finding) CaseShape → ByUse
catch_step c = c.body

abbrev pub lambda_step : Lambda-F ByUse (List Finding) KindShape StmtShape (List Finding) ByUse ByUse ExprShape (List Finding) (List Finding) CaseShape → List Finding
lambda_step l = l.body false

abbrev pub subject_step : Subject-F ByUse (List Finding) KindShape StmtShape (List Finding) ByUse ByUse ExprShape (List Finding) (List Finding) CaseShape → List Finding
subject_step s = taken s.value

abbrev pub when_branch_step : WhenBranch-F ByUse (List Finding) KindShape StmtShape (List Finding) ByUse ByUse ExprShape (List Finding) (List Finding) CaseShape → CaseShape
when_branch_step b = record { is_else = not (is_some b.conditions); whole = λ valued. joined_if b.conditions ++ b.body valued }

-- ---- the trees of bodies

unfoldable pub expr_shape : Expr → ExprShape
expr_shape = fold-Expr ByUse (List Finding) KindShape StmtShape (List Finding) ByUse ByUse ExprShape (List Finding) (List Finding) CaseShape branch_step condition_step kind_step stmt_step piece_step block_step catch_step expr_step lambda_step subject_step when_branch_step

unfoldable pub kind_shape : ExprKind → KindShape
kind_shape = fold-ExprKind ByUse (List Finding) KindShape StmtShape (List Finding) ByUse ByUse ExprShape (List Finding) (List Finding) CaseShape branch_step condition_step kind_step stmt_step piece_step block_step catch_step expr_step lambda_step subject_step when_branch_step

unfoldable pub stmt_shape : Stmt → StmtShape
stmt_shape = fold-Stmt ByUse (List Finding) KindShape StmtShape (List Finding) ByUse ByUse ExprShape (List Finding) (List Finding) CaseShape branch_step condition_step kind_step stmt_step piece_step block_step catch_step expr_step lambda_step subject_step when_branch_step

unfoldable pub block_shape : Block → ByUse
block_shape = fold-Block ByUse (List Finding) KindShape StmtShape (List Finding) ByUse ByUse ExprShape (List Finding) (List Finding) CaseShape branch_step condition_step kind_step stmt_step piece_step block_step catch_step expr_step lambda_step subject_step when_branch_step

unfoldable pub branch_shape : Branch → ByUse
branch_shape = fold-Branch ByUse (List Finding) KindShape StmtShape (List Finding) ByUse ByUse ExprShape (List Finding) (List Finding) CaseShape branch_step condition_step kind_step stmt_step piece_step block_step catch_step expr_step lambda_step subject_step when_branch_step

unfoldable pub piece_shape : StringPart → List Finding
piece_shape = fold-StringPart ByUse (List Finding) KindShape StmtShape (List Finding) ByUse ByUse ExprShape (List Finding) (List Finding) CaseShape branch_step condition_step kind_step stmt_step piece_step block_step catch_step expr_step lambda_step subject_step when_branch_step

unfoldable pub condition_shape : Condition → List Finding
condition_shape = fold-Condition ByUse (List Finding) KindShape StmtShape (List Finding) ByUse ByUse ExprShape (List Finding) (List Finding) CaseShape branch_step condition_step kind_step stmt_step piece_step block_step catch_step expr_step lambda_step subject_step when_branch_step

unfoldable pub catch_shape : Catch → ByUse
catch_shape = fold-Catch ByUse (List Finding) KindShape StmtShape (List Finding) ByUse ByUse ExprShape (List Finding) (List Finding) CaseShape branch_step condition_step kind_step stmt_step piece_step block_step catch_step expr_step lambda_step subject_step when_branch_step

unfoldable pub lambda_shape : Lambda → List Finding
lambda_shape = fold-Lambda ByUse (List Finding) KindShape StmtShape (List Finding) ByUse ByUse ExprShape (List Finding) (List Finding) CaseShape branch_step condition_step kind_step stmt_step piece_step block_step catch_step expr_step lambda_step subject_step when_branch_step

unfoldable pub subject_shape : Subject → List Finding
subject_shape = fold-Subject ByUse (List Finding) KindShape StmtShape (List Finding) ByUse ByUse ExprShape (List Finding) (List Finding) CaseShape branch_step condition_step kind_step stmt_step piece_step block_step catch_step expr_step lambda_step subject_step when_branch_step

unfoldable pub case_shape : WhenBranch → CaseShape
case_shape = fold-WhenBranch ByUse (List Finding) KindShape StmtShape (List Finding) ByUse ByUse ExprShape (List Finding) (List Finding) CaseShape branch_step condition_step kind_step stmt_step piece_step block_step catch_step expr_step lambda_step subject_step when_branch_step

abbrev pub in_part : Expr → List Finding
in_part e = taken (expr_shape e)

-- ---- the trees of declarations: each expression is valued, no block is

abbrev pub in_effect_kind : EffectKind → List Finding
in_effect_kind (effect.Returns returned condition) = in_part condition
in_effect_kind (effect.CallsInPlace parameter kind) = []

abbrev pub in_effect : Effect → List Finding
in_effect e = in_effect_kind e.kind

abbrev pub in_contract : Option Contract → List Finding
in_contract None = []
in_contract (Some c) = flat_map in_effect c.effects

abbrev pub in_body : Option FunctionBody → List Finding
in_body None = []
in_body (Some (written.Expr e)) = in_part e
in_body (Some (written.Block contract block)) = in_contract contract ++ block_shape block false

abbrev pub in_value : Option Expr → List Finding
in_value None = []
in_value (Some e) = in_part e

abbrev pub in_values : Option (List Expr) → List Finding
in_values None = []
in_values (Some es) = flat_map in_part es

abbrev pub in_getter : Option Getter → List Finding
in_getter None = []
in_getter (Some g) = in_body (Some g.body)

abbrev pub in_member : Member → List Finding
in_member (member.Init block) = block_shape block false
in_member (member.Function f) = in_body f.body
in_member (member.Property p) = in_value p.value ++ in_getter p.getter

unfoldable pub in_class : ClassDecl → List Finding
in_class c = flat_map (λ s. in_values s.arguments) c.supertypes ++ flat_map in_member (declared_in c)

unfoldable pub in_function : FunctionDecl → List Finding
in_function f = in_body f.body

unfoldable pub shape_findings : File → List Finding
shape_findings file = flat_map in_class file.classes ++ flat_map in_function file.functions

-- what is violated in the shapes of the trees of a file
abbrev pub IsShapeViolated : File → Finding → Type 0
IsShapeViolated file f = Contains (shape_findings file) f
