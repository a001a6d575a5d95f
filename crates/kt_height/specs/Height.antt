-- The height of a tree: one more than the greatest height of its parts, as of phrases; above 200 one height is as another. The
-- parts of a tree are the expressions, statements and lambdas right within; a tree without parts has height 1.
--
-- The shapes are this project's own. A left side that is a name or a member behind `.` is no tree: its parts are those of the
-- assignment.
use Rattle.std.specs.Prelude.{◌≡◌, ◌⊎◌, ℕ, Bool, true, false, max, if◌then◌else◌, List, [], ◌∷◌, map, Option, Some, None, option_map}
use Rattle.kt_tree.specs.declared.ast.part.Access.{Access}
use Rattle.kt_tree.specs.declared.ast.part.Access.TheVariants as access
use Rattle.kt_tree.specs.declared.ast.body.Expr.{Expr}
use Rattle.kt_tree.specs.declared.ast.body.ExprKind.{ExprKind}
use Rattle.kt_tree.specs.declared.ast.body.ExprKind.TheVariants as kind
use Rattle.kt_tree.specs.declared.ast.body.Stmt.{Stmt}
use Rattle.kt_tree.specs.declared.ast.body.Block.{Block}
use Rattle.kt_tree.specs.declared.ast.body.Branch.{Branch}
use Rattle.kt_tree.specs.declared.ast.body.StringPart.{StringPart}
use Rattle.kt_tree.specs.declared.ast.body.Condition.{Condition}
use Rattle.kt_tree.specs.declared.ast.body.Catch.{Catch}
use Rattle.kt_tree.specs.declared.ast.body.Lambda.{Lambda}
use Rattle.kt_tree.specs.declared.ast.body.Subject.{Subject}
use Rattle.kt_tree.specs.declared.ast.body.WhenBranch.{WhenBranch}
use Rattle.kt_tree.specs.declared.ast.body.Branch.TheOpen.{Branch-F, Condition-F, ExprKind-F, Stmt-F, StringPart-F, Block-F, Catch-F, Expr-F, Lambda-F, Subject-F, WhenBranch-F}
use Rattle.kt_tree.specs.declared.ast.body.Branch.TheFolds.{fold-Branch, fold-Condition, fold-ExprKind, fold-Stmt, fold-StringPart, fold-Block, fold-Catch, fold-Expr, fold-Lambda, fold-Subject, fold-WhenBranch}
use Rattle.kt_tree.specs.Derives.{grown}

-- of an expression: the greatest height of its parts, and whether it may be assigned
pub record Parts : Type 0 where
  pub height : ℕ
  pub is_target : Bool

abbrev pub inner : ℕ → Parts
inner height = record { height = height; is_target = false }

-- the height of the tree with these parts
abbrev pub whole : Parts → ℕ
whole e = grown e.height

-- the same on a left side, which is no tree if it may be assigned
abbrev pub on_left : Parts → ℕ
on_left e = if e.is_target then e.height else whole e

abbrev pub is_dot : Access → Bool
is_dot access.Dot = true
is_dot access.Safe = false

abbrev pub greatest : List ℕ → ℕ
greatest [] = 0
greatest (h ∷ hs) = max h (greatest hs)

abbrev pub height_if : Option ℕ → ℕ
height_if (Some h) = h
height_if None = 0

abbrev pub kind_step : ExprKind-F ℕ ℕ Parts ℕ ℕ ℕ ℕ Parts ℕ ℕ ℕ → Parts
kind_step (ExprKind-F.Int k) = inner 0
kind_step (ExprKind-F.Bool b) = inner 0
kind_step ExprKind-F.Null = inner 0
kind_step ExprKind-F.This = inner 0
kind_step (ExprKind-F.Name x) = record { height = 0; is_target = true }
kind_step (ExprKind-F.Template pieces) = inner (greatest pieces)
kind_step (ExprKind-F.Paren e) = inner (whole e)
kind_step (ExprKind-F.Call callee arguments lambda) = inner (max (greatest (map whole arguments)) (height_if lambda))
kind_step (ExprKind-F.Member receiver how name) = record { height = whole receiver; is_target = is_dot how }
kind_step (ExprKind-F.MemberCall receiver how name arguments) = inner (max (whole receiver) (greatest (map whole arguments)))
kind_step (ExprKind-F.NotNull e) = inner (whole e)
kind_step (ExprKind-F.Sign sign e) = inner (whole e)
kind_step (ExprKind-F.Not e) = inner (whole e)
kind_step (ExprKind-F.As e type) = inner (whole e)
kind_step (ExprKind-F.AsSafe e type) = inner (whole e)
kind_step (ExprKind-F.Sum a b) = inner (max (whole a) (whole b))
kind_step (ExprKind-F.Arithmetic o a b) = inner (max (whole a) (whole b))
kind_step (ExprKind-F.Compare o a b) = inner (max (whole a) (whole b))
kind_step (ExprKind-F.Equal o a b) = inner (max (whole a) (whole b))
kind_step (ExprKind-F.And a b) = inner (max (whole a) (whole b))
kind_step (ExprKind-F.Or a b) = inner (max (whole a) (whole b))
kind_step (ExprKind-F.Elvis a b) = inner (max (whole a) (whole b))
kind_step (ExprKind-F.«ExprKind::Is» e type) = inner (whole e)
kind_step (ExprKind-F.«ExprKind::IsNot» e type) = inner (whole e)
kind_step (ExprKind-F.If c a b) = inner (max (max (whole c) a) (height_if b))
kind_step (ExprKind-F.When subject branches) = inner (max (height_if subject) (greatest branches))
kind_step (ExprKind-F.Try body catches last) = inner (max (max body (greatest catches)) (height_if last))
kind_step (ExprKind-F.Return label value) = inner (height_if (option_map whole value))
kind_step (ExprKind-F.Throw e) = inner (whole e)
kind_step ExprKind-F.Break = inner 0
kind_step ExprKind-F.Continue = inner 0

abbrev pub stmt_step : Stmt-F ℕ ℕ Parts ℕ ℕ ℕ ℕ Parts ℕ ℕ ℕ → ℕ
stmt_step (Stmt-F.Expr e) = whole e
stmt_step (Stmt-F.Local n span is_var name type value) = grown (height_if (option_map whole value))
stmt_step (Stmt-F.Assign n span target a value) = grown (max (on_left target) (height_if (option_map whole value)))
stmt_step (Stmt-F.While n span c b) = grown (max (whole c) b)
stmt_step (Stmt-F.DoWhile n span b c) = grown (max b (whole c))
stmt_step (Stmt-F.For n span x type low p high b) = grown (max (max (whole low) (whole high)) b)

abbrev pub lambda_step : Lambda-F ℕ ℕ Parts ℕ ℕ ℕ ℕ Parts ℕ ℕ ℕ → ℕ
lambda_step l = grown l.body

-- of what is no tree: the greatest height of the trees right within

abbrev pub expr_step : Expr-F ℕ ℕ Parts ℕ ℕ ℕ ℕ Parts ℕ ℕ ℕ → Parts
expr_step e = e.kind

abbrev pub branch_step : Branch-F ℕ ℕ Parts ℕ ℕ ℕ ℕ Parts ℕ ℕ ℕ → ℕ
branch_step (Branch-F.Braced h) = h
branch_step (Branch-F.Single h) = h

abbrev pub condition_step : Condition-F ℕ ℕ Parts ℕ ℕ ℕ ℕ Parts ℕ ℕ ℕ → ℕ
condition_step (Condition-F.«Condition::Is» span type) = 0
condition_step (Condition-F.«Condition::IsNot» span type) = 0
condition_step (Condition-F.Value e) = whole e

abbrev pub piece_step : StringPart-F ℕ ℕ Parts ℕ ℕ ℕ ℕ Parts ℕ ℕ ℕ → ℕ
piece_step (StringPart-F.Text bytes) = 0
piece_step (StringPart-F.Inserted e) = whole e

abbrev pub block_step : Block-F ℕ ℕ Parts ℕ ℕ ℕ ℕ Parts ℕ ℕ ℕ → ℕ
block_step b = greatest b.statements

abbrev pub catch_step : Catch-F ℕ ℕ Parts ℕ ℕ ℕ ℕ Parts ℕ ℕ ℕ → ℕ
catch_step c = c.body

abbrev pub subject_step : Subject-F ℕ ℕ Parts ℕ ℕ ℕ ℕ Parts ℕ ℕ ℕ → ℕ
subject_step s = whole s.value

abbrev pub when_branch_step : WhenBranch-F ℕ ℕ Parts ℕ ℕ ℕ ℕ Parts ℕ ℕ ℕ → ℕ
when_branch_step b = max (height_if (option_map greatest b.conditions)) b.body

unfoldable pub expr_parts : Expr → Parts
expr_parts = fold-Expr ℕ ℕ Parts ℕ ℕ ℕ ℕ Parts ℕ ℕ ℕ branch_step condition_step kind_step stmt_step piece_step block_step catch_step expr_step lambda_step subject_step when_branch_step

unfoldable pub kind_parts : ExprKind → Parts
kind_parts = fold-ExprKind ℕ ℕ Parts ℕ ℕ ℕ ℕ Parts ℕ ℕ ℕ branch_step condition_step kind_step stmt_step piece_step block_step catch_step expr_step lambda_step subject_step when_branch_step

unfoldable pub stmt_height : Stmt → ℕ
stmt_height = fold-Stmt ℕ ℕ Parts ℕ ℕ ℕ ℕ Parts ℕ ℕ ℕ branch_step condition_step kind_step stmt_step piece_step block_step catch_step expr_step lambda_step subject_step when_branch_step

unfoldable pub lambda_height : Lambda → ℕ
lambda_height = fold-Lambda ℕ ℕ Parts ℕ ℕ ℕ ℕ Parts ℕ ℕ ℕ branch_step condition_step kind_step stmt_step piece_step block_step catch_step expr_step lambda_step subject_step when_branch_step

unfoldable pub block_height : Block → ℕ
block_height = fold-Block ℕ ℕ Parts ℕ ℕ ℕ ℕ Parts ℕ ℕ ℕ branch_step condition_step kind_step stmt_step piece_step block_step catch_step expr_step lambda_step subject_step when_branch_step

unfoldable pub branch_height : Branch → ℕ
branch_height = fold-Branch ℕ ℕ Parts ℕ ℕ ℕ ℕ Parts ℕ ℕ ℕ branch_step condition_step kind_step stmt_step piece_step block_step catch_step expr_step lambda_step subject_step when_branch_step

unfoldable pub piece_height : StringPart → ℕ
piece_height = fold-StringPart ℕ ℕ Parts ℕ ℕ ℕ ℕ Parts ℕ ℕ ℕ branch_step condition_step kind_step stmt_step piece_step block_step catch_step expr_step lambda_step subject_step when_branch_step

unfoldable pub condition_height : Condition → ℕ
condition_height = fold-Condition ℕ ℕ Parts ℕ ℕ ℕ ℕ Parts ℕ ℕ ℕ branch_step condition_step kind_step stmt_step piece_step block_step catch_step expr_step lambda_step subject_step when_branch_step

unfoldable pub catch_height : Catch → ℕ
catch_height = fold-Catch ℕ ℕ Parts ℕ ℕ ℕ ℕ Parts ℕ ℕ ℕ branch_step condition_step kind_step stmt_step piece_step block_step catch_step expr_step lambda_step subject_step when_branch_step

unfoldable pub subject_height : Subject → ℕ
subject_height = fold-Subject ℕ ℕ Parts ℕ ℕ ℕ ℕ Parts ℕ ℕ ℕ branch_step condition_step kind_step stmt_step piece_step block_step catch_step expr_step lambda_step subject_step when_branch_step

unfoldable pub when_branch_height : WhenBranch → ℕ
when_branch_height = fold-WhenBranch ℕ ℕ Parts ℕ ℕ ℕ ℕ Parts ℕ ℕ ℕ branch_step condition_step kind_step stmt_step piece_step block_step catch_step expr_step lambda_step subject_step when_branch_step

unfoldable pub expr_height : Expr → ℕ
expr_height e = whole (expr_parts e)

-- what has branches: an `if`, a `when` or a `try`
abbrev pub IsBranching : ExprKind → Type 0
IsBranching k =
    ((condition : Expr) × (first : Branch) × (otherwise : Option Branch) × k ≡ kind.If condition first otherwise)
    ⊎ ((subject : Option Subject) × (branches : List WhenBranch) × k ≡ kind.When subject branches)
    ⊎ ((body : Block) × (catches : List Catch) × (last : Option Block) × k ≡ kind.Try body catches last)
