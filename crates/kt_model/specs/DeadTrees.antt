-- The dead trees of a body.
--
-- After the Kotlin specification, "Control- and data-flow analysis", where code is dead that no path of the graph reaches; which trees are told is this
-- project's own. A tree is dead where no path ends at a node that begins it, in any copy. A tree with no such node is not dead: it is in another body, in a
-- contract, or in a shape that has no graph yet. Told are the outermost dead trees, those that lie in no other. All paths, and recursion on the written
-- trees; the code looks at each node once and keeps which trees are entered.
use Rattle.std.specs.Prelude.{◌≡◌, ℕ, ◌<◌, ◌↔◌, Bool, true, false, IsTrue, List, [], ◌∷◌, ◌++◌, length, Option, Some, None, slice_get, if◌then◌else◌}
use Rattle.kt_tree.specs.declared.token.Span.{Span}
use Rattle.kt_tree.specs.declared.ast.body.Block.{Block}
use Rattle.kt_tree.specs.declared.ast.body.Branch.{Branch}
use Rattle.kt_tree.specs.declared.ast.body.Catch.{Catch}
use Rattle.kt_tree.specs.declared.ast.body.Condition.{Condition}
use Rattle.kt_tree.specs.declared.ast.body.Expr.{Expr}
use Rattle.kt_tree.specs.declared.ast.body.ExprKind.{ExprKind}
use Rattle.kt_tree.specs.declared.ast.body.Lambda.{Lambda}
use Rattle.kt_tree.specs.declared.ast.body.Stmt.{Stmt}
use Rattle.kt_tree.specs.declared.ast.body.StringPart.{StringPart}
use Rattle.kt_tree.specs.declared.ast.body.Subject.{Subject}
use Rattle.kt_tree.specs.declared.ast.body.WhenBranch.{WhenBranch}
use Rattle.kt_tree.specs.declared.ast.body.Branch.TheOpen.{Branch-F, Condition-F, ExprKind-F, Stmt-F, StringPart-F, Block-F, Catch-F, Expr-F, Lambda-F, Subject-F, WhenBranch-F}
use Rattle.kt_tree.specs.declared.ast.body.Branch.TheFolds.{fold-Branch, fold-Condition, fold-ExprKind, fold-Stmt, fold-StringPart, fold-Block, fold-Catch, fold-Expr, fold-Lambda, fold-Subject, fold-WhenBranch}
use Rattle.kt_tree.specs.declared.ast.declaration.FunctionBody.{FunctionBody}
use Rattle.kt_tree.specs.declared.ast.declaration.FunctionBody.TheVariants as written
use Rattle.kt_tree.specs.declared.ast.declaration.FunctionDecl.{FunctionDecl}
use Rattle.kt_tree.specs.declared.ast.declaration.File.{File}
use Rattle.kt_model.specs.declared.dead.Dead.{Dead}
use Rattle.kt_model.specs.declared.uses.Owner.{Owner}
use Rattle.kt_model.specs.declared.uses.Owner.TheVariants as owner
use Rattle.kt_model.specs.declared.graph.Graph.{Graph}
use Rattle.kt_model.specs.declared.graph.Tag.{Tag}
use Rattle.kt_model.specs.declared.graph.Tag.TheVariants as tag
use Rattle.kt_model.specs.Bodies.{node_at}
use Rattle.kt_model.specs.NodePaths.{IsReached}

-- Whether a tree begins with such a node: with its `in`, a lambda with the node of its body.
abbrev pub is_begin : Tag → Bool
is_begin tag.In = true
is_begin tag.Body = true
is_begin _ = false

-- the node at a place begins a tree
pub record Begins (g : Graph) (tree place : ℕ) : Type 0 where
  pub within : place < length g.nodes
  pub same_tree : (node_at g.nodes place).tree ≡ tree
  pub is_first : is_begin (node_at g.nodes place).tag ≡ true

-- It has a node that begins it, and none of these is reached.
pub record IsDead (g : Graph) (tree : ℕ) : Type 0 where
  pub place : ℕ
  pub begins : Begins g tree place
  pub not_entered : (place : ℕ) → Begins g tree place → ¬ IsReached g place

-- ---- the outermost of the trees for which `dead` is true, in the order of the text

abbrev pub Told : Type 0
Told = List Dead

-- of a tree, given those of its parts
abbrev pub outermost : (dead : ℕ → Bool) (n : ℕ) (at : Span) (parts : Told) → Told
outermost dead n at parts = if dead n then record { tree = n; span = at } ∷ [] else parts

abbrev pub joined : List Told → Told
joined [] = []
joined (ds ∷ rest) = ds ++ joined rest

abbrev pub optional : Option Told → Told
optional (Some ds) = ds
optional None = []

abbrev pub all_optional : Option (List Told) → Told
all_optional (Some list) = joined list
all_optional None = []

abbrev pub kind_step : ExprKind-F Told Told Told Told Told Told Told Told Told Told Told → Told
kind_step (ExprKind-F.Int k) = []
kind_step (ExprKind-F.Bool b) = []
kind_step ExprKind-F.Null = []
kind_step ExprKind-F.This = []
kind_step (ExprKind-F.Name x) = []
kind_step (ExprKind-F.Template pieces) = joined pieces
kind_step (ExprKind-F.Paren e) = e
kind_step (ExprKind-F.Call callee arguments lambda) = joined arguments ++ optional lambda
kind_step (ExprKind-F.Member receiver access name) = receiver
kind_step (ExprKind-F.MemberCall receiver access name arguments) = receiver ++ joined arguments
kind_step (ExprKind-F.NotNull e) = e
kind_step (ExprKind-F.Sign sign e) = e
kind_step (ExprKind-F.Not e) = e
kind_step (ExprKind-F.As e written) = e
kind_step (ExprKind-F.AsSafe e written) = e
kind_step (ExprKind-F.Sum a b) = a ++ b
kind_step (ExprKind-F.Arithmetic o a b) = a ++ b
kind_step (ExprKind-F.Compare o a b) = a ++ b
kind_step (ExprKind-F.Equal o a b) = a ++ b
kind_step (ExprKind-F.And a b) = a ++ b
kind_step (ExprKind-F.Or a b) = a ++ b
kind_step (ExprKind-F.Elvis a b) = a ++ b
kind_step (ExprKind-F.ExprKind::Is e written) = e
kind_step (ExprKind-F.ExprKind::IsNot e written) = e
kind_step (ExprKind-F.If c a b) = c ++ (a ++ optional b)
kind_step (ExprKind-F.When subject branches) = optional subject ++ joined branches
kind_step (ExprKind-F.Try body catches finally) = body ++ (joined catches ++ optional finally)
kind_step (ExprKind-F.Return label value) = optional value
kind_step (ExprKind-F.Throw e) = e
kind_step ExprKind-F.Break = []
kind_step ExprKind-F.Continue = []

abbrev pub expr_step : (ℕ → Bool) → Expr-F Told Told Told Told Told Told Told Told Told Told Told → Told
expr_step dead e = outermost dead e.number e.span e.kind

-- An assigned name or member is no tree and has the number 0, under which no node begins a tree.
abbrev pub stmt_step : (ℕ → Bool) → Stmt-F Told Told Told Told Told Told Told Told Told Told Told → Told
stmt_step dead (Stmt-F.Expr e) = e
stmt_step dead (Stmt-F.Local n span is_var ident written e) = outermost dead n span (optional e)
stmt_step dead (Stmt-F.Assign n span target a e) = outermost dead n span (target ++ optional e)
stmt_step dead (Stmt-F.While n span c b) = outermost dead n span (c ++ b)
stmt_step dead (Stmt-F.DoWhile n span b c) = outermost dead n span (b ++ c)
stmt_step dead (Stmt-F.For n span x written low p high b) = outermost dead n span (low ++ (high ++ b))

abbrev pub branch_step : Branch-F Told Told Told Told Told Told Told Told Told Told Told → Told
branch_step (Branch-F.Braced b) = b
branch_step (Branch-F.Single s) = s

abbrev pub piece_step : StringPart-F Told Told Told Told Told Told Told Told Told Told Told → Told
piece_step (StringPart-F.Text bytes) = []
piece_step (StringPart-F.Inserted e) = e

abbrev pub condition_step : Condition-F Told Told Told Told Told Told Told Told Told Told Told → Told
condition_step (Condition-F.Condition::Is at written) = []
condition_step (Condition-F.Condition::IsNot at written) = []
condition_step (Condition-F.Value e) = e

abbrev pub block_step : Block-F Told Told Told Told Told Told Told Told Told Told Told → Told
block_step b = joined b.statements

abbrev pub catch_step : Catch-F Told Told Told Told Told Told Told Told Told Told Told → Told
catch_step c = c.body

abbrev pub lambda_step : (ℕ → Bool) → Lambda-F Told Told Told Told Told Told Told Told Told Told Told → Told
lambda_step dead l = outermost dead l.number l.span l.body

abbrev pub subject_step : Subject-F Told Told Told Told Told Told Told Told Told Told Told → Told
subject_step s = s.value

abbrev pub when_step : WhenBranch-F Told Told Told Told Told Told Told Told Told Told Told → Told
when_step b = all_optional b.conditions ++ b.body

unfoldable pub expr_dead : (ℕ → Bool) → Expr → Told
expr_dead dead = fold-Expr Told Told Told Told Told Told Told Told Told Told Told branch_step condition_step kind_step (stmt_step dead) piece_step block_step catch_step (expr_step dead) (lambda_step dead) subject_step when_step

unfoldable pub kind_dead : (ℕ → Bool) → ExprKind → Told
kind_dead dead = fold-ExprKind Told Told Told Told Told Told Told Told Told Told Told branch_step condition_step kind_step (stmt_step dead) piece_step block_step catch_step (expr_step dead) (lambda_step dead) subject_step when_step

unfoldable pub stmt_dead : (ℕ → Bool) → Stmt → Told
stmt_dead dead = fold-Stmt Told Told Told Told Told Told Told Told Told Told Told branch_step condition_step kind_step (stmt_step dead) piece_step block_step catch_step (expr_step dead) (lambda_step dead) subject_step when_step

unfoldable pub block_dead : (ℕ → Bool) → Block → Told
block_dead dead = fold-Block Told Told Told Told Told Told Told Told Told Told Told branch_step condition_step kind_step (stmt_step dead) piece_step block_step catch_step (expr_step dead) (lambda_step dead) subject_step when_step

unfoldable pub branch_dead : (ℕ → Bool) → Branch → Told
branch_dead dead = fold-Branch Told Told Told Told Told Told Told Told Told Told Told branch_step condition_step kind_step (stmt_step dead) piece_step block_step catch_step (expr_step dead) (lambda_step dead) subject_step when_step

unfoldable pub piece_dead : (ℕ → Bool) → StringPart → Told
piece_dead dead = fold-StringPart Told Told Told Told Told Told Told Told Told Told Told branch_step condition_step kind_step (stmt_step dead) piece_step block_step catch_step (expr_step dead) (lambda_step dead) subject_step when_step

unfoldable pub condition_dead : (ℕ → Bool) → Condition → Told
condition_dead dead = fold-Condition Told Told Told Told Told Told Told Told Told Told Told branch_step condition_step kind_step (stmt_step dead) piece_step block_step catch_step (expr_step dead) (lambda_step dead) subject_step when_step

unfoldable pub catch_dead : (ℕ → Bool) → Catch → Told
catch_dead dead = fold-Catch Told Told Told Told Told Told Told Told Told Told Told branch_step condition_step kind_step (stmt_step dead) piece_step block_step catch_step (expr_step dead) (lambda_step dead) subject_step when_step

unfoldable pub lambda_dead : (ℕ → Bool) → Lambda → Told
lambda_dead dead = fold-Lambda Told Told Told Told Told Told Told Told Told Told Told branch_step condition_step kind_step (stmt_step dead) piece_step block_step catch_step (expr_step dead) (lambda_step dead) subject_step when_step

unfoldable pub subject_dead : (ℕ → Bool) → Subject → Told
subject_dead dead = fold-Subject Told Told Told Told Told Told Told Told Told Told Told branch_step condition_step kind_step (stmt_step dead) piece_step block_step catch_step (expr_step dead) (lambda_step dead) subject_step when_step

unfoldable pub when_dead : (ℕ → Bool) → WhenBranch → Told
when_dead dead = fold-WhenBranch Told Told Told Told Told Told Told Told Told Told Told branch_step condition_step kind_step (stmt_step dead) piece_step block_step catch_step (expr_step dead) (lambda_step dead) subject_step when_step

-- The trees of a contract belong to no body.
abbrev pub written_dead : (ℕ → Bool) → FunctionBody → Told
written_dead dead (written.Expr e) = expr_dead dead e
written_dead dead (written.Block contract block) = block_dead dead block

abbrev pub body_dead : (ℕ → Bool) → Option FunctionBody → Told
body_dead dead (Some body) = written_dead dead body
body_dead dead None = []

abbrev pub function_dead : (ℕ → Bool) → Option FunctionDecl → Told
function_dead dead (Some f) = body_dead dead f.body
function_dead dead None = []

-- Of an owner's body. Those of members, getters and classes are not open yet.
abbrev pub owner_dead : (ℕ → Bool) → File → Owner → Told
owner_dead dead file (owner.Function f) = function_dead dead (slice_get file.functions f)
owner_dead dead file _ = []

-- ---- what is told of a body

-- The outermost dead trees of an owner's body, by its graph, in the order of the text.
pub record AreOutermostDead (g : Graph) (file : File) (o : Owner) (told : Told) : Type 0 where
  pub dead : ℕ → Bool
  pub is_dead : (tree : ℕ) → IsTrue (dead tree) ↔ IsDead g tree
  pub are_outermost : told ≡ owner_dead dead file o
