use Rattle.std.proofs.Common.{ap, ◌∙◌}
use Rattle.kt_tree.specs.declared.ast.body.Stmt.{Stmt}
use Rattle.kt_model.specs.BodyTrees.{stmt_tree}
use Rattle.kt_model.proofs.BodyFolds.{stmt_expr, stmt_while, stmt_do_while, stmt_for}
use Rattle.kt_flow.specs.Ends.{followed}
use Rattle.kt_flow.proofs.Followed.{followed_local, followed_assign}
use Rattle.kt_flow.proofs.ends.followed_stmt.Goals as goal

pub returns-in-Expr : goal.returns-in-Expr
returns-in-Expr c uses =
    ap (λ (s : Stmt). followed (stmt_tree uses s)) c.in-Expr.is ∙ ap followed (stmt_expr uses _) ∙ c.followed_expr.ensures uses

pub returns-in-Local : goal.returns-in-Local
returns-in-Local c uses = ap (λ (s : Stmt). followed (stmt_tree uses s)) c.in-Local.is ∙ followed_local uses _ _ _ _ _ _

pub returns-in-Assign : goal.returns-in-Assign
returns-in-Assign c uses = ap (λ (s : Stmt). followed (stmt_tree uses s)) c.in-Assign.is ∙ followed_assign uses _ _ _ _ _

pub returns-in-While : goal.returns-in-While
returns-in-While c uses = ap (λ (s : Stmt). followed (stmt_tree uses s)) c.in-While.is ∙ ap followed (stmt_while uses _ _ _ _)

pub returns-in-DoWhile : goal.returns-in-DoWhile
returns-in-DoWhile c uses = ap (λ (s : Stmt). followed (stmt_tree uses s)) c.in-DoWhile.is ∙ ap followed (stmt_do_while uses _ _ _ _)

pub returns-in-For : goal.returns-in-For
returns-in-For c uses = ap (λ (s : Stmt). followed (stmt_tree uses s)) c.in-For.is ∙ ap followed (stmt_for uses _ _ _ _ _ _ _ _)
