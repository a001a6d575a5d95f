-- Operations: the kinds of expressions but calls, `if`, `when` and `try`. By this project's own division of the kinds: it says which function of the walk looks at a
-- kind, and no rule speaks of it.
use Rattle.std.specs.Prelude.{Bool, true, false, if◌then◌else◌, List, []}
use Rattle.kt_tree.specs.declared.ast.body.Expr.{Expr}
use Rattle.kt_tree.specs.declared.ast.body.ExprKind.{ExprKind}
use Rattle.kt_tree.specs.declared.ast.body.Stmt.{Stmt}
use Rattle.kt_tree.specs.declared.ast.body.Block.{Block}
use Rattle.kt_tree.specs.declared.ast.body.Branch.{Branch}
use Rattle.kt_tree.specs.declared.ast.body.StringPart.{StringPart}
use Rattle.kt_tree.specs.declared.ast.body.Condition.{Condition}
use Rattle.kt_tree.specs.declared.ast.body.Catch.{Catch}
use Rattle.kt_tree.specs.declared.ast.body.Lambda.{Lambda}
use Rattle.kt_tree.specs.declared.ast.body.Subject.{Subject}
use Rattle.kt_tree.specs.declared.ast.body.WhenBranch.{WhenBranch}
use Rattle.kt_tree.specs.declared.ast.body.Branch.TheOpen.{ExprKind-F}
use Rattle.kt_tree.specs.declared.ast.body.Branch.TheViews.{out-ExprKind}
use Rattle.kt_model.specs.declared.finding.Finding.{Finding}
use Rattle.kt_shape.specs.ShapeRules.{kind_shape}

abbrev pub is_operation : ExprKind-F Branch Condition ExprKind Stmt StringPart Block Catch Expr Lambda Subject WhenBranch → Bool
is_operation (ExprKind-F.Call callee arguments lambda) = false
is_operation (ExprKind-F.MemberCall receiver how name arguments) = false
is_operation (ExprKind-F.If c a b) = false
is_operation (ExprKind-F.When subject branches) = false
is_operation (ExprKind-F.Try body catches last) = false
is_operation kind = true

-- what is violated in the parts of an operation; nothing of another kind
unfoldable pub in_operation : ExprKind → List Finding
in_operation kind = if is_operation (out-ExprKind kind) then (kind_shape kind).inside true else []
