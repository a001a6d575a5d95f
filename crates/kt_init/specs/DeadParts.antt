-- What is told in the parts of two sorts of trees, which the code goes through in functions of their own.
use Rattle.std.specs.Prelude.{ℕ, Bool, true, false, [], ◌++◌, option_map, if◌then◌else◌}
use Rattle.kt_tree.specs.declared.ast.body.Block.{Block}
use Rattle.kt_tree.specs.declared.ast.body.Branch.{Branch}
use Rattle.kt_tree.specs.declared.ast.body.Catch.{Catch}
use Rattle.kt_tree.specs.declared.ast.body.Condition.{Condition}
use Rattle.kt_tree.specs.declared.ast.body.Expr.{Expr}
use Rattle.kt_tree.specs.declared.ast.body.ExprKind.{ExprKind, out-ExprKind}
use Rattle.kt_tree.specs.declared.ast.body.Lambda.{Lambda}
use Rattle.kt_tree.specs.declared.ast.body.Stmt.{Stmt, out-Stmt}
use Rattle.kt_tree.specs.declared.ast.body.StringPart.{StringPart}
use Rattle.kt_tree.specs.declared.ast.body.Subject.{Subject}
use Rattle.kt_tree.specs.declared.ast.body.WhenBranch.{WhenBranch}
use Rattle.kt_tree.specs.declared.ast.body.Branch.TheOpen.{ExprKind-F, Stmt-F}
use Rattle.kt_model.specs.DeadTrees.{Told, block_dead, branch_dead, expr_dead, kind_dead, optional}

-- a kind of expression, and a statement, opened once
abbrev pub OpenKind : Type 0
OpenKind = ExprKind-F Branch Condition ExprKind Stmt StringPart Block Catch Expr Lambda Subject WhenBranch

abbrev pub OpenStmt : Type 0
OpenStmt = Stmt-F Branch Condition ExprKind Stmt StringPart Block Catch Expr Lambda Subject WhenBranch

-- Whether it is a call, an `if`, a `when` or a `try`.
abbrev pub is_compound : OpenKind → Bool
is_compound (ExprKind-F.Call callee arguments lambda) = true
is_compound (ExprKind-F.MemberCall receiver access name arguments) = true
is_compound (ExprKind-F.If c a b) = true
is_compound (ExprKind-F.When subject branches) = true
is_compound (ExprKind-F.Try body catches finally) = true
is_compound _ = false

-- What is told in such a kind, and nothing in others.
unfoldable pub compound_dead : (ℕ → Bool) → ExprKind → Told
compound_dead dead k = if is_compound (out-ExprKind k) then kind_dead dead k else []

-- What is told in a statement if it is not dead itself.
abbrev pub inside : (ℕ → Bool) → OpenStmt → Told
inside dead (Stmt-F.Expr e) = expr_dead dead e
inside dead (Stmt-F.Local n span is_var ident written e) = optional (option_map (expr_dead dead) e)
inside dead (Stmt-F.Assign n span target a e) = expr_dead dead target ++ optional (option_map (expr_dead dead) e)
inside dead (Stmt-F.While n span c b) = expr_dead dead c ++ branch_dead dead b
inside dead (Stmt-F.DoWhile n span b c) = block_dead dead b ++ expr_dead dead c
inside dead (Stmt-F.For n span x written low p high b) = expr_dead dead low ++ (expr_dead dead high ++ branch_dead dead b)

unfoldable pub parts_dead : (ℕ → Bool) → Stmt → Told
parts_dead dead s = inside dead (out-Stmt s)
