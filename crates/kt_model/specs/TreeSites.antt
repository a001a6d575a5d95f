-- What the rules on declarations look at inside a tree: each written type, and each local with neither a written type nor an initialiser, in the
-- order of the text.
--
-- From the Kotlin specification, "Type system" and "Local property declaration". That a local needs one of the two is this project's own. Each tree
-- has the sites of its parts, one part behind another; the code walks over the trees and fills one list.
use Rattle.std.specs.Prelude.{List, [], ◌∷◌, ◌++◌, Option, Some, None, unwrap_or}
use Rattle.std.specs.List.{flat_map}
use Rattle.kt_tree.specs.declared.ast.part.Ident.{Ident}
use Rattle.kt_tree.specs.declared.ast.part.TypeRef.{TypeRef}
use Rattle.kt_tree.specs.declared.ast.body.Expr.{Expr}
use Rattle.kt_tree.specs.declared.ast.body.ExprKind.{ExprKind}
use Rattle.kt_tree.specs.declared.ast.body.Stmt.{Stmt}
use Rattle.kt_tree.specs.declared.ast.body.Block.{Block}
use Rattle.kt_tree.specs.declared.ast.body.Branch.{Branch}
use Rattle.kt_tree.specs.declared.ast.body.StringPart.{StringPart}
use Rattle.kt_tree.specs.declared.ast.body.Lambda.{Lambda}
use Rattle.kt_tree.specs.declared.ast.body.Subject.{Subject}
use Rattle.kt_tree.specs.declared.ast.body.Condition.{Condition}
use Rattle.kt_tree.specs.declared.ast.body.WhenBranch.{WhenBranch}
use Rattle.kt_tree.specs.declared.ast.body.Catch.{Catch}
use Rattle.kt_tree.specs.declared.ast.body.Branch.TheOpen.{Branch-F, Condition-F, ExprKind-F, Stmt-F, StringPart-F, Block-F, Catch-F, Expr-F, Lambda-F, Subject-F, WhenBranch-F}
use Rattle.kt_tree.specs.declared.ast.body.Branch.TheFolds.{fold-Branch, fold-Condition, fold-ExprKind, fold-Stmt, fold-StringPart, fold-Block, fold-Catch, fold-Expr, fold-Lambda, fold-Subject, fold-WhenBranch}
use Rattle.kt_model.specs.declared.body_site.BodySite.{BodySite}
use Rattle.kt_model.specs.declared.body_site.BodySite.TheVariants.{Written, Untyped}

abbrev pub BodySites : Type 0
BodySites = List BodySite

-- those of parts, one behind another
abbrev pub joined : List BodySites → BodySites
joined parts = flat_map (λ part. part) parts

-- those of a part that need not be there
abbrev pub held : Option BodySites → BodySites
held part = unwrap_or part []

-- a type that need not be written
abbrev pub written_type : Option TypeRef → BodySites
written_type None = []
written_type (Some w) = Written w ∷ []

-- a local, before its initialiser
abbrev pub local_site : Ident → Option TypeRef → Option BodySites → BodySites
local_site name (Some w) value = Written w ∷ []
local_site name None (Some value) = []
local_site name None None = Untyped name ∷ []

abbrev pub kind_step : ExprKind-F BodySites BodySites BodySites BodySites BodySites BodySites BodySites BodySites BodySites BodySites BodySites → BodySites
kind_step (ExprKind-F.Template pieces) = joined pieces
kind_step (ExprKind-F.Paren e) = e
kind_step (ExprKind-F.Call callee arguments lambda) = joined arguments ++ held lambda
kind_step (ExprKind-F.Member receiver access name) = receiver
kind_step (ExprKind-F.MemberCall receiver access name arguments) = receiver ++ joined arguments
kind_step (ExprKind-F.NotNull e) = e
kind_step (ExprKind-F.Sign sign e) = e
kind_step (ExprKind-F.Not e) = e
kind_step (ExprKind-F.As e w) = e ++ Written w ∷ []
kind_step (ExprKind-F.AsSafe e w) = e ++ Written w ∷ []
kind_step (ExprKind-F.Sum a b) = a ++ b
kind_step (ExprKind-F.Arithmetic operator a b) = a ++ b
kind_step (ExprKind-F.Compare operator a b) = a ++ b
kind_step (ExprKind-F.Equal operator a b) = a ++ b
kind_step (ExprKind-F.And a b) = a ++ b
kind_step (ExprKind-F.Or a b) = a ++ b
kind_step (ExprKind-F.Elvis a b) = a ++ b
kind_step (ExprKind-F.«ExprKind::Is» e w) = e ++ Written w ∷ []
kind_step (ExprKind-F.«ExprKind::IsNot» e w) = e ++ Written w ∷ []
kind_step (ExprKind-F.If condition then' otherwise) = condition ++ then' ++ held otherwise
kind_step (ExprKind-F.When subject branches) = held subject ++ joined branches
kind_step (ExprKind-F.Try body catches finally) = body ++ joined catches ++ held finally
kind_step (ExprKind-F.Return label value) = held value
kind_step (ExprKind-F.Throw e) = e
kind_step _ = []

abbrev pub expr_step : Expr-F BodySites BodySites BodySites BodySites BodySites BodySites BodySites BodySites BodySites BodySites BodySites → BodySites
expr_step e = e.kind

abbrev pub piece_step : StringPart-F BodySites BodySites BodySites BodySites BodySites BodySites BodySites BodySites BodySites BodySites BodySites → BodySites
piece_step (StringPart-F.Text bytes) = []
piece_step (StringPart-F.Inserted e) = e

abbrev pub lambda_step : Lambda-F BodySites BodySites BodySites BodySites BodySites BodySites BodySites BodySites BodySites BodySites BodySites → BodySites
lambda_step l = flat_map (λ p. written_type p.written) l.parameters ++ l.body

abbrev pub block_step : Block-F BodySites BodySites BodySites BodySites BodySites BodySites BodySites BodySites BodySites BodySites BodySites → BodySites
block_step b = joined b.statements

abbrev pub branch_step : Branch-F BodySites BodySites BodySites BodySites BodySites BodySites BodySites BodySites BodySites BodySites BodySites → BodySites
branch_step (Branch-F.Braced b) = b
branch_step (Branch-F.Single s) = s

abbrev pub subject_step : Subject-F BodySites BodySites BodySites BodySites BodySites BodySites BodySites BodySites BodySites BodySites BodySites → BodySites
subject_step s = written_type s.written ++ s.value

abbrev pub condition_step : Condition-F BodySites BodySites BodySites BodySites BodySites BodySites BodySites BodySites BodySites BodySites BodySites → BodySites
condition_step (Condition-F.«Condition::Is» span w) = Written w ∷ []
condition_step (Condition-F.«Condition::IsNot» span w) = Written w ∷ []
condition_step (Condition-F.Value e) = e

abbrev pub when_branch_step : WhenBranch-F BodySites BodySites BodySites BodySites BodySites BodySites BodySites BodySites BodySites BodySites BodySites → BodySites
when_branch_step b = joined (unwrap_or b.conditions []) ++ b.body

abbrev pub catch_step : Catch-F BodySites BodySites BodySites BodySites BodySites BodySites BodySites BodySites BodySites BodySites BodySites → BodySites
catch_step c = Written c.caught ∷ c.body

abbrev pub stmt_step : Stmt-F BodySites BodySites BodySites BodySites BodySites BodySites BodySites BodySites BodySites BodySites BodySites → BodySites
stmt_step (Stmt-F.Expr e) = e
stmt_step (Stmt-F.Local n span is_var name written value) = local_site name written value ++ held value
stmt_step (Stmt-F.Assign n span target assignment value) = target ++ held value
stmt_step (Stmt-F.While n span condition body) = condition ++ body
stmt_step (Stmt-F.DoWhile n span body condition) = body ++ condition
stmt_step (Stmt-F.For n span variable written low progression high body) = written_type written ++ low ++ high ++ body

-- what stands in each
unfoldable pub expr_sites : Expr → BodySites
expr_sites = fold-Expr BodySites BodySites BodySites BodySites BodySites BodySites BodySites BodySites BodySites BodySites BodySites branch_step condition_step kind_step stmt_step piece_step block_step catch_step expr_step lambda_step subject_step when_branch_step

unfoldable pub kind_sites : ExprKind → BodySites
kind_sites = fold-ExprKind BodySites BodySites BodySites BodySites BodySites BodySites BodySites BodySites BodySites BodySites BodySites branch_step condition_step kind_step stmt_step piece_step block_step catch_step expr_step lambda_step subject_step when_branch_step

unfoldable pub stmt_sites : Stmt → BodySites
stmt_sites = fold-Stmt BodySites BodySites BodySites BodySites BodySites BodySites BodySites BodySites BodySites BodySites BodySites branch_step condition_step kind_step stmt_step piece_step block_step catch_step expr_step lambda_step subject_step when_branch_step

unfoldable pub block_sites : Block → BodySites
block_sites = fold-Block BodySites BodySites BodySites BodySites BodySites BodySites BodySites BodySites BodySites BodySites BodySites branch_step condition_step kind_step stmt_step piece_step block_step catch_step expr_step lambda_step subject_step when_branch_step

unfoldable pub branch_sites : Branch → BodySites
branch_sites = fold-Branch BodySites BodySites BodySites BodySites BodySites BodySites BodySites BodySites BodySites BodySites BodySites branch_step condition_step kind_step stmt_step piece_step block_step catch_step expr_step lambda_step subject_step when_branch_step

unfoldable pub piece_sites : StringPart → BodySites
piece_sites = fold-StringPart BodySites BodySites BodySites BodySites BodySites BodySites BodySites BodySites BodySites BodySites BodySites branch_step condition_step kind_step stmt_step piece_step block_step catch_step expr_step lambda_step subject_step when_branch_step

unfoldable pub lambda_sites : Lambda → BodySites
lambda_sites = fold-Lambda BodySites BodySites BodySites BodySites BodySites BodySites BodySites BodySites BodySites BodySites BodySites branch_step condition_step kind_step stmt_step piece_step block_step catch_step expr_step lambda_step subject_step when_branch_step

unfoldable pub subject_sites : Subject → BodySites
subject_sites = fold-Subject BodySites BodySites BodySites BodySites BodySites BodySites BodySites BodySites BodySites BodySites BodySites branch_step condition_step kind_step stmt_step piece_step block_step catch_step expr_step lambda_step subject_step when_branch_step

unfoldable pub condition_sites : Condition → BodySites
condition_sites = fold-Condition BodySites BodySites BodySites BodySites BodySites BodySites BodySites BodySites BodySites BodySites BodySites branch_step condition_step kind_step stmt_step piece_step block_step catch_step expr_step lambda_step subject_step when_branch_step

unfoldable pub when_branch_sites : WhenBranch → BodySites
when_branch_sites = fold-WhenBranch BodySites BodySites BodySites BodySites BodySites BodySites BodySites BodySites BodySites BodySites BodySites branch_step condition_step kind_step stmt_step piece_step block_step catch_step expr_step lambda_step subject_step when_branch_step

unfoldable pub catch_sites : Catch → BodySites
catch_sites = fold-Catch BodySites BodySites BodySites BodySites BodySites BodySites BodySites BodySites BodySites BodySites BodySites branch_step condition_step kind_step stmt_step piece_step block_step catch_step expr_step lambda_step subject_step when_branch_step
