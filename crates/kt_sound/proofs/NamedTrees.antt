-- Each call among the trees of a body, by induction over the written trees.
use Rattle.std.proofs.Common.{◌≡◌, ℕ, Option, Some, None, map, refl, sym, subst}
use Rattle.std.specs.Prelude.{⊤}
use Rattle.kt_tree.specs.declared.ast.body.Expr.{Expr}
use Rattle.kt_tree.specs.declared.ast.body.ExprKind.{ExprKind}
use Rattle.kt_tree.specs.declared.ast.body.Stmt.{Stmt}
use Rattle.kt_tree.specs.declared.ast.body.Block.{Block}
use Rattle.kt_tree.specs.declared.ast.body.Branch.{Branch}
use Rattle.kt_tree.specs.declared.ast.body.Condition.{Condition}
use Rattle.kt_tree.specs.declared.ast.body.Catch.{Catch}
use Rattle.kt_tree.specs.declared.ast.body.Lambda.{Lambda}
use Rattle.kt_tree.specs.declared.ast.body.Subject.{Subject}
use Rattle.kt_tree.specs.declared.ast.body.WhenBranch.{WhenBranch}
use Rattle.kt_tree.specs.declared.ast.body.StringPart.{StringPart}
use Rattle.kt_tree.specs.declared.ast.body.Branch.TheOpen.{Branch-F, ExprKind-F, Stmt-F, StringPart-F, Block-F, Expr-F}
use Rattle.kt_tree.specs.declared.ast.body.Branch.TheViews as v
use Rattle.kt_tree.specs.declared.ast.body.Branch.TheFolds.{ind-Expr, ind-Block, map-Branch, map-ExprKind, map-Stmt, map-StringPart, map-Block, map-Expr, fold-roll-Branch, fold-roll-ExprKind, fold-roll-Stmt, fold-roll-StringPart, fold-roll-Block, fold-roll-Expr}
use Rattle.kt_tree.specs.declared.ast.declaration.FunctionBody.{FunctionBody}
use Rattle.kt_tree.specs.declared.ast.declaration.FunctionBody.TheVariants as written
use Rattle.kt_model.specs.declared.uses.Named.{Named}
use Rattle.kt_model.specs.Bodies.{body_trees_of}
use Rattle.kt_model.specs.BodyTrees.{Int', Bool', Null', Template', Sign', Sum', Arithmetic', Compare', Equal', Tree, Trees, Empty', Piece, Seen, SeenBlock, SeenKind, inserted_of, seen_trees, kind_step, stmt_step, branch_step, piece_step, block_step, expr_step, nothing, whole, named_there, seen, seen_block, seen_branch, seen_kind, stmt_tree, block_trees, branch_trees, piece, expr_tree}
use Rattle.kt_sound.proofs.NamedCalls.{Calls, AllCalls, OfKind, OfPiece, BranchWith, ConditionWith, KindWith, StmtWith, PieceWith, BlockWith, CatchWith, ExprWith, LambdaWith, SubjectWith, WhenBranchWith, none, one_more, alone, shut_calls, operation_calls, paren_calls, not_calls, throw_calls, and_calls, or_calls, if_calls, return_calls, name_calls, call_calls, arguments_calls, pieces_calls, listed_calls, local_calls, assign_calls}

module _ (uses : ℕ → Named) where
  -- ---- one layer of a written tree, whose parts are proved

  -- a type with eleven types of parts, as one layer of each kind of written tree is
  abbrev Layer : Type 1
  Layer = Type 0 → Type 0 → Type 0 → Type 0 → Type 0 → Type 0 → Type 0 → Type 0 → Type 0 → Type 0 → Type 0 → Type 0

  -- with its parts as they are written, and with what is proved of each beside it
  abbrev Written : Layer → Type 0
  Written F = F Branch Condition ExprKind Stmt StringPart Block Catch Expr Lambda Subject WhenBranch

  abbrev Proved : Layer → Type 0
  Proved F = F (BranchWith uses) (ConditionWith uses) (KindWith uses) (StmtWith uses) (PieceWith uses) (BlockWith uses) (CatchWith uses) (ExprWith uses) (LambdaWith uses) (SubjectWith uses) (WhenBranchWith uses)

  -- the layer as it is written, and what is made of it
  abbrev branch_parts : Proved Branch-F → Written Branch-F
  branch_parts y = map-Branch _ _ _ _ _ _ _ _ _ _ _ _ _ _ _ _ _ _ _ _ _ _ (λ e. e.0) (λ e. e.0) (λ e. e.0) (λ e. e.0) (λ e. e.0) (λ e. e.0) (λ e. e.0) (λ e. e.0) (λ e. e.0) (λ e. e.0) (λ e. e.0) y

  abbrev branch_made : Proved Branch-F → SeenBlock
  branch_made y = branch_step (map-Branch _ _ _ _ _ _ _ _ _ _ _ _ _ _ _ _ _ _ _ _ _ _ (seen_branch uses) nothing (seen_kind uses) (stmt_tree uses) (piece uses) (seen_block uses) nothing (seen uses) nothing nothing nothing (branch_parts y))

  abbrev kind_parts : Proved ExprKind-F → Written ExprKind-F
  kind_parts y = map-ExprKind _ _ _ _ _ _ _ _ _ _ _ _ _ _ _ _ _ _ _ _ _ _ (λ e. e.0) (λ e. e.0) (λ e. e.0) (λ e. e.0) (λ e. e.0) (λ e. e.0) (λ e. e.0) (λ e. e.0) (λ e. e.0) (λ e. e.0) (λ e. e.0) y

  abbrev kind_made : Proved ExprKind-F → SeenKind
  kind_made y = kind_step uses (map-ExprKind _ _ _ _ _ _ _ _ _ _ _ _ _ _ _ _ _ _ _ _ _ _ (seen_branch uses) nothing (seen_kind uses) (stmt_tree uses) (piece uses) (seen_block uses) nothing (seen uses) nothing nothing nothing (kind_parts y))

  abbrev stmt_parts : Proved Stmt-F → Written Stmt-F
  stmt_parts y = map-Stmt _ _ _ _ _ _ _ _ _ _ _ _ _ _ _ _ _ _ _ _ _ _ (λ e. e.0) (λ e. e.0) (λ e. e.0) (λ e. e.0) (λ e. e.0) (λ e. e.0) (λ e. e.0) (λ e. e.0) (λ e. e.0) (λ e. e.0) (λ e. e.0) y

  abbrev stmt_made : Proved Stmt-F → Tree
  stmt_made y = stmt_step uses (map-Stmt _ _ _ _ _ _ _ _ _ _ _ _ _ _ _ _ _ _ _ _ _ _ (seen_branch uses) nothing (seen_kind uses) (stmt_tree uses) (piece uses) (seen_block uses) nothing (seen uses) nothing nothing nothing (stmt_parts y))

  abbrev piece_parts : Proved StringPart-F → Written StringPart-F
  piece_parts y = map-StringPart _ _ _ _ _ _ _ _ _ _ _ _ _ _ _ _ _ _ _ _ _ _ (λ e. e.0) (λ e. e.0) (λ e. e.0) (λ e. e.0) (λ e. e.0) (λ e. e.0) (λ e. e.0) (λ e. e.0) (λ e. e.0) (λ e. e.0) (λ e. e.0) y

  abbrev piece_made : Proved StringPart-F → Piece
  piece_made y = piece_step (map-StringPart _ _ _ _ _ _ _ _ _ _ _ _ _ _ _ _ _ _ _ _ _ _ (seen_branch uses) nothing (seen_kind uses) (stmt_tree uses) (piece uses) (seen_block uses) nothing (seen uses) nothing nothing nothing (piece_parts y))

  abbrev block_parts : Proved Block-F → Written Block-F
  block_parts y = map-Block _ _ _ _ _ _ _ _ _ _ _ _ _ _ _ _ _ _ _ _ _ _ (λ e. e.0) (λ e. e.0) (λ e. e.0) (λ e. e.0) (λ e. e.0) (λ e. e.0) (λ e. e.0) (λ e. e.0) (λ e. e.0) (λ e. e.0) (λ e. e.0) y

  abbrev block_made : Proved Block-F → SeenBlock
  block_made y = block_step (map-Block _ _ _ _ _ _ _ _ _ _ _ _ _ _ _ _ _ _ _ _ _ _ (seen_branch uses) nothing (seen_kind uses) (stmt_tree uses) (piece uses) (seen_block uses) nothing (seen uses) nothing nothing nothing (block_parts y))

  abbrev expr_parts : Proved Expr-F → Written Expr-F
  expr_parts y = map-Expr _ _ _ _ _ _ _ _ _ _ _ _ _ _ _ _ _ _ _ _ _ _ (λ e. e.0) (λ e. e.0) (λ e. e.0) (λ e. e.0) (λ e. e.0) (λ e. e.0) (λ e. e.0) (λ e. e.0) (λ e. e.0) (λ e. e.0) (λ e. e.0) y

  abbrev expr_made : Proved Expr-F → Seen
  expr_made y = expr_step (map-Expr _ _ _ _ _ _ _ _ _ _ _ _ _ _ _ _ _ _ _ _ _ _ (seen_branch uses) nothing (seen_kind uses) (stmt_tree uses) (piece uses) (seen_block uses) nothing (seen uses) nothing nothing nothing (expr_parts y))

  -- ---- each form

  kind_calls : (y : Proved ExprKind-F) → OfKind uses (kind_made y)
  kind_calls (ExprKind-F.Int k) = λ n at. operation_calls uses (whole n at) (Int' k) Empty' tt (none uses)
  kind_calls (ExprKind-F.Bool b) = λ n at. operation_calls uses (whole n at) (Bool' b) Empty' tt (none uses)
  kind_calls ExprKind-F.Null = λ n at. operation_calls uses (whole n at) Null' Empty' tt (none uses)
  kind_calls (ExprKind-F.Name x) = λ n at. name_calls uses (uses n) n at
  kind_calls (ExprKind-F.Template pieces) = λ n at. operation_calls uses (whole n at) (Template' _) (inserted_of (map (piece uses) (map (λ e. e.0) pieces))) tt (pieces_calls uses pieces)
  kind_calls (ExprKind-F.Paren e) = λ n at. paren_calls uses (whole n at) (expr_tree uses e.0) e.1
  kind_calls (ExprKind-F.Call callee arguments None) = λ n at. call_calls uses (uses n) n refl (seen_trees (map (seen uses) (map (λ e. e.0) arguments))) (named_there n at callee.span) (arguments_calls uses arguments)
  kind_calls (ExprKind-F.Call callee arguments (Some f)) = λ n at. shut_calls uses (whole n at)
  kind_calls (ExprKind-F.Sign sign e) = λ n at. operation_calls uses (whole n at) (Sign' sign) _ tt (alone uses (expr_tree uses e.0) e.1)
  kind_calls (ExprKind-F.Not e) = λ n at. not_calls uses (whole n at) (expr_tree uses e.0) e.1
  kind_calls (ExprKind-F.Sum a b) = λ n at. operation_calls uses (whole n at) Sum' _ tt (one_more uses (expr_tree uses a.0) _ a.1 (alone uses (expr_tree uses b.0) b.1))
  kind_calls (ExprKind-F.Arithmetic o a b) = λ n at. operation_calls uses (whole n at) (Arithmetic' o) _ tt (one_more uses (expr_tree uses a.0) _ a.1 (alone uses (expr_tree uses b.0) b.1))
  kind_calls (ExprKind-F.Compare o a b) = λ n at. operation_calls uses (whole n at) (Compare' o) _ tt (one_more uses (expr_tree uses a.0) _ a.1 (alone uses (expr_tree uses b.0) b.1))
  kind_calls (ExprKind-F.Equal o a b) = λ n at. operation_calls uses (whole n at) (Equal' o) _ tt (one_more uses (expr_tree uses a.0) _ a.1 (alone uses (expr_tree uses b.0) b.1))
  kind_calls (ExprKind-F.And a b) = λ n at. and_calls uses (whole n at) (expr_tree uses a.0) (expr_tree uses b.0) a.1 b.1
  kind_calls (ExprKind-F.Or a b) = λ n at. or_calls uses (whole n at) (expr_tree uses a.0) (expr_tree uses b.0) a.1 b.1
  kind_calls (ExprKind-F.If c a None) = λ n at. if_calls uses (whole n at) _ (expr_tree uses c.0) (branch_trees uses a.0) Empty' c.1 a.1 (none uses)
  kind_calls (ExprKind-F.If c a (Some b)) = λ n at. if_calls uses (whole n at) _ (expr_tree uses c.0) (branch_trees uses a.0) (branch_trees uses b.0) c.1 a.1 b.1
  kind_calls (ExprKind-F.Return None None) = λ n at. return_calls uses (whole n at) Empty' (none uses)
  kind_calls (ExprKind-F.Return None (Some e)) = λ n at. return_calls uses (whole n at) _ (alone uses (expr_tree uses e.0) e.1)
  kind_calls (ExprKind-F.Return (Some label) None) = λ n at. shut_calls uses (whole n at)
  kind_calls (ExprKind-F.Return (Some label) (Some e)) = λ n at. shut_calls uses (whole n at)
  kind_calls (ExprKind-F.Throw e) = λ n at. throw_calls uses (whole n at) (expr_tree uses e.0) e.1
  kind_calls _ = λ n at. shut_calls uses (whole n at)

  stmt_calls : (y : Proved Stmt-F) → Calls uses (stmt_made y)
  stmt_calls (Stmt-F.Expr e) = e.1
  stmt_calls (Stmt-F.Local n span is_var ident written None) = local_calls uses (uses n) (named_there n span ident.span) None tt
  stmt_calls (Stmt-F.Local n span is_var ident written (Some e)) = local_calls uses (uses n) (named_there n span ident.span) (Some (seen uses e.0)) e.1
  stmt_calls (Stmt-F.Assign n span target a None) = assign_calls uses (uses n) n span (seen uses target.0).name a None tt
  stmt_calls (Stmt-F.Assign n span target a (Some e)) = assign_calls uses (uses n) n span (seen uses target.0).name a (Some (seen uses e.0)) e.1
  stmt_calls (Stmt-F.While n span c b) = shut_calls uses (whole n span)
  stmt_calls (Stmt-F.DoWhile n span b c) = shut_calls uses (whole n span)
  stmt_calls (Stmt-F.For n span x written low p high b) = shut_calls uses (whole n span)

  branch_calls : (y : Proved Branch-F) → AllCalls uses (branch_made y).trees
  branch_calls (Branch-F.Braced b) = b.1
  branch_calls (Branch-F.Single s) = alone uses (stmt_tree uses s.0) s.1

  piece_calls : (y : Proved StringPart-F) → OfPiece uses (piece_made y)
  piece_calls (StringPart-F.Text bytes) = tt
  piece_calls (StringPart-F.Inserted e) = e.1

  -- ---- the induction

  step_branch : (x : Written Branch-F) (y : Proved Branch-F) → branch_parts y ≡ x → AllCalls uses (branch_trees uses (v.roll-Branch x))
  unfolding seen seen_kind stmt_tree seen_block seen_branch piece
  step_branch x y is = subst (λ z. AllCalls uses (branch_trees uses (v.roll-Branch z))) is (subst (λ (b : SeenBlock). AllCalls uses b.trees) (sym (fold-roll-Branch SeenBlock (Unit {0}) SeenKind Tree Piece SeenBlock (Unit {0}) Seen (Unit {0}) (Unit {0}) (Unit {0}) branch_step nothing (kind_step uses) (stmt_step uses) piece_step block_step nothing expr_step nothing nothing nothing (branch_parts y))) (branch_calls y))

  step_kind : (x : Written ExprKind-F) (y : Proved ExprKind-F) → kind_parts y ≡ x → OfKind uses (seen_kind uses (v.roll-ExprKind x))
  unfolding seen seen_kind stmt_tree seen_block seen_branch piece
  step_kind x y is = subst (λ z. OfKind uses (seen_kind uses (v.roll-ExprKind z))) is (subst (OfKind uses) (sym (fold-roll-ExprKind SeenBlock (Unit {0}) SeenKind Tree Piece SeenBlock (Unit {0}) Seen (Unit {0}) (Unit {0}) (Unit {0}) branch_step nothing (kind_step uses) (stmt_step uses) piece_step block_step nothing expr_step nothing nothing nothing (kind_parts y))) (kind_calls y))

  step_stmt : (x : Written Stmt-F) (y : Proved Stmt-F) → stmt_parts y ≡ x → Calls uses (stmt_tree uses (v.roll-Stmt x))
  unfolding seen seen_kind stmt_tree seen_block seen_branch piece
  step_stmt x y is = subst (λ z. Calls uses (stmt_tree uses (v.roll-Stmt z))) is (subst (Calls uses) (sym (fold-roll-Stmt SeenBlock (Unit {0}) SeenKind Tree Piece SeenBlock (Unit {0}) Seen (Unit {0}) (Unit {0}) (Unit {0}) branch_step nothing (kind_step uses) (stmt_step uses) piece_step block_step nothing expr_step nothing nothing nothing (stmt_parts y))) (stmt_calls y))

  step_piece : (x : Written StringPart-F) (y : Proved StringPart-F) → piece_parts y ≡ x → OfPiece uses (piece uses (v.roll-StringPart x))
  unfolding seen seen_kind stmt_tree seen_block seen_branch piece
  step_piece x y is = subst (λ z. OfPiece uses (piece uses (v.roll-StringPart z))) is (subst (OfPiece uses) (sym (fold-roll-StringPart SeenBlock (Unit {0}) SeenKind Tree Piece SeenBlock (Unit {0}) Seen (Unit {0}) (Unit {0}) (Unit {0}) branch_step nothing (kind_step uses) (stmt_step uses) piece_step block_step nothing expr_step nothing nothing nothing (piece_parts y))) (piece_calls y))

  step_block : (x : Written Block-F) (y : Proved Block-F) → block_parts y ≡ x → AllCalls uses (block_trees uses (v.roll-Block x))
  unfolding seen seen_kind stmt_tree seen_block seen_branch piece
  step_block x y is = subst (λ z. AllCalls uses (block_trees uses (v.roll-Block z))) is (subst (λ (b : SeenBlock). AllCalls uses b.trees) (sym (fold-roll-Block SeenBlock (Unit {0}) SeenKind Tree Piece SeenBlock (Unit {0}) Seen (Unit {0}) (Unit {0}) (Unit {0}) branch_step nothing (kind_step uses) (stmt_step uses) piece_step block_step nothing expr_step nothing nothing nothing (block_parts y))) (listed_calls uses y.statements))

  step_expr : (x : Written Expr-F) (y : Proved Expr-F) → expr_parts y ≡ x → Calls uses (expr_tree uses (v.roll-Expr x))
  unfolding seen seen_kind stmt_tree seen_block seen_branch piece
  step_expr x y is = subst (λ z. Calls uses (expr_tree uses (v.roll-Expr z))) is (subst (λ (e : Seen). Calls uses e.tree) (sym (fold-roll-Expr SeenBlock (Unit {0}) SeenKind Tree Piece SeenBlock (Unit {0}) Seen (Unit {0}) (Unit {0}) (Unit {0}) branch_step nothing (kind_step uses) (stmt_step uses) piece_step block_step nothing expr_step nothing nothing nothing (expr_parts y))) (y.kind.1 y.number y.span))

  pub expr_calls : (e : Expr) → Calls uses (expr_tree uses e)
  expr_calls e = ind-Expr (λ x. AllCalls uses (branch_trees uses x)) (λ x. ⊤) (λ x. OfKind uses (seen_kind uses x)) (λ x. Calls uses (stmt_tree uses x)) (λ x. OfPiece uses (piece uses x)) (λ x. AllCalls uses (block_trees uses x)) (λ x. ⊤) (λ x. Calls uses (expr_tree uses x)) (λ x. ⊤) (λ x. ⊤) (λ x. ⊤) step_branch (λ x y is. tt) step_kind step_stmt step_piece step_block (λ x y is. tt) step_expr (λ x y is. tt) (λ x y is. tt) (λ x y is. tt) e

  pub block_calls : (b : Block) → AllCalls uses (block_trees uses b)
  block_calls b = ind-Block (λ x. AllCalls uses (branch_trees uses x)) (λ x. ⊤) (λ x. OfKind uses (seen_kind uses x)) (λ x. Calls uses (stmt_tree uses x)) (λ x. OfPiece uses (piece uses x)) (λ x. AllCalls uses (block_trees uses x)) (λ x. ⊤) (λ x. Calls uses (expr_tree uses x)) (λ x. ⊤) (λ x. ⊤) (λ x. ⊤) step_branch (λ x y is. tt) step_kind step_stmt step_piece step_block (λ x y is. tt) step_expr (λ x y is. tt) (λ x y is. tt) (λ x y is. tt) b

  -- in a body
  pub body_calls : (o : Option FunctionBody) → AllCalls uses (body_trees_of uses o)
  body_calls None = none uses
  body_calls (Some (written.Expr e)) = alone uses (expr_tree uses e) (expr_calls e)
  body_calls (Some (written.Block contract block)) = block_calls block
