-- Each call among the trees that are made of a body is what the name in some tree stands for. By induction over the written trees.
use Rattle.std.proofs.Common.{◌≡◌, ℕ, Bool, Option, Some, None, List, [], ◌∷◌, map}
use Rattle.std.specs.Prelude.{⊤}
use Rattle.std.specs.List.{All}
use Rattle.std.proofs.lemmas.List.Elements.{All-nil, All-cons, All-append}
use Rattle.kt_tree.specs.declared.token.Span.{Span}
use Rattle.kt_tree.specs.declared.ast.part.Assignment.{Assignment}
use Rattle.kt_tree.specs.declared.ast.body.Expr.{Expr}
use Rattle.kt_tree.specs.declared.ast.body.ExprKind.{ExprKind}
use Rattle.kt_tree.specs.declared.ast.body.Stmt.{Stmt}
use Rattle.kt_tree.specs.declared.ast.body.Block.{Block}
use Rattle.kt_tree.specs.declared.ast.body.Branch.{Branch}
use Rattle.kt_tree.specs.declared.ast.body.Condition.{Condition}
use Rattle.kt_tree.specs.declared.ast.body.Catch.{Catch}
use Rattle.kt_tree.specs.declared.ast.body.Lambda.{Lambda}
use Rattle.kt_tree.specs.declared.ast.body.Subject.{Subject}
use Rattle.kt_tree.specs.declared.ast.body.WhenBranch.{WhenBranch}
use Rattle.kt_tree.specs.declared.ast.body.StringPart.{StringPart}
use Rattle.kt_model.specs.declared.uses.Named.{Named}
use Rattle.kt_model.specs.declared.uses.Named.TheVariants as named
use Rattle.kt_model.specs.BodyTrees.{Operation, BuiltIn', Mark, Tree, Trees, Empty', First', Operation', Name', Paren', Not', And', Or', If', Declare', Local', Assign', Compound', Call', Return', Throw', Shut', Piece, Text', Inserted', Seen, SeenKind, listed, inserted_of, seen_trees, seen_optional, name_tree, call_tree, local_tree, compound_of, assigned_tree, assign_tree, whole, named_there, seen, seen_kind, stmt_tree, block_trees, branch_trees, piece, expr_tree, Braces}
use Rattle.kt_model.specs.TreesWithin.{trees_in, all_trees_in}

-- A call stands for what the name in some tree does.
abbrev pub IsNamedCall : (ℕ → Named) → Tree → Type 0
IsNamedCall uses (Call' n f returns arguments) = (k : ℕ) × (uses k ≡ named.Function f returns)
IsNamedCall uses (Operation' n (BuiltIn' name returns) parts) = (k : ℕ) × (uses k ≡ named.BuiltIn name returns)
IsNamedCall uses _ = ⊤

module _ (uses : ℕ → Named) where
  -- each call in a tree; each in trees one behind another
  abbrev pub Calls : Tree → Type 0
  Calls t = All (IsNamedCall uses) (trees_in t)

  abbrev pub AllCalls : Trees → Type 0
  AllCalls ts = All (IsNamedCall uses) (all_trees_in ts)

  -- ---- trees by their parts

  pub none : AllCalls Empty'
  unfolding all_trees_in
  none = All-nil (IsNamedCall uses)

  pub one_more : (t : Tree) (ts : Trees) → Calls t → AllCalls ts → AllCalls (First' t ts)
  unfolding all_trees_in
  one_more t ts a b = All-append (IsNamedCall uses) (trees_in t) (all_trees_in ts) a b

  pub alone : (t : Tree) → Calls t → AllCalls (First' t Empty')
  alone t a = one_more t Empty' a none

  pub shut_calls : (n : Mark) → Calls (Shut' n)
  unfolding trees_in
  shut_calls n = All-cons (IsNamedCall uses) (Shut' n) [] tt (All-nil (IsNamedCall uses))

  pub operation_calls : (n : Mark) (o : Operation) (parts : Trees) → IsNamedCall uses (Operation' n o parts) → AllCalls parts → Calls (Operation' n o parts)
  unfolding trees_in
  operation_calls n o parts i a = All-cons (IsNamedCall uses) (Operation' n o parts) (all_trees_in parts) i a

  pub paren_calls : (n : Mark) (e : Tree) → Calls e → Calls (Paren' n e)
  unfolding trees_in
  paren_calls n e a = All-cons (IsNamedCall uses) (Paren' n e) (trees_in e) tt a

  pub not_calls : (n : Mark) (e : Tree) → Calls e → Calls (Not' n e)
  unfolding trees_in
  not_calls n e a = All-cons (IsNamedCall uses) (Not' n e) (trees_in e) tt a

  pub throw_calls : (n : Mark) (e : Tree) → Calls e → Calls (Throw' n e)
  unfolding trees_in
  throw_calls n e a = All-cons (IsNamedCall uses) (Throw' n e) (trees_in e) tt a

  pub and_calls : (n : Mark) (a b : Tree) → Calls a → Calls b → Calls (And' n a b)
  unfolding trees_in
  and_calls n a b i j = All-cons (IsNamedCall uses) (And' n a b) _ tt (All-append (IsNamedCall uses) (trees_in a) (trees_in b) i j)

  pub or_calls : (n : Mark) (a b : Tree) → Calls a → Calls b → Calls (Or' n a b)
  unfolding trees_in
  or_calls n a b i j = All-cons (IsNamedCall uses) (Or' n a b) _ tt (All-append (IsNamedCall uses) (trees_in a) (trees_in b) i j)

  pub if_calls : (n : Mark) (braces : Braces) (c : Tree) (a b : Trees) → Calls c → AllCalls a → AllCalls b → Calls (If' n braces c a b)
  unfolding trees_in
  if_calls n braces c a b h i j =
      All-cons (IsNamedCall uses) (If' n braces c a b) _ tt (All-append (IsNamedCall uses) (trees_in c) _ h (All-append (IsNamedCall uses) (all_trees_in a) (all_trees_in b) i j))

  pub return_calls : (n : Mark) (value : Trees) → AllCalls value → Calls (Return' n value)
  unfolding trees_in
  return_calls n value a = All-cons (IsNamedCall uses) (Return' n value) (all_trees_in value) tt a

  pub name_calls : (m : Named) (n : ℕ) (at : Span) → Calls (name_tree m n at)
  unfolding trees_in
  name_calls (named.Variable x fixed) n at = All-cons (IsNamedCall uses) (Name' (whole n at) at x) [] tt (All-nil (IsNamedCall uses))
  name_calls (named.Function f returns) n at = shut_calls (whole n at)
  name_calls (named.BuiltIn name returns) n at = shut_calls (whole n at)
  name_calls named.Other n at = shut_calls (whole n at)

  pub call_calls : (m : Named) (k : ℕ) → uses k ≡ m → (arguments : Trees) (n : Mark) → AllCalls arguments → Calls (call_tree m arguments n)
  unfolding trees_in
  call_calls (named.Variable x fixed) k e arguments n a = shut_calls n
  call_calls (named.Function f returns) k e arguments n a = All-cons (IsNamedCall uses) (Call' n f returns arguments) (all_trees_in arguments) (k, e) a
  call_calls (named.BuiltIn name returns) k e arguments n a = operation_calls n (BuiltIn' name returns) arguments (k, e) a
  call_calls named.Other k e arguments n a = shut_calls n

  -- ---- what is said of each written tree

  abbrev pub OfKind : SeenKind → Type 0
  OfKind f = (n : ℕ) (at : Span) → Calls (f.tree_at n at)

  abbrev pub OfPiece : Piece → Type 0
  OfPiece (Text' bytes) = ⊤
  OfPiece (Inserted' t) = Calls t

  abbrev pub BranchWith : Type 0
  BranchWith = (x : Branch) × AllCalls (branch_trees uses x)

  abbrev pub ConditionWith : Type 0
  ConditionWith = (x : Condition) × ⊤

  abbrev pub KindWith : Type 0
  KindWith = (x : ExprKind) × OfKind (seen_kind uses x)

  abbrev pub StmtWith : Type 0
  StmtWith = (x : Stmt) × Calls (stmt_tree uses x)

  abbrev pub PieceWith : Type 0
  PieceWith = (x : StringPart) × OfPiece (piece uses x)

  abbrev pub BlockWith : Type 0
  BlockWith = (x : Block) × AllCalls (block_trees uses x)

  abbrev pub CatchWith : Type 0
  CatchWith = (x : Catch) × ⊤

  abbrev pub ExprWith : Type 0
  ExprWith = (x : Expr) × Calls (expr_tree uses x)

  abbrev pub LambdaWith : Type 0
  LambdaWith = (x : Lambda) × ⊤

  abbrev pub SubjectWith : Type 0
  SubjectWith = (x : Subject) × ⊤

  abbrev pub WhenBranchWith : Type 0
  WhenBranchWith = (x : WhenBranch) × ⊤

  -- ---- lists and options of written trees

  pub arguments_calls : (xs : List ExprWith) → AllCalls (seen_trees (map (seen uses) (map (λ e. e.0) xs)))
  arguments_calls [] = none
  arguments_calls (x ∷ xs) = one_more (expr_tree uses x.0) _ x.1 (arguments_calls xs)

  pieces_first : (p : Piece) (ps : List Piece) → OfPiece p → AllCalls (inserted_of ps) → AllCalls (inserted_of (p ∷ ps))
  pieces_first (Text' bytes) ps h a = a
  pieces_first (Inserted' t) ps h a = one_more t (inserted_of ps) h a

  pub pieces_calls : (xs : List PieceWith) → AllCalls (inserted_of (map (piece uses) (map (λ e. e.0) xs)))
  pieces_calls [] = none
  pieces_calls (x ∷ xs) = pieces_first (piece uses x.0) _ x.1 (pieces_calls xs)

  pub listed_calls : (xs : List StmtWith) → AllCalls (listed (map (stmt_tree uses) (map (λ e. e.0) xs)))
  listed_calls [] = none
  listed_calls (x ∷ xs) = one_more (stmt_tree uses x.0) _ x.1 (listed_calls xs)

  -- of what may be written
  abbrev OfOption : Option Seen → Type 0
  OfOption None = ⊤
  OfOption (Some e) = Calls e.tree

  optional_calls : (o : Option Seen) → OfOption o → AllCalls (seen_optional o)
  optional_calls None h = none
  optional_calls (Some e) h = alone e.tree h

  pub local_calls : (m : Named) (n : Mark) (o : Option Seen) → OfOption o → Calls (local_tree m n o)
  unfolding trees_in
  local_calls (named.Variable x fixed) n None h = All-cons (IsNamedCall uses) (Declare' n x) [] tt (All-nil (IsNamedCall uses))
  local_calls (named.Variable x fixed) n (Some e) h = All-cons (IsNamedCall uses) (Local' n n.word x e.tree) (trees_in e.tree) tt h
  local_calls (named.Function f returns) n o h = shut_calls n
  local_calls (named.BuiltIn name returns) n o h = shut_calls n
  local_calls named.Other n o h = shut_calls n

  assigned_calls : (n : Mark) (x : ℕ) (fixed : Bool) (c : Option Operation) (o : Option Seen) → OfOption o → Calls (assigned_tree n x fixed c o)
  unfolding trees_in
  assigned_calls n x fixed None (Some e) h = All-cons (IsNamedCall uses) (Assign' n n.word x fixed e.tree) (trees_in e.tree) tt h
  assigned_calls n x fixed None None h = shut_calls n
  assigned_calls n x fixed (Some c) o h = All-cons (IsNamedCall uses) (Compound' n n.word x fixed c (seen_optional o)) (all_trees_in (seen_optional o)) tt (optional_calls o h)

  pub assign_calls : (m : Named) (n : ℕ) (at : Span) (word : Option Span) (a : Assignment) (o : Option Seen) → OfOption o → Calls (assign_tree m n at word a o)
  assign_calls (named.Variable x fixed) n at (Some word) a o h = assigned_calls (named_there n at word) x fixed (compound_of a) o h
  assign_calls (named.Variable x fixed) n at None a o h = shut_calls (whole n at)
  assign_calls (named.Function f returns) n at word a o h = shut_calls (whole n at)
  assign_calls (named.BuiltIn name returns) n at word a o h = shut_calls (whole n at)
  assign_calls named.Other n at word a o h = shut_calls (whole n at)
