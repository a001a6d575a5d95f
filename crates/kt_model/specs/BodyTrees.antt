-- The trees of a body as plain data, each with its number, over which the graph, the meaning and the laws are written.
--
-- Shapes that are not open yet fold to `Shut'`. To open one: a constructor here, a clause of each definition over these trees, a law for each of
-- these definitions.
use Rattle.std.specs.Prelude.{ℕ, Bool, true, false, List, [], ◌∷◌, Option, Some, None, option_map}
use Rattle.kt_tree.specs.declared.token.Span.{Span}
use Rattle.kt_tree.specs.declared.ast.part.Sign.{Sign}
use Rattle.kt_tree.specs.declared.ast.part.Arithmetic.{Arithmetic}
use Rattle.kt_tree.specs.declared.ast.part.Comparison.{Comparison}
use Rattle.kt_tree.specs.declared.ast.part.Equality.{Equality}
use Rattle.kt_tree.specs.declared.ast.part.Assignment.{Assignment}
use Rattle.kt_tree.specs.declared.ast.part.Assignment.TheVariants as assignment
use Rattle.kt_tree.specs.declared.ast.body.Expr.{Expr}
use Rattle.kt_tree.specs.declared.ast.body.ExprKind.{ExprKind}
use Rattle.kt_tree.specs.declared.ast.body.Stmt.{Stmt}
use Rattle.kt_tree.specs.declared.ast.body.Block.{Block}
use Rattle.kt_tree.specs.declared.ast.body.Branch.{Branch}
use Rattle.kt_tree.specs.declared.ast.body.StringPart.{StringPart}
use Rattle.kt_tree.specs.declared.ast.body.Branch.TheOpen.{Branch-F, ExprKind-F, Stmt-F, StringPart-F, Block-F, Expr-F}
use Rattle.kt_tree.specs.declared.ast.body.Branch.TheFolds.{fold-Expr, fold-ExprKind, fold-Stmt, fold-Block, fold-Branch, fold-StringPart}
use Rattle.kt_model.specs.declared.uses.Named.{Named}
use Rattle.kt_model.specs.declared.uses.Named.TheVariants as named

-- What a tree does with the values of its parts, where that is all. A template has the bytes of its texts, and `None` where a part stands; the call of a
-- built-in function has its name's number, and whether it returns.
pub data Operation : Type 0 where
  Int' : (k : ℕ) → Operation
  Bool' : (b : Bool) → Operation
  Null' : Operation
  Template' : (texts : List (Option (List ℕ))) → Operation
  Sign' : (sign : Sign) → Operation
  Sum' : Operation
  Arithmetic' : (operator : Arithmetic) → Operation
  Compare' : (operator : Comparison) → Operation
  Equal' : (operator : Equality) → Operation
  BuiltIn' : (name : ℕ) (returns : Bool) → Operation

-- What a tree is known by: its number, its span, and the span of the name that it declares, reads, assigns or calls, which is its own span where it has
-- none.
pub record Mark : Type 0 where
  pub number : ℕ
  pub span : Span
  pub word : Span

-- where the blocks of an `if` stand, with their braces; None where a branch is one statement, or isn't there
pub record Braces : Type 0 where
  pub first : Option Span
  pub second : Option Span

-- A local is known by its declaration, and where a tree names one, `at` is that name's span. An assignment is `fixed` where its local is a `val`. A
-- compound assignment reads its local first; its operand is not written in `x++` and `x--`. A call `returns` unless its function is declared `Nothing`.
mutual
  pub data Tree : Type 0 where
    Operation' : (n : Mark) (operation : Operation) (parts : Trees) → Tree
    Name' : (n : Mark) (at : Span) (x : ℕ) → Tree
    Paren' : (n : Mark) (e : Tree) → Tree
    Not' : (n : Mark) (e : Tree) → Tree
    And' : (n : Mark) (a b : Tree) → Tree
    Or' : (n : Mark) (a b : Tree) → Tree
    If' : (n : Mark) (braces : Braces) (c : Tree) (a b : Trees) → Tree
    Declare' : (n : Mark) (x : ℕ) → Tree
    Local' : (n : Mark) (at : Span) (x : ℕ) (e : Tree) → Tree
    Assign' : (n : Mark) (at : Span) (x : ℕ) (fixed : Bool) (e : Tree) → Tree
    Compound' : (n : Mark) (at : Span) (x : ℕ) (fixed : Bool) (operation : Operation) (operand : Trees) → Tree
    Call' : (n : Mark) (f : ℕ) (returns : Bool) (arguments : Trees) → Tree
    Return' : (n : Mark) (value : Trees) → Tree
    Throw' : (n : Mark) (e : Tree) → Tree
    Shut' : (n : Mark) → Tree

  -- trees one behind another: the statements of a block, the parts of a tree
  pub data Trees : Type 0 where
    Empty' : Trees
    First' : (t : Tree) (rest : Trees) → Trees

abbrev pub number : Tree → ℕ
number (Operation' n operation parts) = n.number
number (Name' n at x) = n.number
number (Paren' n e) = n.number
number (Not' n e) = n.number
number (And' n a b) = n.number
number (Or' n a b) = n.number
number (If' n braces c a b) = n.number
number (Declare' n x) = n.number
number (Local' n at x e) = n.number
number (Assign' n at x fixed e) = n.number
number (Compound' n at x fixed operation operand) = n.number
number (Call' n f returns arguments) = n.number
number (Return' n value) = n.number
number (Throw' n e) = n.number
number (Shut' n) = n.number

abbrev pub listed : List Tree → Trees
listed [] = Empty'
listed (t ∷ ts) = First' t (listed ts)

abbrev pub optional : Option Tree → Trees
optional (Some t) = First' t Empty'
optional None = Empty'

-- statements between braces, or one statement alone
pub record SeenBlock : Type 0 where
  pub braces : Option Span
  pub trees : Trees

abbrev pub otherwise : Option Trees → Trees
otherwise (Some ts) = ts
otherwise None = Empty'

-- of a branch that need not be there
abbrev pub trees_there : Option SeenBlock → Trees
trees_there (Some b) = b.trees
trees_there None = Empty'

abbrev pub braces_there : Option SeenBlock → Option Span
braces_there (Some b) = b.braces
braces_there None = None

abbrev pub braces_of : SeenBlock → Option SeenBlock → Braces
braces_of a b = record { first = a.braces; second = braces_there b }

-- ---- from the trees of a file, given what the name in each tree stands for

-- An expression as it is seen from around it: its tree, and its span where it is a name alone. An assigned name is no tree, so that of the target is not
-- looked at.
pub record Seen : Type 0 where
  pub tree : Tree
  pub name : Option Span

pub record SeenKind : Type 0 where
  pub tree_at : ℕ → Span → Tree
  pub is_name : Bool

-- a part of a string
pub data Piece : Type 0 where
  Text' : (bytes : List ℕ) → Piece
  Inserted' : (t : Tree) → Piece

abbrev pub texts_of : List Piece → List (Option (List ℕ))
texts_of [] = []
texts_of (Text' bytes ∷ rest) = Some bytes ∷ texts_of rest
texts_of (Inserted' t ∷ rest) = None ∷ texts_of rest

abbrev pub inserted_of : List Piece → Trees
inserted_of [] = Empty'
inserted_of (Text' bytes ∷ rest) = inserted_of rest
inserted_of (Inserted' t ∷ rest) = First' t (inserted_of rest)

abbrev pub seen_trees : List Seen → Trees
seen_trees [] = Empty'
seen_trees (e ∷ rest) = First' e.tree (seen_trees rest)

abbrev pub seen_optional : Option Seen → Trees
seen_optional (Some e) = First' e.tree Empty'
seen_optional None = Empty'

-- the mark of a tree without a name, and of one with a name there
abbrev pub whole : ℕ → Span → Mark
whole n at = record { number = n; span = at; word = at }

abbrev pub named_there : ℕ → Span → Span → Mark
named_there n at word = record { number = n; span = at; word = word }

abbrev pub plain : (ℕ → Span → Tree) → SeenKind
plain f = record { tree_at = f; is_name = false }

abbrev pub operation : Operation → Trees → SeenKind
operation o parts = plain (λ n at. Operation' (whole n at) o parts)

abbrev pub shut : SeenKind
shut = plain (λ n at. Shut' (whole n at))

-- a name that stands alone
abbrev pub name_tree : Named → ℕ → Span → Tree
name_tree (named.Variable x fixed) n at = Name' (whole n at) at x
name_tree _ n at = Shut' (whole n at)

-- a call without a lambda
abbrev pub call_tree : Named → Trees → Mark → Tree
call_tree (named.Function f returns) arguments m = Call' m f returns arguments
call_tree (named.BuiltIn name returns) arguments m = Operation' m (BuiltIn' name returns) arguments
call_tree _ arguments m = Shut' m

abbrev pub kind_step : (ℕ → Named) → ExprKind-F SeenBlock (Unit {0}) SeenKind Tree Piece SeenBlock (Unit {0}) Seen (Unit {0}) (Unit {0}) (Unit {0}) → SeenKind
kind_step uses (ExprKind-F.Int k) = operation (Int' k) Empty'
kind_step uses (ExprKind-F.Bool b) = operation (Bool' b) Empty'
kind_step uses ExprKind-F.Null = operation Null' Empty'
kind_step uses (ExprKind-F.Name x) = record { tree_at = λ n at. name_tree (uses n) n at; is_name = true }
kind_step uses (ExprKind-F.Template pieces) = operation (Template' (texts_of pieces)) (inserted_of pieces)
kind_step uses (ExprKind-F.Paren e) = plain (λ n at. Paren' (whole n at) e.tree)
kind_step uses (ExprKind-F.Call callee arguments None) = plain (λ n at. call_tree (uses n) (seen_trees arguments) (named_there n at callee.span))
kind_step uses (ExprKind-F.Sign sign e) = operation (Sign' sign) (First' e.tree Empty')
kind_step uses (ExprKind-F.Not e) = plain (λ n at. Not' (whole n at) e.tree)
kind_step uses (ExprKind-F.Sum a b) = operation Sum' (First' a.tree (First' b.tree Empty'))
kind_step uses (ExprKind-F.Arithmetic o a b) = operation (Arithmetic' o) (First' a.tree (First' b.tree Empty'))
kind_step uses (ExprKind-F.Compare o a b) = operation (Compare' o) (First' a.tree (First' b.tree Empty'))
kind_step uses (ExprKind-F.Equal o a b) = operation (Equal' o) (First' a.tree (First' b.tree Empty'))
kind_step uses (ExprKind-F.And a b) = plain (λ n at. And' (whole n at) a.tree b.tree)
kind_step uses (ExprKind-F.Or a b) = plain (λ n at. Or' (whole n at) a.tree b.tree)
kind_step uses (ExprKind-F.If c a b) = plain (λ n at. If' (whole n at) (braces_of a b) c.tree a.trees (trees_there b))
kind_step uses (ExprKind-F.Return None value) = plain (λ n at. Return' (whole n at) (seen_optional value))
kind_step uses (ExprKind-F.Throw e) = plain (λ n at. Throw' (whole n at) e.tree)
kind_step uses _ = shut

abbrev pub local_tree : Named → Mark → Option Seen → Tree
local_tree (named.Variable x fixed) m None = Declare' m x
local_tree (named.Variable x fixed) m (Some e) = Local' m m.word x e.tree
local_tree _ m e = Shut' m

-- how a compound assignment makes its value
abbrev pub compound_of : Assignment → Option Operation
compound_of assignment.Plain = None
compound_of assignment.Sum = Some Sum'
compound_of (assignment.Arithmetic o) = Some (Arithmetic' o)

abbrev pub assigned_tree : Mark → ℕ → Bool → Option Operation → Option Seen → Tree
assigned_tree m x fixed None (Some e) = Assign' m m.word x fixed e.tree
assigned_tree m x fixed None None = Shut' m
assigned_tree m x fixed (Some o) e = Compound' m m.word x fixed o (seen_optional e)

-- an assignment of a name
abbrev pub assign_tree : Named → ℕ → Span → Option Span → Assignment → Option Seen → Tree
assign_tree (named.Variable x fixed) n at (Some word) a e = assigned_tree (named_there n at word) x fixed (compound_of a) e
assign_tree _ n at word a e = Shut' (whole n at)

abbrev pub stmt_step : (ℕ → Named) → Stmt-F SeenBlock (Unit {0}) SeenKind Tree Piece SeenBlock (Unit {0}) Seen (Unit {0}) (Unit {0}) (Unit {0}) → Tree
stmt_step uses (Stmt-F.Expr e) = e.tree
stmt_step uses (Stmt-F.Local n span is_var ident written e) = local_tree (uses n) (named_there n span ident.span) e
stmt_step uses (Stmt-F.Assign n span target a e) = assign_tree (uses n) n span target.name a e
stmt_step uses (Stmt-F.While n span c b) = Shut' (whole n span)
stmt_step uses (Stmt-F.DoWhile n span b c) = Shut' (whole n span)
stmt_step uses (Stmt-F.For n span x written low p high b) = Shut' (whole n span)

abbrev pub branch_step : Branch-F SeenBlock (Unit {0}) SeenKind Tree Piece SeenBlock (Unit {0}) Seen (Unit {0}) (Unit {0}) (Unit {0}) → SeenBlock
branch_step (Branch-F.Braced b) = b
branch_step (Branch-F.Single t) = record { braces = None; trees = First' t Empty' }

abbrev pub piece_step : StringPart-F SeenBlock (Unit {0}) SeenKind Tree Piece SeenBlock (Unit {0}) Seen (Unit {0}) (Unit {0}) (Unit {0}) → Piece
piece_step (StringPart-F.Text bytes) = Text' bytes
piece_step (StringPart-F.Inserted e) = Inserted' e.tree

abbrev pub block_step : Block-F SeenBlock (Unit {0}) SeenKind Tree Piece SeenBlock (Unit {0}) Seen (Unit {0}) (Unit {0}) (Unit {0}) → SeenBlock
block_step b = record { braces = Some b.span; trees = listed b.statements }

abbrev pub name_span : Bool → Span → Option Span
name_span true at = Some at
name_span false at = None

abbrev pub expr_step : Expr-F SeenBlock (Unit {0}) SeenKind Tree Piece SeenBlock (Unit {0}) Seen (Unit {0}) (Unit {0}) (Unit {0}) → Seen
expr_step e = record { tree = e.kind.tree_at e.number e.span; name = name_span e.kind.is_name e.span }

-- what has no tree yet
abbrev pub nothing : {X : Type 0} → X → Unit {0}
nothing x = tt

-- an expression, given what the name in each tree stands for
unfoldable pub seen : (ℕ → Named) → Expr → Seen
seen uses = fold-Expr SeenBlock (Unit {0}) SeenKind Tree Piece SeenBlock (Unit {0}) Seen (Unit {0}) (Unit {0}) (Unit {0}) branch_step nothing (kind_step uses) (stmt_step uses) piece_step block_step nothing expr_step nothing nothing nothing

unfoldable pub seen_kind : (ℕ → Named) → ExprKind → SeenKind
seen_kind uses = fold-ExprKind SeenBlock (Unit {0}) SeenKind Tree Piece SeenBlock (Unit {0}) Seen (Unit {0}) (Unit {0}) (Unit {0}) branch_step nothing (kind_step uses) (stmt_step uses) piece_step block_step nothing expr_step nothing nothing nothing

unfoldable pub stmt_tree : (ℕ → Named) → Stmt → Tree
stmt_tree uses = fold-Stmt SeenBlock (Unit {0}) SeenKind Tree Piece SeenBlock (Unit {0}) Seen (Unit {0}) (Unit {0}) (Unit {0}) branch_step nothing (kind_step uses) (stmt_step uses) piece_step block_step nothing expr_step nothing nothing nothing

unfoldable pub seen_block : (ℕ → Named) → Block → SeenBlock
seen_block uses = fold-Block SeenBlock (Unit {0}) SeenKind Tree Piece SeenBlock (Unit {0}) Seen (Unit {0}) (Unit {0}) (Unit {0}) branch_step nothing (kind_step uses) (stmt_step uses) piece_step block_step nothing expr_step nothing nothing nothing

unfoldable pub seen_branch : (ℕ → Named) → Branch → SeenBlock
seen_branch uses = fold-Branch SeenBlock (Unit {0}) SeenKind Tree Piece SeenBlock (Unit {0}) Seen (Unit {0}) (Unit {0}) (Unit {0}) branch_step nothing (kind_step uses) (stmt_step uses) piece_step block_step nothing expr_step nothing nothing nothing

unfoldable pub piece : (ℕ → Named) → StringPart → Piece
piece uses = fold-StringPart SeenBlock (Unit {0}) SeenKind Tree Piece SeenBlock (Unit {0}) Seen (Unit {0}) (Unit {0}) (Unit {0}) branch_step nothing (kind_step uses) (stmt_step uses) piece_step block_step nothing expr_step nothing nothing nothing

abbrev pub expr_tree : (ℕ → Named) → Expr → Tree
expr_tree uses e = (seen uses e).tree

abbrev pub block_trees : (ℕ → Named) → Block → Trees
block_trees uses b = (seen_block uses b).trees

abbrev pub branch_trees : (ℕ → Named) → Branch → Trees
branch_trees uses b = (seen_branch uses b).trees

-- where the branches of an `if` stand
abbrev pub if_braces : (ℕ → Named) → Branch → Option Branch → Braces
if_braces uses a b = braces_of (seen_branch uses a) (option_map (seen_branch uses) b)
