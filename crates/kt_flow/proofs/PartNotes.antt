-- What is noted of a tree and of its parts, by how it is written.
use Rattle.std.proofs.Common.{◌≡◌, ◌≢◌, ◌⊎◌, inl, inr, ℕ, Bool, List, [], ◌∷◌, ◌++◌, map, Option, Some, None, option_map, refl, sym, ap, ◌∙◌, subst}
use Rattle.std.proofs.lemmas.List.{map-append}
use Rattle.std.specs.List.{flat_map}
use Rattle.kt_tree.specs.declared.token.Span.{Span}
use Rattle.kt_tree.specs.declared.ast.part.Ident.{Ident}
use Rattle.kt_tree.specs.declared.ast.part.Sign.{Sign}
use Rattle.kt_tree.specs.declared.ast.part.Arithmetic.{Arithmetic}
use Rattle.kt_tree.specs.declared.ast.part.Comparison.{Comparison}
use Rattle.kt_tree.specs.declared.ast.part.Equality.{Equality}
use Rattle.kt_tree.specs.declared.ast.body.Expr.{Expr}
use Rattle.kt_tree.specs.declared.ast.body.ExprKind.{ExprKind}
use Rattle.kt_tree.specs.declared.ast.body.ExprKind.TheVariants as e
use Rattle.kt_tree.specs.declared.ast.body.Stmt.{Stmt}
use Rattle.kt_tree.specs.declared.ast.body.Block.{Block}
use Rattle.kt_tree.specs.declared.ast.body.Branch.{Branch}
use Rattle.kt_tree.specs.declared.ast.body.Catch.{Catch}
use Rattle.kt_tree.specs.declared.ast.body.Condition.{Condition}
use Rattle.kt_tree.specs.declared.ast.body.Lambda.{Lambda}
use Rattle.kt_tree.specs.declared.ast.body.Subject.{Subject}
use Rattle.kt_tree.specs.declared.ast.body.WhenBranch.{WhenBranch}
use Rattle.kt_tree.specs.declared.ast.body.StringPart.{StringPart}
use Rattle.kt_tree.specs.declared.ast.body.Branch.TheOpen.{ExprKind-F}
use Rattle.kt_tree.specs.declared.ast.body.Branch.TheViews as v
use Rattle.kt_tree.specs.declared.ast.body.Branch.TheFolds.{fold-roll-ExprKind}
use Rattle.kt_model.specs.declared.uses.Named.{Named}
use Rattle.kt_model.specs.declared.uses.Named.TheVariants as named
use Rattle.kt_model.specs.BodyTrees.{Tree, Trees, Piece, Text', Inserted', Seen, SeenBlock, SeenKind, Operation, Mark, Shut', listed, otherwise, inserted_of, seen_trees, seen_optional, named_there, name_tree, call_tree, local_tree, assigned_tree, kind_step, stmt_step, branch_step, piece_step, block_step, expr_step, nothing, seen, seen_block, seen_branch, seen_kind, stmt_tree, block_trees, branch_trees, piece, expr_tree}
use Rattle.kt_model.specs.TreesWithin.{trees_in, all_trees_in}
use Rattle.kt_model.proofs.BodyFolds.{tree_of_kind, kind_template, kind_paren, kind_call, kind_call_with, kind_sign, kind_not, kind_sum, kind_arithmetic, kind_compare, kind_equal, kind_and, kind_or, kind_if_any, kind_return_any, kind_return_at_any, kind_throw}
use Rattle.kt_flow.specs.Notes.{note, plain_note, declares_local, parts_in, tree_notes, trees_notes, part_notes, expr_notes, stmt_notes, piece_notes, branch_notes}
use Rattle.kt_flow.proofs.NoteLemmas.{note_first, notes_none, notes_rest, notes_one, notes_two}

-- ---- lists

pub exprs_notes : (uses : ℕ → Named) (xs : List Expr) → trees_notes (seen_trees (map (seen uses) xs)) ≡ flat_map (expr_notes uses) xs
exprs_notes uses [] = notes_none
exprs_notes uses (x ∷ xs) = notes_rest (expr_tree uses x) (seen_trees (map (seen uses) xs)) ∙ ap (λ l. expr_notes uses x ++ l) (exprs_notes uses xs)

pub stmts_notes : (uses : ℕ → Named) (xs : List Stmt) → trees_notes (listed (map (stmt_tree uses) xs)) ≡ flat_map (stmt_notes uses) xs
stmts_notes uses [] = notes_none
stmts_notes uses (x ∷ xs) = notes_rest (stmt_tree uses x) (listed (map (stmt_tree uses) xs)) ∙ ap (λ l. stmt_notes uses x ++ l) (stmts_notes uses xs)

inserted_more : (p : Piece) (ps : List Piece) → trees_notes (inserted_of (p ∷ ps)) ≡ trees_notes (inserted_of (p ∷ [])) ++ trees_notes (inserted_of ps)
inserted_more (Text' bytes) ps = ap (λ l. l ++ trees_notes (inserted_of ps)) (sym notes_none)
inserted_more (Inserted' t) ps = notes_rest t (inserted_of ps) ∙ ap (λ l. l ++ trees_notes (inserted_of ps)) (sym (notes_one t))

pub pieces_notes : (uses : ℕ → Named) (ps : List StringPart) → trees_notes (inserted_of (map (piece uses) ps)) ≡ flat_map (piece_notes uses) ps
pieces_notes uses [] = notes_none
pieces_notes uses (p ∷ ps) = inserted_more (piece uses p) (map (piece uses) ps) ∙ ap (λ l. piece_notes uses p ++ l) (pieces_notes uses ps)

-- ---- the parts of an expression

pub parts_template : (uses : ℕ → Named) (x : Expr) (ps : List StringPart) → x.kind ≡ e.Template ps → part_notes (expr_tree uses x) ≡ flat_map (piece_notes uses) ps
unfolding parts_in
parts_template uses x ps is = ap part_notes (tree_of_kind uses x _ _ is (kind_template uses ps)) ∙ pieces_notes uses ps

pub parts_paren : (uses : ℕ → Named) (x a : Expr) → x.kind ≡ e.Paren a → part_notes (expr_tree uses x) ≡ expr_notes uses a
unfolding parts_in
parts_paren uses x a is = ap part_notes (tree_of_kind uses x _ _ is (kind_paren uses a))

pub parts_not : (uses : ℕ → Named) (x a : Expr) → x.kind ≡ e.Not a → part_notes (expr_tree uses x) ≡ expr_notes uses a
unfolding parts_in
parts_not uses x a is = ap part_notes (tree_of_kind uses x _ _ is (kind_not uses a))

pub parts_throw : (uses : ℕ → Named) (x a : Expr) → x.kind ≡ e.Throw a → part_notes (expr_tree uses x) ≡ expr_notes uses a
unfolding parts_in
parts_throw uses x a is = ap part_notes (tree_of_kind uses x _ _ is (kind_throw uses a))

pub parts_sign : (uses : ℕ → Named) (x : Expr) (o : Sign) (a : Expr) → x.kind ≡ e.Sign o a → part_notes (expr_tree uses x) ≡ expr_notes uses a
unfolding parts_in
parts_sign uses x o a is = ap part_notes (tree_of_kind uses x _ _ is (kind_sign uses o a)) ∙ notes_one (expr_tree uses a)

pub parts_sum : (uses : ℕ → Named) (x a b : Expr) → x.kind ≡ e.Sum a b → part_notes (expr_tree uses x) ≡ expr_notes uses a ++ expr_notes uses b
unfolding parts_in
parts_sum uses x a b is = ap part_notes (tree_of_kind uses x _ _ is (kind_sum uses a b)) ∙ notes_two (expr_tree uses a) (expr_tree uses b)

pub parts_arithmetic : (uses : ℕ → Named) (x : Expr) (o : Arithmetic) (a b : Expr) → x.kind ≡ e.Arithmetic o a b → part_notes (expr_tree uses x) ≡ expr_notes uses a ++ expr_notes uses b
unfolding parts_in
parts_arithmetic uses x o a b is = ap part_notes (tree_of_kind uses x _ _ is (kind_arithmetic uses o a b)) ∙ notes_two (expr_tree uses a) (expr_tree uses b)

pub parts_compare : (uses : ℕ → Named) (x : Expr) (o : Comparison) (a b : Expr) → x.kind ≡ e.Compare o a b → part_notes (expr_tree uses x) ≡ expr_notes uses a ++ expr_notes uses b
unfolding parts_in
parts_compare uses x o a b is = ap part_notes (tree_of_kind uses x _ _ is (kind_compare uses o a b)) ∙ notes_two (expr_tree uses a) (expr_tree uses b)

pub parts_equal : (uses : ℕ → Named) (x : Expr) (o : Equality) (a b : Expr) → x.kind ≡ e.Equal o a b → part_notes (expr_tree uses x) ≡ expr_notes uses a ++ expr_notes uses b
unfolding parts_in
parts_equal uses x o a b is = ap part_notes (tree_of_kind uses x _ _ is (kind_equal uses o a b)) ∙ notes_two (expr_tree uses a) (expr_tree uses b)

pub parts_and : (uses : ℕ → Named) (x a b : Expr) → x.kind ≡ e.And a b → part_notes (expr_tree uses x) ≡ expr_notes uses a ++ expr_notes uses b
unfolding parts_in
parts_and uses x a b is = ap part_notes (tree_of_kind uses x _ _ is (kind_and uses a b)) ∙ map-append note (trees_in (expr_tree uses a)) (trees_in (expr_tree uses b))

pub parts_or : (uses : ℕ → Named) (x a b : Expr) → x.kind ≡ e.Or a b → part_notes (expr_tree uses x) ≡ expr_notes uses a ++ expr_notes uses b
unfolding parts_in
parts_or uses x a b is = ap part_notes (tree_of_kind uses x _ _ is (kind_or uses a b)) ∙ map-append note (trees_in (expr_tree uses a)) (trees_in (expr_tree uses b))

-- one part
pub one_part : (uses : ℕ → Named) (x a : Expr) → (x.kind ≡ e.Paren a) ⊎ (((o : Sign) × (x.kind ≡ e.Sign o a)) ⊎ ((x.kind ≡ e.Not a) ⊎ (x.kind ≡ e.Throw a))) → part_notes (expr_tree uses x) ≡ expr_notes uses a
one_part uses x a (inl is) = parts_paren uses x a is
one_part uses x a (inr (inl h)) = parts_sign uses x h.0 a h.1
one_part uses x a (inr (inr (inl is))) = parts_not uses x a is
one_part uses x a (inr (inr (inr is))) = parts_throw uses x a is

-- two parts
pub two_parts : (uses : ℕ → Named) (x a b : Expr) → (x.kind ≡ e.Sum a b) ⊎ (((o : Arithmetic) × (x.kind ≡ e.Arithmetic o a b)) ⊎ (((o : Comparison) × (x.kind ≡ e.Compare o a b)) ⊎ (((o : Equality) × (x.kind ≡ e.Equal o a b)) ⊎ ((x.kind ≡ e.And a b) ⊎ (x.kind ≡ e.Or a b))))) → part_notes (expr_tree uses x) ≡ expr_notes uses a ++ expr_notes uses b
two_parts uses x a b (inl is) = parts_sum uses x a b is
two_parts uses x a b (inr (inl h)) = parts_arithmetic uses x h.0 a b h.1
two_parts uses x a b (inr (inr (inl h))) = parts_compare uses x h.0 a b h.1
two_parts uses x a b (inr (inr (inr (inl h)))) = parts_equal uses x h.0 a b h.1
two_parts uses x a b (inr (inr (inr (inr (inl is))))) = parts_and uses x a b is
two_parts uses x a b (inr (inr (inr (inr (inr is))))) = parts_or uses x a b is

pub parts_if : (uses : ℕ → Named) (x c : Expr) (a : Branch) (b : Option Branch) → x.kind ≡ e.If c a b → part_notes (expr_tree uses x) ≡ expr_notes uses c ++ (branch_notes uses a ++ trees_notes (otherwise (option_map (branch_trees uses) b)))
unfolding parts_in
parts_if uses x c a b is =
    let ys = all_trees_in (branch_trees uses a) in
    let zs = all_trees_in (otherwise (option_map (branch_trees uses) b)) in
    ap part_notes (tree_of_kind uses x _ _ is (kind_if_any uses c a b))
    ∙ map-append note (trees_in (expr_tree uses c)) (ys ++ zs)
    ∙ ap (λ l. expr_notes uses c ++ l) (map-append note ys zs)

pub parts_call : (uses : ℕ → Named) (x : Expr) (f : Ident) (xs : List Expr) → x.kind ≡ e.Call f xs None → part_notes (expr_tree uses x) ≡ part_notes (call_tree (uses x.number) (seen_trees (map (seen uses) xs)) (named_there x.number x.span f.span))
parts_call uses x f xs is = ap part_notes (tree_of_kind uses x _ _ is (kind_call uses f xs))

pub parts_call_with : (uses : ℕ → Named) (x : Expr) (f : Ident) (xs : List Expr) (l : Lambda) → x.kind ≡ e.Call f xs (Some l) → part_notes (expr_tree uses x) ≡ []
unfolding parts_in
parts_call_with uses x f xs l is = ap part_notes (tree_of_kind uses x _ _ is (kind_call_with uses f xs l))

pub parts_return : (uses : ℕ → Named) (x : Expr) (w : Option Expr) → x.kind ≡ e.Return None w → part_notes (expr_tree uses x) ≡ trees_notes (seen_optional (option_map (seen uses) w))
unfolding parts_in
parts_return uses x w is = ap part_notes (tree_of_kind uses x _ _ is (kind_return_any uses w))

pub parts_return_at : (uses : ℕ → Named) (x : Expr) (l : Ident) (w : Option Expr) → x.kind ≡ e.Return (Some l) w → part_notes (expr_tree uses x) ≡ []
unfolding parts_in
parts_return_at uses x l w is = ap part_notes (tree_of_kind uses x _ _ is (kind_return_at_any uses l w))

-- ---- calls, locals and assignments

pub parts_called : (uses : ℕ → Named) (xs : List Expr) (f : ℕ) (returns : Bool) (m : Mark) → part_notes (call_tree (named.Function f returns) (seen_trees (map (seen uses) xs)) m) ≡ flat_map (expr_notes uses) xs
unfolding parts_in
parts_called uses xs f returns m = exprs_notes uses xs

pub parts_built_in : (uses : ℕ → Named) (xs : List Expr) (f : ℕ) (returns : Bool) (m : Mark) → part_notes (call_tree (named.BuiltIn f returns) (seen_trees (map (seen uses) xs)) m) ≡ flat_map (expr_notes uses) xs
unfolding parts_in
parts_built_in uses xs f returns m = exprs_notes uses xs

pub parts_uncalled : (to : Named) (xs : Trees) (m : Mark) → ((f : ℕ) (r : Bool) → to ≢ named.Function f r) → ((f : ℕ) (r : Bool) → to ≢ named.BuiltIn f r) → part_notes (call_tree to xs m) ≡ []
unfolding parts_in
parts_uncalled (named.Function f r) xs m h k = absurd (h f r refl)
parts_uncalled (named.BuiltIn f r) xs m h k = absurd (k f r refl)
parts_uncalled (named.Variable x fixed) xs m h k = refl
parts_uncalled named.Other xs m h k = refl

pub optional_notes : (uses : ℕ → Named) (x : Expr) → trees_notes (seen_optional (option_map (seen uses) (Some x))) ≡ expr_notes uses x
optional_notes uses x = notes_one (expr_tree uses x)

local_parts : (uses : ℕ → Named) (w : Option Expr) (x : ℕ) (fixed : Bool) (m : Mark) → part_notes (local_tree (named.Variable x fixed) m (option_map (seen uses) w)) ≡ trees_notes (seen_optional (option_map (seen uses) w))
unfolding parts_in
local_parts uses (Some a) x fixed m = sym (optional_notes uses a)
local_parts uses None x fixed m = sym notes_none

-- a local, with its value
pub local_notes : (uses : ℕ → Named) (w : Option Expr) (x : ℕ) (fixed : Bool) (m : Mark) → tree_notes (local_tree (named.Variable x fixed) m (option_map (seen uses) w)) ≡ note (local_tree (named.Variable x fixed) m (option_map (seen uses) w)) ∷ trees_notes (seen_optional (option_map (seen uses) w))
local_notes uses w x fixed m = note_first _ ∙ ap (λ l. note (local_tree (named.Variable x fixed) m (option_map (seen uses) w)) ∷ l) (local_parts uses w x fixed m)

assigned_parts : (uses : ℕ → Named) (w : Option Expr) (o : Option Operation) (x : ℕ) (fixed : Bool) (m : Mark) → part_notes (assigned_tree m x fixed o (option_map (seen uses) w)) ≡ trees_notes (seen_optional (option_map (seen uses) w))
unfolding parts_in
assigned_parts uses (Some a) None x fixed m = sym (optional_notes uses a)
assigned_parts uses None None x fixed m = sym notes_none
assigned_parts uses (Some a) (Some o) x fixed m = refl
assigned_parts uses None (Some o) x fixed m = refl

-- an assignment, with its value
pub assigned_notes : (uses : ℕ → Named) (w : Option Expr) (o : Option Operation) (x : ℕ) (fixed : Bool) (m : Mark) → tree_notes (assigned_tree m x fixed o (option_map (seen uses) w)) ≡ note (assigned_tree m x fixed o (option_map (seen uses) w)) ∷ trees_notes (seen_optional (option_map (seen uses) w))
assigned_notes uses w o x fixed m = note_first _ ∙ ap (λ l. note (assigned_tree m x fixed o (option_map (seen uses) w)) ∷ l) (assigned_parts uses w o x fixed m)

-- a tree that is not open
pub shut_notes : (m : Mark) → tree_notes (Shut' m) ≡ plain_note m.number m.word ∷ []
unfolding note declares_local trees_in
shut_notes m = refl

-- ---- the notes of calls

called_note : (to : Named) (xs : Trees) (m : Mark) → note (call_tree to xs m) ≡ plain_note m.number m.word
unfolding note declares_local
called_note (named.Variable x fixed) xs m = refl
called_note (named.Function f r) xs m = refl
called_note (named.BuiltIn f r) xs m = refl
called_note named.Other xs m = refl

pub note_call : (uses : ℕ → Named) (x : Expr) (f : Ident) (xs : List Expr) → x.kind ≡ e.Call f xs None → note (expr_tree uses x) ≡ plain_note x.number f.span
note_call uses x f xs is = ap note (tree_of_kind uses x _ _ is (kind_call uses f xs)) ∙ called_note (uses x.number) (seen_trees (map (seen uses) xs)) (named_there x.number x.span f.span)

pub note_call_with : (uses : ℕ → Named) (x : Expr) (f : Ident) (xs : List Expr) (l : Lambda) → x.kind ≡ e.Call f xs (Some l) → note (expr_tree uses x) ≡ plain_note x.number x.span
unfolding note declares_local
note_call_with uses x f xs l is = ap note (tree_of_kind uses x _ _ is (kind_call_with uses f xs l))

-- ---- what is not open

abbrev Layer : Type 0
Layer = ExprKind-F Branch Condition ExprKind Stmt StringPart Block Catch Expr Lambda Subject WhenBranch

plain_at : (uses : ℕ → Named) (l : Layer) → ((x : ℕ) → v.roll-ExprKind l ≢ e.Name x) → ((f : Ident) (xs : List Expr) (w : Option Lambda) → v.roll-ExprKind l ≢ e.Call f xs w) → (n : ℕ) (at : Span) → note ((seen_kind uses (v.roll-ExprKind l)).tree_at n at) ≡ plain_note n at
unfolding seen seen_kind stmt_tree seen_block seen_branch piece note declares_local
plain_at uses (ExprKind-F.Name x) h k n at = absurd (h x (v.rolls-Name x))
plain_at uses (ExprKind-F.Call f xs w) h k n at = absurd (k f xs w (v.rolls-Call f xs w))
plain_at uses (ExprKind-F.Return None w) h k n at = ap (λ (g : SeenKind). note (g.tree_at n at)) (fold-roll-ExprKind SeenBlock (Unit {0}) SeenKind Tree Piece SeenBlock (Unit {0}) Seen (Unit {0}) (Unit {0}) (Unit {0}) branch_step nothing (kind_step uses) (stmt_step uses) piece_step block_step nothing expr_step nothing nothing nothing (ExprKind-F.Return None w))
plain_at uses (ExprKind-F.Return (Some l) w) h k n at = ap (λ (g : SeenKind). note (g.tree_at n at)) (fold-roll-ExprKind SeenBlock (Unit {0}) SeenKind Tree Piece SeenBlock (Unit {0}) Seen (Unit {0}) (Unit {0}) (Unit {0}) branch_step nothing (kind_step uses) (stmt_step uses) piece_step block_step nothing expr_step nothing nothing nothing (ExprKind-F.Return (Some l) w))
plain_at uses l h k n at = ap (λ (g : SeenKind). note (g.tree_at n at)) (fold-roll-ExprKind SeenBlock (Unit {0}) SeenKind Tree Piece SeenBlock (Unit {0}) Seen (Unit {0}) (Unit {0}) (Unit {0}) branch_step nothing (kind_step uses) (stmt_step uses) piece_step block_step nothing expr_step nothing nothing nothing l)

-- an expression that is neither a name nor a call does nothing to a local itself
pub plain_expr : (uses : ℕ → Named) (x : Expr) → ((y : ℕ) → x.kind ≢ e.Name y) → ((f : Ident) (xs : List Expr) (w : Option Lambda) → x.kind ≢ e.Call f xs w) → note (expr_tree uses x) ≡ plain_note x.number x.span
plain_expr uses x h k =
    ap note (tree_of_kind uses x x.kind (seen_kind uses x.kind) refl refl)
    ∙ subst (λ j. note ((seen_kind uses j).tree_at x.number x.span) ≡ plain_note x.number x.span) (v.roll-out-ExprKind x.kind)
    (plain_at uses (v.out-ExprKind x.kind) (λ y. subst (λ j. j ≢ e.Name y) (sym (v.roll-out-ExprKind x.kind)) (h y)) (λ f xs w. subst (λ j. j ≢ e.Call f xs w) (sym (v.roll-out-ExprKind x.kind)) (k f xs w)) x.number x.span)

name_parts : (to : Named) (n : ℕ) (at : Span) → part_notes (name_tree to n at) ≡ []
unfolding parts_in
name_parts (named.Variable x fixed) n at = refl
name_parts (named.Function f r) n at = refl
name_parts (named.BuiltIn f r) n at = refl
name_parts named.Other n at = refl

no_parts_at : (uses : ℕ → Named) (l : Layer) (n : ℕ) (at : Span) → ((ps : List StringPart) → v.roll-ExprKind l ≢ e.Template ps) → ((x : Expr) → v.roll-ExprKind l ≢ e.Paren x) → ((o : Sign) (x : Expr) → v.roll-ExprKind l ≢ e.Sign o x) → ((x : Expr) → v.roll-ExprKind l ≢ e.Not x) → ((x : Expr) → v.roll-ExprKind l ≢ e.Throw x) → ((x : Expr) (y : Expr) → v.roll-ExprKind l ≢ e.Sum x y) → ((o : Arithmetic) (x : Expr) (y : Expr) → v.roll-ExprKind l ≢ e.Arithmetic o x y) → ((o : Comparison) (x : Expr) (y : Expr) → v.roll-ExprKind l ≢ e.Compare o x y) → ((o : Equality) (x : Expr) (y : Expr) → v.roll-ExprKind l ≢ e.Equal o x y) → ((x : Expr) (y : Expr) → v.roll-ExprKind l ≢ e.And x y) → ((x : Expr) (y : Expr) → v.roll-ExprKind l ≢ e.Or x y) → ((f : Ident) (xs : List Expr) (l' : Option Lambda) → v.roll-ExprKind l ≢ e.Call f xs l') → ((c : Expr) (x : Branch) (y : Option Branch) → v.roll-ExprKind l ≢ e.If c x y) → ((l' : Option Ident) (w : Option Expr) → v.roll-ExprKind l ≢ e.Return l' w) → part_notes ((seen_kind uses (v.roll-ExprKind l)).tree_at n at) ≡ []
unfolding seen seen_kind stmt_tree seen_block seen_branch piece parts_in all_trees_in
no_parts_at uses (ExprKind-F.Name x) n at h0 h1 h2 h3 h4 h5 h6 h7 h8 h9 h10 h11 h12 h13 = ap (λ (g : SeenKind). part_notes (g.tree_at n at)) (fold-roll-ExprKind SeenBlock (Unit {0}) SeenKind Tree Piece SeenBlock (Unit {0}) Seen (Unit {0}) (Unit {0}) (Unit {0}) branch_step nothing (kind_step uses) (stmt_step uses) piece_step block_step nothing expr_step nothing nothing nothing (ExprKind-F.Name x)) ∙ name_parts (uses n) n at
no_parts_at uses (ExprKind-F.Template ps) n at h0 h1 h2 h3 h4 h5 h6 h7 h8 h9 h10 h11 h12 h13 = absurd (h0 ps (v.rolls-Template ps))
no_parts_at uses (ExprKind-F.Paren x) n at h0 h1 h2 h3 h4 h5 h6 h7 h8 h9 h10 h11 h12 h13 = absurd (h1 x (v.rolls-Paren x))
no_parts_at uses (ExprKind-F.Sign o x) n at h0 h1 h2 h3 h4 h5 h6 h7 h8 h9 h10 h11 h12 h13 = absurd (h2 o x (v.rolls-Sign o x))
no_parts_at uses (ExprKind-F.Not x) n at h0 h1 h2 h3 h4 h5 h6 h7 h8 h9 h10 h11 h12 h13 = absurd (h3 x (v.rolls-Not x))
no_parts_at uses (ExprKind-F.Throw x) n at h0 h1 h2 h3 h4 h5 h6 h7 h8 h9 h10 h11 h12 h13 = absurd (h4 x (v.rolls-Throw x))
no_parts_at uses (ExprKind-F.Sum x y) n at h0 h1 h2 h3 h4 h5 h6 h7 h8 h9 h10 h11 h12 h13 = absurd (h5 x y (v.rolls-Sum x y))
no_parts_at uses (ExprKind-F.Arithmetic o x y) n at h0 h1 h2 h3 h4 h5 h6 h7 h8 h9 h10 h11 h12 h13 = absurd (h6 o x y (v.rolls-Arithmetic o x y))
no_parts_at uses (ExprKind-F.Compare o x y) n at h0 h1 h2 h3 h4 h5 h6 h7 h8 h9 h10 h11 h12 h13 = absurd (h7 o x y (v.rolls-Compare o x y))
no_parts_at uses (ExprKind-F.Equal o x y) n at h0 h1 h2 h3 h4 h5 h6 h7 h8 h9 h10 h11 h12 h13 = absurd (h8 o x y (v.rolls-Equal o x y))
no_parts_at uses (ExprKind-F.And x y) n at h0 h1 h2 h3 h4 h5 h6 h7 h8 h9 h10 h11 h12 h13 = absurd (h9 x y (v.rolls-And x y))
no_parts_at uses (ExprKind-F.Or x y) n at h0 h1 h2 h3 h4 h5 h6 h7 h8 h9 h10 h11 h12 h13 = absurd (h10 x y (v.rolls-Or x y))
no_parts_at uses (ExprKind-F.Call f xs l) n at h0 h1 h2 h3 h4 h5 h6 h7 h8 h9 h10 h11 h12 h13 = absurd (h11 f xs l (v.rolls-Call f xs l))
no_parts_at uses (ExprKind-F.If c x y) n at h0 h1 h2 h3 h4 h5 h6 h7 h8 h9 h10 h11 h12 h13 = absurd (h12 c x y (v.rolls-If c x y))
no_parts_at uses (ExprKind-F.Return l w) n at h0 h1 h2 h3 h4 h5 h6 h7 h8 h9 h10 h11 h12 h13 = absurd (h13 l w (v.rolls-Return l w))
no_parts_at uses l n at h0 h1 h2 h3 h4 h5 h6 h7 h8 h9 h10 h11 h12 h13 = ap (λ (g : SeenKind). part_notes (g.tree_at n at)) (fold-roll-ExprKind SeenBlock (Unit {0}) SeenKind Tree Piece SeenBlock (Unit {0}) Seen (Unit {0}) (Unit {0}) (Unit {0}) branch_step nothing (kind_step uses) (stmt_step uses) piece_step block_step nothing expr_step nothing nothing nothing l)

-- an expression of which no parts are open
pub no_parts : (uses : ℕ → Named) (x : Expr) → ((ps : List StringPart) → x.kind ≢ e.Template ps) → ((a : Expr) → x.kind ≢ e.Paren a) → ((o : Sign) (a : Expr) → x.kind ≢ e.Sign o a) → ((a : Expr) → x.kind ≢ e.Not a) → ((a : Expr) → x.kind ≢ e.Throw a) → ((a : Expr) (b : Expr) → x.kind ≢ e.Sum a b) → ((o : Arithmetic) (a : Expr) (b : Expr) → x.kind ≢ e.Arithmetic o a b) → ((o : Comparison) (a : Expr) (b : Expr) → x.kind ≢ e.Compare o a b) → ((o : Equality) (a : Expr) (b : Expr) → x.kind ≢ e.Equal o a b) → ((a : Expr) (b : Expr) → x.kind ≢ e.And a b) → ((a : Expr) (b : Expr) → x.kind ≢ e.Or a b) → ((f : Ident) (xs : List Expr) (l' : Option Lambda) → x.kind ≢ e.Call f xs l') → ((c : Expr) (a : Branch) (b : Option Branch) → x.kind ≢ e.If c a b) → ((l' : Option Ident) (w : Option Expr) → x.kind ≢ e.Return l' w) → part_notes (expr_tree uses x) ≡ []
no_parts uses x h0 h1 h2 h3 h4 h5 h6 h7 h8 h9 h10 h11 h12 h13 =
    ap part_notes (tree_of_kind uses x x.kind (seen_kind uses x.kind) refl refl)
    ∙ subst (λ j. part_notes ((seen_kind uses j).tree_at x.number x.span) ≡ []) (v.roll-out-ExprKind x.kind) (no_parts_at uses (v.out-ExprKind x.kind) x.number x.span
    (λ ps. subst (λ j. j ≢ e.Template ps) (sym (v.roll-out-ExprKind x.kind)) (h0 ps))
    (λ y. subst (λ j. j ≢ e.Paren y) (sym (v.roll-out-ExprKind x.kind)) (h1 y))
    (λ o a. subst (λ j. j ≢ e.Sign o a) (sym (v.roll-out-ExprKind x.kind)) (h2 o a))
    (λ y. subst (λ j. j ≢ e.Not y) (sym (v.roll-out-ExprKind x.kind)) (h3 y))
    (λ y. subst (λ j. j ≢ e.Throw y) (sym (v.roll-out-ExprKind x.kind)) (h4 y))
    (λ a b. subst (λ j. j ≢ e.Sum a b) (sym (v.roll-out-ExprKind x.kind)) (h5 a b))
    (λ o a b. subst (λ j. j ≢ e.Arithmetic o a b) (sym (v.roll-out-ExprKind x.kind)) (h6 o a b))
    (λ o a b. subst (λ j. j ≢ e.Compare o a b) (sym (v.roll-out-ExprKind x.kind)) (h7 o a b))
    (λ o a b. subst (λ j. j ≢ e.Equal o a b) (sym (v.roll-out-ExprKind x.kind)) (h8 o a b))
    (λ a b. subst (λ j. j ≢ e.And a b) (sym (v.roll-out-ExprKind x.kind)) (h9 a b))
    (λ a b. subst (λ j. j ≢ e.Or a b) (sym (v.roll-out-ExprKind x.kind)) (h10 a b))
    (λ f xs l'. subst (λ j. j ≢ e.Call f xs l') (sym (v.roll-out-ExprKind x.kind)) (h11 f xs l'))
    (λ c a b. subst (λ j. j ≢ e.If c a b) (sym (v.roll-out-ExprKind x.kind)) (h12 c a b))
    (λ l' w. subst (λ j. j ≢ e.Return l' w) (sym (v.roll-out-ExprKind x.kind)) (h13 l' w)))
