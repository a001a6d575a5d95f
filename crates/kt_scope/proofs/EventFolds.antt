-- What happens to names in each tree, by its parts.
use Rattle.std.proofs.Common.{◌≡◌, ◌≢◌, ℕ, Bool, List, [], ◌∷◌, ◌++◌, map, Option, Some, None, option_map, refl, sym, ap, ◌∙◌, subst}
use Rattle.std.specs.List.{flat_map}
use Rattle.kt_tree.specs.declared.token.Span.{Span}
use Rattle.kt_tree.specs.declared.ast.part.Ident.{Ident}
use Rattle.kt_tree.specs.declared.ast.part.TypeRef.{TypeRef}
use Rattle.kt_tree.specs.declared.ast.part.Sign.{Sign}
use Rattle.kt_tree.specs.declared.ast.part.Arithmetic.{Arithmetic}
use Rattle.kt_tree.specs.declared.ast.part.Comparison.{Comparison}
use Rattle.kt_tree.specs.declared.ast.part.Equality.{Equality}
use Rattle.kt_tree.specs.declared.ast.part.Assignment.{Assignment}
use Rattle.kt_tree.specs.declared.ast.part.Progression.{Progression}
use Rattle.kt_tree.specs.declared.ast.body.Expr.{Expr}
use Rattle.kt_tree.specs.declared.ast.body.ExprKind.{ExprKind}
use Rattle.kt_tree.specs.declared.ast.body.ExprKind.TheVariants as e
use Rattle.kt_tree.specs.declared.ast.body.Stmt.{Stmt}
use Rattle.kt_tree.specs.declared.ast.body.Stmt.TheVariants as s
use Rattle.kt_tree.specs.declared.ast.body.Block.{Block, out-Block}
use Rattle.kt_tree.specs.declared.ast.body.Branch.{Branch}
use Rattle.kt_tree.specs.declared.ast.body.Branch.TheVariants as b
use Rattle.kt_tree.specs.declared.ast.body.Condition.{Condition}
use Rattle.kt_tree.specs.declared.ast.body.Catch.{Catch}
use Rattle.kt_tree.specs.declared.ast.body.Lambda.{Lambda}
use Rattle.kt_tree.specs.declared.ast.body.Subject.{Subject}
use Rattle.kt_tree.specs.declared.ast.body.WhenBranch.{WhenBranch}
use Rattle.kt_tree.specs.declared.ast.body.StringPart.{StringPart}
use Rattle.kt_tree.specs.declared.ast.body.StringPart.TheVariants as p
use Rattle.kt_tree.specs.declared.ast.body.Branch.TheOpen.{Branch-F, ExprKind-F, Stmt-F, StringPart-F}
use Rattle.kt_tree.specs.declared.ast.body.Branch.TheViews as v
use Rattle.kt_tree.specs.declared.ast.body.Branch.TheFolds.{fold_out-Block, fold-roll-Expr, fold-roll-ExprKind, fold-roll-Stmt, fold-roll-Branch, fold-roll-StringPart}
use Rattle.kt_model.specs.declared.name_events.NameEvent.TheVariants.{Opens, Closes, Local, Reads, Calls, Assigns}
use Rattle.kt_model.specs.BodyTrees.{nothing}
use Rattle.kt_model.specs.NameEvents.{Events, SeenEvents, SeenEventsKind, within, all_of, if_written, if_there, ident, left_events, kind_step, stmt_step, branch_step, piece_step, block_step, expr_step, seen_events, seen_events_kind, stmt_events, block_events, branch_events, piece_events, expr_events}

-- the events of parts, one behind another
joined_map : {A : Type 0} (f : A → Events) (xs : List A) → flat_map (λ p. p) (map f xs) ≡ flat_map f xs
joined_map f [] = refl
joined_map f (x ∷ xs) = ap (λ rest. f x ++ rest) (joined_map f xs)

all_map : (xs : List Expr) → all_of (map seen_events xs) ≡ flat_map expr_events xs
all_map [] = refl
all_map (x ∷ xs) = ap (λ rest. expr_events x ++ rest) (all_map xs)

pub kind_name : (x : ℕ) → seen_events_kind (e.Name x) ≡ record { at = λ n span. Reads n (ident x span) ∷ []; name = Some x }
unfolding seen_events seen_events_kind stmt_events block_events branch_events piece_events
kind_name x = ap seen_events_kind (sym (v.rolls-Name x)) ∙ fold-roll-ExprKind Events (Unit {0}) SeenEventsKind Events Events Events (Unit {0}) SeenEvents (Unit {0}) (Unit {0}) (Unit {0}) branch_step nothing kind_step stmt_step piece_step block_step nothing expr_step nothing nothing nothing (ExprKind-F.Name x)

pub kind_template : (ps : List StringPart) → seen_events_kind (e.Template ps) ≡ within (flat_map piece_events ps)
unfolding seen_events seen_events_kind stmt_events block_events branch_events piece_events
kind_template ps = ap seen_events_kind (sym (v.rolls-Template ps)) ∙ fold-roll-ExprKind Events (Unit {0}) SeenEventsKind Events Events Events (Unit {0}) SeenEvents (Unit {0}) (Unit {0}) (Unit {0}) branch_step nothing kind_step stmt_step piece_step block_step nothing expr_step nothing nothing nothing (ExprKind-F.Template ps) ∙ ap within (joined_map piece_events ps)

pub kind_paren : (x : Expr) → seen_events_kind (e.Paren x) ≡ within (expr_events x)
unfolding seen_events seen_events_kind stmt_events block_events branch_events piece_events
kind_paren x = ap seen_events_kind (sym (v.rolls-Paren x)) ∙ fold-roll-ExprKind Events (Unit {0}) SeenEventsKind Events Events Events (Unit {0}) SeenEvents (Unit {0}) (Unit {0}) (Unit {0}) branch_step nothing kind_step stmt_step piece_step block_step nothing expr_step nothing nothing nothing (ExprKind-F.Paren x)

pub kind_not : (x : Expr) → seen_events_kind (e.Not x) ≡ within (expr_events x)
unfolding seen_events seen_events_kind stmt_events block_events branch_events piece_events
kind_not x = ap seen_events_kind (sym (v.rolls-Not x)) ∙ fold-roll-ExprKind Events (Unit {0}) SeenEventsKind Events Events Events (Unit {0}) SeenEvents (Unit {0}) (Unit {0}) (Unit {0}) branch_step nothing kind_step stmt_step piece_step block_step nothing expr_step nothing nothing nothing (ExprKind-F.Not x)

pub kind_throw : (x : Expr) → seen_events_kind (e.Throw x) ≡ within (expr_events x)
unfolding seen_events seen_events_kind stmt_events block_events branch_events piece_events
kind_throw x = ap seen_events_kind (sym (v.rolls-Throw x)) ∙ fold-roll-ExprKind Events (Unit {0}) SeenEventsKind Events Events Events (Unit {0}) SeenEvents (Unit {0}) (Unit {0}) (Unit {0}) branch_step nothing kind_step stmt_step piece_step block_step nothing expr_step nothing nothing nothing (ExprKind-F.Throw x)

pub kind_sign : (o : Sign) (x : Expr) → seen_events_kind (e.Sign o x) ≡ within (expr_events x)
unfolding seen_events seen_events_kind stmt_events block_events branch_events piece_events
kind_sign o x = ap seen_events_kind (sym (v.rolls-Sign o x)) ∙ fold-roll-ExprKind Events (Unit {0}) SeenEventsKind Events Events Events (Unit {0}) SeenEvents (Unit {0}) (Unit {0}) (Unit {0}) branch_step nothing kind_step stmt_step piece_step block_step nothing expr_step nothing nothing nothing (ExprKind-F.Sign o x)

pub kind_sum : (x y : Expr) → seen_events_kind (e.Sum x y) ≡ within (expr_events x ++ expr_events y)
unfolding seen_events seen_events_kind stmt_events block_events branch_events piece_events
kind_sum x y = ap seen_events_kind (sym (v.rolls-Sum x y)) ∙ fold-roll-ExprKind Events (Unit {0}) SeenEventsKind Events Events Events (Unit {0}) SeenEvents (Unit {0}) (Unit {0}) (Unit {0}) branch_step nothing kind_step stmt_step piece_step block_step nothing expr_step nothing nothing nothing (ExprKind-F.Sum x y)

pub kind_and : (x y : Expr) → seen_events_kind (e.And x y) ≡ within (expr_events x ++ expr_events y)
unfolding seen_events seen_events_kind stmt_events block_events branch_events piece_events
kind_and x y = ap seen_events_kind (sym (v.rolls-And x y)) ∙ fold-roll-ExprKind Events (Unit {0}) SeenEventsKind Events Events Events (Unit {0}) SeenEvents (Unit {0}) (Unit {0}) (Unit {0}) branch_step nothing kind_step stmt_step piece_step block_step nothing expr_step nothing nothing nothing (ExprKind-F.And x y)

pub kind_or : (x y : Expr) → seen_events_kind (e.Or x y) ≡ within (expr_events x ++ expr_events y)
unfolding seen_events seen_events_kind stmt_events block_events branch_events piece_events
kind_or x y = ap seen_events_kind (sym (v.rolls-Or x y)) ∙ fold-roll-ExprKind Events (Unit {0}) SeenEventsKind Events Events Events (Unit {0}) SeenEvents (Unit {0}) (Unit {0}) (Unit {0}) branch_step nothing kind_step stmt_step piece_step block_step nothing expr_step nothing nothing nothing (ExprKind-F.Or x y)

pub kind_arithmetic : (o : Arithmetic) (x y : Expr) → seen_events_kind (e.Arithmetic o x y) ≡ within (expr_events x ++ expr_events y)
unfolding seen_events seen_events_kind stmt_events block_events branch_events piece_events
kind_arithmetic o x y = ap seen_events_kind (sym (v.rolls-Arithmetic o x y)) ∙ fold-roll-ExprKind Events (Unit {0}) SeenEventsKind Events Events Events (Unit {0}) SeenEvents (Unit {0}) (Unit {0}) (Unit {0}) branch_step nothing kind_step stmt_step piece_step block_step nothing expr_step nothing nothing nothing (ExprKind-F.Arithmetic o x y)

pub kind_compare : (o : Comparison) (x y : Expr) → seen_events_kind (e.Compare o x y) ≡ within (expr_events x ++ expr_events y)
unfolding seen_events seen_events_kind stmt_events block_events branch_events piece_events
kind_compare o x y = ap seen_events_kind (sym (v.rolls-Compare o x y)) ∙ fold-roll-ExprKind Events (Unit {0}) SeenEventsKind Events Events Events (Unit {0}) SeenEvents (Unit {0}) (Unit {0}) (Unit {0}) branch_step nothing kind_step stmt_step piece_step block_step nothing expr_step nothing nothing nothing (ExprKind-F.Compare o x y)

pub kind_equal : (o : Equality) (x y : Expr) → seen_events_kind (e.Equal o x y) ≡ within (expr_events x ++ expr_events y)
unfolding seen_events seen_events_kind stmt_events block_events branch_events piece_events
kind_equal o x y = ap seen_events_kind (sym (v.rolls-Equal o x y)) ∙ fold-roll-ExprKind Events (Unit {0}) SeenEventsKind Events Events Events (Unit {0}) SeenEvents (Unit {0}) (Unit {0}) (Unit {0}) branch_step nothing kind_step stmt_step piece_step block_step nothing expr_step nothing nothing nothing (ExprKind-F.Equal o x y)

pub kind_call : (f : Ident) (xs : List Expr) → seen_events_kind (e.Call f xs None) ≡ record { at = λ n span. Calls n f ∷ flat_map expr_events xs; name = None }
unfolding seen_events seen_events_kind stmt_events block_events branch_events piece_events
kind_call f xs = ap seen_events_kind (sym (v.rolls-Call f xs None)) ∙ fold-roll-ExprKind Events (Unit {0}) SeenEventsKind Events Events Events (Unit {0}) SeenEvents (Unit {0}) (Unit {0}) (Unit {0}) branch_step nothing kind_step stmt_step piece_step block_step nothing expr_step nothing nothing nothing (ExprKind-F.Call f xs None) ∙ ap (λ z. record { at = λ n span. Calls n f ∷ z; name = None }) (all_map xs)

pub kind_call_with : (f : Ident) (xs : List Expr) (l : Lambda) → seen_events_kind (e.Call f xs (Some l)) ≡ within []
unfolding seen_events seen_events_kind stmt_events block_events branch_events piece_events
kind_call_with f xs l = ap seen_events_kind (sym (v.rolls-Call f xs (Some l))) ∙ fold-roll-ExprKind Events (Unit {0}) SeenEventsKind Events Events Events (Unit {0}) SeenEvents (Unit {0}) (Unit {0}) (Unit {0}) branch_step nothing kind_step stmt_step piece_step block_step nothing expr_step nothing nothing nothing (ExprKind-F.Call f xs (Some l))

pub kind_if : (c : Expr) (x y : Branch) → seen_events_kind (e.If c x (Some y)) ≡ within (expr_events c ++ branch_events x ++ branch_events y)
unfolding seen_events seen_events_kind stmt_events block_events branch_events piece_events
kind_if c x y = ap seen_events_kind (sym (v.rolls-If c x (Some y))) ∙ fold-roll-ExprKind Events (Unit {0}) SeenEventsKind Events Events Events (Unit {0}) SeenEvents (Unit {0}) (Unit {0}) (Unit {0}) branch_step nothing kind_step stmt_step piece_step block_step nothing expr_step nothing nothing nothing (ExprKind-F.If c x (Some y))

pub kind_if_alone : (c : Expr) (x : Branch) → seen_events_kind (e.If c x None) ≡ within (expr_events c ++ branch_events x ++ [])
unfolding seen_events seen_events_kind stmt_events block_events branch_events piece_events
kind_if_alone c x = ap seen_events_kind (sym (v.rolls-If c x None)) ∙ fold-roll-ExprKind Events (Unit {0}) SeenEventsKind Events Events Events (Unit {0}) SeenEvents (Unit {0}) (Unit {0}) (Unit {0}) branch_step nothing kind_step stmt_step piece_step block_step nothing expr_step nothing nothing nothing (ExprKind-F.If c x None)

pub kind_return : (x : Expr) → seen_events_kind (e.Return None (Some x)) ≡ within (expr_events x)
unfolding seen_events seen_events_kind stmt_events block_events branch_events piece_events
kind_return x = ap seen_events_kind (sym (v.rolls-Return None (Some x))) ∙ fold-roll-ExprKind Events (Unit {0}) SeenEventsKind Events Events Events (Unit {0}) SeenEvents (Unit {0}) (Unit {0}) (Unit {0}) branch_step nothing kind_step stmt_step piece_step block_step nothing expr_step nothing nothing nothing (ExprKind-F.Return None (Some x))

pub kind_return_alone : seen_events_kind (e.Return None None) ≡ within []
unfolding seen_events seen_events_kind stmt_events block_events branch_events piece_events
kind_return_alone = ap seen_events_kind (sym (v.rolls-Return None None)) ∙ fold-roll-ExprKind Events (Unit {0}) SeenEventsKind Events Events Events (Unit {0}) SeenEvents (Unit {0}) (Unit {0}) (Unit {0}) branch_step nothing kind_step stmt_step piece_step block_step nothing expr_step nothing nothing nothing (ExprKind-F.Return None None)

pub kind_return_at : (l : Ident) (x : Expr) → seen_events_kind (e.Return (Some l) (Some x)) ≡ within []
unfolding seen_events seen_events_kind stmt_events block_events branch_events piece_events
kind_return_at l x = ap seen_events_kind (sym (v.rolls-Return (Some l) (Some x))) ∙ fold-roll-ExprKind Events (Unit {0}) SeenEventsKind Events Events Events (Unit {0}) SeenEvents (Unit {0}) (Unit {0}) (Unit {0}) branch_step nothing kind_step stmt_step piece_step block_step nothing expr_step nothing nothing nothing (ExprKind-F.Return (Some l) (Some x))

pub kind_return_at_alone : (l : Ident) → seen_events_kind (e.Return (Some l) None) ≡ within []
unfolding seen_events seen_events_kind stmt_events block_events branch_events piece_events
kind_return_at_alone l = ap seen_events_kind (sym (v.rolls-Return (Some l) None)) ∙ fold-roll-ExprKind Events (Unit {0}) SeenEventsKind Events Events Events (Unit {0}) SeenEvents (Unit {0}) (Unit {0}) (Unit {0}) branch_step nothing kind_step stmt_step piece_step block_step nothing expr_step nothing nothing nothing (ExprKind-F.Return (Some l) None)

pub stmt_expr : (x : Expr) → stmt_events (s.Expr x) ≡ expr_events x
unfolding seen_events seen_events_kind stmt_events block_events branch_events piece_events
stmt_expr x = ap stmt_events (sym (v.rolls-Expr x)) ∙ fold-roll-Stmt Events (Unit {0}) SeenEventsKind Events Events Events (Unit {0}) SeenEvents (Unit {0}) (Unit {0}) (Unit {0}) branch_step nothing kind_step stmt_step piece_step block_step nothing expr_step nothing nothing nothing (Stmt-F.Expr x)

pub stmt_local : (n : ℕ) (at : Span) (i : Ident) (m : Bool) (w : Option TypeRef) (x : Expr) → stmt_events (s.Local n at m i w (Some x)) ≡ expr_events x ++ Local n i m w ∷ []
unfolding seen_events seen_events_kind stmt_events block_events branch_events piece_events
stmt_local n at i m w x = ap stmt_events (sym (v.rolls-Local n at m i w (Some x))) ∙ fold-roll-Stmt Events (Unit {0}) SeenEventsKind Events Events Events (Unit {0}) SeenEvents (Unit {0}) (Unit {0}) (Unit {0}) branch_step nothing kind_step stmt_step piece_step block_step nothing expr_step nothing nothing nothing (Stmt-F.Local n at m i w (Some x))

pub stmt_local_alone : (n : ℕ) (at : Span) (i : Ident) (m : Bool) (w : Option TypeRef) → stmt_events (s.Local n at m i w None) ≡ [] ++ Local n i m w ∷ []
unfolding seen_events seen_events_kind stmt_events block_events branch_events piece_events
stmt_local_alone n at i m w = ap stmt_events (sym (v.rolls-Local n at m i w None)) ∙ fold-roll-Stmt Events (Unit {0}) SeenEventsKind Events Events Events (Unit {0}) SeenEvents (Unit {0}) (Unit {0}) (Unit {0}) branch_step nothing kind_step stmt_step piece_step block_step nothing expr_step nothing nothing nothing (Stmt-F.Local n at m i w None)

pub stmt_assign : (n : ℕ) (at : Span) (t : Expr) (a : Assignment) (x : Expr) → stmt_events (s.Assign n at t a (Some x)) ≡ left_events n (seen_events t) ++ expr_events x
unfolding seen_events seen_events_kind stmt_events block_events branch_events piece_events
stmt_assign n at t a x = ap stmt_events (sym (v.rolls-Assign n at t a (Some x))) ∙ fold-roll-Stmt Events (Unit {0}) SeenEventsKind Events Events Events (Unit {0}) SeenEvents (Unit {0}) (Unit {0}) (Unit {0}) branch_step nothing kind_step stmt_step piece_step block_step nothing expr_step nothing nothing nothing (Stmt-F.Assign n at t a (Some x))

pub stmt_assign_alone : (n : ℕ) (at : Span) (t : Expr) (a : Assignment) → stmt_events (s.Assign n at t a None) ≡ left_events n (seen_events t) ++ []
unfolding seen_events seen_events_kind stmt_events block_events branch_events piece_events
stmt_assign_alone n at t a = ap stmt_events (sym (v.rolls-Assign n at t a None)) ∙ fold-roll-Stmt Events (Unit {0}) SeenEventsKind Events Events Events (Unit {0}) SeenEvents (Unit {0}) (Unit {0}) (Unit {0}) branch_step nothing kind_step stmt_step piece_step block_step nothing expr_step nothing nothing nothing (Stmt-F.Assign n at t a None)

pub stmt_while : (n : ℕ) (at : Span) (c : Expr) (x : Branch) → stmt_events (s.While n at c x) ≡ []
unfolding seen_events seen_events_kind stmt_events block_events branch_events piece_events
stmt_while n at c x = ap stmt_events (sym (v.rolls-While n at c x)) ∙ fold-roll-Stmt Events (Unit {0}) SeenEventsKind Events Events Events (Unit {0}) SeenEvents (Unit {0}) (Unit {0}) (Unit {0}) branch_step nothing kind_step stmt_step piece_step block_step nothing expr_step nothing nothing nothing (Stmt-F.While n at c x)

pub stmt_do_while : (n : ℕ) (at : Span) (x : Block) (c : Expr) → stmt_events (s.DoWhile n at x c) ≡ []
unfolding seen_events seen_events_kind stmt_events block_events branch_events piece_events
stmt_do_while n at x c = ap stmt_events (sym (v.rolls-DoWhile n at x c)) ∙ fold-roll-Stmt Events (Unit {0}) SeenEventsKind Events Events Events (Unit {0}) SeenEvents (Unit {0}) (Unit {0}) (Unit {0}) branch_step nothing kind_step stmt_step piece_step block_step nothing expr_step nothing nothing nothing (Stmt-F.DoWhile n at x c)

pub stmt_for : (n : ℕ) (at : Span) (i : Ident) (w : Option TypeRef) (l : Expr) (o : Progression) (h : Expr) (x : Branch) → stmt_events (s.For n at i w l o h x) ≡ []
unfolding seen_events seen_events_kind stmt_events block_events branch_events piece_events
stmt_for n at i w l o h x = ap stmt_events (sym (v.rolls-For n at i w l o h x)) ∙ fold-roll-Stmt Events (Unit {0}) SeenEventsKind Events Events Events (Unit {0}) SeenEvents (Unit {0}) (Unit {0}) (Unit {0}) branch_step nothing kind_step stmt_step piece_step block_step nothing expr_step nothing nothing nothing (Stmt-F.For n at i w l o h x)

pub branch_braced : (x : Block) → branch_events (b.Braced x) ≡ block_events x
unfolding seen_events seen_events_kind stmt_events block_events branch_events piece_events
branch_braced x = ap branch_events (sym (v.rolls-Braced x)) ∙ fold-roll-Branch Events (Unit {0}) SeenEventsKind Events Events Events (Unit {0}) SeenEvents (Unit {0}) (Unit {0}) (Unit {0}) branch_step nothing kind_step stmt_step piece_step block_step nothing expr_step nothing nothing nothing (Branch-F.Braced x)

pub branch_single : (x : Stmt) → branch_events (b.Single x) ≡ stmt_events x
unfolding seen_events seen_events_kind stmt_events block_events branch_events piece_events
branch_single x = ap branch_events (sym (v.rolls-Single x)) ∙ fold-roll-Branch Events (Unit {0}) SeenEventsKind Events Events Events (Unit {0}) SeenEvents (Unit {0}) (Unit {0}) (Unit {0}) branch_step nothing kind_step stmt_step piece_step block_step nothing expr_step nothing nothing nothing (Branch-F.Single x)

pub piece_text : (bs : List ℕ) → piece_events (p.Text bs) ≡ []
unfolding seen_events seen_events_kind stmt_events block_events branch_events piece_events
piece_text bs = ap piece_events (sym (v.rolls-Text bs)) ∙ fold-roll-StringPart Events (Unit {0}) SeenEventsKind Events Events Events (Unit {0}) SeenEvents (Unit {0}) (Unit {0}) (Unit {0}) branch_step nothing kind_step stmt_step piece_step block_step nothing expr_step nothing nothing nothing (StringPart-F.Text bs)

pub piece_inserted : (x : Expr) → piece_events (p.Inserted x) ≡ expr_events x
unfolding seen_events seen_events_kind stmt_events block_events branch_events piece_events
piece_inserted x = ap piece_events (sym (v.rolls-Inserted x)) ∙ fold-roll-StringPart Events (Unit {0}) SeenEventsKind Events Events Events (Unit {0}) SeenEvents (Unit {0}) (Unit {0}) (Unit {0}) branch_step nothing kind_step stmt_step piece_step block_step nothing expr_step nothing nothing nothing (StringPart-F.Inserted x)

pub block_parts : (x : Block) → block_events x ≡ Opens ∷ flat_map stmt_events (out-Block x).statements ++ Closes ∷ []
unfolding seen_events seen_events_kind stmt_events block_events branch_events piece_events
block_parts x = fold_out-Block Events (Unit {0}) SeenEventsKind Events Events Events (Unit {0}) SeenEvents (Unit {0}) (Unit {0}) (Unit {0}) branch_step nothing kind_step stmt_step piece_step block_step nothing expr_step nothing nothing nothing x ∙ ap (λ z. Opens ∷ z ++ Closes ∷ []) (joined_map stmt_events (out-Block x).statements)

expr_of_kind : (x : Expr) → seen_events x ≡ record { events = (seen_events_kind x.kind).at x.number x.span; name = option_map (λ y. ident y x.span) (seen_events_kind x.kind).name }
unfolding seen_events seen_events_kind stmt_events block_events branch_events piece_events
expr_of_kind x = fold-roll-Expr Events (Unit {0}) SeenEventsKind Events Events Events (Unit {0}) SeenEvents (Unit {0}) (Unit {0}) (Unit {0}) branch_step nothing kind_step stmt_step piece_step block_step nothing expr_step nothing nothing nothing (record { number = x.number; span = x.span; kind = x.kind })

-- an expression, by its kind
pub events_by : (x : Expr) {k : ExprKind} {f : SeenEventsKind} → x.kind ≡ k → seen_events_kind k ≡ f → expr_events x ≡ f.at x.number x.span
events_by x e step = ap (λ (y : SeenEvents). y.events) (expr_of_kind x) ∙ ap (λ j. (seen_events_kind j).at x.number x.span) e ∙ ap (λ (g : SeenEventsKind). g.at x.number x.span) step

-- with one operand, and with two
pub ruleset of_one = (kind_paren, kind_not, kind_throw, kind_sign)

pub ruleset of_two = (kind_sum, kind_arithmetic, kind_compare, kind_equal, kind_and, kind_or)

-- its name where it is a name alone
pub name_by : (x : Expr) {k : ExprKind} {f : SeenEventsKind} → x.kind ≡ k → seen_events_kind k ≡ f → (seen_events x).name ≡ option_map (λ y. ident y x.span) f.name
name_by x e step = ap (λ (y : SeenEvents). y.name) (expr_of_kind x) ∙ ap (λ j. option_map (λ y. ident y x.span) (seen_events_kind j).name) e ∙ ap (λ (g : SeenEventsKind). option_map (λ y. ident y x.span) g.name) step

-- ---- whatever may not be written

pub kind_if_any : (c : Expr) (x : Branch) (y : Option Branch) → seen_events_kind (e.If c x y) ≡ within (expr_events c ++ branch_events x ++ if_there (option_map branch_events y))
kind_if_any c x (Some y) = kind_if c x y
kind_if_any c x None = kind_if_alone c x

pub kind_return_any : (w : Option Expr) → seen_events_kind (e.Return None w) ≡ within (if_written (option_map seen_events w))
kind_return_any (Some x) = kind_return x
kind_return_any None = kind_return_alone

pub kind_return_at_any : (l : Ident) (w : Option Expr) → seen_events_kind (e.Return (Some l) w) ≡ within []
kind_return_at_any l (Some x) = kind_return_at l x
kind_return_at_any l None = kind_return_at_alone l

pub stmt_local_any : (n : ℕ) (at : Span) (i : Ident) (m : Bool) (w : Option TypeRef) (x : Option Expr) → stmt_events (s.Local n at m i w x) ≡ if_written (option_map seen_events x) ++ Local n i m w ∷ []
stmt_local_any n at i m w (Some x) = stmt_local n at i m w x
stmt_local_any n at i m w None = stmt_local_alone n at i m w

pub stmt_assign_any : (n : ℕ) (at : Span) (t : Expr) (a : Assignment) (x : Option Expr) → stmt_events (s.Assign n at t a x) ≡ left_events n (seen_events t) ++ if_written (option_map seen_events x)
stmt_assign_any n at t a (Some x) = stmt_assign n at t a x
stmt_assign_any n at t a None = stmt_assign_alone n at t a

-- ---- what is not open

abbrev Layer : Type 0
Layer = ExprKind-F Branch Condition ExprKind Stmt StringPart Block Catch Expr Lambda Subject WhenBranch

kind_other_at : (layer : Layer) → ((x : ℕ) → v.roll-ExprKind layer ≢ e.Name x) → ((ps : List StringPart) → v.roll-ExprKind layer ≢ e.Template ps) → ((x : Expr) → v.roll-ExprKind layer ≢ e.Paren x) → ((f : Ident) (xs : List Expr) (l : Option Lambda) → v.roll-ExprKind layer ≢ e.Call f xs l) → ((o : Sign) (x : Expr) → v.roll-ExprKind layer ≢ e.Sign o x) → ((x : Expr) → v.roll-ExprKind layer ≢ e.Not x) → ((x y : Expr) → v.roll-ExprKind layer ≢ e.Sum x y) → ((o : Arithmetic) (x y : Expr) → v.roll-ExprKind layer ≢ e.Arithmetic o x y) → ((o : Comparison) (x y : Expr) → v.roll-ExprKind layer ≢ e.Compare o x y) → ((o : Equality) (x y : Expr) → v.roll-ExprKind layer ≢ e.Equal o x y) → ((x y : Expr) → v.roll-ExprKind layer ≢ e.And x y) → ((x y : Expr) → v.roll-ExprKind layer ≢ e.Or x y) → ((c : Expr) (x : Branch) (y : Option Branch) → v.roll-ExprKind layer ≢ e.If c x y) → ((l : Option Ident) (w : Option Expr) → v.roll-ExprKind layer ≢ e.Return l w) → ((x : Expr) → v.roll-ExprKind layer ≢ e.Throw x) → seen_events_kind (v.roll-ExprKind layer) ≡ within []
unfolding seen_events seen_events_kind stmt_events block_events branch_events piece_events
kind_other_at (ExprKind-F.Name x) h0 h1 h2 h3 h4 h5 h6 h7 h8 h9 h10 h11 h12 h13 h14 = absurd (h0 x (v.rolls-Name x))
kind_other_at (ExprKind-F.Template ps) h0 h1 h2 h3 h4 h5 h6 h7 h8 h9 h10 h11 h12 h13 h14 = absurd (h1 ps (v.rolls-Template ps))
kind_other_at (ExprKind-F.Paren x) h0 h1 h2 h3 h4 h5 h6 h7 h8 h9 h10 h11 h12 h13 h14 = absurd (h2 x (v.rolls-Paren x))
kind_other_at (ExprKind-F.Call f xs l) h0 h1 h2 h3 h4 h5 h6 h7 h8 h9 h10 h11 h12 h13 h14 = absurd (h3 f xs l (v.rolls-Call f xs l))
kind_other_at (ExprKind-F.Sign o x) h0 h1 h2 h3 h4 h5 h6 h7 h8 h9 h10 h11 h12 h13 h14 = absurd (h4 o x (v.rolls-Sign o x))
kind_other_at (ExprKind-F.Not x) h0 h1 h2 h3 h4 h5 h6 h7 h8 h9 h10 h11 h12 h13 h14 = absurd (h5 x (v.rolls-Not x))
kind_other_at (ExprKind-F.Sum x y) h0 h1 h2 h3 h4 h5 h6 h7 h8 h9 h10 h11 h12 h13 h14 = absurd (h6 x y (v.rolls-Sum x y))
kind_other_at (ExprKind-F.Arithmetic o x y) h0 h1 h2 h3 h4 h5 h6 h7 h8 h9 h10 h11 h12 h13 h14 = absurd (h7 o x y (v.rolls-Arithmetic o x y))
kind_other_at (ExprKind-F.Compare o x y) h0 h1 h2 h3 h4 h5 h6 h7 h8 h9 h10 h11 h12 h13 h14 = absurd (h8 o x y (v.rolls-Compare o x y))
kind_other_at (ExprKind-F.Equal o x y) h0 h1 h2 h3 h4 h5 h6 h7 h8 h9 h10 h11 h12 h13 h14 = absurd (h9 o x y (v.rolls-Equal o x y))
kind_other_at (ExprKind-F.And x y) h0 h1 h2 h3 h4 h5 h6 h7 h8 h9 h10 h11 h12 h13 h14 = absurd (h10 x y (v.rolls-And x y))
kind_other_at (ExprKind-F.Or x y) h0 h1 h2 h3 h4 h5 h6 h7 h8 h9 h10 h11 h12 h13 h14 = absurd (h11 x y (v.rolls-Or x y))
kind_other_at (ExprKind-F.If c x y) h0 h1 h2 h3 h4 h5 h6 h7 h8 h9 h10 h11 h12 h13 h14 = absurd (h12 c x y (v.rolls-If c x y))
kind_other_at (ExprKind-F.Return l w) h0 h1 h2 h3 h4 h5 h6 h7 h8 h9 h10 h11 h12 h13 h14 = absurd (h13 l w (v.rolls-Return l w))
kind_other_at (ExprKind-F.Throw x) h0 h1 h2 h3 h4 h5 h6 h7 h8 h9 h10 h11 h12 h13 h14 = absurd (h14 x (v.rolls-Throw x))
kind_other_at layer h0 h1 h2 h3 h4 h5 h6 h7 h8 h9 h10 h11 h12 h13 h14 = fold-roll-ExprKind Events (Unit {0}) SeenEventsKind Events Events Events (Unit {0}) SeenEvents (Unit {0}) (Unit {0}) (Unit {0}) branch_step nothing kind_step stmt_step piece_step block_step nothing expr_step nothing nothing nothing layer

-- a kind that is none of the open ones that have parts or a name
pub kind_other : (k : ExprKind) → ((x : ℕ) → k ≢ e.Name x) → ((ps : List StringPart) → k ≢ e.Template ps) → ((x : Expr) → k ≢ e.Paren x) → ((f : Ident) (xs : List Expr) (l : Option Lambda) → k ≢ e.Call f xs l) → ((o : Sign) (x : Expr) → k ≢ e.Sign o x) → ((x : Expr) → k ≢ e.Not x) → ((x y : Expr) → k ≢ e.Sum x y) → ((o : Arithmetic) (x y : Expr) → k ≢ e.Arithmetic o x y) → ((o : Comparison) (x y : Expr) → k ≢ e.Compare o x y) → ((o : Equality) (x y : Expr) → k ≢ e.Equal o x y) → ((x y : Expr) → k ≢ e.And x y) → ((x y : Expr) → k ≢ e.Or x y) → ((c : Expr) (x : Branch) (y : Option Branch) → k ≢ e.If c x y) → ((l : Option Ident) (w : Option Expr) → k ≢ e.Return l w) → ((x : Expr) → k ≢ e.Throw x) → seen_events_kind k ≡ within []
kind_other k h0 h1 h2 h3 h4 h5 h6 h7 h8 h9 h10 h11 h12 h13 h14 =
    subst (λ j. seen_events_kind j ≡ within []) (v.roll-out-ExprKind k) (kind_other_at (v.out-ExprKind k)
    (λ x. subst (λ j. j ≢ e.Name x) (sym (v.roll-out-ExprKind k)) (h0 x))
    (λ ps. subst (λ j. j ≢ e.Template ps) (sym (v.roll-out-ExprKind k)) (h1 ps))
    (λ x. subst (λ j. j ≢ e.Paren x) (sym (v.roll-out-ExprKind k)) (h2 x))
    (λ f xs l. subst (λ j. j ≢ e.Call f xs l) (sym (v.roll-out-ExprKind k)) (h3 f xs l))
    (λ o x. subst (λ j. j ≢ e.Sign o x) (sym (v.roll-out-ExprKind k)) (h4 o x))
    (λ x. subst (λ j. j ≢ e.Not x) (sym (v.roll-out-ExprKind k)) (h5 x))
    (λ x y. subst (λ j. j ≢ e.Sum x y) (sym (v.roll-out-ExprKind k)) (h6 x y))
    (λ o x y. subst (λ j. j ≢ e.Arithmetic o x y) (sym (v.roll-out-ExprKind k)) (h7 o x y))
    (λ o x y. subst (λ j. j ≢ e.Compare o x y) (sym (v.roll-out-ExprKind k)) (h8 o x y))
    (λ o x y. subst (λ j. j ≢ e.Equal o x y) (sym (v.roll-out-ExprKind k)) (h9 o x y))
    (λ x y. subst (λ j. j ≢ e.And x y) (sym (v.roll-out-ExprKind k)) (h10 x y))
    (λ x y. subst (λ j. j ≢ e.Or x y) (sym (v.roll-out-ExprKind k)) (h11 x y))
    (λ c x y. subst (λ j. j ≢ e.If c x y) (sym (v.roll-out-ExprKind k)) (h12 c x y))
    (λ l w. subst (λ j. j ≢ e.Return l w) (sym (v.roll-out-ExprKind k)) (h13 l w))
    (λ x. subst (λ j. j ≢ e.Throw x) (sym (v.roll-out-ExprKind k)) (h14 x)))

not_name_at : (layer : Layer) → ((x : ℕ) → v.roll-ExprKind layer ≢ e.Name x) → (seen_events_kind (v.roll-ExprKind layer)).name ≡ None
unfolding seen_events seen_events_kind stmt_events block_events branch_events piece_events
not_name_at (ExprKind-F.Name x) h = absurd (h x (v.rolls-Name x))
not_name_at (ExprKind-F.Call f xs None) h = ap (λ (g : SeenEventsKind). g.name) (fold-roll-ExprKind Events (Unit {0}) SeenEventsKind Events Events Events (Unit {0}) SeenEvents (Unit {0}) (Unit {0}) (Unit {0}) branch_step nothing kind_step stmt_step piece_step block_step nothing expr_step nothing nothing nothing (ExprKind-F.Call f xs None))
not_name_at (ExprKind-F.Call f xs (Some l)) h = ap (λ (g : SeenEventsKind). g.name) (fold-roll-ExprKind Events (Unit {0}) SeenEventsKind Events Events Events (Unit {0}) SeenEvents (Unit {0}) (Unit {0}) (Unit {0}) branch_step nothing kind_step stmt_step piece_step block_step nothing expr_step nothing nothing nothing (ExprKind-F.Call f xs (Some l)))
not_name_at (ExprKind-F.Return None w) h = ap (λ (g : SeenEventsKind). g.name) (fold-roll-ExprKind Events (Unit {0}) SeenEventsKind Events Events Events (Unit {0}) SeenEvents (Unit {0}) (Unit {0}) (Unit {0}) branch_step nothing kind_step stmt_step piece_step block_step nothing expr_step nothing nothing nothing (ExprKind-F.Return None w))
not_name_at (ExprKind-F.Return (Some l) w) h = ap (λ (g : SeenEventsKind). g.name) (fold-roll-ExprKind Events (Unit {0}) SeenEventsKind Events Events Events (Unit {0}) SeenEvents (Unit {0}) (Unit {0}) (Unit {0}) branch_step nothing kind_step stmt_step piece_step block_step nothing expr_step nothing nothing nothing (ExprKind-F.Return (Some l) w))
not_name_at layer h = ap (λ (g : SeenEventsKind). g.name) (fold-roll-ExprKind Events (Unit {0}) SeenEventsKind Events Events Events (Unit {0}) SeenEvents (Unit {0}) (Unit {0}) (Unit {0}) branch_step nothing kind_step stmt_step piece_step block_step nothing expr_step nothing nothing nothing layer)

-- an expression that is no name alone
pub not_name : (x : Expr) → ((y : ℕ) → x.kind ≢ e.Name y) → (seen_events x).name ≡ None
not_name x h =
    name_by x refl refl
    ∙ ap (option_map (λ y. ident y x.span)) (subst (λ j. (seen_events_kind j).name ≡ None) (v.roll-out-ExprKind x.kind) (not_name_at (v.out-ExprKind x.kind) (λ y. subst (λ j. j ≢ e.Name y) (sym (v.roll-out-ExprKind x.kind)) (h y))))

-- what a left side gives
pub left_name : (n : ℕ) (x : Expr) {w : Ident} → (seen_events x).name ≡ Some w → left_events n (seen_events x) ≡ Assigns n w ∷ []
left_name n x e = ap (λ name. left_events n (record { events = expr_events x; name = name })) e

pub left_other : (n : ℕ) (x : Expr) → (seen_events x).name ≡ None → left_events n (seen_events x) ≡ expr_events x
left_other n x e = ap (λ name. left_events n (record { events = expr_events x; name = name })) e
