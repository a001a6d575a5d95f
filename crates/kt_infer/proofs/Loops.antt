-- How the loops over parts go on, and what they have typed when no part is left.
use Rattle.std.proofs.Common.{◌≡◌, ℕ, suc, ◌+◌, ◌<◌, ◌≤◌, ◌&&◌, ◌||◌, Bool, List, [], ◌∷◌, length, map, drop, drop-cons, get_or, Option, is_some, sym, ap, ◌∙◌, arith}
use Rattle.std.proofs.lemmas.List.{at_drop_all}
use Rattle.kt_tree.specs.declared.ast.body.Expr.{Expr}
use Rattle.kt_tree.specs.declared.ast.body.Stmt.{Stmt}
use Rattle.kt_tree.specs.declared.ast.body.StringPart.{StringPart}
use Rattle.kt_model.specs.declared.uses.Named.{Named}
use Rattle.kt_model.specs.declared.kinds.KtType.{KtType}
use Rattle.kt_model.specs.BodyTrees.{First', seen, seen_trees, listed, expr_tree, stmt_tree, piece, inserted_of}
use Rattle.kt_typing.specs.Typing.{TypeContext, Ways, Each, Judgements, first_way, judged, all_judged, has_nothing}
use Rattle.kt_typing.specs.declared.claims.Way.{Way}
use Rattle.kt_typing.specs.declared.claims.Way.TheVariants.{Unvalued}
use Rattle.kt_infer.specs.Demands.{ways_from}
use Rattle.kt_infer.specs.Noting.{Judges, JudgesAll, JudgesLeading, Continues, ContinuesBranch, ContinuesLeading, by_last}
use Rattle.kt_infer.specs.declared.notes.Notes.{Notes}
use Rattle.kt_infer.proofs.Passing.{finish_trees, finish_branch, finish_leading, piece_step, step_branch, step_leading}
use Rattle.kt_infer.proofs.WaysFrom.{step_in_way}

-- ---- the statements of a branch

stmts_more : (uses : ℕ → Named) (xs : List Stmt) (i j : ℕ) (x : Stmt) → j < length xs → i ≡ suc j → x ≡ get_or xs j x → listed (map (stmt_tree uses) (drop j xs)) ≡ First' (stmt_tree uses x) (listed (map (stmt_tree uses) (drop i xs)))
stmts_more uses xs i j x h e is =
    ap (λ l. listed (map (stmt_tree uses) l)) (drop-cons xs j x h ∙ ap (λ y. y ∷ drop (suc j) xs) (sym is))
    ∙ ap (λ k. First' (stmt_tree uses x) (listed (map (stmt_tree uses) (drop k xs)))) (sym e)

pub next_statement : (cx : TypeContext) (uses : ℕ → Named) (xs : List Stmt) (i : ℕ) (x : Stmt) {a b c : Notes} {whole : Judgements} {f : Option KtType} {k m : Bool} → i < length xs → x ≡ get_or xs i x
    → ContinuesBranch a b whole (all_judged cx (Each Unvalued) b.locals.entries (listed (map (stmt_tree uses) (drop i xs)))) k
    → Judges b c (judged cx Unvalued b.locals.entries (stmt_tree uses x)) f → m ≡ is_some f
    → ContinuesBranch a c whole (all_judged cx (Each Unvalued) c.locals.entries (listed (map (stmt_tree uses) (drop (i + 1) xs)))) m
next_statement cx uses xs i x {a} {b} h is p q g =
    step_branch cx (stmt_tree uses x) (listed (map (stmt_tree uses) (drop (i + 1) xs)))
    (ap (all_judged cx (Each Unvalued) b.locals.entries) (stmts_more uses xs (i + 1) i x h (omega arith) is)) p q g

pub no_statement_left : (cx : TypeContext) (uses : ℕ → Named) (xs : List Stmt) (i : ℕ) {a b : Notes} {whole : Judgements} {k : Bool} → length xs ≤ i
    → ContinuesBranch a b whole (all_judged cx (Each Unvalued) b.locals.entries (listed (map (stmt_tree uses) (drop i xs)))) k → JudgesAll a b (by_last whole) k
no_statement_left cx uses xs i {a} {b} h p = finish_branch cx (at_drop_all (λ l. all_judged cx (Each Unvalued) b.locals.entries (listed (map (stmt_tree uses) l))) xs i h) p

pub next_leading : (cx : TypeContext) (uses : ℕ → Named) (xs : List Stmt) (i : ℕ) (x : Stmt) {a b c : Notes} {whole : Judgements} {f : Option KtType} {k m : Bool} → i < length xs → x ≡ get_or xs i x
    → ContinuesLeading a b whole (all_judged cx (Each Unvalued) b.locals.entries (listed (map (stmt_tree uses) (drop i xs)))) k
    → Judges b c (judged cx Unvalued b.locals.entries (stmt_tree uses x)) f → m ≡ (k || has_nothing (f ∷ []))
    → ContinuesLeading a c whole (all_judged cx (Each Unvalued) c.locals.entries (listed (map (stmt_tree uses) (drop (i + 1) xs)))) m
next_leading cx uses xs i x {a} {b} h is p q g =
    step_leading cx (stmt_tree uses x) (listed (map (stmt_tree uses) (drop (i + 1) xs)))
    (ap (all_judged cx (Each Unvalued) b.locals.entries) (stmts_more uses xs (i + 1) i x h (omega arith) is)) p q g

pub no_leading_left : (cx : TypeContext) (uses : ℕ → Named) (xs : List Stmt) (i : ℕ) {a b : Notes} {whole : Judgements} {k : Bool} → length xs ≤ i
    → ContinuesLeading a b whole (all_judged cx (Each Unvalued) b.locals.entries (listed (map (stmt_tree uses) (drop i xs)))) k → JudgesLeading a b whole k
no_leading_left cx uses xs i {a} {b} h p = finish_leading cx (at_drop_all (λ l. all_judged cx (Each Unvalued) b.locals.entries (listed (map (stmt_tree uses) l))) xs i h) p

-- ---- the arguments of a call

exprs_more : (uses : ℕ → Named) (xs : List Expr) (i j : ℕ) (x : Expr) → j < length xs → i ≡ suc j → x ≡ get_or xs j x → seen_trees (map (seen uses) (drop j xs)) ≡ First' (expr_tree uses x) (seen_trees (map (seen uses) (drop i xs)))
exprs_more uses xs i j x h e is =
    ap (λ l. seen_trees (map (seen uses) l)) (drop-cons xs j x h ∙ ap (λ y. y ∷ drop (suc j) xs) (sym is))
    ∙ ap (λ k. First' (expr_tree uses x) (seen_trees (map (seen uses) (drop k xs)))) (sym e)

pub next_argument : (cx : TypeContext) (uses : ℕ → Named) (xs : List Expr) (ways : Ways) (i : ℕ) (x : Expr) {a b c : Notes} {whole : Judgements} {f : Option KtType} {k m : Bool} {way : Way} → i < length xs → x ≡ get_or xs i x
    → Continues a b whole (all_judged cx (ways_from i ways) b.locals.entries (seen_trees (map (seen uses) (drop i xs)))) k
    → way ≡ first_way (ways_from i ways) → Judges b c (judged cx way b.locals.entries (expr_tree uses x)) f → m ≡ (k && is_some f)
    → Continues a c whole (all_judged cx (ways_from (i + 1) ways) c.locals.entries (seen_trees (map (seen uses) (drop (i + 1) xs)))) m
next_argument cx uses xs ways i x {a} {b} h is p w q g =
    step_in_way cx (expr_tree uses x) (seen_trees (map (seen uses) (drop (i + 1) xs))) ways (i + 1) i (omega arith)
    (ap (all_judged cx (ways_from i ways) b.locals.entries) (exprs_more uses xs (i + 1) i x h (omega arith) is)) p w q g

pub no_argument_left : (cx : TypeContext) (uses : ℕ → Named) (xs : List Expr) (ways : Ways) (i : ℕ) {a b : Notes} {whole : Judgements} {k : Bool} → length xs ≤ i
    → Continues a b whole (all_judged cx (ways_from i ways) b.locals.entries (seen_trees (map (seen uses) (drop i xs)))) k → JudgesAll a b whole k
no_argument_left cx uses xs ways i {a} {b} h p = finish_trees cx (ways_from i ways) (at_drop_all (λ l. all_judged cx (ways_from i ways) b.locals.entries (seen_trees (map (seen uses) l))) xs i h) p

-- ---- the parts of a string

pieces_more : (uses : ℕ → Named) (xs : List StringPart) (i j : ℕ) (x : StringPart) → j < length xs → i ≡ suc j → x ≡ get_or xs j x → inserted_of (map (piece uses) (drop j xs)) ≡ inserted_of (piece uses x ∷ map (piece uses) (drop i xs))
pieces_more uses xs i j x h e is =
    ap (λ l. inserted_of (map (piece uses) l)) (drop-cons xs j x h ∙ ap (λ y. y ∷ drop (suc j) xs) (sym is))
    ∙ ap (λ k. inserted_of (piece uses x ∷ map (piece uses) (drop k xs))) (sym e)

pub next_piece : (cx : TypeContext) (uses : ℕ → Named) (xs : List StringPart) (way : Way) (i : ℕ) (x : StringPart) {a b c : Notes} {whole : Judgements} {f k m : Bool} → i < length xs → x ≡ get_or xs i x
    → Continues a b whole (all_judged cx (Each way) b.locals.entries (inserted_of (map (piece uses) (drop i xs)))) k
    → JudgesAll b c (all_judged cx (Each way) b.locals.entries (inserted_of (piece uses x ∷ []))) f → m ≡ (k && f)
    → Continues a c whole (all_judged cx (Each way) c.locals.entries (inserted_of (map (piece uses) (drop (i + 1) xs)))) m
next_piece cx uses xs way i x {a} {b} h is p q g =
    piece_step cx (piece uses x) (map (piece uses) (drop (i + 1) xs)) way
    (ap (all_judged cx (Each way) b.locals.entries) (pieces_more uses xs (i + 1) i x h (omega arith) is)) p q g

pub no_piece_left : (cx : TypeContext) (uses : ℕ → Named) (xs : List StringPart) (way : Way) (i : ℕ) {a b : Notes} {whole : Judgements} {k : Bool} → length xs ≤ i
    → Continues a b whole (all_judged cx (Each way) b.locals.entries (inserted_of (map (piece uses) (drop i xs)))) k → JudgesAll a b whole k
no_piece_left cx uses xs way i {a} {b} h p = finish_trees cx (Each way) (at_drop_all (λ l. all_judged cx (Each way) b.locals.entries (inserted_of (map (piece uses) l))) xs i h) p
