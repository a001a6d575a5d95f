-- What is added for each kind of tree is its graph.
use Rattle.std.proofs.Common.{◌≡◌, ℕ, suc, ◌+◌, ◌*◌, ◌<◌, length, get_or, drop, drop-cons, List, [], ◌∷◌, ◌++◌, map, Option, Some, None, Bool, true, false, refl, sym, ap, ◌∙◌, subst, append-nil, reverse, arith}
use Rattle.std.specs.Prelude.{Result, Ok, Err, IfOk}
use Rattle.kt_tree.specs.declared.token.Span.{Span}
use Rattle.kt_model.specs.declared.graph.Tag.{Tag}
use Rattle.kt_model.specs.declared.graph.Known.TheVariants as known
use Rattle.kt_model.specs.BodyTrees.{Tree, Trees, Braces, Operation, Operation', Name', Paren', Not', And', Or', If', Declare', Local', Assign', Compound', Call', Return', Throw', Shut', Empty', First', Piece, Text', Inserted', expr_tree, branch_trees, stmt_tree, piece, seen, seen_trees, inserted_of, listed, named_there, Seen, assign_tree, name_span}
use Rattle.kt_tree.specs.declared.ast.body.Expr.{Expr}
use Rattle.kt_tree.specs.declared.ast.body.Branch.{Branch}
use Rattle.kt_tree.specs.declared.ast.body.Stmt.{Stmt}
use Rattle.kt_tree.specs.declared.ast.body.StringPart.{StringPart}
use Rattle.kt_model.specs.declared.uses.Named.{Named}
use Rattle.kt_model.specs.declared.uses.Named.TheVariants as named
use Rattle.kt_tree.specs.declared.ast.part.Assignment.{Assignment}
use Rattle.kt_model.specs.ControlFlow as flow
use Rattle.kt_model.specs.ControlFlow.{Node, Edge, Effects, node, on, nodes, all_nodes, edges, all_edges, in_of, entry_of, returns_of, if_returns, entry_node, params_node, end_node, in_body, body_nodes, body_edges, reads, declares, assigns, last_nodes, last_edges}
use Rattle.kt_model.specs.Bodies.{node_at, edge_at, edges_at}
use Rattle.kt_graph.specs.Building.{Ends, Grows, Enters, StepsTo, Tests, Leaves, Encloses, WalksTree, WalksTrees, place_at, context_at, exits_at, is_branch, place_if, in_at, out_at, assume_at, IsBuilt}
use Rattle.kt_graph.specs.declared.building.Builder.{Builder}
use Rattle.kt_graph.specs.declared.building.Exits.{Exits}
use Rattle.kt_graph.specs.declared.building.Exits.TheVariants as exits
use Rattle.kt_graph.specs.declared.building.FlowContext.{FlowContext}
use Rattle.kt_graph.proofs.Growing.{next, next_edges, whole, grown, still}

-- the same tree, effects, exits and places under other names
pub same_tree : {a b : Builder} {t u : Tree} {c : FlowContext} {ex : Exits} {n : ℕ} → u ≡ t → WalksTree a b t c ex n → WalksTree a b u c ex n
same_tree {a} {b} {t} {u} {c} {ex} {n} e w = subst (λ r. WalksTree a b r c ex n) (sym e) w

pub same_trees : {a b : Builder} {t u : Trees} {c : FlowContext} {to n : Option ℕ} → u ≡ t → WalksTrees a b t c to n → WalksTrees a b u c to n
same_trees {a} {b} {t} {u} {c} {to} {n} e w = subst (λ r. WalksTrees a b r c to n) (sym e) w

pub same_next : {a b : Builder} {t : Trees} {c : FlowContext} {to from n : Option ℕ} → to ≡ from → WalksTrees a b t c to n → WalksTrees a b t c from n
same_next {a} {b} {t} {c} {to} {from} {n} e w = subst (λ r. WalksTrees a b t c r n) e w

pub leaves_effects : (a b : Builder) (n o : ℕ) (es fs : Effects) (c : FlowContext) (ex : Exits) → es ≡ fs → Leaves a b n es c ex o → Leaves a b n fs c ex o
leaves_effects a b n o es fs c ex e w = subst (λ l. Leaves a b n l c ex o) e w

pub steps_effects : (a b : Builder) (n o : ℕ) (t : Tag) (es fs : Effects) (c : FlowContext) (to : Option ℕ) → es ≡ fs → StepsTo a b (node n t c.copy es) c to o → StepsTo a b (node n t c.copy fs) c to o
steps_effects a b n o t es fs c to e w = subst (λ l. StepsTo a b (node n t c.copy l) c to o) e w

pub leaves_at : {a b : Builder} {n o : ℕ} {es : Effects} (c : FlowContext) {ex lead : Exits} → ex ≡ lead → Leaves a b n es c lead o → Leaves a b n es c ex o
leaves_at {a} {b} {n} {o} {es} c {ex} {lead} e w = subst (λ r. Leaves a b n es c r o) (sym e) w

-- the graph of a tree under another name, where the last addition gives its number or fails
pub walked : {E : Type 0} {a b : Builder} {t u : Tree} {c : FlowContext} {ex : Exits} {P : ℕ → Type 0} (r : Result ℕ E) → u ≡ t → IfOk r P → ((n : ℕ) → P n → WalksTree a b t c ex n) → IfOk r (λ n. WalksTree a b u c ex n)
walked (Ok n) e h f = same_tree e (f n h)
walked (Err x) e h f = tt

-- ---- what a tree itself adds

pub leaves_branch : {a b d f : Builder} {n ka kb o : ℕ} {es : Effects} (t u : Option ℕ) (c : FlowContext) → StepsTo a b (assume_at n c.copy false) c u kb → StepsTo b d (assume_at n c.copy true) c t ka → Enters d f (out_at n c.copy es ∷ []) (λ ns. on (context_at ns c) (out_at n c.copy es) (node_at ns ka ∷ node_at ns kb ∷ [])) (λ ns. node_at ns o ≡ out_at n c.copy es) → Leaves a f n es c (exits.Branch t u) o
leaves_branch t u c p q r = whole (next (next p q) r) refl (λ ns e. cc) (λ ns e. e.1)

-- ---- one law for each kind of tree

pub walk_empty : (a : Builder) (c : FlowContext) (to : Option ℕ) → WalksTrees a a Empty' c to to
unfolding nodes edges
walk_empty a c to = record { trees_walked = record { grows = still a; is_found = λ ns s. refl } }

pub walk_first : {a b d : Builder} {t : Tree} {ts : Trees} {n : ℕ} {to m : Option ℕ} {c : FlowContext} → WalksTrees a b ts c to m → WalksTree b d t c (exits.Then m) n → WalksTrees a d (First' t ts) c to (Some n)
unfolding nodes edges
walk_first v w = record { trees_walked = whole (next v.trees_walked w.tree_walked) refl (λ ns e. cc) (λ ns e. cc) }

pub walk_one : {a b : Builder} {t : Tree} {n : ℕ} {to : Option ℕ} {c : FlowContext} → WalksTree a b t c (exits.Then to) n → WalksTrees a b (First' t Empty') c to (Some n)
walk_one {a = a} {to = to} {c = c} w = walk_first (walk_empty a c to) w

returns_is : (r : Bool) (o : ℕ) (ns : List Node) (x : Node) → node_at ns o ≡ x → place_at ns (place_if r o) ≡ if_returns r x
returns_is true o ns x e = ap (λ m. m ∷ []) e
returns_is false o ns x e = refl

pub walk_operation : {a b d f : Builder} {ts : Trees} {n o r : ℕ} {sp word : Span} {m : Option ℕ} {c : FlowContext} {ex : Exits} (operation : Operation) → Leaves a b n [] c ex o → WalksTrees b d ts c (place_if (returns_of operation) o) m → StepsTo d f (in_at n c.copy []) c m r → WalksTree a f (Operation' (named_there n sp word) operation ts) c ex r
unfolding nodes edges
walk_operation {ts = ts} {n = n} {o = o} {c = c} operation p w q = record {
  tree_walked = whole (next (next p w.trees_walked) q) refl
      (λ ns e. let x = returns_is (returns_of operation) o ns (out_at n c.copy []) e.0.0 in cc) (λ ns e. e.1);
}

pub walk_call : {a b d f : Builder} {ts : Trees} {n o r : ℕ} {sp word : Span} {m : Option ℕ} {c : FlowContext} {ex : Exits} (g : ℕ) (returns : Bool) → Leaves a b n [] c ex o → WalksTrees b d ts c (place_if returns o) m → StepsTo d f (in_at n c.copy []) c m r → WalksTree a f (Call' (named_there n sp word) g returns ts) c ex r
unfolding nodes edges
walk_call {ts = ts} {n = n} {o = o} {c = c} g returns p w q = record {
  tree_walked = whole (next (next p w.trees_walked) q) refl
      (λ ns e. let x = returns_is returns o ns (out_at n c.copy []) e.0.0 in cc) (λ ns e. e.1);
}

pub walk_name : {a b d : Builder} {n o r : ℕ} {sp word : Span} {c : FlowContext} {ex : Exits} (at : Span) (x : ℕ) → Leaves a b n (reads x ∷ []) c ex o → StepsTo b d (in_at n c.copy []) c (Some o) r → WalksTree a d (Name' (named_there n sp word) at x) c ex r
unfolding nodes edges
walk_name at x p q = record { tree_walked = whole (next p q) refl (λ ns e. cc) (λ ns e. e.1) }

pub walk_paren : {a b d f : Builder} {t : Tree} {n m r : ℕ} {sp word : Span} {c : FlowContext} {ex inner : Exits} → Encloses a b n c ex inner → WalksTree b d t c inner m → StepsTo d f (in_at n c.copy []) c (Some m) r → WalksTree a f (Paren' (named_there n sp word) t) c ex r
unfolding nodes edges
walk_paren {t = t} {n = n} {c = c} p w q = record {
  tree_walked = whole (next (next p.encloses w.tree_walked) q)
      (ap (λ b. in_at n c.copy [] ∷ (nodes b c.copy t ++ out_at n c.copy [] ∷ [])) p.same_branch) (λ ns e. cc) (λ ns e. e.1);
}

pub walk_not : {a b d f : Builder} {t : Tree} {n m r : ℕ} {sp word : Span} {yes' no' : Option ℕ} {c : FlowContext} {ex : Exits} → Tests a b n c ex yes' no' → WalksTree b d t c (exits.Branch no' yes') m → StepsTo d f (in_at n c.copy []) c (Some m) r → WalksTree a f (Not' (named_there n sp word) t) c ex r
unfolding nodes edges
walk_not p w q = record { tree_walked = whole (next (next p w.tree_walked) q) refl (λ ns e. cc) (λ ns e. e.1) }

pub walk_and : {a b d f g : Builder} {t u : Tree} {n k m r : ℕ} {sp word : Span} {yes' no' : Option ℕ} {c : FlowContext} {ex : Exits} → Tests a b n c ex yes' no' → WalksTree b d u c (exits.Branch yes' no') k → WalksTree d f t c (exits.Branch (Some k) no') m → StepsTo f g (in_at n c.copy []) c (Some m) r → WalksTree a g (And' (named_there n sp word) t u) c ex r
unfolding nodes edges
walk_and p v w q = record { tree_walked = whole (next (next (next p v.tree_walked) w.tree_walked) q) refl (λ ns e. cc) (λ ns e. e.1) }

pub walk_or : {a b d f g : Builder} {t u : Tree} {n k m r : ℕ} {sp word : Span} {yes' no' : Option ℕ} {c : FlowContext} {ex : Exits} → Tests a b n c ex yes' no' → WalksTree b d u c (exits.Branch yes' no') k → WalksTree d f t c (exits.Branch yes' (Some k)) m → StepsTo f g (in_at n c.copy []) c (Some m) r → WalksTree a g (Or' (named_there n sp word) t u) c ex r
unfolding nodes edges
walk_or p v w q = record { tree_walked = whole (next (next (next p v.tree_walked) w.tree_walked) q) refl (λ ns e. cc) (λ ns e. e.1) }

pub walk_if : {a b d f g h : Builder} {t : Tree} {us vs : Trees} {n o m r : ℕ} {sp word : Span} {braces : Braces} {x y : Option ℕ} {c : FlowContext} {ex : Exits} → Leaves a b n [] c ex o → WalksTrees b d vs c (Some o) y → WalksTrees d f us c (Some o) x → WalksTree f g t c (exits.Branch x y) m → StepsTo g h (in_at n c.copy []) c (Some m) r → WalksTree a h (If' (named_there n sp word) braces t us vs) c ex r
unfolding nodes edges
walk_if p v u w q = record { tree_walked = whole (next (next (next (next p v.trees_walked) u.trees_walked) w.tree_walked) q) refl (λ ns e. cc) (λ ns e. e.1) }

pub walk_declare : {a b d : Builder} {n o r : ℕ} {sp word : Span} {c : FlowContext} {ex : Exits} (x : ℕ) → Leaves a b n (declares x ∷ []) c ex o → StepsTo b d (in_at n c.copy []) c (Some o) r → WalksTree a d (Declare' (named_there n sp word) x) c ex r
unfolding nodes edges
walk_declare x p q = record { tree_walked = whole (next p q) refl (λ ns e. cc) (λ ns e. e.1) }

pub walk_local : {a b d f : Builder} {t : Tree} {n o m r : ℕ} {sp word : Span} {c : FlowContext} {ex : Exits} (at : Span) (x : ℕ) → Leaves a b n (declares x ∷ assigns x (known.Literals []) ∷ []) c ex o → WalksTree b d t c (exits.Then (Some o)) m → StepsTo d f (in_at n c.copy []) c (Some m) r → WalksTree a f (Local' (named_there n sp word) at x t) c ex r
unfolding nodes edges
walk_local at x p w q = record { tree_walked = whole (next (next p w.tree_walked) q) refl (λ ns e. cc) (λ ns e. e.1) }

pub walk_assign : {a b d f : Builder} {t : Tree} {n o m r : ℕ} {sp word : Span} {c : FlowContext} {ex : Exits} (at : Span) (x : ℕ) (fixed : Bool) → Leaves a b n (assigns x (known.Literals []) ∷ []) c ex o → WalksTree b d t c (exits.Then (Some o)) m → StepsTo d f (in_at n c.copy []) c (Some m) r → WalksTree a f (Assign' (named_there n sp word) at x fixed t) c ex r
unfolding nodes edges
walk_assign at x fixed p w q = record { tree_walked = whole (next (next p w.tree_walked) q) refl (λ ns e. cc) (λ ns e. e.1) }

pub walk_compound : {a b d f : Builder} {ts : Trees} {n o r : ℕ} {sp word : Span} {m : Option ℕ} {c : FlowContext} {ex : Exits} (at : Span) (x : ℕ) (fixed : Bool) (operation : Operation) → Leaves a b n (assigns x (known.Literals []) ∷ []) c ex o → WalksTrees b d ts c (Some o) m → StepsTo d f (in_at n c.copy (reads x ∷ [])) c m r → WalksTree a f (Compound' (named_there n sp word) at x fixed operation ts) c ex r
unfolding nodes edges
walk_compound at x fixed operation p w q = record { tree_walked = whole (next (next p w.trees_walked) q) refl (λ ns e. cc) (λ ns e. e.1) }

pub walk_return : {a b d f : Builder} {ts : Trees} {n o r : ℕ} {sp word : Span} {m : Option ℕ} {c : FlowContext} {ex : Exits} → StepsTo a b (out_at n c.copy []) c c.returns o → WalksTrees b d ts c (Some o) m → StepsTo d f (in_at n c.copy []) c m r → WalksTree a f (Return' (named_there n sp word) ts) c ex r
unfolding nodes edges
walk_return p w q = record { tree_walked = whole (next (next p w.trees_walked) q) refl (λ ns e. cc) (λ ns e. e.1) }

pub walk_throw : {a b d f : Builder} {t : Tree} {n o m r : ℕ} {sp word : Span} {c : FlowContext} {ex : Exits} → StepsTo a b (out_at n c.copy []) c None o → WalksTree b d t c (exits.Then (Some o)) m → StepsTo d f (in_at n c.copy []) c (Some m) r → WalksTree a f (Throw' (named_there n sp word) t) c ex r
unfolding nodes edges
walk_throw p w q = record { tree_walked = whole (next (next p w.tree_walked) q) refl (λ ns e. cc) (λ ns e. e.1) }

pub walk_shut : {a b : Builder} {n r : ℕ} {sp word : Span} {c : FlowContext} {ex : Exits} → StepsTo a b (in_at n c.copy []) c None r → WalksTree a b (Shut' (named_there n sp word)) c ex r
unfolding nodes edges
walk_shut q = record { tree_walked = whole q refl (λ ns e. refl) (λ ns e. e) }

-- ---- operations with few parts

pub walk_leaf : {a b d : Builder} {n o r : ℕ} {sp word : Span} {c : FlowContext} {ex : Exits} → Leaves a b n [] c ex o → StepsTo b d (in_at n c.copy []) c (Some o) r → (operation : Operation) → returns_of operation ≡ true → WalksTree a d (Operation' (named_there n sp word) operation Empty') c ex r
walk_leaf {b = b} {o = o} {c = c} p q operation e =
    walk_operation operation p (same_next (sym (ap (λ t. place_if t o) e)) (walk_empty b c (Some o))) q

pub walk_unary : {a b d f : Builder} {t : Tree} {n o m r : ℕ} {sp word : Span} {c : FlowContext} {ex : Exits} → Leaves a b n [] c ex o → WalksTree b d t c (exits.Then (Some o)) m → StepsTo d f (in_at n c.copy []) c (Some m) r → (operation : Operation) → returns_of operation ≡ true → WalksTree a f (Operation' (named_there n sp word) operation (First' t Empty')) c ex r
walk_unary {o = o} p w q operation e =
    walk_operation operation p (same_next (sym (ap (λ t. place_if t o) e)) (walk_one w)) q

pub walk_binary : {a b d f g : Builder} {t u : Tree} {n o k m r : ℕ} {sp word : Span} {c : FlowContext} {ex : Exits} → Leaves a b n [] c ex o → WalksTree b d u c (exits.Then (Some o)) k → WalksTree d f t c (exits.Then (Some k)) m → StepsTo f g (in_at n c.copy []) c (Some m) r → (operation : Operation) → returns_of operation ≡ true → WalksTree a g (Operation' (named_there n sp word) operation (First' t (First' u Empty'))) c ex r
walk_binary {o = o} p v w q operation e =
    walk_operation operation p (same_next (sym (ap (λ t. place_if t o) e)) (walk_first (walk_one v) w)) q

-- an assignment whose left side is no name
pub unnamed : (m : Named) (n : ℕ) (at word : Span) (b : Bool) (a : Assignment) (e : Option Seen) → b ≡ false → assign_tree m n at (name_span b word) a e ≡ Shut' (named_there n at at)
unnamed (named.Variable x f) n at word true a e h = cc
unnamed (named.Variable x f) n at word false a e h = refl
unnamed (named.Function g r) n at word b a e h = refl
unnamed (named.BuiltIn g r) n at word b a e h = refl
unnamed named.Other n at word b a e h = refl

-- ---- trees of a file under other names

pub expr_at : (uses : ℕ → Named) {a b : Builder} {x e : Expr} {c : FlowContext} {ex : Exits} {n : ℕ} → x ≡ e → WalksTree a b (expr_tree uses x) c ex n → WalksTree a b (expr_tree uses e) c ex n
expr_at uses d w = same_tree (ap (expr_tree uses) (sym d)) w

pub branch_at : (uses : ℕ → Named) {a b : Builder} {x e : Branch} {c : FlowContext} {to n : Option ℕ} → x ≡ e → WalksTrees a b (branch_trees uses x) c to n → WalksTrees a b (branch_trees uses e) c to n
branch_at uses d w = same_trees (ap (branch_trees uses) (sym d)) w

-- ---- trees one behind another, from the last to the first

pub stmts_more : (uses : ℕ → Named) (xs : List Stmt) (i j : ℕ) (x : Stmt) → j < length xs → i ≡ suc j → x ≡ get_or xs j x → listed (map (stmt_tree uses) (drop j xs)) ≡ First' (stmt_tree uses x) (listed (map (stmt_tree uses) (drop i xs)))
stmts_more uses xs i j x h e is =
    ap (λ l. listed (map (stmt_tree uses) l)) (drop-cons xs j x h ∙ ap (λ y. y ∷ drop (suc j) xs) (sym is))
    ∙ ap (λ k. First' (stmt_tree uses x) (listed (map (stmt_tree uses) (drop k xs)))) (sym e)

pub exprs_more : (uses : ℕ → Named) (xs : List Expr) (i j : ℕ) (x : Expr) → j < length xs → i ≡ suc j → x ≡ get_or xs j x → seen_trees (map (seen uses) (drop j xs)) ≡ First' (expr_tree uses x) (seen_trees (map (seen uses) (drop i xs)))
exprs_more uses xs i j x h e is =
    ap (λ l. seen_trees (map (seen uses) l)) (drop-cons xs j x h ∙ ap (λ y. y ∷ drop (suc j) xs) (sym is))
    ∙ ap (λ k. First' (expr_tree uses x) (seen_trees (map (seen uses) (drop k xs)))) (sym e)

pub pieces_more : (uses : ℕ → Named) (xs : List StringPart) (i j : ℕ) (x : StringPart) → j < length xs → i ≡ suc j → x ≡ get_or xs j x → inserted_of (map (piece uses) (drop j xs)) ≡ inserted_of (piece uses x ∷ map (piece uses) (drop i xs))
pieces_more uses xs i j x h e is =
    ap (λ l. inserted_of (map (piece uses) l)) (drop-cons xs j x h ∙ ap (λ y. y ∷ drop (suc j) xs) (sym is))
    ∙ ap (λ k. inserted_of (piece uses x ∷ map (piece uses) (drop k xs))) (sym e)

-- what nothing adds
pub walk_again : {a b d : Builder} {ts : Trees} {to m k : Option ℕ} {c : FlowContext} → WalksTrees a b ts c to m → WalksTrees b d Empty' c m k → WalksTrees a d ts c to k
unfolding nodes edges
walk_again v w = record { trees_walked = whole (next v.trees_walked w.trees_walked) refl (λ ns e. refl) (λ ns e. cc) }

first_again : {a b d : Builder} {t : Tree} {ts : Trees} {to m k : Option ℕ} {c : FlowContext} → WalksTrees a b ts c to m → WalksTrees b d (First' t Empty') c m k → WalksTrees a d (First' t ts) c to k
unfolding nodes edges
first_again {t = t} {ts = ts} {to = to} {m = m} {c = c} v w = record {
  trees_walked = whole (next v.trees_walked w.trees_walked)
      (ap (λ l. l ++ all_nodes c.copy ts) (append-nil (nodes false c.copy t)))
      (λ ns e.
      ap (λ l. l ++ all_edges (context_at ns c) (place_at ns to) ts) (append-nil (edges (context_at ns c) (flow.Then (place_at ns m)) t))
      ∙ ap (λ l. edges (context_at ns c) (flow.Then l) t ++ all_edges (context_at ns c) (place_at ns to) ts) e.0)
      (λ ns e. e.1);
}

pub walk_piece : {a b d : Builder} (p : Piece) (ps : List Piece) {to m k : Option ℕ} {c : FlowContext} → WalksTrees a b (inserted_of ps) c to m → WalksTrees b d (inserted_of (p ∷ [])) c m k → WalksTrees a d (inserted_of (p ∷ ps)) c to k
walk_piece (Text' bytes) ps v w = walk_again v w
walk_piece (Inserted' t) ps v w = first_again v w

-- ---- a whole body

-- the edges of a body as they were added
abbrev body_from : FlowContext → FlowContext → Trees → List ℕ → ℕ → Option ℕ → ℕ → List Node → List Edge
body_from outside inside ts ps q first o ns =
    on (context_at ns outside) entry_node (place_at ns (Some q))
    ++ (on (context_at ns outside) (params_node ps) (place_at ns first) ++ all_edges (context_at ns inside) (place_at ns (Some o)) ts)

-- and as the definition tells them
named_edges : (outside inside : FlowContext) (ts : Trees) (ps : List ℕ) (q : ℕ) (first : Option ℕ) (o : ℕ) (ns : List Node) → node_at ns o ≡ end_node → place_at ns first ≡ entry_of inside.copy (place_at ns (Some o)) ts → node_at ns q ≡ params_node ps → inside.copy ≡ 0 → context_at ns inside ≡ in_body → context_at ns outside ≡ flow.outside → body_from outside inside ts ps q first o ns ≡ body_edges ps ts
named_edges outside inside ts ps q first o ns at_end at_first at_params ic i j =
    ap (λ c. on c entry_node (place_at ns (Some q)) ++ (on c (params_node ps) (place_at ns first) ++ all_edges (context_at ns inside) (place_at ns (Some o)) ts)) j
    ∙ ap (λ c. on flow.outside entry_node (place_at ns (Some q)) ++ (on flow.outside (params_node ps) (place_at ns first) ++ all_edges c (place_at ns (Some o)) ts)) i
    ∙ ap (λ m. on flow.outside entry_node (m ∷ []) ++ (on flow.outside (params_node ps) (place_at ns first) ++ all_edges in_body (place_at ns (Some o)) ts)) at_params
    ∙ ap (λ l. on flow.outside entry_node (params_node ps ∷ []) ++ (on flow.outside (params_node ps) l ++ all_edges in_body (place_at ns (Some o)) ts)) (at_first ∙ ap (λ k. entry_of k (place_at ns (Some o)) ts) ic)
    ∙ ap (λ m. on flow.outside entry_node (params_node ps ∷ []) ++ (on flow.outside (params_node ps) (entry_of 0 (m ∷ []) ts) ++ all_edges in_body (m ∷ []) ts)) at_end

pub walk_body : {a b d f g : Builder} {ts : Trees} {ps : List ℕ} {o q r : ℕ} {first : Option ℕ} {inside : FlowContext} (outside : FlowContext) → a.nodes.items ≡ [] → a.edges.items ≡ [] → a.ahead ≡ length (body_nodes ps ts) → StepsTo a b end_node outside None o → ((ns : List Node) → node_at ns o ≡ end_node → context_at ns inside ≡ in_body) → inside.copy ≡ 0 → ((ns : List Node) → context_at ns outside ≡ flow.outside) → WalksTrees b d ts inside (Some o) first → StepsTo d f (params_node ps) outside first q → StepsTo f g entry_node outside (Some q) r → IsBuilt ps ts g
unfolding on edges_at
walk_body {a} {b} {d} {f} {g} {ts} {ps} {o} {q} {r} {first} {inside} outside n e room u ia ic oa w p x =
    let alone : Enters a b (end_node ∷ []) (λ ns. []) (λ ns. node_at ns o ≡ end_node) = whole u refl (λ ns h. ap (λ c. on c end_node []) (oa ns)) (λ ns h. h) in
    let body : Enters a d (all_nodes inside.copy ts ++ end_node ∷ []) (λ ns. all_edges (context_at ns inside) (place_at ns (Some o)) ts) (λ ns. (node_at ns o ≡ end_node) × (place_at ns first ≡ entry_of inside.copy (place_at ns (Some o)) ts)) = whole (next alone w.trees_walked) refl (λ ns h. append-nil (all_edges (context_at ns inside) (place_at ns (Some o)) ts)) (λ ns h. h) in
    let all = next (next body p) x in
    let same : entry_node ∷ params_node ps ∷ (all_nodes inside.copy ts ++ end_node ∷ []) ≡ body_nodes ps ts = ap (λ c. entry_node ∷ params_node ps ∷ (all_nodes c ts ++ end_node ∷ [])) ic in
    let none : reverse a.nodes.items ≡ [] = ap reverse n in
    let nodes_are : reverse g.nodes.items ≡ body_nodes ps ts = all.grows.has_nodes ∙ ap (λ l. (entry_node ∷ params_node ps ∷ (all_nodes inside.copy ts ++ end_node ∷ [])) ++ l) none ∙ append-nil (entry_node ∷ params_node ps ∷ (all_nodes inside.copy ts ++ end_node ∷ [])) ∙ same in
    let left : 0 ≡ g.ahead = omega (arith, room, all.grows.has_room, ap length same) in
    let h : Ends g (reverse g.nodes.items) = record { rest = []; is = refl; ahead = left } in
    let found = all.is_found (reverse g.nodes.items) h in
    let at_end = found.0.0.0 in
    let at_first = found.0.0.1 in
    let at_params = found.0.1 in
    let i = ia (reverse g.nodes.items) at_end in
    let j = oa (reverse g.nodes.items) in
    record {
      built_nodes = nodes_are;
      built_edges = all.grows.has_edges (reverse g.nodes.items) h ∙ ap (λ l. body_from outside inside ts ps q first o (reverse g.nodes.items) ++ map (edge_at (reverse g.nodes.items)) (reverse l)) e ∙ append-nil (body_from outside inside ts ps q first o (reverse g.nodes.items)) ∙ named_edges outside inside ts ps q first o (reverse g.nodes.items) at_end at_first at_params ic i j;
    }
