-- Each edge of a body's graph leads from a node of the graph to one that stands behind it.
use Rattle.std.proofs.Common.{◌≡◌, ℕ, Bool, true, false, List, [], ◌∷◌, ◌++◌, inl, inr, refl, sym, ap, ◌∙◌, subst, append_assoc}
use Rattle.kt_model.specs.BodyTrees.{Tree, Trees, Operation', Name', Paren', Not', And', Or', If', Declare', Local', Assign', Compound', Call', Return', Throw', Shut', Empty', First'}
use Rattle.kt_model.specs.ControlFlow.{Node, Edge, FlowContext, Exits, Then, Branch, branches, nodes, all_nodes, edges, all_edges, in_of, out_of, assume, leave_nodes, leave_edges, test_edges, on_true_of, on_false_of, lead, on, enter, entry_of, returns_of, if_returns, entry_node, params_node, end_node, outside, in_body, body_nodes, body_edges}
use Rattle.kt_model.specs.Sweeps.{IsBehind}
use Rattle.kt_model.proofs.ListLemmas.{Has, has_contains, has_left, has_right, has_either}

-- nodes among others
abbrev Among : List Node → List Node → Type 0
Among ms ns = (m : Node) → Has ms m → Has ns m

-- each edge leads from a node of a list to a later one
abbrev pub AllOnward : List Node → List Edge → Type 0
AllOnward ns es = (e : Edge) → Has es e → IsBehind ns e.0 e.1

among_one : (n : Node) (ns : List Node) → Has ns n → Among (n ∷ []) ns
unfolding Has
among_one n ns h m (inl e) = subst (λ x. Has ns x) e h
among_one n ns h m (inr r) = absurd r

among_none : (ns : List Node) → Among [] ns
unfolding Has
among_none ns m h = absurd h

among_right : (xs ms ns : List Node) → Among ms ns → Among ms (xs ++ ns)
among_right xs ms ns h m k = has_right xs ns m (h m k)

among_if : (b : Bool) (n : Node) (ns : List Node) → Has ns n → Among (if_returns b n) ns
among_if true n ns h = among_one n ns h
among_if false n ns h = among_none ns

behind_front : (xs ns : List Node) (x y : Node) → IsBehind ns x y → IsBehind (xs ++ ns) x y
unfolding IsBehind
behind_front [] ns x y h = h
behind_front (n ∷ xs) ns x y h = inr (behind_front xs ns x y h)

no_edges : (ns : List Node) → AllOnward ns []
unfolding Has
no_edges ns e h = absurd h

both : (ns : List Node) (es fs : List Edge) → AllOnward ns es → AllOnward ns fs → AllOnward ns (es ++ fs)
both ns es fs h k e m = elim (has_either es fs e m) [ inl l ↦ h e l | inr r ↦ k e r ]

-- edges from the first of the nodes
lead_onward : (n : Node) (ms ns : List Node) → Among ms ns → AllOnward (n ∷ ns) (lead n ms)
unfolding Has IsBehind
lead_onward n [] ns h e m = absurd m
lead_onward n (x ∷ ms) ns h e (inl is) = subst (λ (d : Edge). IsBehind (n ∷ ns) d.0 d.1) is (inl (refl, has_contains ns x (h x (inl refl))))
lead_onward n (x ∷ ms) ns h e (inr r) = lead_onward n ms ns (λ y k. h y (inr k)) e r

on_onward : (c : FlowContext) (n : Node) (ms ns : List Node) → Among c.always ns → Among ms ns → AllOnward (n ∷ ns) (on c n ms)
unfolding on
on_onward c n ms ns a h = both (n ∷ ns) (lead n ms) (lead n c.always) (lead_onward n ms ns h) (lead_onward n c.always ns a)

-- edges of nodes in front, then those of the nodes behind them
part : (xs last rest : List Node) (es fs : List Edge) → AllOnward (xs ++ (last ++ rest)) es → AllOnward (last ++ rest) fs → AllOnward ((xs ++ last) ++ rest) (es ++ fs)
part xs last rest es fs h k =
    subst (λ ns. AllOnward ns (es ++ fs)) (sym (append_assoc xs last rest))
    (both (xs ++ (last ++ rest)) es fs h (λ e m. behind_front xs (last ++ rest) e.0 e.1 (k e m)))

-- a node in front that leads to some of the others
entered : (c : FlowContext) (n : Node) (ms ns : List Node) (es : List Edge) → Among c.always ns → Among ms ns → AllOnward ns es → AllOnward (n ∷ ns) (on c n ms ++ es)
unfolding IsBehind
entered c n ms ns es a h k = both (n ∷ ns) (on c n ms) es (on_onward c n ms ns a h) (λ e m. inr (k e m))

-- where jumps and every node lead stands among what follows
record Fits (c : FlowContext) (rest : List Node) : Type 0 where
  returns : Among c.jumps.returns rest
  always : Among c.always rest

abbrev FitsExits : Exits → List Node → Type 0
FitsExits (Then next) rest = Among next rest
FitsExits (Branch on_true on_false) rest = Among on_true rest × Among on_false rest

fits_right : (xs : List Node) {c : FlowContext} {rest : List Node} → Fits c rest → Fits c (xs ++ rest)
fits_right xs {c} {rest} f = record { returns = among_right xs c.jumps.returns rest f.returns; always = among_right xs c.always rest f.always }

fits_more : (n : Node) {c : FlowContext} {rest : List Node} → Fits c rest → Fits c (n ∷ rest)
fits_more n f = fits_right (n ∷ []) f

true_among : (out : Node) (ex : Exits) (rest : List Node) → FitsExits ex rest → Among (on_true_of out ex) (out ∷ rest)
unfolding Has
true_among out (Then next) rest f = among_one out (out ∷ rest) (inl refl)
true_among out (Branch t u) rest f = among_right (out ∷ []) t rest f.0

false_among : (out : Node) (ex : Exits) (rest : List Node) → FitsExits ex rest → Among (on_false_of out ex) (out ∷ rest)
unfolding Has
false_among out (Then next) rest f = among_one out (out ∷ rest) (inl refl)
false_among out (Branch t u) rest f = among_right (out ∷ []) u rest f.1

-- from a tree's `out` on
leave_onward : (c : FlowContext) (t : Tree) (ex : Exits) (rest : List Node) → Fits c rest → FitsExits ex rest → AllOnward (leave_nodes (branches ex) c.copy t ++ rest) (leave_edges c t ex)
leave_onward c t (Then next) rest f h = on_onward c (out_of c.copy t) next rest f.always h
leave_onward c t (Branch u v) rest f h =
    let a = assume c.copy t true in
    let b = assume c.copy t false in
    entered c (out_of c.copy t) (a ∷ b ∷ []) (a ∷ b ∷ rest) (on c a u ++ on c b v) (among_right (a ∷ b ∷ []) c.always rest f.always) (halves a b)
    (entered c a u (b ∷ rest) (on c b v) (among_right (b ∷ []) c.always rest f.always) (among_right (b ∷ []) u rest h.0) (on_onward c b v rest f.always h.1))
  where
    halves : (a b : Node) → Among (a ∷ b ∷ []) (a ∷ b ∷ rest)
    halves a b m k = has_left (a ∷ b ∷ []) rest m k

test_onward : (c : FlowContext) (out : Node) (ex : Exits) (rest : List Node) → Fits c rest → FitsExits ex rest → AllOnward (out ∷ rest) (test_edges c out ex)
test_onward c out (Then next) rest f h = on_onward c out next rest f.always h
test_onward c out (Branch u v) rest f h = no_edges (out ∷ rest)

-- a tree begins with its `in`
in_first : (b : Bool) (k : ℕ) (t : Tree) (rest : List Node) → Has (nodes b k t ++ rest) (in_of k t)
unfolding nodes Has
in_first b k (Operation' n o ps) rest = inl refl
in_first b k (Name' n at x) rest = inl refl
in_first b k (Paren' n e) rest = inl refl
in_first b k (Not' n e) rest = inl refl
in_first b k (And' n x y) rest = inl refl
in_first b k (Or' n x y) rest = inl refl
in_first b k (If' n braces d x y) rest = inl refl
in_first b k (Declare' n x) rest = inl refl
in_first b k (Local' n at x e) rest = inl refl
in_first b k (Assign' n at x fixed e) rest = inl refl
in_first b k (Compound' n at x fixed o ps) rest = inl refl
in_first b k (Call' n f returns ps) rest = inl refl
in_first b k (Return' n ps) rest = inl refl
in_first b k (Throw' n e) rest = inl refl
in_first b k (Shut' n) rest = inl refl

to_in : (b : Bool) (k : ℕ) (t : Tree) (rest : List Node) → Among (in_of k t ∷ []) (nodes b k t ++ rest)
to_in b k t rest = among_one (in_of k t) (nodes b k t ++ rest) (in_first b k t rest)

-- where trees one behind another begin
to_entry : (k : ℕ) (next : List Node) (ts : Trees) (rest : List Node) → Among next rest → Among (entry_of k next ts) (all_nodes k ts ++ rest)
unfolding nodes
to_entry k next Empty' rest h = h
to_entry k next (First' t ts) rest h =
    subst (λ ns. Among (in_of k t ∷ []) ns) (sym (append_assoc (nodes false k t) (all_nodes k ts) rest)) (to_in false k t (all_nodes k ts ++ rest))

-- `out` stands first among the nodes at a tree's end
out_has : (k : ℕ) (t : Tree) (ex : Exits) (rest : List Node) → Has (leave_nodes (branches ex) k t ++ rest) (out_of k t)
unfolding Has
out_has k t (Then next) rest = inl refl
out_has k t (Branch u v) rest = inl refl

out_first : (k : ℕ) (t : Tree) (ex : Exits) (rest : List Node) → Among (out_of k t ∷ []) (leave_nodes (branches ex) k t ++ rest)
out_first k t ex rest = among_one (out_of k t) (leave_nodes (branches ex) k t ++ rest) (out_has k t ex rest)

-- What a tree adds between its `in` and its `out`, and where its `in` leads.
tree_onward : (c : FlowContext) (t : Tree) (first : List Node) (xs last rest : List Node) (es fs : List Edge) → Fits c rest → Among first (xs ++ (last ++ rest)) → AllOnward (xs ++ (last ++ rest)) es → AllOnward (last ++ rest) fs → AllOnward ((in_of c.copy t ∷ (xs ++ last)) ++ rest) (enter c t first ++ (es ++ fs))
tree_onward c t first xs last rest es fs f h k l =
    entered c (in_of c.copy t) first ((xs ++ last) ++ rest) (es ++ fs)
    (among_right (xs ++ last) c.always rest f.always)
    (subst (λ ns. Among first ns) (sym (append_assoc xs last rest)) h)
    (part xs last rest es fs k l)

-- the same of a tree without parts
bare_onward : (c : FlowContext) (t : Tree) (ex : Exits) (rest : List Node) → Fits c rest → FitsExits ex rest → AllOnward ((in_of c.copy t ∷ leave_nodes (branches ex) c.copy t) ++ rest) (enter c t (out_of c.copy t ∷ []) ++ leave_edges c t ex)
bare_onward c t ex rest f h =
    entered c (in_of c.copy t) (out_of c.copy t ∷ []) (leave_nodes (branches ex) c.copy t ++ rest) (leave_edges c t ex)
    (among_right (leave_nodes (branches ex) c.copy t) c.always rest f.always) (out_first c.copy t ex rest) (leave_onward c t ex rest f h)

-- What is claimed of a tree, and of trees one behind another, whatever stands behind them.
abbrev Keeps : FlowContext → Exits → Tree → Type 0
Keeps c ex t = (rest : List Node) → Fits c rest → FitsExits ex rest → AllOnward (nodes (branches ex) c.copy t ++ rest) (edges c ex t)

abbrev KeepsAll : FlowContext → List Node → Trees → Type 0
KeepsAll c next ts = (rest : List Node) → Fits c rest → Among next rest → AllOnward (all_nodes c.copy ts ++ rest) (all_edges c next ts)

-- trees one behind another between `in` and `out`
around : (c : FlowContext) (ex : Exits) (t : Tree) (returns : Bool) (ps : Trees) (rest : List Node) → Fits c rest → FitsExits ex rest → KeepsAll c (if_returns returns (out_of c.copy t)) ps → AllOnward ((in_of c.copy t ∷ (all_nodes c.copy ps ++ leave_nodes (branches ex) c.copy t)) ++ rest) (enter c t (entry_of c.copy (if_returns returns (out_of c.copy t)) ps) ++ (all_edges c (if_returns returns (out_of c.copy t)) ps ++ leave_edges c t ex))
around c ex t returns ps rest f h keeps =
    let next = if_returns returns (out_of c.copy t) in
    let last = leave_nodes (branches ex) c.copy t in
    let among : Among next (last ++ rest) = among_if returns (out_of c.copy t) (last ++ rest) (out_has c.copy t ex rest) in
    tree_onward c t (entry_of c.copy next ps) (all_nodes c.copy ps) last rest (all_edges c next ps) (leave_edges c t ex) f
    (to_entry c.copy next ps (last ++ rest) among) (keeps (last ++ rest) (fits_right last f) among) (leave_onward c t ex rest f h)

-- one tree that leads to `out`
value : (c : FlowContext) (ex : Exits) (t : Tree) (e : Tree) (rest : List Node) → Fits c rest → FitsExits ex rest → Keeps c (Then (out_of c.copy t ∷ [])) e → AllOnward ((in_of c.copy t ∷ (nodes false c.copy e ++ leave_nodes (branches ex) c.copy t)) ++ rest) (enter c t (in_of c.copy e ∷ []) ++ (edges c (Then (out_of c.copy t ∷ [])) e ++ leave_edges c t ex))
value c ex t e rest f h keeps =
    let last = leave_nodes (branches ex) c.copy t in
    tree_onward c t (in_of c.copy e ∷ []) (nodes false c.copy e) last rest (edges c (Then (out_of c.copy t ∷ [])) e) (leave_edges c t ex) f
    (to_in false c.copy e (last ++ rest)) (keeps (last ++ rest) (fits_right last f) (out_first c.copy t ex rest)) (leave_onward c t ex rest f h)

-- a test of one part
inside : (c : FlowContext) (ex : Exits) (t : Tree) (inner : Exits) (e : Tree) (rest : List Node) → Fits c rest → FitsExits ex rest → FitsExits inner (out_of c.copy t ∷ rest) → Keeps c inner e → AllOnward ((in_of c.copy t ∷ (nodes (branches inner) c.copy e ++ out_of c.copy t ∷ [])) ++ rest) (enter c t (in_of c.copy e ∷ []) ++ (edges c inner e ++ test_edges c (out_of c.copy t) ex))
inside c ex t inner e rest f h k keeps =
    let out = out_of c.copy t in
    tree_onward c t (in_of c.copy e ∷ []) (nodes (branches inner) c.copy e) (out ∷ []) rest (edges c inner e) (test_edges c out ex) f
    (to_in (branches inner) c.copy e (out ∷ rest)) (keeps (out ∷ rest) (fits_more out f) k) (test_onward c out ex rest f h)

-- a test of two parts
two : (c : FlowContext) (ex : Exits) (t : Tree) (outer inner : Exits) (x y : Tree) (rest : List Node) → Fits c rest → FitsExits ex rest → FitsExits outer (nodes (branches inner) c.copy y ++ (out_of c.copy t ∷ rest)) → FitsExits inner (out_of c.copy t ∷ rest) → Keeps c outer x → Keeps c inner y → AllOnward ((in_of c.copy t ∷ (nodes (branches outer) c.copy x ++ (nodes (branches inner) c.copy y ++ out_of c.copy t ∷ []))) ++ rest) (enter c t (in_of c.copy x ∷ []) ++ (edges c outer x ++ (edges c inner y ++ test_edges c (out_of c.copy t) ex)))
two c ex t outer inner x y rest f h k l keeps_x keeps_y =
    let out = out_of c.copy t in
    let ys = nodes (branches inner) c.copy y in
    let behind : Among (in_of c.copy x ∷ []) (nodes (branches outer) c.copy x ++ ((ys ++ out ∷ []) ++ rest)) = to_in (branches outer) c.copy x ((ys ++ out ∷ []) ++ rest) in
    let first : AllOnward (nodes (branches outer) c.copy x ++ ((ys ++ out ∷ []) ++ rest)) (edges c outer x) =
    subst (λ ns. AllOnward (nodes (branches outer) c.copy x ++ ns) (edges c outer x)) (sym (append_assoc ys (out ∷ []) rest))
    (keeps_x (ys ++ (out ∷ rest)) (fits_right ys (fits_more out f)) k) in
    tree_onward c t (in_of c.copy x ∷ []) (nodes (branches outer) c.copy x) (ys ++ out ∷ []) rest (edges c outer x) (edges c inner y ++ test_edges c out ex) f
    behind first (part ys (out ∷ []) rest (edges c inner y) (test_edges c out ex) (keeps_y (out ∷ rest) (fits_more out f) l) (test_onward c out ex rest f h))

-- a choice
choice : (c : FlowContext) (ex : Exits) (t : Tree) (d : Tree) (x y : Trees) (rest : List Node) → Fits c rest → FitsExits ex rest → Keeps c (Branch (entry_of c.copy (out_of c.copy t ∷ []) x) (entry_of c.copy (out_of c.copy t ∷ []) y)) d → KeepsAll c (out_of c.copy t ∷ []) x → KeepsAll c (out_of c.copy t ∷ []) y → AllOnward ((in_of c.copy t ∷ (nodes true c.copy d ++ (all_nodes c.copy x ++ (all_nodes c.copy y ++ leave_nodes (branches ex) c.copy t)))) ++ rest) (enter c t (in_of c.copy d ∷ []) ++ (edges c (Branch (entry_of c.copy (out_of c.copy t ∷ []) x) (entry_of c.copy (out_of c.copy t ∷ []) y)) d ++ (all_edges c (out_of c.copy t ∷ []) x ++ (all_edges c (out_of c.copy t ∷ []) y ++ leave_edges c t ex))))
choice c ex t d x y rest f h keeps_d keeps_x keeps_y =
    let out = out_of c.copy t ∷ [] in
    let ds = nodes true c.copy d in
    let xs = all_nodes c.copy x in
    let ys = all_nodes c.copy y in
    let last = leave_nodes (branches ex) c.copy t in
    let ed = edges c (Branch (entry_of c.copy out x) (entry_of c.copy out y)) d in
    let inner : (ys ++ last) ++ rest ≡ ys ++ (last ++ rest) = append_assoc ys last rest in
    let outer : (xs ++ (ys ++ last)) ++ rest ≡ xs ++ (ys ++ (last ++ rest)) = append_assoc xs (ys ++ last) rest ∙ ap (λ ns. xs ++ ns) inner in
    let to_out : Among out (last ++ rest) = out_first c.copy t ex rest in
    let to_x : Among (entry_of c.copy out x) (xs ++ (ys ++ (last ++ rest))) = to_entry c.copy out x (ys ++ (last ++ rest)) (among_right ys out (last ++ rest) to_out) in
    let to_y : Among (entry_of c.copy out y) (xs ++ (ys ++ (last ++ rest))) = among_right xs (entry_of c.copy out y) (ys ++ (last ++ rest)) (to_entry c.copy out y (last ++ rest) to_out) in
    let first : AllOnward (ds ++ ((xs ++ (ys ++ last)) ++ rest)) ed =
    subst (λ ns. AllOnward (ds ++ ns) ed) (sym outer)
    (keeps_d (xs ++ (ys ++ (last ++ rest))) (fits_right xs (fits_right ys (fits_right last f))) (to_x, to_y)) in
    let second : AllOnward (xs ++ ((ys ++ last) ++ rest)) (all_edges c out x) =
    subst (λ ns. AllOnward (xs ++ ns) (all_edges c out x)) (sym inner)
    (keeps_x (ys ++ (last ++ rest)) (fits_right ys (fits_right last f)) (among_right ys out (last ++ rest) to_out)) in
    tree_onward c t (in_of c.copy d ∷ []) ds (xs ++ (ys ++ last)) rest ed (all_edges c out x ++ (all_edges c out y ++ leave_edges c t ex)) f
    (to_in true c.copy d ((xs ++ (ys ++ last)) ++ rest)) first
    (part xs (ys ++ last) rest (all_edges c out x) (all_edges c out y ++ leave_edges c t ex) second
    (part ys last rest (all_edges c out y) (leave_edges c t ex) (keeps_y (last ++ rest) (fits_right last f) to_out) (leave_onward c t ex rest f h)))

-- a jump: trees one behind another, and where `out` leads
jump : (c : FlowContext) (t : Tree) (ps : Trees) (leads rest : List Node) → Fits c rest → Among leads rest → KeepsAll c (out_of c.copy t ∷ []) ps → AllOnward ((in_of c.copy t ∷ (all_nodes c.copy ps ++ out_of c.copy t ∷ [])) ++ rest) (enter c t (entry_of c.copy (out_of c.copy t ∷ []) ps) ++ (all_edges c (out_of c.copy t ∷ []) ps ++ on c (out_of c.copy t) leads))
unfolding Has
jump c t ps leads rest f h keeps =
    let out = out_of c.copy t in
    let among : Among (out ∷ []) (out ∷ rest) = among_one out (out ∷ rest) (inl refl) in
    tree_onward c t (entry_of c.copy (out ∷ []) ps) (all_nodes c.copy ps) (out ∷ []) rest (all_edges c (out ∷ []) ps) (on c out leads) f
    (to_entry c.copy (out ∷ []) ps (out ∷ rest) among) (keeps (out ∷ rest) (fits_more out f) among) (on_onward c out leads rest f.always h)

thrown : (c : FlowContext) (t : Tree) (e : Tree) (rest : List Node) → Fits c rest → Keeps c (Then (out_of c.copy t ∷ [])) e → AllOnward ((in_of c.copy t ∷ (nodes false c.copy e ++ out_of c.copy t ∷ [])) ++ rest) (enter c t (in_of c.copy e ∷ []) ++ (edges c (Then (out_of c.copy t ∷ [])) e ++ on c (out_of c.copy t) []))
unfolding Has
thrown c t e rest f keeps =
    let out = out_of c.copy t in
    tree_onward c t (in_of c.copy e ∷ []) (nodes false c.copy e) (out ∷ []) rest (edges c (Then (out ∷ [])) e) (on c out []) f
    (to_in false c.copy e (out ∷ rest)) (keeps (out ∷ rest) (fits_more out f) (among_one out (out ∷ rest) (inl refl))) (on_onward c out [] rest f.always (among_none rest))

mutual
  unfolding nodes edges

  onward-edges : (c : FlowContext) (ex : Exits) (t : Tree) → Keeps c ex t
  onward-edges c ex (Operation' n o ps) rest f h = around c ex (Operation' n o ps) (returns_of o) ps rest f h (onward-all_edges c (if_returns (returns_of o) (out_of c.copy (Operation' n o ps))) ps)
  onward-edges c ex (Name' n at x) rest f h = bare_onward c (Name' n at x) ex rest f h
  onward-edges c (Then next) (Paren' n e) rest f h =
      let out = out_of c.copy (Paren' n e) in
      inside c (Then next) (Paren' n e) (Then (out ∷ [])) e rest f h (true_among out (Then next) rest h) (onward-edges c (Then (out ∷ [])) e)
  onward-edges c (Branch u v) (Paren' n e) rest f h =
      let out = out_of c.copy (Paren' n e) in
      inside c (Branch u v) (Paren' n e) (Branch u v) e rest f h (true_among out (Branch u v) rest h, false_among out (Branch u v) rest h) (onward-edges c (Branch u v) e)
  onward-edges c ex (Not' n e) rest f h =
      let out = out_of c.copy (Not' n e) in
      inside c ex (Not' n e) (Branch (on_false_of out ex) (on_true_of out ex)) e rest f h (false_among out ex rest h, true_among out ex rest h) (onward-edges c (Branch (on_false_of out ex) (on_true_of out ex)) e)
  onward-edges c ex (And' n x y) rest f h =
      let out = out_of c.copy (And' n x y) in
      two c ex (And' n x y) (Branch (in_of c.copy y ∷ []) (on_false_of out ex)) (Branch (on_true_of out ex) (on_false_of out ex)) x y rest f h
      (to_in true c.copy y (out ∷ rest), among_right (nodes true c.copy y) (on_false_of out ex) (out ∷ rest) (false_among out ex rest h))
      (true_among out ex rest h, false_among out ex rest h)
      (onward-edges c (Branch (in_of c.copy y ∷ []) (on_false_of out ex)) x)
      (onward-edges c (Branch (on_true_of out ex) (on_false_of out ex)) y)
  onward-edges c ex (Or' n x y) rest f h =
      let out = out_of c.copy (Or' n x y) in
      two c ex (Or' n x y) (Branch (on_true_of out ex) (in_of c.copy y ∷ [])) (Branch (on_true_of out ex) (on_false_of out ex)) x y rest f h
      (among_right (nodes true c.copy y) (on_true_of out ex) (out ∷ rest) (true_among out ex rest h), to_in true c.copy y (out ∷ rest))
      (true_among out ex rest h, false_among out ex rest h)
      (onward-edges c (Branch (on_true_of out ex) (in_of c.copy y ∷ [])) x)
      (onward-edges c (Branch (on_true_of out ex) (on_false_of out ex)) y)
  onward-edges c ex (If' n braces d x y) rest f h =
      let out = out_of c.copy (If' n braces d x y) ∷ [] in
      choice c ex (If' n braces d x y) d x y rest f h (onward-edges c (Branch (entry_of c.copy out x) (entry_of c.copy out y)) d) (onward-all_edges c out x) (onward-all_edges c out y)
  onward-edges c ex (Declare' n x) rest f h = bare_onward c (Declare' n x) ex rest f h
  onward-edges c ex (Local' n at x e) rest f h = value c ex (Local' n at x e) e rest f h (onward-edges c (Then (out_of c.copy (Local' n at x e) ∷ [])) e)
  onward-edges c ex (Assign' n at x fixed e) rest f h = value c ex (Assign' n at x fixed e) e rest f h (onward-edges c (Then (out_of c.copy (Assign' n at x fixed e) ∷ [])) e)
  onward-edges c ex (Compound' n at x fixed o ps) rest f h = around c ex (Compound' n at x fixed o ps) true ps rest f h (onward-all_edges c (out_of c.copy (Compound' n at x fixed o ps) ∷ []) ps)
  onward-edges c ex (Call' n g returns ps) rest f h = around c ex (Call' n g returns ps) returns ps rest f h (onward-all_edges c (if_returns returns (out_of c.copy (Call' n g returns ps))) ps)
  onward-edges c ex (Return' n ps) rest f h = jump c (Return' n ps) ps c.jumps.returns rest f f.returns (onward-all_edges c (out_of c.copy (Return' n ps) ∷ []) ps)
  onward-edges c ex (Throw' n e) rest f h = thrown c (Throw' n e) e rest f (onward-edges c (Then (out_of c.copy (Throw' n e) ∷ [])) e)
  onward-edges c ex (Shut' n) rest f h = on_onward c (in_of c.copy (Shut' n)) [] rest f.always (among_none rest)

  onward-all_edges : (c : FlowContext) (next : List Node) (ts : Trees) → KeepsAll c next ts
  onward-all_edges c next Empty' rest f h = no_edges rest
  onward-all_edges c next (First' t ts) rest f h =
      part (nodes false c.copy t) (all_nodes c.copy ts) rest (edges c (Then (entry_of c.copy next ts)) t) (all_edges c next ts)
      (onward-edges c (Then (entry_of c.copy next ts)) t (all_nodes c.copy ts ++ rest) (fits_right (all_nodes c.copy ts) f) (to_entry c.copy next ts rest h))
      (onward-all_edges c next ts rest f h)

-- Each edge of a body leads from one of its nodes to one that stands behind it.
pub edges_lead_onward : (ps : List ℕ) (ts : Trees) → AllOnward (body_nodes ps ts) (body_edges ps ts)
unfolding Has
edges_lead_onward ps ts =
    let end = end_node ∷ [] in
    let to_end : Among end end = λ m h. h in
    entered outside entry_node (params_node ps ∷ []) (params_node ps ∷ (all_nodes 0 ts ++ end)) (on outside (params_node ps) (entry_of 0 end ts) ++ all_edges in_body end ts)
    (among_none (params_node ps ∷ (all_nodes 0 ts ++ end))) (among_one (params_node ps) (params_node ps ∷ (all_nodes 0 ts ++ end)) (inl refl))
    (entered outside (params_node ps) (entry_of 0 end ts) (all_nodes 0 ts ++ end) (all_edges in_body end ts)
    (among_none (all_nodes 0 ts ++ end)) (to_entry 0 end ts end to_end)
    (onward-all_edges in_body end ts end (record { returns = to_end; always = among_none end }) to_end))
