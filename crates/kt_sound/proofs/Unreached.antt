-- A declaration or an assignment whose `out` no path leads to gives no value.
--
-- One edge more, from that `out` to a node that stands nowhere else, makes no path longer; with it the tree's law says that a frame that came to its end stands
-- at its `out`.
use Rattle.std.proofs.Common.{◌≡◌, ◌≤◌, ◌+◌, ◌&&◌, ℕ, suc, Bool, true, false, not, Option, Some, None, List, [], ◌∷◌, ◌++◌, Contains, inl, inr, refl, sym, ap, subst, ◌∙◌, arith}
use Rattle.std.specs.Prelude.{IsTrue}
use Rattle.std.proofs.lemmas.Bool.{false≢true}
use Rattle.kt_model.specs.BodyTrees.{Tree, Trees, Empty', First', Operation', Name', Paren', Not', And', Or', If', Declare', Local', Assign', Compound', Call', Return', Throw', Shut', number}
use Rattle.kt_model.specs.BodyPaths.{IsNodePath}
use Rattle.kt_model.specs.ControlFlow.{Node, Edge, FlowContext, Exits, Then, in_of, out_of, enter, entry_of, lead, on, leave_edges, edges, all_edges, entry_node}
use Rattle.kt_model.specs.declared.graph.Tag.TheVariants.{Out}
use Rattle.kt_model.specs.declared.kinds.KtType.{KtType}
use Rattle.kt_model.proofs.ListLemmas.{Has, contains_has, has_contains}
use Rattle.kt_typing.specs.declared.claims.Way.{Way}
use Rattle.kt_typing.specs.Typing.{TypeContext, LocalTypes, is_declaration_or_assignment, judged}
use Rattle.kt_mean.specs.declared.states.Value.{Value}
use Rattle.kt_mean.specs.declared.states.Way.TheVariants.{Return, Throw}
use Rattle.kt_mean.specs.Frames.{State, Ending, Gave, Left, Over, Wrong, Run, ending_after}
use Rattle.kt_mean.specs.Evaluation.{Program}
use Rattle.kt_sound.proofs.BodyStanding.{Place, Stands, Ready, EachEdge, Within, Accepted, Post, Eval, KeepsAt}
use Rattle.kt_sound.proofs.BodySteps.{within_left, within_right}

-- ---- a node that no edge leads to

abbrev highest : List Edge → ℕ
highest [] = 0
highest (e ∷ es) = e.1.tree + highest es

abbrev marker : List Edge → Node
marker es = record entry_node { tree = suc (highest es) }

below : (es : List Edge) (n m : Node) → Has es (n, m) → m.tree ≤ highest es
unfolding Has
below [] n m h = absurd h
below (e ∷ es) n m (inl is) = let same : e.1.tree ≡ m.tree = ap (λ (z : Edge). z.1.tree) is in omega (arith, same)
below (e ∷ es) n m (inr h) = let rest = below es n m h in omega (arith, rest)

-- ---- one edge more

module _ {p : Program} {cx : TypeContext} (g : Place p cx) (out : Node) (unreached : (path : List Node) → IsNodePath g.edges (out ∷ path) → ⊥) where
  abbrev end : Node
  end = marker g.edges

  abbrev more : List Edge
  more = (out, end) ∷ g.edges

  kept_edge : (e : Edge) → Contains g.edges e → Contains more e
  unfolding Has
  kept_edge e c = has_contains more e (inr (contains_has g.edges e c))

  -- no path goes along it
  same_path : (ns : List Node) → IsNodePath more ns → IsNodePath g.edges ns
  unfolding Has
  same_path [] h = h
  same_path (n ∷ []) h = h
  same_path (m ∷ n ∷ path) h =
      let rest = same_path (n ∷ path) h.1 in (
        elim (contains_has more (n, m) h.0) [
          | inl is ↦ absurd (unreached path (subst (λ k. IsNodePath g.edges (k ∷ path)) (sym (ap (λ (z : Edge). z.0) is)) rest))
          | inr there ↦ has_contains g.edges (n, m) there
        ],
        rest,
      )

  kept_path : (ns : List Node) → IsNodePath g.edges ns → IsNodePath more ns
  kept_path [] h = h
  kept_path (n ∷ []) h = h
  kept_path (m ∷ n ∷ path) h = (kept_edge (n, m) h.0, kept_path (n ∷ path) h.1)

  abbrev marked : Place p cx
  marked = record {
    edges = more;
    body = g.body;
    locals = g.locals;
    fine = record {
      reads = λ t x n path i is same effect walked. g.fine.reads t x n path i is same effect (same_path (n ∷ path) walked);
      assigns = λ t x k n path i is same effect walked. g.fine.assigns t x k n path i is same effect (same_path (n ∷ path) walked);
    };
    alive = λ n path walked tag. g.alive n path (same_path (n ∷ path) walked) tag;
    left = λ n path walked tag. g.left n path (same_path (n ∷ path) walked) tag;
    calls = g.calls;
    stops = g.stops;
    stops_built_in = g.stops_built_in;
    as_written = g.as_written;
  }

  each_kept : (es : List Edge) → EachEdge g.edges es → EachEdge more es
  each_kept [] w = tt
  each_kept (e ∷ es) w = (kept_edge e w.0, each_kept es w.1)

  both_each : (a b : List Edge) → EachEdge more a → EachEdge more b → EachEdge more (a ++ b)
  both_each [] b v w = w
  both_each (e ∷ a) b v w = (v.0, both_each a b v.1 w)

  -- from `out` on the edge leads, and what leads out of it anyway
  on_marked : (context : FlowContext) (next : List Node) → Within g.edges (on context out next) → EachEdge more (on context out (end ∷ []))
  unfolding on Has
  on_marked context next w = (
    has_contains more (out, end) (inl refl),
    each_kept (lead out context.always) (within_right (lead out next) (lead out context.always) w).each,
  )

  two_parts : (a : List Edge) (context : FlowContext) (next : List Node) → Within g.edges (a ++ on context out next) → EachEdge more (a ++ on context out (end ∷ []))
  two_parts a context next w =
      both_each a (on context out (end ∷ [])) (each_kept a (within_left a (on context out next) w).each) (on_marked context next (within_right a (on context out next) w))

  three_parts : (a b : List Edge) (context : FlowContext) (next : List Node) → Within g.edges (a ++ (b ++ on context out next)) → EachEdge more (a ++ (b ++ on context out (end ∷ [])))
  three_parts a b context next w =
      both_each a (b ++ on context out (end ∷ [])) (each_kept a (within_left a (b ++ on context out next) w).each) (two_parts b context next (within_right a (b ++ on context out next) w))

  stands_marked : (n : Node) (s : State) → Stands g n s → Stands marked n s
  stands_marked n s st = record { path = st.path; is_path = kept_path (n ∷ st.path) st.is_path; agrees = st.agrees }

  -- no frame is ready for the marker
  never_ready : (s : State) → Ready marked (end ∷ []) s → ⊥
  unfolding Has
  never_ready s r = elim (contains_has more (r.at, end) r.leads.0) [
    | inl is ↦ unreached r.stands.path (subst (λ k. IsNodePath g.edges (k ∷ r.stands.path)) (sym (ap (λ (z : Edge). z.0) is)) (same_path (r.at ∷ r.stands.path) r.stands.is_path))
    | inr there ↦ (let low : end.tree ≤ highest g.edges = below g.edges r.at end there in absurd (omega (arith, low)))
  ]

-- ---- such a tree

-- the edges of the tree with the marker behind it
marked_edges : {p : Program} {cx : TypeContext} (g : Place p cx) (context : FlowContext) (t : Tree) (next : List Node) (unreached : (path : List Node) → IsNodePath g.edges (out_of context.copy t ∷ path) → ⊥)
    → is_declaration_or_assignment t ≡ true → Within g.edges (edges context (Then next) t) → EachEdge (more g (out_of context.copy t) unreached) (edges context (Then (marker g.edges ∷ [])) t)
unfolding edges
marked_edges g context (Declare' n x) next unreached i w =
    let t = Declare' n x in two_parts g (out_of context.copy t) unreached (enter context t (out_of context.copy t ∷ [])) context next w
marked_edges g context (Local' n at x e) next unreached i w =
    let t = Local' n at x e in
    three_parts g (out_of context.copy t) unreached (enter context t (in_of context.copy e ∷ [])) (edges context (Then (out_of context.copy t ∷ [])) e) context next w
marked_edges g context (Assign' n at x fixed e) next unreached i w =
    let t = Assign' n at x fixed e in
    three_parts g (out_of context.copy t) unreached (enter context t (in_of context.copy e ∷ [])) (edges context (Then (out_of context.copy t ∷ [])) e) context next w
marked_edges g context (Compound' n at x fixed o operand) next unreached i w =
    let t = Compound' n at x fixed o operand in
    let out = out_of context.copy t ∷ [] in
    three_parts g (out_of context.copy t) unreached (enter context t (entry_of context.copy out operand)) (all_edges context out operand) context next w
marked_edges g context _ next unreached i w = absurd (false≢true i)

-- what follows it never comes
pub never_last : {p : Program} {cx : TypeContext} (go : Eval) (g : Place p cx) (t : Tree) → KeepsAt p cx go t → is_declaration_or_assignment t ≡ true → cx.is_left (number t) ≡ false
    → (context : FlowContext) (way way' : Way) (found : Option KtType) (locals : LocalTypes) (next : List Node) (s : State) (k : Value → Run Value) → Within g.edges (edges context (Then next) t)
    → Accepted g way locals t → Stands g (in_of context.copy t) s → Post g (Then next) way' found (ending_after (go t s).ending k)
never_last {p} {cx} go g t keeps declares stays context way way' found locals next s k w a st =
    by (go t s).ending
    (keeps here context (Then (marker g.edges ∷ [])) way locals s (record { each = marked_edges g context t next unreached declares w })
    (record { known = a.known; none = a.none; covered = a.covered; inside = a.inside }) (stands_marked g out unreached (in_of context.copy t) s st))
  where
    out : Node
    out = out_of context.copy t

    unreached : (path : List Node) → IsNodePath g.edges (out ∷ path) → ⊥
    unreached path h = false≢true (sym stays ∙ g.left out path h refl)

    here : Place p cx
    here = marked g out unreached

    by : (e : Ending Value) → Post here (Then (marker g.edges ∷ [])) way (judged cx way locals t).found e → Post g (Then next) way' found (ending_after e k)
    by (Gave v s') h = absurd (never_ready g out unreached s' h.0)
    by (Left (Return v) s') h = h
    by (Left (Throw x) s') h = tt
    by (Over l) h = tt
    by Wrong h = h
