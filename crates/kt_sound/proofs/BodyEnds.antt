-- Where a body ends. Of the graph of a body the jumps of `return` are left out: a frame that came to the end of what is left stood at the `out` of the last
-- tree, which can be followed, or there is no tree.
use Rattle.std.proofs.Common.{◌≡◌, ◌⊎◌, ℕ, Bool, true, false, Some, List, [], ◌∷◌, ◌++◌, Contains, inl, inr, refl, ap, subst}
use Rattle.std.specs.Prelude.{⊤}
use Rattle.std.specs.List.{All}
use Rattle.std.proofs.lemmas.List.Elements.{All-nil, All-cons, All-append, All-contains}
use Rattle.kt_model.specs.BodyPaths.{IsNodePath}
use Rattle.kt_model.specs.BodyTrees.{Tree, Trees, Empty', First', Operation', Name', Paren', Not', And', Or', If', Declare', Local', Assign', Compound', Call', Return', Throw', Shut'}
use Rattle.kt_model.specs.ControlFlow.{Node, Edge, Exits, Then, Branch, in_of, out_of, assume, on, enter, entry_of, returns_of, if_returns, leave_edges, on_true_of, on_false_of, inside_of, test_edges, edges, all_edges, entry_node, params_node, end_node, outside, in_body, body_edges}
use Rattle.kt_model.specs.declared.graph.Tag.TheVariants as tag
use Rattle.kt_model.proofs.ListLemmas.{Has, contains_has, has_contains}
use Rattle.kt_paths.specs.FlowRules.{last_tree, can_be_followed, IsEndReached, no_tree, behind_last}
use Rattle.kt_sound.proofs.BodyStanding.{EachEdge, Within}
use Rattle.kt_sound.proofs.BodySteps.{within_left, within_right}

-- the edges of a body but for those of its jumps
abbrev pub plain_edges : List ℕ → Trees → List Edge
plain_edges parameters body =
    on outside entry_node (params_node parameters ∷ [])
    ++ (on outside (params_node parameters) (entry_of 0 (end_node ∷ []) body) ++ all_edges outside (end_node ∷ []) body)

-- ---- they are among those of the body

each_joined : (all a b : List Edge) → EachEdge all a → EachEdge all b → EachEdge all (a ++ b)
each_joined all [] b h i = i
each_joined all (e ∷ a) b h i = (h.0, each_joined all a b h.1 i)

each_among : (all es : List Edge) → ((e : Edge) → Has es e → Contains all e) → EachEdge all es
unfolding Has
each_among all [] h = tt
each_among all (e ∷ es) h = (h e (inl refl), each_among all es (λ d i. h d (inr i)))

pub all_within : (es : List Edge) → Within es es
all_within es = record { each = each_among es es (λ e i. has_contains es e i) }

each_has : (all es : List Edge) (e : Edge) → EachEdge all es → Has es e → Contains all e
unfolding Has
each_has all [] e w h = absurd h
each_has all (d ∷ es) e w (inl same) = subst (λ z. Contains all z) same w.0
each_has all (d ∷ es) e w (inr h) = each_has all es e w.1 h

module _ {all : List Edge} where
  -- what is within, part for part
  both : (a a' b b' : List Edge) → (Within all a → Within all a') → (Within all b → Within all b') → Within all (a ++ b) → Within all (a' ++ b')
  both a a' b b' f g w =
      let first = f (within_left a b w) in
      let second = g (within_right a b w) in
      record { each = each_joined all a' b' first.each second.each }

  same : (a : List Edge) → Within all a → Within all a
  same a w = w

  leaving : (t : Tree) (exits : Exits) → Within all (leave_edges in_body t exits) → Within all (leave_edges outside t exits)
  unfolding on
  leaving t (Then next) w = w
  leaving t (Branch on_true on_false) w = w

  testing : (out : Node) (exits : Exits) → Within all (test_edges in_body out exits) → Within all (test_edges outside out exits)
  unfolding on
  testing out (Then next) w = w
  testing out (Branch on_true on_false) w = w

  -- two operands
  two : (first : List Edge) (left right : Exits) (a b : Tree) (out : Node) (exits : Exits) → (Within all (edges in_body left a) → Within all (edges outside left a))
      → (Within all (edges in_body right b) → Within all (edges outside right b)) → Within all (first ++ (edges in_body left a ++ (edges in_body right b ++ test_edges in_body out exits)))
      → Within all (first ++ (edges outside left a ++ (edges outside right b ++ test_edges outside out exits)))
  two first left right a b out exits f g w =
      let last = edges in_body right b ++ test_edges in_body out exits in
      let last' = edges outside right b ++ test_edges outside out exits in
      both first first (edges in_body left a ++ last) (edges outside left a ++ last') (same first)
      (both (edges in_body left a) (edges outside left a) last last' f
      (both (edges in_body right b) (edges outside right b) (test_edges in_body out exits) (test_edges outside out exits) g (testing out exits))) w

  -- a part, and what its tree does behind it
  behind : (first first' m m' : List Edge) (t : Tree) (exits : Exits) → (Within all first → Within all first') → (Within all m → Within all m') → Within all (first ++ (m ++ leave_edges in_body t exits))
      → Within all (first' ++ (m' ++ leave_edges outside t exits))
  behind first first' m m' t exits f g w =
      both first first' (m ++ leave_edges in_body t exits) (m' ++ leave_edges outside t exits) f (both m m' (leave_edges in_body t exits) (leave_edges outside t exits) g (leaving t exits)) w

  -- a condition, or what is one where its tree is
  tested : (first m m' : List Edge) (out : Node) (exits : Exits) → (Within all m → Within all m') → Within all (first ++ (m ++ test_edges in_body out exits)) → Within all (first ++ (m' ++ test_edges outside out exits))
  tested first m m' out exits f w =
      both first first (m ++ test_edges in_body out exits) (m' ++ test_edges outside out exits) (same first) (both m m' (test_edges in_body out exits) (test_edges outside out exits) f (testing out exits)) w

  mutual
    unfolding edges all_edges on

    without : (exits : Exits) (t : Tree) → Within all (edges in_body exits t) → Within all (edges outside exits t)
    without exits (Operation' n o parts) w =
        let t = Operation' n o parts in
        let next = if_returns (returns_of o) (out_of 0 t) in
        let first = enter outside t (entry_of 0 next parts) in
        behind first first (all_edges in_body next parts) (all_edges outside next parts) t exits (same first) (all_without next parts) w
    without exits (Name' n at x) w =
        let t = Name' n at x in
        let first = enter outside t (out_of 0 t ∷ []) in
        both first first (leave_edges in_body t exits) (leave_edges outside t exits) (same first) (leaving t exits) w
    without exits (Paren' n e) w =
        let t = Paren' n e in
        let inner = inside_of (out_of 0 t) exits in
        tested (enter outside t (in_of 0 e ∷ [])) (edges in_body inner e) (edges outside inner e) (out_of 0 t) exits (without inner e) w
    without exits (Not' n e) w =
        let t = Not' n e in
        let inner = Branch (on_false_of (out_of 0 t) exits) (on_true_of (out_of 0 t) exits) in
        tested (enter outside t (in_of 0 e ∷ [])) (edges in_body inner e) (edges outside inner e) (out_of 0 t) exits (without inner e) w
    without exits (And' n a b) w =
        let t = And' n a b in
        let left = Branch (in_of 0 b ∷ []) (on_false_of (out_of 0 t) exits) in
        let right = Branch (on_true_of (out_of 0 t) exits) (on_false_of (out_of 0 t) exits) in
        two (enter outside t (in_of 0 a ∷ [])) left right a b (out_of 0 t) exits (without left a) (without right b) w
    without exits (Or' n a b) w =
        let t = Or' n a b in
        let left = Branch (on_true_of (out_of 0 t) exits) (in_of 0 b ∷ []) in
        let right = Branch (on_true_of (out_of 0 t) exits) (on_false_of (out_of 0 t) exits) in
        two (enter outside t (in_of 0 a ∷ [])) left right a b (out_of 0 t) exits (without left a) (without right b) w
    without exits (If' n braces c a b) w =
        let t = If' n braces c a b in
        let out = out_of 0 t ∷ [] in
        let first = enter outside t (in_of 0 c ∷ []) in
        let asked = Branch (entry_of 0 out a) (entry_of 0 out b) in
        let others = all_edges in_body out a ++ (all_edges in_body out b ++ leave_edges in_body t exits) in
        let others' = all_edges outside out a ++ (all_edges outside out b ++ leave_edges outside t exits) in
        both first first (edges in_body asked c ++ others) (edges outside asked c ++ others') (same first)
        (both (edges in_body asked c) (edges outside asked c) others others' (without asked c)
        (behind (all_edges in_body out a) (all_edges outside out a) (all_edges in_body out b) (all_edges outside out b) t exits (all_without out a) (all_without out b))) w
    without exits (Declare' n x) w =
        let t = Declare' n x in
        let first = enter outside t (out_of 0 t ∷ []) in
        both first first (leave_edges in_body t exits) (leave_edges outside t exits) (same first) (leaving t exits) w
    without exits (Local' n at x e) w =
        let t = Local' n at x e in
        let inner = Then (out_of 0 t ∷ []) in
        let first = enter outside t (in_of 0 e ∷ []) in
        behind first first (edges in_body inner e) (edges outside inner e) t exits (same first) (without inner e) w
    without exits (Assign' n at x fixed e) w =
        let t = Assign' n at x fixed e in
        let inner = Then (out_of 0 t ∷ []) in
        let first = enter outside t (in_of 0 e ∷ []) in
        behind first first (edges in_body inner e) (edges outside inner e) t exits (same first) (without inner e) w
    without exits (Compound' n at x fixed o operand) w =
        let t = Compound' n at x fixed o operand in
        let out = out_of 0 t ∷ [] in
        let first = enter outside t (entry_of 0 out operand) in
        behind first first (all_edges in_body out operand) (all_edges outside out operand) t exits (same first) (all_without out operand) w
    without exits (Call' n f returns arguments) w =
        let t = Call' n f returns arguments in
        let next = if_returns returns (out_of 0 t) in
        let first = enter outside t (entry_of 0 next arguments) in
        behind first first (all_edges in_body next arguments) (all_edges outside next arguments) t exits (same first) (all_without next arguments) w
    without exits (Return' n value) w =
        let t = Return' n value in
        let out = out_of 0 t ∷ [] in
        let first = enter outside t (entry_of 0 out value) in
        let jumps = on in_body (out_of 0 t) (end_node ∷ []) in
        both first first (all_edges in_body out value ++ jumps) (all_edges outside out value ++ []) (same first)
        (both (all_edges in_body out value) (all_edges outside out value) jumps [] (all_without out value) (λ v. record { each = tt })) w
    without exits (Throw' n e) w =
        let t = Throw' n e in
        let inner = Then (out_of 0 t ∷ []) in
        let first = enter outside t (in_of 0 e ∷ []) in
        both first first (edges in_body inner e ++ []) (edges outside inner e ++ []) (same first) (both (edges in_body inner e) (edges outside inner e) [] [] (without inner e) (same [])) w
    without exits (Shut' n) w = w

    all_without : (next : List Node) (ts : Trees) → Within all (all_edges in_body next ts) → Within all (all_edges outside next ts)
    all_without next Empty' w = w
    all_without next (First' t rest) w =
        both (edges in_body (Then (entry_of 0 next rest)) t) (edges outside (Then (entry_of 0 next rest)) t) (all_edges in_body next rest) (all_edges outside next rest)
        (without (Then (entry_of 0 next rest)) t) (all_without next rest) w

pub plain_within : (parameters : List ℕ) (body : Trees) → Within (body_edges parameters body) (plain_edges parameters body)
plain_within parameters body =
    let first = on outside entry_node (params_node parameters ∷ []) in
    let second = on outside (params_node parameters) (entry_of 0 (end_node ∷ []) body) in
    let third = all_edges in_body (end_node ∷ []) body in
    let third' = all_edges outside (end_node ∷ []) body in
    both first first (second ++ third) (second ++ third') (same first) (both second second third third' (same second) (all_without (end_node ∷ []) body)) (all_within (body_edges parameters body))

walked : (all es : List Edge) → Within all es → (ns : List Node) → IsNodePath es ns → IsNodePath all ns
walked all es w [] h = h
walked all es w (n ∷ []) h = h
walked all es w (m ∷ n ∷ path) h = (each_has all es (n, m) w.each (contains_has es (n, m) h.0), walked all es w (n ∷ path) h.1)

-- a path without jumps is one of the body
pub plain_walked : (parameters : List ℕ) (body : Trees) (ns : List Node) → IsNodePath (plain_edges parameters body) ns → IsNodePath (body_edges parameters body) ns
plain_walked parameters body ns h = walked (body_edges parameters body) (plain_edges parameters body) (plain_within parameters body) ns h

-- ---- which of them lead to the end

abbrev IsInner : Node → Type 0
IsInner m = m.tag ≡ tag.End → ⊥

abbrev AreInner : List Node → Type 0
AreInner [] = ⊤
AreInner (m ∷ ms) = IsInner m × AreInner ms

abbrev ExitsInner : Exits → Type 0
ExitsInner (Then next) = AreInner next
ExitsInner (Branch on_true on_false) = AreInner on_true × AreInner on_false

in_inner : (t : Tree) → AreInner (in_of 0 t ∷ [])
in_inner t = (λ e. cc, tt)

out_inner : (t : Tree) → AreInner (out_of 0 t ∷ [])
out_inner t = (λ e. cc, tt)

entry_inner : (next : List Node) (ts : Trees) → AreInner next → AreInner (entry_of 0 next ts)
entry_inner next Empty' h = h
entry_inner next (First' t rest) h = in_inner t

returns_inner : (returns : Bool) (t : Tree) → AreInner (if_returns returns (out_of 0 t))
returns_inner true t = out_inner t
returns_inner false t = tt

-- What holds of each edge that doesn't lead to the end.
module _ (P : Edge → Type 0) (otherwise : (n m : Node) → IsInner m → P (n, m)) where
  abbrev Leads : Node → List Node → Type 0
  Leads n [] = ⊤
  Leads n (m ∷ ms) = P (n, m) × Leads n ms

  inner_leads : (n : Node) (ms : List Node) → AreInner ms → Leads n ms
  inner_leads n [] h = tt
  inner_leads n (m ∷ ms) h = (otherwise n m h.0, inner_leads n ms h.1)

  on_all : (n : Node) (ms : List Node) → Leads n ms → All P (on outside n ms)
  unfolding on
  on_all n [] h = All-nil P
  on_all n (m ∷ ms) h = All-cons P (n, m) (on outside n ms) h.0 (on_all n ms h.1)

  on_inner : (n : Node) (ms : List Node) → AreInner ms → All P (on outside n ms)
  on_inner n ms h = on_all n ms (inner_leads n ms h)

  -- of what follows a tree
  abbrev Follows : Tree → Exits → Type 0
  Follows t (Then next) = can_be_followed t ≡ true → Leads (out_of 0 t) next
  Follows t (Branch on_true on_false) = AreInner on_true × AreInner on_false

  follows : (t : Tree) (exits : Exits) → ExitsInner exits → Follows t exits
  follows t (Then next) h = λ can. inner_leads (out_of 0 t) next h
  follows t (Branch on_true on_false) h = h

  leave_all : (t : Tree) (exits : Exits) → can_be_followed t ≡ true → Follows t exits → All P (leave_edges outside t exits)
  leave_all t (Then next) can h = on_all (out_of 0 t) next (h can)
  leave_all t (Branch on_true on_false) can h =
      let yes_node = assume 0 t true in
      let no_node = assume 0 t false in
      All-append P (on outside (out_of 0 t) (yes_node ∷ no_node ∷ [])) (on outside yes_node on_true ++ on outside no_node on_false) (on_inner (out_of 0 t) (yes_node ∷ no_node ∷ []) (λ e. cc, (λ e. cc, tt)))
      (All-append P (on outside yes_node on_true) (on outside no_node on_false) (on_inner yes_node on_true h.0) (on_inner no_node on_false h.1))

  test_all : (t : Tree) (exits : Exits) → can_be_followed t ≡ true → Follows t exits → All P (test_edges outside (out_of 0 t) exits)
  test_all t (Then next) can h = on_all (out_of 0 t) next (h can)
  test_all t (Branch on_true on_false) can h = All-nil P

  true_inner : (t : Tree) (exits : Exits) → Follows t exits → AreInner (on_true_of (out_of 0 t) exits)
  true_inner t (Then next) h = out_inner t
  true_inner t (Branch on_true on_false) h = h.0

  false_inner : (t : Tree) (exits : Exits) → Follows t exits → AreInner (on_false_of (out_of 0 t) exits)
  false_inner t (Then next) h = out_inner t
  false_inner t (Branch on_true on_false) h = h.1

  inside_inner : (t : Tree) (exits : Exits) → Follows t exits → ExitsInner (inside_of (out_of 0 t) exits)
  inside_inner t (Then next) h = out_inner t
  inside_inner t (Branch on_true on_false) h = h

  three : (first middle last : List Edge) → All P first → All P middle → All P last → All P (first ++ (middle ++ last))
  three first middle last f m l = All-append P first (middle ++ last) f (All-append P middle last m l)

  mutual
    unfolding edges all_edges

    -- the edges of a tree; those of trees before nodes none of which is the end
    edges_all : (exits : Exits) (t : Tree) → Follows t exits → All P (edges outside exits t)
    edges_all exits (Operation' n o parts) h =
        let t = Operation' n o parts in
        let next = if_returns (returns_of o) (out_of 0 t) in
        let i = returns_inner (returns_of o) t in
        three (enter outside t (entry_of 0 next parts)) (all_edges outside next parts) (leave_edges outside t exits) (on_inner (in_of 0 t) (entry_of 0 next parts) (entry_inner next parts i)) (trees_all next parts i) (leave_all t exits refl h)
    edges_all exits (Name' n at x) h =
        let t = Name' n at x in All-append P (enter outside t (out_of 0 t ∷ [])) (leave_edges outside t exits) (on_inner (in_of 0 t) (out_of 0 t ∷ []) (out_inner t)) (leave_all t exits refl h)
    edges_all exits (Paren' n e) h =
        let t = Paren' n e in
        let inner = inside_of (out_of 0 t) exits in
        three (enter outside t (in_of 0 e ∷ [])) (edges outside inner e) (test_edges outside (out_of 0 t) exits) (on_inner (in_of 0 t) (in_of 0 e ∷ []) (in_inner e)) (edges_all inner e (follows e inner (inside_inner t exits h))) (test_all t exits refl h)
    edges_all exits (Not' n e) h =
        let t = Not' n e in
        let inner = Branch (on_false_of (out_of 0 t) exits) (on_true_of (out_of 0 t) exits) in
        three (enter outside t (in_of 0 e ∷ [])) (edges outside inner e) (test_edges outside (out_of 0 t) exits) (on_inner (in_of 0 t) (in_of 0 e ∷ []) (in_inner e))
        (edges_all inner e (follows e inner (false_inner t exits h, true_inner t exits h))) (test_all t exits refl h)
    edges_all exits (And' n a b) h =
        let t = And' n a b in
        let left = Branch (in_of 0 b ∷ []) (on_false_of (out_of 0 t) exits) in
        let right = Branch (on_true_of (out_of 0 t) exits) (on_false_of (out_of 0 t) exits) in
        let last = test_edges outside (out_of 0 t) exits in
        three (enter outside t (in_of 0 a ∷ [])) (edges outside left a) (edges outside right b ++ last) (on_inner (in_of 0 t) (in_of 0 a ∷ []) (in_inner a)) (edges_all left a (follows a left (in_inner b, false_inner t exits h)))
        (All-append P (edges outside right b) last (edges_all right b (follows b right (true_inner t exits h, false_inner t exits h))) (test_all t exits refl h))
    edges_all exits (Or' n a b) h =
        let t = Or' n a b in
        let left = Branch (on_true_of (out_of 0 t) exits) (in_of 0 b ∷ []) in
        let right = Branch (on_true_of (out_of 0 t) exits) (on_false_of (out_of 0 t) exits) in
        let last = test_edges outside (out_of 0 t) exits in
        three (enter outside t (in_of 0 a ∷ [])) (edges outside left a) (edges outside right b ++ last) (on_inner (in_of 0 t) (in_of 0 a ∷ []) (in_inner a)) (edges_all left a (follows a left (true_inner t exits h, in_inner b)))
        (All-append P (edges outside right b) last (edges_all right b (follows b right (true_inner t exits h, false_inner t exits h))) (test_all t exits refl h))
    edges_all exits (If' n braces c a b) h =
        let t = If' n braces c a b in
        let out = out_of 0 t ∷ [] in
        let asked = Branch (entry_of 0 out a) (entry_of 0 out b) in
        let last = leave_edges outside t exits in
        three (enter outside t (in_of 0 c ∷ [])) (edges outside asked c) (all_edges outside out a ++ (all_edges outside out b ++ last)) (on_inner (in_of 0 t) (in_of 0 c ∷ []) (in_inner c))
        (edges_all asked c (follows c asked (entry_inner out a (out_inner t), entry_inner out b (out_inner t))))
        (three (all_edges outside out a) (all_edges outside out b) last (trees_all out a (out_inner t)) (trees_all out b (out_inner t)) (leave_all t exits refl h))
    edges_all exits (Declare' n x) h =
        let t = Declare' n x in All-append P (enter outside t (out_of 0 t ∷ [])) (leave_edges outside t exits) (on_inner (in_of 0 t) (out_of 0 t ∷ []) (out_inner t)) (leave_all t exits refl h)
    edges_all exits (Local' n at x e) h =
        let t = Local' n at x e in
        let inner = Then (out_of 0 t ∷ []) in
        three (enter outside t (in_of 0 e ∷ [])) (edges outside inner e) (leave_edges outside t exits) (on_inner (in_of 0 t) (in_of 0 e ∷ []) (in_inner e)) (edges_all inner e (follows e inner (out_inner t))) (leave_all t exits refl h)
    edges_all exits (Assign' n at x fixed e) h =
        let t = Assign' n at x fixed e in
        let inner = Then (out_of 0 t ∷ []) in
        three (enter outside t (in_of 0 e ∷ [])) (edges outside inner e) (leave_edges outside t exits) (on_inner (in_of 0 t) (in_of 0 e ∷ []) (in_inner e)) (edges_all inner e (follows e inner (out_inner t))) (leave_all t exits refl h)
    edges_all exits (Compound' n at x fixed o operand) h =
        let t = Compound' n at x fixed o operand in
        let out = out_of 0 t ∷ [] in
        three (enter outside t (entry_of 0 out operand)) (all_edges outside out operand) (leave_edges outside t exits) (on_inner (in_of 0 t) (entry_of 0 out operand) (entry_inner out operand (out_inner t)))
        (trees_all out operand (out_inner t)) (leave_all t exits refl h)
    edges_all exits (Call' n f returns arguments) h =
        let t = Call' n f returns arguments in
        let next = if_returns returns (out_of 0 t) in
        let i = returns_inner returns t in
        three (enter outside t (entry_of 0 next arguments)) (all_edges outside next arguments) (leave_edges outside t exits) (on_inner (in_of 0 t) (entry_of 0 next arguments) (entry_inner next arguments i))
        (trees_all next arguments i) (leave_all t exits refl h)
    edges_all exits (Return' n value) h =
        let t = Return' n value in
        let out = out_of 0 t ∷ [] in
        three (enter outside t (entry_of 0 out value)) (all_edges outside out value) (on outside (out_of 0 t) []) (on_inner (in_of 0 t) (entry_of 0 out value) (entry_inner out value (out_inner t)))
        (trees_all out value (out_inner t)) (on_inner (out_of 0 t) [] tt)
    edges_all exits (Throw' n e) h =
        let t = Throw' n e in
        let inner = Then (out_of 0 t ∷ []) in
        three (enter outside t (in_of 0 e ∷ [])) (edges outside inner e) (on outside (out_of 0 t) []) (on_inner (in_of 0 t) (in_of 0 e ∷ []) (in_inner e)) (edges_all inner e (follows e inner (out_inner t))) (on_inner (out_of 0 t) [] tt)
    edges_all exits (Shut' n) h = on_inner (in_of 0 (Shut' n)) [] tt

    trees_all : (next : List Node) (ts : Trees) → AreInner next → All P (all_edges outside next ts)
    trees_all next Empty' h = All-nil P
    trees_all next (First' t rest) h =
        All-append P (edges outside (Then (entry_of 0 next rest)) t) (all_edges outside next rest) (edges_all (Then (entry_of 0 next rest)) t (follows t (Then (entry_of 0 next rest)) (entry_inner next rest h))) (trees_all next rest h)

  -- of a body the last tree alone leads to the end
  body_all : (ts : Trees) → ((t : Tree) → last_tree ts ≡ Some t → can_be_followed t ≡ true → P (out_of 0 t, end_node)) → All P (all_edges outside (end_node ∷ []) ts)
  unfolding all_edges
  body_all Empty' h = All-nil P
  body_all (First' t Empty') h = All-append P (edges outside (Then (end_node ∷ [])) t) [] (edges_all (Then (end_node ∷ [])) t (λ can. (h t refl can, tt))) (All-nil P)
  body_all (First' t (First' u rest)) h =
      All-append P (edges outside (Then (in_of 0 u ∷ [])) t) (all_edges outside (end_node ∷ []) (First' u rest)) (edges_all (Then (in_of 0 u ∷ [])) t (follows t (Then (in_of 0 u ∷ [])) (in_inner u))) (body_all (First' u rest) h)

-- ---- the end of a body

-- from where an edge leads to the end
abbrev Comes : Trees → Node → Type 0
Comes body n = (body ≡ Empty') ⊎ ((t : Tree) × ((last_tree body ≡ Some t) × ((can_be_followed t ≡ true) × (n ≡ out_of 0 t))))

abbrev EndsBody : Trees → Edge → Type 0
EndsBody body e = e.1.tag ≡ tag.End → Comes body e.0

no_end : (body : Trees) (n m : Node) → IsInner m → EndsBody body (n, m)
no_end body n m h e = absurd (h e)

from_parameters : (parameters : List ℕ) (body : Trees) → All (EndsBody body) (on outside (params_node parameters) (entry_of 0 (end_node ∷ []) body))
from_parameters parameters Empty' = on_all (EndsBody Empty') (no_end Empty') (params_node parameters) (end_node ∷ []) (λ e. inl refl, tt)
from_parameters parameters (First' t rest) = on_inner (EndsBody (First' t rest)) (no_end (First' t rest)) (params_node parameters) (in_of 0 t ∷ []) (in_inner t)

ends_body : (parameters : List ℕ) (body : Trees) → All (EndsBody body) (plain_edges parameters body)
ends_body parameters body =
    let P = EndsBody body in
    let none = no_end body in
    three P none (on outside entry_node (params_node parameters ∷ [])) (on outside (params_node parameters) (entry_of 0 (end_node ∷ []) body)) (all_edges outside (end_node ∷ []) body)
    (on_inner P none entry_node (params_node parameters ∷ []) (λ e. cc, tt)) (from_parameters parameters body) (body_all P none body (λ t is can e. inr (t, (is, (can, refl)))))

-- Where a frame came along a path to a node that leads to the end, the end is reached.
pub end_reached : (parameters : List ℕ) (body : Trees) (n : Node) (path : List Node) → IsNodePath (plain_edges parameters body) (n ∷ path) → Contains (plain_edges parameters body) (n, end_node)
    → IsEndReached parameters body
end_reached parameters body n path h leads =
    elim (All-contains (EndsBody body) (plain_edges parameters body) (n, end_node) (ends_body parameters body) leads refl) [
      | inl none ↦ no_tree none
      | inr last ↦ behind_last last.0 n last.1.0 last.1.1.0 (ap (λ (m : Node). m.tree) last.1.1.1) (ap (λ (m : Node). m.tag) last.1.1.1) (path, plain_walked parameters body (n ∷ path) h)
    ]
