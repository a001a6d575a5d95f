-- What is marked node by node tells which trees are begun and entered, and so which are dead.
use Rattle.std.proofs.Common.{◌≡◌, ◌≢◌, ℕ, ◌+◌, ◌<◌, ◌≤◌, Bool, true, false, not, ◌&&◌, ◌||◌, ◌⊎◌, ◌↔◌, IsTrue, List, [], ◌∷◌, ◌++◌, length, get_or, cond, inl, inr, refl, sym, ap, ◌∙◌, subst, arith, nat_eq}
use Rattle.std.specs.List.{list_any}
use Rattle.std.proofs.lemmas.Bool.{true≢false, eqb-true, eq-eqb}
use Rattle.std.proofs.lemmas.Bool.Decides.{leb_tells}
use Rattle.std.proofs.lemmas.List.{get_or_default}
use Rattle.std.proofs.lemmas.List.Folds.{list_any-append}
use Rattle.kt_model.specs.declared.graph.Tag.TheVariants as tag
use Rattle.kt_model.specs.ControlFlow.{node}
use Rattle.kt_model.specs.declared.graph.Graph.{Graph}
use Rattle.kt_model.specs.declared.graph.NodeRow.{NodeRow}
use Rattle.kt_model.specs.Bodies.{node_at}
use Rattle.kt_model.specs.DeadTrees.{Begins, IsDead, is_begin}
use Rattle.kt_model.specs.NodePaths.{IsReached}
use Rattle.kt_init.specs.Statuses.{Analyses, Statuses, reached_at}
use Rattle.kt_init.specs.Marks.{AreMarked, is_among, dead_in, marked}

add : Bool → List ℕ → ℕ → List ℕ
add present keys t = cond present keys (keys ++ t ∷ [])

or_first : (a b : Bool) → a ≡ true → (a || b) ≡ true
or_first true b e = refl
or_first false b e = absurd (true≢false (sym e))

or_second : (a b : Bool) → b ≡ true → (a || b) ≡ true
or_second true b e = refl
or_second false b e = e

or_either : (a b : Bool) → (a || b) ≡ true → (a ≡ true) ⊎ (b ≡ true)
or_either true b e = inl refl
or_either false b e = inr e

and_both : (a b : Bool) → (a && b) ≡ true → (a ≡ true) × (b ≡ true)
and_both true b e = (refl, e)
and_both false b e = absurd (true≢false (sym e))

both_and : (a b : Bool) → a ≡ true → b ≡ true → (a && b) ≡ true
both_and true b e f = f
both_and false b e f = absurd (true≢false (sym e))

among_one : (t n : ℕ) → is_among (t ∷ []) n ≡ true → n ≡ t
among_one t n h = elim (or_either (nat_eq n t) false h) [ inl e ↦ eqb-true n t e | inr e ↦ absurd (true≢false (sym e)) ]

one_among : (t n : ℕ) → n ≡ t → is_among (t ∷ []) n ≡ true
one_among t n e = or_first (nat_eq n t) false (eq-eqb n t e)

added_from : (keys : List ℕ) (t n : ℕ) (present : Bool) → is_among (add present keys t) n ≡ true → (is_among keys n ≡ true) ⊎ (n ≡ t)
unfolding add
added_from keys t n true h = inl h
added_from keys t n false h =
    elim (or_either (is_among keys n) (is_among (t ∷ []) n) (sym (list_any-append (nat_eq n) keys (t ∷ [])) ∙ h)) [ inl e ↦ inl e | inr e ↦ inr (among_one t n e) ]

added_old : (keys : List ℕ) (t n : ℕ) (present : Bool) → is_among keys n ≡ true → is_among (add present keys t) n ≡ true
unfolding add
added_old keys t n true h = h
added_old keys t n false h = list_any-append (nat_eq n) keys (t ∷ []) ∙ or_first (is_among keys n) (is_among (t ∷ []) n) h

added_new : (keys : List ℕ) (t n : ℕ) (present : Bool) → is_among keys t ≡ present → n ≡ t → is_among (add present keys t) n ≡ true
unfolding add
added_new keys t n true p e = ap (is_among keys) e ∙ p
added_new keys t n false p e = list_any-append (nat_eq n) keys (t ∷ []) ∙ or_second (is_among keys n) (is_among (t ∷ []) n) (one_among t n e)

-- the trees of which P holds at some place below n
abbrev Marked : (ℕ → ℕ → Type 0) → ℕ → ℕ → Type 0
Marked P n tree = (place : ℕ) × (place < n) × P tree place

-- one place more
step : (P : ℕ → ℕ → Type 0) (n t : ℕ) (b : Bool) (keys : List ℕ) → ((tree : ℕ) → P tree n → (tree ≡ t) × (b ≡ true)) → (b ≡ true → P t n) → ((tree : ℕ) → IsTrue (is_among keys tree) ↔ Marked P n tree) → (tree : ℕ) → IsTrue (is_among (cond b (add (is_among keys t) keys t) keys) tree) ↔ Marked P (n + 1) tree
step P n t true keys from to old tree = (forth, back)
  where
    forth : is_among (add (is_among keys t) keys t) tree ≡ true → Marked P (n + 1) tree
    forth h = elim (added_from keys t tree (is_among keys t) h) [
      | inl e ↦ (let m = (old tree).0 e in (m.0, omega (arith, m.1), m.2))
      | inr e ↦ (n, omega arith, subst (λ k. P k n) (sym e) (to refl))
    ]

    back : Marked P (n + 1) tree → is_among (add (is_among keys t) keys t) tree ≡ true
    back m = elim (leb_tells n m.0) [
      | inl p ↦ (let same : m.0 ≡ n = omega (arith, m.1, p.1) in added_new keys t tree (is_among keys t) refl (from tree (subst (λ k. P tree k) same m.2)).0)
      | inr p ↦ added_old keys t tree (is_among keys t) ((old tree).1 (m.0, p.1, m.2))
    ]
step P n t false keys from to old tree = (forth, back)
  where
    forth : is_among keys tree ≡ true → Marked P (n + 1) tree
    forth h = let m = (old tree).0 h in (m.0, omega (arith, m.1), m.2)

    back : Marked P (n + 1) tree → is_among keys tree ≡ true
    back m = elim (leb_tells n m.0) [
      | inl p ↦ (let same : m.0 ≡ n = omega (arith, m.1, p.1) in absurd (true≢false (sym (from tree (subst (λ k. P tree k) same m.2)).1)))
      | inr p ↦ (old tree).1 (m.0, p.1, m.2)
    ]

-- before the first node nothing is marked
pub none_marked : (g : Graph) (s : Statuses) → AreMarked g s 0 [] []
none_marked g s = record {
  has_begun = λ tree. (λ h. absurd (true≢false (sym h)), λ m. absurd (omega (arith, m.1)));
  has_entered = λ tree. (λ h. absurd (true≢false (sym h)), λ m. absurd (omega (arith, m.1)));
}

-- one node more
pub one_marked : (g : Graph) (s : Statuses) (n : ℕ) (row : NodeRow) (reached : Bool) (begun entered : List ℕ) → n < length g.nodes → row ≡ node_at g.nodes n → reached ≡ reached_at s n → AreMarked g s n begun entered → AreMarked g s (n + 1) (marked true row begun) (marked reached row entered)
unfolding add
one_marked g s n row reached begun entered h is told m = record {
  has_begun = step (λ tree place. Begins g tree place) n row.tree (is_begin row.tag && true) begun
      (λ tree b. (sym b.same_tree ∙ ap (λ (r : NodeRow). r.tree) (sym is), both_and _ _ (ap (λ (r : NodeRow). is_begin r.tag) is ∙ b.is_first) refl))
      (λ b. record { within = h; same_tree = ap (λ (r : NodeRow). r.tree) (sym is); is_first = ap (λ (r : NodeRow). is_begin r.tag) (sym is) ∙ (and_both (is_begin row.tag) true b).0 })
      m.has_begun;
  has_entered = step (λ tree place. Begins g tree place × IsTrue (reached_at s place)) n row.tree (is_begin row.tag && reached) entered
      (λ tree b. (sym b.0.same_tree ∙ ap (λ (r : NodeRow). r.tree) (sym is), both_and (is_begin row.tag) reached (ap (λ (r : NodeRow). is_begin r.tag) is ∙ b.0.is_first) (told ∙ b.1)))
      (λ b. (record { within = h; same_tree = ap (λ (r : NodeRow). r.tree) (sym is); is_first = ap (λ (r : NodeRow). is_begin r.tag) (sym is) ∙ (and_both (is_begin row.tag) reached b).0 }, sym told ∙ (and_both (is_begin row.tag) reached b).1))
      m.has_entered;
}

-- the same, of a node that was read, and under the names of what was marked
pub one_marked_as : (g : Graph) (s : Statuses) (n : ℕ) (rows : List NodeRow) (row : NodeRow) (reached : Bool) (begun entered : List ℕ) {more_begun more_entered : List ℕ} → n < length g.nodes → rows ≡ g.nodes → row ≡ get_or rows n row → reached ≡ reached_at s n → AreMarked g s n begun entered → more_begun ≡ marked true row begun → more_entered ≡ marked reached row entered → AreMarked g s (n + 1) more_begun more_entered
one_marked_as g s n rows row reached begun entered {more_begun} {more_entered} h same is told m e f =
    let read : row ≡ node_at g.nodes n = is ∙ get_or_default rows n row (node 0 tag.Entry 1 []) (omega (arith, ap length same)) ∙ ap (λ l. node_at l n) same in
    subst (λ b. AreMarked g s (n + 1) b more_entered) (sym e) (subst (λ b. AreMarked g s (n + 1) (marked true row begun) b) (sym f) (one_marked g s n row reached begun entered h read told m))

pub all_marked : (g : Graph) (s : Statuses) (n m : ℕ) (begun entered : List ℕ) → n ≡ m → AreMarked g s n begun entered → AreMarked g s m begun entered
all_marked g s n m begun entered e h = subst (λ k. AreMarked g s k begun entered) e h

not_true : (b : Bool) → (b ≡ true → ⊥) → not b ≡ true
not_true true h = absurd (h refl)
not_true false h = refl

true_not : (b : Bool) → not b ≡ true → b ≡ true → ⊥
true_not true e f = true≢false (sym e)
true_not false e f = true≢false (sym f)

-- what is marked tells which trees are dead
pub marked_dead : (g : Graph) (s : Statuses) (begun entered : List ℕ) → Analyses g s → AreMarked g s (length g.nodes) begun entered → (tree : ℕ) → IsTrue (dead_in begun entered tree) ↔ IsDead g tree
marked_dead g s begun entered a m tree = (forth, back)
  where
    forth : dead_in begun entered tree ≡ true → IsDead g tree
    forth h =
        let two = and_both (is_among begun tree) (not (is_among entered tree)) h in
        let b = (m.has_begun tree).0 two.0 in
        record {
          place = b.0;
          begins = b.2;
          not_entered = λ place p r. true_not (is_among entered tree) two.1 ((m.has_entered tree).1 (place, p.within, (p, (a.reached place p.within).1 r)));
        }

    back : IsDead g tree → dead_in begun entered tree ≡ true
    back d = both_and (is_among begun tree) (not (is_among entered tree))
        ((m.has_begun tree).1 (d.place, d.begins.within, d.begins))
        (not_true (is_among entered tree) (λ e. (let q = (m.has_entered tree).0 e in d.not_entered q.0 q.2.0 ((a.reached q.0 q.1).0 q.2.1))))
