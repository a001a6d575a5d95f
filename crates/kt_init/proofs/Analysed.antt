use Rattle.std.proofs.Common.{◌≡◌, ℕ, ◌+◌, ◌*◌, ◌<◌, Bool, true, false, ◌↔◌, List, [], length, get_or, arith, refl, ap, subst, sym, ◌∙◌}
use Rattle.std.proofs.lemmas.Bool.{true≢false}
use Rattle.std.proofs.lemmas.List.FromFn.{get_or-map-range_with_len, length-map-range_with_len}
use Rattle.kt_model.specs.declared.graph.Graph.{Graph}
use Rattle.kt_model.specs.declared.status.Status.{Status}
use Rattle.kt_model.specs.declared.status.Status.TheVariants.{Assigned, Unreached}
use Rattle.kt_model.specs.NodePaths.{HasStatus, IsGraph, variable_at}
use Rattle.kt_solve.specs.Flow.{Flow, Holds, IsReached}
use Rattle.kt_solve.specs.Table.{Table, Solves, holds_at, reached_at as node_reached}
use Rattle.kt_init.specs.Statuses.{Analyses, Statuses, reached_at, status_at, status_by, status_of, status_row, statuses_of}
use Rattle.kt_init.specs.Transfers.{IsProblemOf}
use Rattle.kt_init.proofs.Along.{has_from, has_to, lacks_from, lacks_to, reached_from, reached_to}

-- what is told of a node, and of a variable there
pub reached_at-statuses_of : (nodes variables : ℕ) (t : Table) (n : ℕ) → n < nodes → reached_at (statuses_of nodes variables t) n ≡ node_reached t n
reached_at-statuses_of nodes variables t n h = get_or-map-range_with_len (node_reached t) 0 nodes n n false h (omega arith)

pub status_at-statuses_of : (nodes variables : ℕ) (t : Table) (n v : ℕ) → n < nodes → v < variables → status_at (statuses_of nodes variables t) n v ≡ status_of variables t n v
status_at-statuses_of nodes variables t n v h l =
    ap (λ (r : List Status). get_or r v Unreached) (get_or-map-range_with_len (status_row variables t) 0 nodes n n [] h (omega arith))
    ∙ get_or-map-range_with_len (status_of variables t n) 0 variables v v Unreached l (omega arith)

-- the status by what the rows hold
status_cases : (g : Graph) (p : Flow) (n v : ℕ) → IsGraph g → IsProblemOf g p → n < length g.nodes → v < length g.variables → (r a u : Bool)
    → (r ≡ true ↔ IsReached p n) → (a ≡ true ↔ Holds p n (2 * length g.variables + v)) → (u ≡ true ↔ Holds p n (3 * length g.variables + v)) → HasStatus g n (variable_at g v) (status_by r a u)
status_cases g p n v w i hn hv false a u hr ha hu = λ x. true≢false (sym (hr.1 (reached_to g p w i n x)))
status_cases g p n v w i hn hv true true u hr ha hu = (reached_from g p w i n hn (hr.0 refl), has_from g p w i n v hv (ha.0 refl).1)
status_cases g p n v w i hn hv true false true hr ha hu = (reached_from g p w i n hn (hr.0 refl), lacks_from g p w i n v hv (hu.0 refl).1)
status_cases g p n v w i hn hv true false false hr ha hu = (
  reached_from g p w i n hn (hr.0 refl),
  λ x. true≢false (sym (hu.1 (hr.0 refl, lacks_to g p w i n v hn hv x))),
  λ x. true≢false (sym (ha.1 (hr.0 refl, has_to g p w i n v hn hv x))),
)

-- the analysis of a graph, out of the rows of its problem
pub analysed : (g : Graph) (p : Flow) (t : Table) → IsGraph g → IsProblemOf g p → Solves p t → Analyses g (statuses_of (length g.nodes) (length g.variables) t)
analysed g p t w i s =
    let within : (n : ℕ) → n < length g.nodes → n < p.nodes = λ n h. omega (arith, i.nodes, h) in
    record {
      nodes = length-map-range_with_len (node_reached t) 0 (length g.nodes);
      variables = refl;
      reached = λ n h. (
        λ x. reached_from g p w i n h ((s.reached n (within n h)).0 (sym (reached_at-statuses_of (length g.nodes) (length g.variables) t n h) ∙ x)),
        λ x. reached_at-statuses_of (length g.nodes) (length g.variables) t n h ∙ (s.reached n (within n h)).1 (reached_to g p w i n x),
      );
      statuses = λ n v h l.
          (subst (HasStatus g n (variable_at g v)) (sym (status_at-statuses_of (length g.nodes) (length g.variables) t n v h l))
          (status_cases g p n v w i h l (node_reached t n) (holds_at t n (2 * length g.variables + v)) (holds_at t n (3 * length g.variables + v))
          (s.reached n (within n h)) (s.holds n (2 * length g.variables + v) (within n h) (omega (arith, i.pairs, l))) (s.holds n (3 * length g.variables + v) (within n h) (omega (arith, i.pairs, l)))));
    }

-- the same of a value that is seen as such statuses
module _ (nodes variables : ℕ) (t : Table) (s : Statuses) (view : statuses_of nodes variables t ≡ s) where
  pub node_within : (n : ℕ) → n < length s.reached → n < nodes
  node_within n h = omega (arith, ap (λ (x : Statuses). length x.reached) view, length-map-range_with_len (node_reached t) 0 nodes, h)

  pub told_nodes : length s.reached ≡ nodes
  told_nodes = sym (ap (λ (x : Statuses). length x.reached) view) ∙ length-map-range_with_len (node_reached t) 0 nodes

  pub variable_within : (v : ℕ) → v < s.variables → v < variables
  variable_within v h = omega (arith, ap (λ (x : Statuses). x.variables) view, h)

  pub reached_told : (n : ℕ) → n < length s.reached → reached_at s n ≡ node_reached t n
  reached_told n h = ap (λ (x : Statuses). reached_at x n) (sym view) ∙ reached_at-statuses_of nodes variables t n (node_within n h)

  pub status_told : (n v : ℕ) → n < length s.reached → v < s.variables → status_at s n v ≡ status_of variables t n v
  status_told n v h l = ap (λ (x : Statuses). status_at x n v) (sym view) ∙ status_at-statuses_of nodes variables t n v (node_within n h) (variable_within v l)

-- the status by each of the three answers
pub status_is : (r a u r' a' u' : Bool) → r ≡ r' → a ≡ a' → u ≡ u' → status_by r a u ≡ status_by r' a' u'
status_is r a u r' a' u' e f h = ap (λ x. status_by x a u) e ∙ ap (λ x. status_by r' x u) f ∙ ap (λ x. status_by r' a' x) h

pub unreached_is : (r a u : Bool) → r ≡ false → status_by r a u ≡ Unreached
unreached_is r a u e = ap (λ x. status_by x a u) e

pub assigned_is : (r a u : Bool) → r ≡ true → a ≡ true → status_by r a u ≡ Assigned
assigned_is r a u e f = ap (λ x. status_by x a u) e ∙ ap (λ x. status_by true x u) f
