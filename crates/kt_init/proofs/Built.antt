use Rattle.std.proofs.Common.{◌≡◌, ℕ, ◌+◌, ◌-◌, ◌*◌, ◌<◌, Bool, true, false, cond, ◌&&◌, eqb, leb, ltb, [], ◌∷◌, ◌++◌, length, map, arith, refl, ap, ◌∙◌}
use Rattle.std.proofs.lemmas.Bool.{lt-ltb, le-leb, lt-leb, eq-eqb, ne_eqb}
use Rattle.kt_model.specs.declared.graph.Graph.{Graph}
use Rattle.kt_model.specs.NodePaths.{effects_of, entry_of, variable_at}
use Rattle.kt_solve.specs.declared.effect.Transfer.{Transfer}
use Rattle.kt_solve.specs.declared.effect.Transfer.TheVariants.{Keep, Set, CopyFrom}
use Rattle.kt_solve.specs.Flow.{Flow, transfer_of}
use Rattle.kt_init.specs.Transfers.{AddsCopies, AddsNodes, IsProblemOf, SameFrame, edge_of, side_transfer}

abbrev base : Graph → Flow
base g = record {
  nodes = length g.nodes + 1;
  pairs = 4 * length g.variables;
  entry = length g.nodes;
  edges = map edge_of g.edges ++ record { from = length g.nodes; to = entry_of g } ∷ [];
  effects = record { node = length g.nodes; first = length g.variables; count = length g.variables; transfer = Set } ∷ [];
}

no_first : (a b : Bool) (x y : Transfer) → a ≡ false → cond (a && b) x y ≡ y
no_first a b x y e = rw e refl

no_second : (a b c : Bool) (x y : Transfer) → b ≡ false → cond (a && (b && c)) x y ≡ y
no_second true b c x y e = rw e refl
no_second false b c x y e = refl

all_three : (a b c : Bool) (x y : Transfer) → a ≡ true → b ≡ true → c ≡ true → cond (a && (b && c)) x y ≡ x
all_three a b c x y e f h = rw (e, f, h) refl

module _ (g : Graph) where
  base_below : (n q : ℕ) → n < length g.nodes → transfer_of (base g) n q ≡ Keep
  base_below n q h = no_first (eqb (length g.nodes) n) (leb (length g.variables) q && ltb q (length g.variables + length g.variables)) Set Keep (ne_eqb (length g.nodes) n (omega arith))

  base_has : (v : ℕ) → v < length g.variables → transfer_of (base g) (length g.nodes) v ≡ Keep
  base_has v h = no_second (eqb (length g.nodes) (length g.nodes)) (leb (length g.variables) v) (ltb v (length g.variables + length g.variables)) Set Keep (lt-leb (length g.variables) v h)

  base_lacks : (v : ℕ) → v < length g.variables → transfer_of (base g) (length g.nodes) (length g.variables + v) ≡ Set
  base_lacks v h =
      all_three (eqb (length g.nodes) (length g.nodes)) (leb (length g.variables) (length g.variables + v)) (ltb (length g.variables + v) (length g.variables + length g.variables)) Set Keep
      (eq-eqb (length g.nodes) (length g.nodes) refl) (le-leb (length g.variables) (length g.variables + v) (omega arith)) (lt-ltb (length g.variables + v) (length g.variables + length g.variables) (omega arith))

pub built : (g : Graph) (p0 p1 p2 p3 p4 p5 : Flow)
    → p0 ≡ record { nodes = length g.nodes + 1; pairs = 4 * length g.variables; entry = length g.nodes; edges = []; effects = [] }
    → p1 ≡ record p0 { edges = p0.edges ++ map edge_of g.edges }
    → p2 ≡ record p1 { edges = p1.edges ++ record { from = length g.nodes; to = entry_of g } ∷ [] }
    → p3 ≡ record p2 { effects = p2.effects ++ record { node = length g.nodes; first = length g.variables; count = length g.variables; transfer = Set } ∷ [] }
    → SameFrame p3 p4 → AddsCopies (length g.nodes) (2 * length g.variables) p3 p4 → SameFrame p4 p5 → AddsNodes g (length g.nodes) p4 p5 → IsProblemOf g p5
built g p0 p1 p2 p3 p4 p5 e0 e1 e2 e3 f4 c4 f5 m5 =
    let k : ℕ = length g.variables in
    let b : p3 ≡ base g =
    e3 ∙ ap (λ (f : Flow). record f { effects = f.effects ++ record { node = length g.nodes; first = length g.variables; count = length g.variables; transfer = Set } ∷ [] })
    (e2 ∙ ap (λ (f : Flow). record f { edges = f.edges ++ record { from = length g.nodes; to = entry_of g } ∷ [] })
    (e1 ∙ ap (λ (f : Flow). record f { edges = f.edges ++ map edge_of g.edges }) e0)) in
    let t3 : (n q : ℕ) → transfer_of p3 n q ≡ transfer_of (base g) n q = λ n q. ap (λ (f : Flow). transfer_of f n q) b in
    let low : (n q : ℕ) → q < 2 * length g.variables → transfer_of p4 n q ≡ transfer_of (base g) n q = λ n q l.
    c4 n q ∙ no_second (ltb n (length g.nodes)) (leb (2 * length g.variables) q) (ltb q (2 * length g.variables + 2 * length g.variables)) (CopyFrom (q - 2 * length g.variables)) (transfer_of p3 n q) (lt-leb (2 * length g.variables) q l) ∙ t3 n q in
    record {
      nodes = f5.nodes ∙ f4.nodes ∙ ap (λ (f : Flow). f.nodes) b;
      pairs = f5.pairs ∙ f4.pairs ∙ ap (λ (f : Flow). f.pairs) b;
      entry = f5.entry ∙ f4.entry ∙ ap (λ (f : Flow). f.entry) b;
      edges = f5.edges ∙ f4.edges ∙ ap (λ (f : Flow). f.edges) b;
      has = λ n v hn hv. m5.has n v hn hv ∙ ap (λ t. side_transfer true (effects_of g n) (variable_at g v) t) (low n v (omega arith) ∙ base_below g n v hn);
      lacks = λ n v hn hv. m5.lacks n v hn hv ∙ ap (λ t. side_transfer false (effects_of g n) (variable_at g v) t) (low n (length g.variables + v) (omega arith) ∙ base_below g n (length g.variables + v) hn);
      copies = λ n q hn hq. m5.above n (2 * length g.variables + q) (omega arith) ∙ c4 n (2 * length g.variables + q)
          ∙ all_three (ltb n (length g.nodes)) (leb (2 * length g.variables) (2 * length g.variables + q)) (ltb (2 * length g.variables + q) (2 * length g.variables + 2 * length g.variables)) (CopyFrom ((2 * length g.variables + q) - 2 * length g.variables)) (transfer_of p3 n (2 * length g.variables + q))
          (lt-ltb n (length g.nodes) hn) (le-leb (2 * length g.variables) (2 * length g.variables + q) (omega arith)) (lt-ltb (2 * length g.variables + q) (2 * length g.variables + 2 * length g.variables) (omega arith))
          ∙ ap CopyFrom (omega arith);
      start_has = λ v hv. m5.others (length g.nodes) v (omega arith) ∙ low (length g.nodes) v (omega arith) ∙ base_has g v hv;
      start_lacks = λ v hv. m5.others (length g.nodes) (length g.variables + v) (omega arith) ∙ low (length g.nodes) (length g.variables + v) (omega arith) ∙ base_lacks g v hv;
    }
