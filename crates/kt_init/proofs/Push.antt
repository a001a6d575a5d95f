use Rattle.std.proofs.Common.{◌≡◌, ◌≢◌, ℕ, ◌+◌, ◌-◌, ◌<◌, ◌≤◌, Bool, true, false, cond, not, ◌&&◌, ◌||◌, eqb, leb, ltb, List, [], ◌∷◌, ◌++◌, Some, None, length, take, get_or, arith, refl, ap, sym, ◌∙◌, inl, inr}
use Rattle.std.specs.List.{slice_get}
use Rattle.std.proofs.lemmas.Bool.{cases_eq, cases_lt, lt-ltb, le-ltb, le-leb, lt-leb, eq-eqb, ne_eqb}
use Rattle.std.proofs.lemmas.List.{take_more}
use Rattle.std.proofs.lemmas.Option.{slice_get_within, get_or_from_slice_get}
use Rattle.kt_model.specs.declared.graph.FlowEffect.{FlowEffect}
use Rattle.kt_model.specs.declared.graph.Variable.{Variable}
use Rattle.kt_model.specs.declared.graph.Variable.TheVariants.{Local}
use Rattle.kt_model.specs.NodePaths.{variable_is}
use Rattle.kt_solve.specs.declared.effect.Effect.{Effect}
use Rattle.kt_solve.specs.declared.effect.Transfer.{Transfer}
use Rattle.kt_solve.specs.declared.effect.Transfer.TheVariants.{Keep, CopyFrom}
use Rattle.kt_solve.specs.Flow.{Flow, covers, moved, transfer_after, transfer_of}
use Rattle.kt_init.specs.Transfers.{AddsCopies, AddsEffects, AddsMark, IsOnce, SameFrame, change_in, change_transfer, effect_transfer, marked, side_of, side_transfer, transfer_to, var_at}
use Rattle.kt_init.proofs.Variables.{apart_is, same_is}

transfer_after-push : (xs : List Effect) (e : Effect) (n q : ℕ) (t : Transfer)
    → transfer_after (xs ++ e ∷ []) n q t ≡ cond (covers e n q) (moved e.transfer (q - e.first)) (transfer_after xs n q t)
transfer_after-push [] e n q t = refl
transfer_after-push (x ∷ xs) e n q t = transfer_after-push xs e n q (cond (covers x n q) (moved x.transfer (q - x.first)) t)

either : (a b r : Bool) (x y : Transfer) → cond (a && r) x (cond (b && r) x y) ≡ cond ((b || a) && r) x y
either true true true x y = refl
either true true false x y = refl
either true false true x y = refl
either true false false x y = refl
either false true true x y = refl
either false true false x y = refl
either false false true x y = refl
either false false false x y = refl

ltb-more : (n k : ℕ) → ltb n (k + 1) ≡ (ltb n k || eqb k n)
ltb-more n k = elim (cases_lt n k) [
  | inl l ↦ (let l2 : n < k + 1 = omega arith in rw (lt-ltb n (k + 1) l2, lt-ltb n k l) refl)
  | inr g ↦ elim (cases_eq k n) [
    | inl e ↦ (let l2 : n < k + 1 = omega arith in rw (lt-ltb n (k + 1) l2, le-ltb n k g, eq-eqb k n e) refl)
    | inr e ↦ (let l2 : k + 1 ≤ n = omega arith in rw (le-ltb n (k + 1) l2, le-ltb n k g, ne_eqb k n e) refl)
  ]
]

-- one more node copies
pub copies_step : (k half : ℕ) (p p1 p2 : Flow) → AddsCopies k half p p1
    → p2.effects ≡ p1.effects ++ record { node = k; first = half; count = half; transfer = CopyFrom 0 } ∷ [] → AddsCopies (k + 1) half p p2
copies_step k half p p1 p2 a e n q =
    let r : Bool = leb half q && ltb q (half + half) in
    let t1 : transfer_of p2 n q ≡ cond (eqb k n && (leb half q && ltb q (half + half))) (CopyFrom (0 + (q - half))) (transfer_of p1 n q) =
    ap (λ es. transfer_after es n q Keep) e ∙ transfer_after-push p1.effects (record { node = k; first = half; count = half; transfer = CopyFrom 0 }) n q Keep in
    let t2 : CopyFrom (0 + (q - half)) ≡ CopyFrom (q - half) = ap CopyFrom (omega arith) in
    t1 ∙ ap (λ x. cond (eqb k n && (leb half q && ltb q (half + half))) x (transfer_of p1 n q)) t2 ∙ ap (λ x. cond (eqb k n && (leb half q && ltb q (half + half))) (CopyFrom (q - half)) x) (a n q)
    ∙ either (eqb k n) (ltb n k) r (CopyFrom (q - half)) (transfer_of p n q) ∙ ap (λ c. cond (c && (leb half q && ltb q (half + half))) (CopyFrom (q - half)) (transfer_of p n q)) (sym (ltb-more n k))

one : (a b : ℕ) → (leb a b && ltb b (a + 1)) ≡ eqb a b
one a b = elim (cases_eq a b) [
  | inl e ↦ (let l1 : a ≤ b = omega arith in let l2 : b < a + 1 = omega arith in rw (le-leb a b l1, lt-ltb b (a + 1) l2, eq-eqb a b e) refl)
  | inr e ↦ elim (cases_lt b a) [
    | inl l ↦ rw (lt-leb a b l, ne_eqb a b e) refl
    | inr g ↦ (let l3 : a + 1 ≤ b = omega arith in rw (le-leb a b g, le-ltb b (a + 1) l3, ne_eqb a b e) refl)
  ]
]

moved_to : (b : Bool) (i : ℕ) → moved (transfer_to b) i ≡ transfer_to b
moved_to true i = refl
moved_to false i = refl

-- the transfers after an effect on one pair
push_one : (p q : Flow) (n0 q0 : ℕ) (b : Bool) → q.effects ≡ p.effects ++ record { node = n0; first = q0; count = 1; transfer = transfer_to b } ∷ []
    → (n k : ℕ) → transfer_of q n k ≡ cond (eqb n0 n && eqb q0 k) (transfer_to b) (transfer_of p n k)
push_one p q n0 q0 b e n k =
    ap (λ es. transfer_after es n k Keep) e
    ∙ transfer_after-push p.effects (record { node = n0; first = q0; count = 1; transfer = transfer_to b }) n k Keep
    ∙ ap (λ c. cond (eqb n0 n && c) (moved (transfer_to b) (k - q0)) (transfer_of p n k)) (one q0 k)
    ∙ ap (λ x. cond (eqb n0 n && eqb q0 k) x (transfer_of p n k)) (moved_to b (k - q0))

and_no : (a : Bool) (x y : Transfer) (c : Bool) → c ≡ false → cond (a && c) x y ≡ y
and_no true x y c e = rw e refl
and_no false x y c e = refl

eqb-add : (k a b : ℕ) → eqb (k + a) (k + b) ≡ eqb a b
eqb-add k a b = elim (cases_eq a b) [
  | inl e ↦ (let e2 : k + a ≡ k + b = omega arith in rw (eq-eqb (k + a) (k + b) e2, eq-eqb a b e) refl)
  | inr e ↦ (let e2 : k + a ≢ k + b = omega arith in rw (ne_eqb (k + a) (k + b) e2, ne_eqb a b e) refl)
]

-- a variable's place says which variable it is
place_test : (vars : List Variable) (x : Variable) (k v : ℕ) → IsOnce vars
    → slice_get vars k ≡ Some x → v < length vars → eqb k v ≡ variable_is x (var_at vars v)
place_test vars x k v once s h =
    let hk = slice_get_within vars k x s in
    let at : var_at vars k ≡ x = get_or_from_slice_get vars k x (Local 0) s in
    elim (cases_eq k v) [
      | inl e ↦ eq-eqb k v e ∙ sym (ap (λ y. variable_is x y) (ap (var_at vars) (sym e) ∙ at) ∙ same_is x)
      | inr ne ↦ ne_eqb k v ne ∙ sym (apart_is x (var_at vars v) (λ e. ne (once k v hk h (at ∙ e))))
    ]

-- a variable with a number is marked by two effects
pub mark_there : (vars : List Variable) (node k : ℕ) (x : Variable) (b : Bool) (p p1 p2 : Flow) → IsOnce vars
    → slice_get vars k ≡ Some x
    → p1.effects ≡ p.effects ++ record { node = node; first = k; count = 1; transfer = transfer_to b } ∷ []
    → p2.effects ≡ p1.effects ++ record { node = node; first = length vars + k; count = 1; transfer = transfer_to (not b) } ∷ [] → AddsMark vars node x b p p2
mark_there vars node k x b p p1 p2 once s e1 e2 =
    let hk = slice_get_within vars k x s in
    let t1 = push_one p p1 node k b e1 in
    let t2 = push_one p1 p2 node (length vars + k) (not b) e2 in
    record {
      has = λ n v h.
          (let no : eqb (length vars + k) v ≡ false = ne_eqb _ _ (omega arith) in
          t2 n v ∙ and_no (eqb node n) (transfer_to (not b)) (transfer_of p1 n v) _ no ∙ t1 n v
          ∙ ap (λ c. cond (eqb node n && c) (transfer_to b) (transfer_of p n v)) (place_test vars x k v once s h));
      lacks = λ n v h.
          (let no : eqb k (length vars + v) ≡ false = ne_eqb _ _ (omega arith) in
          t2 n (length vars + v)
          ∙ ap (λ c. cond (eqb node n && c) (transfer_to (not b)) (transfer_of p1 n (length vars + v))) (eqb-add (length vars) k v ∙ place_test vars x k v once s h)
          ∙ ap (λ y. cond (eqb node n && variable_is x (var_at vars v)) (transfer_to (not b)) y) (t1 n (length vars + v) ∙ and_no (eqb node n) (transfer_to b) (transfer_of p n (length vars + v)) _ no));
      above = λ n q l.
          (let no1 : eqb k q ≡ false = ne_eqb _ _ (omega arith) in
          let no2 : eqb (length vars + k) q ≡ false = ne_eqb _ _ (omega arith) in
          t2 n q ∙ and_no (eqb node n) (transfer_to (not b)) (transfer_of p1 n q) _ no2 ∙ t1 n q ∙ and_no (eqb node n) (transfer_to b) (transfer_of p n q) _ no1);
    }

-- a variable without one isn't
pub mark_nowhere : (vars : List Variable) (node : ℕ) (x : Variable) (b : Bool) (p : Flow) → ((k : ℕ) → k < length vars → var_at vars k ≢ x) → AddsMark vars node x b p p
mark_nowhere vars node x b p none = record {
  has = λ n v h. sym (and_no (eqb node n) (transfer_to (side_of true b)) (transfer_of p n v) _ (apart_is x (var_at vars v) (λ e. none v h (sym e))));
  lacks = λ n v h. sym (and_no (eqb node n) (transfer_to (side_of false b)) (transfer_of p n (length vars + v)) _ (apart_is x (var_at vars v) (λ e. none v h (sym e))));
  above = λ n q l. refl;
}

pub frame_step : (p p1 p2 : Flow) (es : List Effect) → SameFrame p p1 → p2 ≡ record p1 { effects = es } → SameFrame p p2
frame_step p p1 p2 es s e = record {
  nodes = ap (λ (f : Flow). f.nodes) e ∙ s.nodes;
  pairs = ap (λ (f : Flow). f.pairs) e ∙ s.pairs;
  entry = ap (λ (f : Flow). f.entry) e ∙ s.entry;
  edges = ap (λ (f : Flow). f.edges) e ∙ s.edges;
}

pub frame_then : (p p1 p2 : Flow) → SameFrame p p1 → SameFrame p1 p2 → SameFrame p p2
frame_then p p1 p2 a b = record {
  nodes = b.nodes ∙ a.nodes;
  pairs = b.pairs ∙ a.pairs;
  entry = b.entry ∙ a.entry;
  edges = b.edges ∙ a.edges;
}

side_transfer-push : (side : Bool) (es : List FlowEffect) (e : FlowEffect) (x : Variable) (t : Transfer) → side_transfer side (es ++ e ∷ []) x t ≡ effect_transfer side e x (side_transfer side es x t)
side_transfer-push side [] e x t = refl
side_transfer-push side (d ∷ es) e x t = side_transfer-push side es e x (effect_transfer side d x t)

side_transfer_more : (side : Bool) (es : List FlowEffect) (i : ℕ) (d : FlowEffect) (x : Variable) (t : Transfer) → i < length es
    → side_transfer side (take (i + 1) es) x t ≡ effect_transfer side (get_or es i d) x (side_transfer side (take i es) x t)
side_transfer_more side es i d x t h = ap (λ ys. side_transfer side ys x t) (take_more es i d h) ∙ side_transfer-push side (take i es) (get_or es i d) x t

-- one more effect, which does nothing to variables
pub effects_skip : (vars : List Variable) (node i : ℕ) (es : List FlowEffect) (d : FlowEffect) (p q : Flow) → i < length es
    → change_in (get_or es i d) ≡ None
    → AddsEffects vars node (take i es) p q → AddsEffects vars node (take (i + 1) es) p q
effects_skip vars node i es d p q h e a =
    let none : (side : Bool) (x : Variable) (t : Transfer) → effect_transfer side (get_or es i d) x t ≡ t = λ side x t. ap (λ o. change_transfer side o x t) e in record {
      has = λ v l. a.has v l ∙ sym (side_transfer_more true es i d (var_at vars v) (transfer_of p node v) h ∙ none true (var_at vars v) _);
      lacks = λ v l. a.lacks v l ∙ sym (side_transfer_more false es i d (var_at vars v) (transfer_of p node (length vars + v)) h ∙ none false (var_at vars v) _);
      above = a.above;
      others = a.others;
    }

marked_here : (side b c : Bool) (node : ℕ) (t : Transfer) → marked side b (eqb node node && c) t ≡ marked side b c t
marked_here side b c node t = ap (λ y. marked side b (y && c) t) (eq-eqb node node refl)

marked_elsewhere : (side b c : Bool) (node n : ℕ) (t : Transfer) → (node ≡ n → ⊥) → marked side b (eqb node n && c) t ≡ t
marked_elsewhere side b c node n t ne = ap (λ y. marked side b (y && c) t) (ne_eqb node n ne)

-- one more effect, which marks a variable
pub effects_mark : (vars : List Variable) (node i : ℕ) (es : List FlowEffect) (d : FlowEffect) (y : Variable) (b : Bool) (p p1 p2 : Flow) → i < length es
    → change_in (get_or es i d) ≡ Some (y, b)
    → AddsEffects vars node (take i es) p p1 → AddsMark vars node y b p1 p2 → AddsEffects vars node (take (i + 1) es) p p2
effects_mark vars node i es d y b p p1 p2 h e a m =
    let is : (side : Bool) (x : Variable) (t : Transfer) → effect_transfer side (get_or es i d) x t ≡ marked side b (variable_is y x) t = λ side x t. ap (λ o. change_transfer side o x t) e in record {
      has = λ v l. m.has node v l ∙ marked_here true b (variable_is y (var_at vars v)) node (transfer_of p1 node v)
          ∙ ap (λ t. marked true b (variable_is y (var_at vars v)) t) (a.has v l)
          ∙ sym (side_transfer_more true es i d (var_at vars v) (transfer_of p node v) h ∙ is true (var_at vars v) _);
      lacks = λ v l. m.lacks node v l ∙ marked_here false b (variable_is y (var_at vars v)) node (transfer_of p1 node (length vars + v))
          ∙ ap (λ t. marked false b (variable_is y (var_at vars v)) t) (a.lacks v l)
          ∙ sym (side_transfer_more false es i d (var_at vars v) (transfer_of p node (length vars + v)) h ∙ is false (var_at vars v) _);
      above = λ q l. m.above node q l ∙ a.above q l;
      others = λ n q ne. elim (cases_lt q (length vars)) [
        | inl low ↦ m.has n q low ∙ marked_elsewhere true b (variable_is y (var_at vars q)) node n (transfer_of p1 n q) ne ∙ a.others n q ne
        | inr mid ↦ elim (cases_lt q (length vars + length vars)) [
          | inl low ↦
              (let z : length vars + (q - length vars) ≡ q = omega arith in
              let l : q - length vars < length vars = omega arith in
              let e : transfer_of p2 n (length vars + (q - length vars)) ≡ transfer_of p1 n (length vars + (q - length vars)) =
              m.lacks n (q - length vars) l ∙ marked_elsewhere false b (variable_is y (var_at vars (q - length vars))) node n (transfer_of p1 n (length vars + (q - length vars))) ne in
              sym (ap (λ k. transfer_of p2 n k) z) ∙ e ∙ ap (λ k. transfer_of p1 n k) z ∙ a.others n q ne)
          | inr high ↦ m.above n q high ∙ a.others n q ne
        ]
      ];
    }

pub no_effects : (vars : List Variable) (node : ℕ) (p : Flow) → AddsEffects vars node [] p p
no_effects vars node p = record {
  has = λ v l. refl;
  lacks = λ v l. refl;
  above = λ q l. refl;
  others = λ n q ne. refl;
}
