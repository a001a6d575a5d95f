-- How what is said of parts is put together.
use Rattle.std.proofs.Common.{◌≡◌, ℕ, ◌&&◌, ◌||◌, Bool, true, false, not, List, [], ◌∷◌, ◌++◌, Option, Some, None, is_some, refl, sym, ap, ◌∙◌, subst, append_assoc, append-nil}
use Rattle.std.proofs.lemmas.Bool.{false≢true}
use Rattle.kt_tree.specs.declared.token.Span.{Span}
use Rattle.kt_tree.specs.declared.ast.body.Expr.{Expr}
use Rattle.kt_tree.specs.declared.ast.part.Assignment.{Assignment}
use Rattle.kt_model.specs.declared.uses.Named.{Named}
use Rattle.kt_model.specs.BodyTrees.{Tree, Trees, Mark, whole, Paren', Empty', First', Piece, Text', Inserted', inserted_of, Seen, seen_optional, expr_tree, assign_tree}
use Rattle.kt_typing.specs.Typing.{TypeContext, LocalTypes, Ways, Each, Then, first_way, rest_ways, Judgement, Judgements, no_trees, in_front, alone, closed, outcome, type_in, finding_in, have_types, judged, all_judged, inside, old_value, last_of, count, first_of, branch_way, joined_claim, unit, has_nothing}
use Rattle.kt_model.specs.Scopes.{is_nothing_head}
use Rattle.kt_model.specs.Classes.{Classes}
use Rattle.kt_model.specs.declared.kinds.KtType.{KtType}
use Rattle.kt_typing.specs.declared.claims.Way.{Way}
use Rattle.kt_typing.specs.declared.claims.Way.TheVariants.{Unvalued, Plain, Inferred, Checked}
use Rattle.kt_typing.specs.declared.claims.Claim.{Claim}
use Rattle.kt_typing.specs.declared.claims.Outcome.{Outcome}
use Rattle.kt_typing.specs.declared.claims.Claim.TheVariants.{Gives, Breaks, Lacks}
use Rattle.kt_infer.specs.Noting.{Keeps, Judges, JudgesAll, JudgesLeading, OpensIn, Opens, OpensAs, Closes, Continues, ContinuesBranch, ContinuesLeading, is_valued, by_last, ends_typed}
use Rattle.kt_infer.specs.Opening.{IsOpened, is_tree, stem_of, enclosed_by, end_of, ends_of, outcome_of, rows_of, rows_behind, rows_within, findings_behind, findings_within}
use Rattle.kt_infer.specs.declared.notes.Notes.{Notes}
use Rattle.kt_infer.specs.declared.notes.Opened.{Opened, Alone, Joined', EmptyBlock, Ended, Absent}

-- the same under other names
pub same_tree : {cx : TypeContext} {a b : Notes} {t u : Tree} {o : Opened} → u ≡ t → Opens cx a b t o → Opens cx a b u o
same_tree {cx} {a} {b} {t} {u} {o} e w = subst (λ r. Opens cx a b r o) (sym e) w

-- in every way, so in those where the value is taken, or not
pub every : {cx : TypeContext} {a b : Notes} {t u : Tree} {o : Opened} (valued : Bool) → u ≡ t → Opens cx a b t o → OpensAs cx valued a b u o
every {cx} {a} {b} {t} {u} {o} valued e p = let w : Opens cx a b u o = same_tree e p in record { in_such_way = λ way k. w.in_way way; such_tree = p.open_tree }

pub same_such : {cx : TypeContext} {a b : Notes} {t u : Tree} {o : Opened} {valued : Bool} → u ≡ t → OpensAs cx valued a b t o → OpensAs cx valued a b u o
same_such {cx} {a} {b} {t} {u} {o} {valued} e w = subst (λ r. OpensAs cx valued a b r o) (sym e) w

-- whether the value is taken, under another name
pub as_valued : {cx : TypeContext} {a b : Notes} {t : Tree} {o : Opened} {v w : Bool} → v ≡ w → OpensAs cx v a b t o → OpensAs cx w a b t o
as_valued {cx} {a} {b} {t} {o} e p = subst (λ v. OpensAs cx v a b t o) e p

pub same_judgements : {a b : Notes} {js ks : Judgements} {k : Bool} → ks ≡ js → JudgesAll a b js k → JudgesAll a b ks k
same_judgements {a} {b} {js} {ks} {k} e w = subst (λ r. JudgesAll a b r k) (sym e) w

-- ---- parts one behind another

-- nothing
pub none : (a : Notes) → JudgesAll a a (no_trees a.locals.entries) true
none a = record { same_types = refl; all_rows = sym (append-nil a.rows); all_findings = sym (append-nil a.findings.items); all_locals = refl }

-- nothing but other types of locals
pub changed : {a b : Notes} {locals : LocalTypes} → Keeps a b locals → JudgesAll a b (no_trees locals) true
changed {a} {b} h = record {
  same_types = refl;
  all_rows = h.kept_rows ∙ sym (append-nil a.rows);
  all_findings = h.kept_findings ∙ sym (append-nil a.findings.items);
  all_locals = h.new_locals;
}

typed_first : (f g : Option KtType) (k : Bool) (fs : List (Option KtType)) → f ≡ g → k ≡ have_types fs → (is_some f && k) ≡ have_types (g ∷ fs)
typed_first f (Some t) k fs e h = ap (λ r. is_some r && k) e ∙ h
typed_first f None k fs e h = ap (λ r. is_some r && k) e

-- a part in front of others
pub front : {a b c : Notes} {j : Judgement} {js : Judgements} {f : Option KtType} {k : Bool} → Judges a b j f → JudgesAll b c js k → JudgesAll a c (in_front j js) (is_some f && k)
front {a} {b} {c} {j} {js} {f} {k} p q = record {
  same_types = typed_first f j.found k js.each_found p.same_type q.same_types;
  all_rows = q.all_rows ∙ ap (λ l. l ++ js.rows) p.more_rows ∙ append_assoc a.rows j.rows js.rows;
  all_findings = q.all_findings ∙ ap (λ l. l ++ js.findings) p.more_findings ∙ append_assoc a.findings.items j.findings js.findings;
  all_locals = q.all_locals;
}

-- a part alone
pub only : {a b : Notes} {j : Judgement} {f : Option KtType} → Judges a b j f → JudgesAll a b (alone j) (is_some f)
only {a} {b} {j} {f} p = record { same_types = typed_alone f j.found p.same_type; all_rows = p.more_rows; all_findings = p.more_findings; all_locals = p.same_locals }
  where
    typed_alone : (f g : Option KtType) → f ≡ g → is_some f ≡ have_types (g ∷ [])
    typed_alone f (Some t) e = ap is_some e
    typed_alone f None e = ap is_some e

-- a tree in front of others
pub first : (cx : TypeContext) {a b c : Notes} (t : Tree) (rest : Trees) {f : Option KtType} {k : Bool} (ways : Ways)
    → Judges a b (judged cx (first_way ways) a.locals.entries t) f → JudgesAll b c (all_judged cx (rest_ways ways) b.locals.entries rest) k
    → JudgesAll a c (all_judged cx ways a.locals.entries (First' t rest)) (is_some f && k)
unfolding judged
first cx {a} {b} {c} t rest {f} {k} ways p q =
    front p (same_judgements (ap (λ l. all_judged cx (rest_ways ways) l rest) (sym p.same_locals)) q)

and_true : (k : Bool) → (k && true) ≡ k
and_true true = refl
and_true false = refl

pub same_complete_of : {a b : Notes} {js : Judgements} {k m : Bool} → m ≡ k → JudgesAll a b js k → JudgesAll a b js m
same_complete_of {a} {b} {js} e w = subst (λ r. JudgesAll a b js r) (sym e) w

pub one : (cx : TypeContext) {a b : Notes} (t : Tree) {f : Option KtType} (ways : Ways)
    → Judges a b (judged cx (first_way ways) a.locals.entries t) f → JudgesAll a b (all_judged cx ways a.locals.entries (First' t Empty')) (is_some f)
unfolding judged
one cx {a} {b} t {f} ways p = same_complete_of (sym (and_true (is_some f))) (first cx t Empty' ways p (none b))

pub two : (cx : TypeContext) {a b c : Notes} (t u : Tree) {f g : Option KtType} (left right : Way)
    → Judges a b (judged cx left a.locals.entries t) f → Judges b c (judged cx right b.locals.entries u) g
    → JudgesAll a c (all_judged cx (Then left (Each right)) a.locals.entries (First' t (First' u Empty'))) (is_some f && is_some g)
two cx t u left right p q = first cx t (First' u Empty') (Then left (Each right)) p (one cx u (Each right) q)

-- ---- a tree is opened, then ended in its way

abbrev is_empty : List (Option KtType) → Bool
is_empty [] = true
is_empty (t ∷ ts) = false

pub no_end : {t : Option KtType} → t ∷ [] ≡ [] → ⊥
no_end e = false≢true (ap is_empty e)

pub typed_end : (o : Opened) (r : Outcome) (f : Option KtType) → f ∷ [] ≡ end_of o r → f ≡ type_in r
typed_end (Alone stem claim) r f e = ap first_of e
typed_end (Joined' stem u x between v y) r f e = ap first_of e
typed_end (EmptyBlock at) r f e = ap first_of e
typed_end (Ended found) r f e = ap first_of e
typed_end Absent r f e = absurd (no_end e)

pub ends : {cx : TypeContext} {a b c : Notes} {t : Tree} {o : Opened} {f : Option KtType} {valued : Bool} (way : Way) → is_valued way ≡ valued
    → OpensAs cx valued a b t o → Closes cx.classes way b c o f → Judges a c (judged cx way a.locals.entries t) f
ends {cx} {a} {b} {c} {t} {o} way k p q =
    let i : OpensIn a b (judged cx way a.locals.entries t) cx.classes way o = p.in_such_way way k in
    record {
      same_type = q.closed_type ∙ sym (typed_end o (outcome_of cx.classes way o) (judged cx way a.locals.entries t).found i.open_type);
      more_rows = q.closed_notes.added_rows ∙ sym i.open_rows;
      more_findings = q.closed_notes.added_findings ∙ sym i.open_findings;
      same_locals = q.closed_notes.kept_locals ∙ i.open_locals;
    }

-- the same in a way under another name
pub ends_in : {cx : TypeContext} {a b c : Notes} {t : Tree} {o : Opened} {f : Option KtType} {valued : Bool} (way : Way) → is_valued way ≡ valued → {w : Way} → w ≡ way
    → OpensAs cx valued a b t o → Closes cx.classes w b c o f → Judges a c (judged cx way a.locals.entries t) f
ends_in {cx} {a} {b} {c} {t} {o} {f} way k e p q = ends way k p (subst (λ v. Closes cx.classes v b c o f) e q)

pub judges_in : (cx : TypeContext) {a b : Notes} (t : Tree) {f : Option KtType} (way : Way) {w : Way} → w ≡ way → Judges a b (judged cx w a.locals.entries t) f → Judges a b (judged cx way a.locals.entries t) f
judges_in cx {a} {b} t {f} way e p = subst (λ v. Judges a b (judged cx v a.locals.entries t) f) e p

-- a part behind a reference
pub judges_of : (cx : TypeContext) {a b : Notes} (uses : ℕ → Named) (way : Way) {x y : Expr} {f : Option KtType} → y ≡ x → Judges a b (judged cx way a.locals.entries (expr_tree uses y)) f → Judges a b (judged cx way a.locals.entries (expr_tree uses x)) f
judges_of cx {a} {b} uses way {x} {y} {f} e p = subst (λ z. Judges a b (judged cx way a.locals.entries (expr_tree uses z)) f) e p

-- two parts behind references
pub parts_of : (uses : ℕ → Named) (make : Tree → Tree → Tree) {a b x y : Expr} → x ≡ a → y ≡ b → make (expr_tree uses a) (expr_tree uses b) ≡ make (expr_tree uses x) (expr_tree uses y)
parts_of uses make {a} {b} {x} {y} e f = ap (λ z. make (expr_tree uses z) (expr_tree uses b)) (sym e) ∙ ap (λ z. make (expr_tree uses x) (expr_tree uses z)) (sym f)

pub opened_if : {o : Opened} {n : ℕ} {at : Span} {m k : Bool} {claim : Claim} → m ≡ k → IsOpened o n at m claim → IsOpened o n at k claim
opened_if {o} {n} {at} {m} {k} {claim} e p = subst (λ b. IsOpened o n at b claim) e p

pub same_keeps : {a b : Notes} {l m : LocalTypes} → l ≡ m → Keeps a b l → Keeps a b m
same_keeps {a} {b} e p = subst (λ l. Keeps a b l) e p

-- a tree in a way, by its parts and what it is where they have types
pub opens_in : (cx : TypeContext) {a b : Notes} (t : Tree) {o : Opened} {complete : Bool} {made : Claim} (n : Mark) (parts : Judgements) (claim : Claim) (way : Way)
    → judged cx way a.locals.entries t ≡ closed cx way n parts claim
    → JudgesAll a b parts complete → made ≡ claim → IsOpened o n.number n.span complete made → OpensIn a b (judged cx way a.locals.entries t) cx.classes way o
opens_in cx {a} {b} t {o} {complete} {made} n parts claim way form p m q =
    subst (λ z. OpensIn a b (judged cx way a.locals.entries t) cx.classes way z) (sym q) alone_in
  where
    same : outcome cx.classes way n.span complete made ≡ outcome cx.classes way n.span (have_types parts.each_found) claim
    same = ap (outcome cx.classes way n.span complete) m ∙ ap (λ b. outcome cx.classes way n.span b claim) p.same_types

    alone_in : OpensIn a b (judged cx way a.locals.entries t) cx.classes way (Alone (stem_of n.number n.span complete) made)
    alone_in = record {
      open_type = ap (λ j. j.found ∷ []) form ∙ ap (λ r. type_in r ∷ []) (sym same);
      open_rows =
          ap (λ j. a.rows ++ j.rows) form
          ∙ sym (append_assoc a.rows parts.rows (rows_of (n.number ∷ []) (type_in (outcome cx.classes way n.span (have_types parts.each_found) claim))))
          ∙ ap (λ l. l ++ rows_of (n.number ∷ []) (type_in (outcome cx.classes way n.span (have_types parts.each_found) claim))) (sym p.all_rows)
          ∙ ap (λ r. b.rows ++ rows_of (n.number ∷ []) (type_in r)) (sym same);
      open_findings =
          ap (λ j. a.findings.items ++ j.findings) form
          ∙ sym (append_assoc a.findings.items parts.findings (finding_in (outcome cx.classes way n.span (have_types parts.each_found) claim)))
          ∙ ap (λ l. l ++ finding_in (outcome cx.classes way n.span (have_types parts.each_found) claim)) (sym p.all_findings)
          ∙ ap (λ r. b.findings.items ++ finding_in r) (sym same);
      open_locals = p.all_locals ∙ ap (λ j. j.locals) (sym form);
    }

-- the same in every way
pub opens : (cx : TypeContext) {a b : Notes} (t : Tree) {o : Opened} {complete : Bool} {made : Claim} (n : Mark) (parts : Judgements) (claim : Claim)
    → ((way : Way) → judged cx way a.locals.entries t ≡ closed cx way n parts claim)
    → JudgesAll a b parts complete → made ≡ claim → IsOpened o n.number n.span complete made → Opens cx a b t o
opens cx t n parts claim form p m q = record { in_way = λ way. opens_in cx t n parts claim way (form way) p m q; open_tree = ap is_tree q }

-- ---- parentheses

same_inside : (classes : Classes) (way : Way) (at : Span) (k : Bool) (claim : Claim) → outcome classes (inside way) at k claim ≡ outcome classes way at k claim
same_inside classes Unvalued at true (Gives d) = refl
same_inside classes Unvalued at true (Breaks rule place) = refl
same_inside classes Unvalued at true Lacks = refl
same_inside classes Unvalued at false claim = refl
same_inside classes Plain at k claim = refl
same_inside classes Inferred at k claim = refl
same_inside classes (Checked t) at k claim = refl

rows_of-append : (xs ys : List ℕ) (found : Option KtType) → rows_of (xs ++ ys) found ≡ rows_of xs found ++ rows_of ys found
rows_of-append [] ys found = refl
rows_of-append (x ∷ xs) ys found = ap (λ l. record { tree = x; found = found } ∷ l) (rows_of-append xs ys found)

inside_valued : (way : Way) → is_valued (inside way) ≡ true
inside_valued Unvalued = refl
inside_valued Plain = refl
inside_valued Inferred = refl
inside_valued (Checked t) = refl

-- one more pair of parentheses around a tree

inner_way : (way : Way) → branch_way (inside way) ≡ branch_way way
inner_way Unvalued = refl
inner_way Plain = refl
inner_way Inferred = refl
inner_way (Checked t) = refl

inner_claim : (classes : Classes) (way : Way) (n : Mark) (xs ys : List (Option KtType)) → joined_claim classes (inside way) n xs ys ≡ joined_claim classes way n xs ys
inner_claim classes Unvalued n (Some x ∷ xs) (Some y ∷ ys) = refl
inner_claim classes Unvalued n (Some x ∷ xs) (None ∷ ys) = refl
inner_claim classes Unvalued n (Some x ∷ xs) [] = refl
inner_claim classes Unvalued n (None ∷ xs) (y ∷ ys) = refl
inner_claim classes Unvalued n (None ∷ xs) [] = refl
inner_claim classes Unvalued n [] ys = refl
inner_claim classes Plain n xs ys = refl
inner_claim classes Inferred n xs ys = refl
inner_claim classes (Checked t) n xs ys = refl

inner_outcome : (classes : Classes) (way : Way) (o : Opened) (k : ℕ) → outcome_of classes (inside way) o ≡ outcome_of classes way (enclosed_by k o)
inner_outcome classes way (Alone stem claim) k = same_inside classes way stem.span stem.complete claim
inner_outcome classes way (Joined' stem u x between v y) k =
    let made = λ (v w : Way). outcome classes Plain stem.span (stem.complete && have_types (ends_of classes w x ++ ends_of classes w y)) (joined_claim classes v (whole stem.number stem.span) (ends_of classes w x) (ends_of classes w y)) in
    ap (made (inside way)) (inner_way way)
    ∙ ap (outcome classes Plain stem.span (stem.complete && have_types (ends_of classes (branch_way way) x ++ ends_of classes (branch_way way) y)))
    (inner_claim classes way (whole stem.number stem.span) (ends_of classes (branch_way way) x) (ends_of classes (branch_way way) y))
inner_outcome classes way (EmptyBlock at) k = same_inside classes way at true (Gives unit)
inner_outcome classes way (Ended found) k = refl
inner_outcome classes way Absent k = refl

inner_end : (o : Opened) (k : ℕ) (r : Outcome) → end_of o r ≡ end_of (enclosed_by k o) r
inner_end (Alone stem claim) k r = refl
inner_end (Joined' stem u x between v y) k r = refl
inner_end (EmptyBlock at) k r = refl
inner_end (Ended found) k r = refl
inner_end Absent k r = refl

inner_tree : (o : Opened) (k : ℕ) → is_tree (enclosed_by k o) ≡ is_tree o
inner_tree (Alone stem claim) k = refl
inner_tree (Joined' stem u x between v y) k = refl
inner_tree (EmptyBlock at) k = refl
inner_tree (Ended found) k = refl
inner_tree Absent k = refl

-- a row behind four lists
behind_four : {A : Type 0} (xs ys zs us vs : List A) → (xs ++ (ys ++ (zs ++ us))) ++ vs ≡ xs ++ (ys ++ (zs ++ (us ++ vs)))
behind_four xs ys zs us vs =
    append_assoc xs (ys ++ (zs ++ us)) vs ∙ ap (λ l. xs ++ l) (append_assoc ys (zs ++ us) vs ∙ ap (λ l. ys ++ l) (append_assoc zs us vs))

inner_rows : (classes : Classes) (way : Way) (o : Opened) (k : ℕ) (f : Option KtType) → is_tree o ≡ true → f ∷ [] ≡ end_of o (outcome_of classes (inside way) o)
    → rows_behind classes (inside way) o ++ rows_of (k ∷ []) f ≡ rows_behind classes way (enclosed_by k o)
inner_rows classes way (Alone stem claim) k f h e =
    let r = outcome_of classes (inside way) (Alone stem claim) in
    ap (λ g. rows_of (stem.number ∷ stem.parens) (type_in r) ++ rows_of (k ∷ []) g) (typed_end (Alone stem claim) r f e)
    ∙ sym (rows_of-append (stem.number ∷ stem.parens) (k ∷ []) (type_in r))
    ∙ ap (λ q. rows_of (stem.number ∷ (stem.parens ++ k ∷ [])) (type_in q)) (inner_outcome classes way (Alone stem claim) k)
inner_rows classes way (Joined' stem u x between v y) k f h e =
    let r = outcome_of classes (inside way) (Joined' stem u x between v y) in
    let own = λ (w : Way) (q : Outcome). rows_within classes w x ++ (between.rows ++ (rows_within classes w y ++ rows_of (stem.number ∷ (stem.parens ++ k ∷ [])) (type_in q))) in
    behind_four (rows_within classes (branch_way (inside way)) x) between.rows (rows_within classes (branch_way (inside way)) y) (rows_of (stem.number ∷ stem.parens) (type_in r)) (rows_of (k ∷ []) f)
    ∙ ap (λ l. rows_within classes (branch_way (inside way)) x ++ (between.rows ++ (rows_within classes (branch_way (inside way)) y ++ l)))
    (ap (λ g. rows_of (stem.number ∷ stem.parens) (type_in r) ++ rows_of (k ∷ []) g) (typed_end (Joined' stem u x between v y) r f e)
    ∙ sym (rows_of-append (stem.number ∷ stem.parens) (k ∷ []) (type_in r)))
    ∙ ap (λ w. own w r) (inner_way way)
    ∙ ap (own (branch_way way)) (inner_outcome classes way (Joined' stem u x between v y) k)
inner_rows classes way (EmptyBlock at) k f h e = absurd (false≢true h)
inner_rows classes way (Ended found) k f h e = absurd (false≢true h)
inner_rows classes way Absent k f h e = absurd (false≢true h)

inner_findings : (classes : Classes) (way : Way) (o : Opened) (k : ℕ) → findings_behind classes (inside way) o ≡ findings_behind classes way (enclosed_by k o)
inner_findings classes way (Alone stem claim) k = ap finding_in (inner_outcome classes way (Alone stem claim) k)
inner_findings classes way (Joined' stem u x between v y) k =
    let own = λ (w : Way) (q : Outcome). findings_within classes w x ++ (between.findings.items ++ (findings_within classes w y ++ finding_in q)) in
    ap (λ w. own w (outcome_of classes (inside way) (Joined' stem u x between v y))) (inner_way way)
    ∙ ap (own (branch_way way)) (inner_outcome classes way (Joined' stem u x between v y) k)
inner_findings classes way (EmptyBlock at) k = ap finding_in (inner_outcome classes way (EmptyBlock at) k)
inner_findings classes way (Ended found) k = refl
inner_findings classes way Absent k = refl

pub encloses : {cx : TypeContext} {a b : Notes} {t : Tree} {o q : Opened} (n : Mark) {k : ℕ} → OpensAs cx true a b t o → n.number ≡ k → q ≡ enclosed_by k o → Opens cx a b (Paren' n t) q
unfolding judged
encloses {cx} {a} {b} {t} {o} {q} n {k} p is e = subst (λ z. Opens cx a b (Paren' n t) z) (sym e) all_ways
  where
    in_way : (way : Way) → OpensIn a b (judged cx way a.locals.entries (Paren' n t)) cx.classes way (enclosed_by k o)
    in_way way =
        let i : OpensIn a b (judged cx (inside way) a.locals.entries t) cx.classes (inside way) o = p.in_such_way (inside way) (inside_valued way) in
        let inner = judged cx (inside way) a.locals.entries t in
        record {
          open_type = i.open_type ∙ inner_end o k (outcome_of cx.classes (inside way) o) ∙ ap (end_of (enclosed_by k o)) (inner_outcome cx.classes way o k);
          open_rows =
              ap (λ m. a.rows ++ (inner.rows ++ rows_of (m ∷ []) inner.found)) is
              ∙ sym (append_assoc a.rows inner.rows (rows_of (k ∷ []) inner.found))
              ∙ ap (λ l. l ++ rows_of (k ∷ []) inner.found) i.open_rows
              ∙ append_assoc b.rows (rows_behind cx.classes (inside way) o) (rows_of (k ∷ []) inner.found)
              ∙ ap (λ l. b.rows ++ l) (inner_rows cx.classes way o k inner.found p.such_tree i.open_type);
          open_findings = i.open_findings ∙ ap (λ l. b.findings.items ++ l) (inner_findings cx.classes way o k);
          open_locals = i.open_locals;
        }

    all_ways : Opens cx a b (Paren' n t) (enclosed_by k o)
    all_ways = record { in_way = in_way; open_tree = inner_tree o k ∙ p.such_tree }

-- ---- loops: what is left completes the whole

pub begin : (a : Notes) (whole : Judgements) → Continues a a whole whole true
begin a whole = record { whole_types = refl; whole_rows = refl; whole_findings = refl; whole_locals = refl }

and_assoc : (a b c : Bool) → (a && (b && c)) ≡ ((a && b) && c)
and_assoc true b c = refl
and_assoc false b c = refl

typed_step : (f g : Option KtType) (fs : List (Option KtType)) (k : Bool) → f ≡ g → (k && have_types (g ∷ fs)) ≡ ((k && is_some f) && have_types fs)
typed_step f (Some t) fs k e = ap (λ b. b && have_types fs) (sym (and_true k)) ∙ ap (λ r. (k && is_some r) && have_types fs) (sym e)
typed_step f None fs k e = and_false k ∙ ap (λ r. (k && is_some r) && have_types fs) (sym e)
  where
    and_false : (k : Bool) → (k && false) ≡ ((k && false) && have_types fs)
    and_false true = refl
    and_false false = refl

pub step : (cx : TypeContext) {a b c : Notes} {whole left : Judgements} (t : Tree) (rest : Trees) {f : Option KtType} {k : Bool} (ways : Ways) {m : Bool}
    → left ≡ all_judged cx ways b.locals.entries (First' t rest)
    → Continues a b whole left k → Judges b c (judged cx (first_way ways) b.locals.entries t) f → m ≡ (k && is_some f) → Continues a c whole (all_judged cx (rest_ways ways) c.locals.entries rest) m
unfolding judged
step cx {a} {b} {c} {whole} {left} t rest {f} {k} ways {m} e p q g =
    let j = judged cx (first_way ways) b.locals.entries t in
    let later : all_judged cx (rest_ways ways) j.locals rest ≡ all_judged cx (rest_ways ways) c.locals.entries rest = ap (λ l. all_judged cx (rest_ways ways) l rest) (sym q.same_locals) in
    let here : left ≡ in_front j (all_judged cx (rest_ways ways) c.locals.entries rest) = e ∙ ap (in_front j) later in
    let js = all_judged cx (rest_ways ways) c.locals.entries rest in
    record {
      whole_types = p.whole_types ∙ ap (λ l. k && have_types l.each_found) here ∙ typed_step f j.found js.each_found k q.same_type ∙ ap (λ r. r && have_types js.each_found) (sym g);
      whole_rows = p.whole_rows ∙ ap (λ l. b.rows ++ l.rows) here ∙ sym (append_assoc b.rows j.rows js.rows) ∙ ap (λ l. l ++ js.rows) (sym q.more_rows);
      whole_findings =
          p.whole_findings ∙ ap (λ l. b.findings.items ++ l.findings) here ∙ sym (append_assoc b.findings.items j.findings js.findings) ∙ ap (λ l. l ++ js.findings) (sym q.more_findings);
      whole_locals = p.whole_locals ∙ ap (λ l. l.locals) here;
    }

pub finish : {a b : Notes} {whole left : Judgements} {k : Bool} → left ≡ no_trees b.locals.entries → Continues a b whole left k → JudgesAll a b whole k
finish {a} {b} {whole} {left} {k} e p = record {
  same_types = sym (p.whole_types ∙ ap (λ l. k && have_types l.each_found) e ∙ and_true k);
  all_rows = sym (p.whole_rows ∙ ap (λ l. b.rows ++ l.rows) e ∙ append-nil b.rows);
  all_findings = sym (p.whole_findings ∙ ap (λ l. b.findings.items ++ l.findings) e ∙ append-nil b.findings.items);
  all_locals = sym (p.whole_locals ∙ ap (λ l. l.locals) e);
}

pub finish_trees : (cx : TypeContext) {a b : Notes} {whole left : Judgements} {k : Bool} (ways : Ways) → left ≡ all_judged cx ways b.locals.entries Empty' → Continues a b whole left k → JudgesAll a b whole k
unfolding judged
finish_trees cx ways e p = finish e p

-- the statements of a branch, of which the last alone counts as a part
last_typed : (fs : List (Option KtType)) → have_types (last_of fs) ≡ ends_typed true fs
last_typed [] = refl
last_typed (Some t ∷ []) = refl
last_typed (None ∷ []) = refl
last_typed (f ∷ g ∷ fs) = last_typed (g ∷ fs)

pub begin_branch : (a : Notes) (whole : Judgements) → ContinuesBranch a a whole whole true
begin_branch a whole = record { last_type = last_typed whole.each_found; branch_rows = refl; branch_findings = refl; branch_locals = refl }

passed : {A : Type 0} (b r rest : List A) {before l c : List A} → before ≡ b ++ l → l ≡ r ++ rest → c ≡ b ++ r → before ≡ c ++ rest
passed b r rest p e q = p ∙ ap (λ x. b ++ x) e ∙ sym (append_assoc b r rest) ∙ ap (λ x. x ++ rest) (sym q)

pub step_branch : (cx : TypeContext) {a b c : Notes} {whole left : Judgements} (t : Tree) (rest : Trees) {f : Option KtType} {k m : Bool}
    → left ≡ all_judged cx (Each Unvalued) b.locals.entries (First' t rest)
    → ContinuesBranch a b whole left k → Judges b c (judged cx Unvalued b.locals.entries t) f → m ≡ is_some f
    → ContinuesBranch a c whole (all_judged cx (Each Unvalued) c.locals.entries rest) m
unfolding judged
step_branch cx {a} {b} {c} {whole} {left} t rest {f} {k} {m} e p q g =
    let j = judged cx Unvalued b.locals.entries t in
    let js = all_judged cx (Each Unvalued) c.locals.entries rest in
    let here : left ≡ in_front j js = e ∙ ap (λ l. in_front j (all_judged cx (Each Unvalued) l rest)) (sym q.same_locals) in
    record {
      last_type = p.last_type ∙ ap (λ l. ends_typed k l.each_found) here ∙ ap (λ r. ends_typed r js.each_found) (sym (g ∙ ap is_some q.same_type));
      branch_rows = passed b.rows j.rows js.rows p.branch_rows (ap (λ l. l.rows) here) q.more_rows;
      branch_findings = passed b.findings.items j.findings js.findings p.branch_findings (ap (λ l. l.findings) here) q.more_findings;
      branch_locals = p.branch_locals ∙ ap (λ l. l.locals) here;
    }

pub finish_branch : (cx : TypeContext) {a b : Notes} {whole left : Judgements} {k : Bool} → left ≡ all_judged cx (Each Unvalued) b.locals.entries Empty'
    → ContinuesBranch a b whole left k → JudgesAll a b (by_last whole) k
unfolding judged
finish_branch cx {a} {b} {whole} {left} {k} e p = record {
  same_types = sym (p.last_type ∙ ap (λ l. ends_typed k l.each_found) e);
  all_rows = sym (p.branch_rows ∙ ap (λ l. b.rows ++ l.rows) e ∙ append-nil b.rows);
  all_findings = sym (p.branch_findings ∙ ap (λ l. b.findings.items ++ l.findings) e ∙ append-nil b.findings.items);
  all_locals = sym (p.branch_locals ∙ ap (λ l. l.locals) e);
}

-- the statements before the last of a block
pub begin_leading : (a : Notes) (whole : Judgements) → ContinuesLeading a a whole whole false
begin_leading a whole = record { any_nothing = refl; more_leading_rows = refl; more_leading_findings = refl; more_leading_locals = refl }

pub either_assoc : (a b c : Bool) → (a || (b || c)) ≡ ((a || b) || c)
either_assoc true b c = refl
either_assoc false b c = refl

pub either_false : (a : Bool) → (a || false) ≡ a
either_false true = refl
either_false false = refl

-- one of type `Nothing` is the first, or one of the others
pub nothing_first : (f : Option KtType) (fs : List (Option KtType)) → has_nothing (f ∷ fs) ≡ (has_nothing (f ∷ []) || has_nothing fs)
nothing_first None fs = refl
nothing_first (Some t) fs = ap (λ b. b || has_nothing fs) (sym (either_false (is_nothing_head t.head && not t.nullable)))

pub step_leading : (cx : TypeContext) {a b c : Notes} {whole left : Judgements} (t : Tree) (rest : Trees) {f : Option KtType} {k m : Bool}
    → left ≡ all_judged cx (Each Unvalued) b.locals.entries (First' t rest)
    → ContinuesLeading a b whole left k → Judges b c (judged cx Unvalued b.locals.entries t) f → m ≡ (k || has_nothing (f ∷ []))
    → ContinuesLeading a c whole (all_judged cx (Each Unvalued) c.locals.entries rest) m
unfolding judged
step_leading cx {a} {b} {c} {whole} {left} t rest {f} {k} {m} e p q g =
    let j = judged cx Unvalued b.locals.entries t in
    let js = all_judged cx (Each Unvalued) c.locals.entries rest in
    let here : left ≡ in_front j js = e ∙ ap (λ l. in_front j (all_judged cx (Each Unvalued) l rest)) (sym q.same_locals) in
    record {
      any_nothing =
          p.any_nothing ∙ ap (λ l. k || has_nothing l.each_found) here ∙ ap (λ b. k || b) (nothing_first j.found js.each_found)
          ∙ either_assoc k (has_nothing (j.found ∷ [])) (has_nothing js.each_found)
          ∙ ap (λ r. r || has_nothing js.each_found) (ap (λ r. k || has_nothing (r ∷ [])) (sym q.same_type) ∙ sym g);
      more_leading_rows = passed b.rows j.rows js.rows p.more_leading_rows (ap (λ l. l.rows) here) q.more_rows;
      more_leading_findings = passed b.findings.items j.findings js.findings p.more_leading_findings (ap (λ l. l.findings) here) q.more_findings;
      more_leading_locals = p.more_leading_locals ∙ ap (λ l. l.locals) here;
    }

pub finish_leading : (cx : TypeContext) {a b : Notes} {whole left : Judgements} {k : Bool} → left ≡ all_judged cx (Each Unvalued) b.locals.entries Empty'
    → ContinuesLeading a b whole left k → JudgesLeading a b whole k
unfolding judged
finish_leading cx {a} {b} {whole} {left} {k} e p = record {
  same_nothing = sym (p.any_nothing ∙ ap (λ l. k || has_nothing l.each_found) e ∙ either_false k);
  leading_rows = sym (p.more_leading_rows ∙ ap (λ l. b.rows ++ l.rows) e ∙ append-nil b.rows);
  leading_findings = sym (p.more_leading_findings ∙ ap (λ l. b.findings.items ++ l.findings) e ∙ append-nil b.findings.items);
  leading_locals = sym (p.more_leading_locals ∙ ap (λ l. l.locals) e);
}

-- no statement before the last
pub no_leading : (cx : TypeContext) (a : Notes) → JudgesLeading a a (all_judged cx (Each Unvalued) a.locals.entries Empty') false
unfolding judged
no_leading cx a = record { same_nothing = refl; leading_rows = sym (append-nil a.rows); leading_findings = sym (append-nil a.findings.items); leading_locals = refl }

-- one statement, or none, is its own last
pub one_branch : (cx : TypeContext) {a b : Notes} (t : Tree) {f : Option KtType} (ways : Ways)
    → Judges a b (judged cx (first_way ways) a.locals.entries t) f → JudgesAll a b (by_last (all_judged cx ways a.locals.entries (First' t Empty'))) (is_some f)
unfolding judged
one_branch cx {a} {b} t {f} ways p = one cx t ways p

pub no_branch : (cx : TypeContext) (a : Notes) (ways : Ways) → JudgesAll a a (by_last (all_judged cx ways a.locals.entries Empty')) true
unfolding judged
no_branch cx a ways = none a

-- the statements of a branch under other names
pub same_branch : (cx : TypeContext) {a b : Notes} {ts us : Trees} {k : Bool} → us ≡ ts → JudgesAll a b (by_last (all_judged cx (Each Unvalued) a.locals.entries ts)) k → JudgesAll a b (by_last (all_judged cx (Each Unvalued) a.locals.entries us)) k
same_branch cx {a} {b} {ts} {us} e p = same_judgements (ap (λ l. by_last (all_judged cx (Each Unvalued) a.locals.entries l)) e) p

pub same_leading : (cx : TypeContext) {a b : Notes} {ts us : Trees} {k : Bool} → us ≡ ts → JudgesLeading a b (all_judged cx (Each Unvalued) a.locals.entries ts) k → JudgesLeading a b (all_judged cx (Each Unvalued) a.locals.entries us) k
same_leading cx {a} {b} {ts} {us} {k} e p = subst (λ r. JudgesLeading a b (all_judged cx (Each Unvalued) a.locals.entries r) k) (sym e) p

pub nothing : (cx : TypeContext) (a : Notes) (ways : Ways) → JudgesAll a a (all_judged cx ways a.locals.entries Empty') true
unfolding judged
nothing cx a ways = none a

have_alone : (g : Option KtType) → have_types (g ∷ []) ≡ is_some g
have_alone (Some t) = refl
have_alone None = refl

-- what one part of a string inserts, in front of others
pub piece_step : (cx : TypeContext) {a b c : Notes} {all left : Judgements} (p : Piece) (ps : List Piece) {f k m : Bool} (way : Way)
    → left ≡ all_judged cx (Each way) b.locals.entries (inserted_of (p ∷ ps))
    → Continues a b all left k → JudgesAll b c (all_judged cx (Each way) b.locals.entries (inserted_of (p ∷ []))) f → m ≡ (k && f)
    → Continues a c all (all_judged cx (Each way) c.locals.entries (inserted_of ps)) m
unfolding judged
piece_step cx {a} {b} {c} {all} {left} (Text' bytes) ps {f} {k} {m} way e h q g =
    let same : left ≡ all_judged cx (Each way) c.locals.entries (inserted_of ps) = e ∙ ap (λ l. all_judged cx (Each way) l (inserted_of ps)) (sym q.all_locals) in
    let js = all_judged cx (Each way) c.locals.entries (inserted_of ps) in
    record {
      whole_types = h.whole_types ∙ ap (λ l. k && have_types l.each_found) same ∙ ap (λ r. r && have_types js.each_found) (sym (g ∙ ap (λ r. k && r) q.same_types ∙ and_true k));
      whole_rows = h.whole_rows ∙ ap (λ l. b.rows ++ l.rows) same ∙ ap (λ r. r ++ js.rows) (sym (q.all_rows ∙ append-nil b.rows));
      whole_findings = h.whole_findings ∙ ap (λ l. b.findings.items ++ l.findings) same ∙ ap (λ r. r ++ js.findings) (sym (q.all_findings ∙ append-nil b.findings.items));
      whole_locals = h.whole_locals ∙ ap (λ l. l.locals) same;
    }
piece_step cx {a} {b} {c} {all} {left} (Inserted' t) ps {f} {k} {m} way e h q g =
    let j = judged cx way b.locals.entries t in
    let turn : Judges b c j j.found = record {
      same_type = refl;
      more_rows = q.all_rows ∙ ap (λ l. b.rows ++ l) (append-nil j.rows);
      more_findings = q.all_findings ∙ ap (λ l. b.findings.items ++ l) (append-nil j.findings);
      same_locals = q.all_locals;
    } in
    step cx t (inserted_of ps) (Each way) e h turn (g ∙ ap (λ r. k && r) (q.same_types ∙ have_alone j.found))

-- a value that may not be written
pub few : (claims : ℕ → Claim) (made : Claim) (w : Option Seen) → made ≡ claims 0 → made ≡ claims 1 → made ≡ claims (count (seen_optional w))
few claims made None e f = e
few claims made (Some s) e f = f

-- what a compound assignment reads and its operand, under other names
pub same_old : (cx : TypeContext) {a b : Notes} (word : Span) {w way : Way} {old local : Option (Option KtType)} {f : Option KtType} → w ≡ way → local ≡ old
    → Judges a b (old_value cx w word local a.locals.entries) f → Judges a b (old_value cx way word old a.locals.entries) f
same_old cx {a} {b} word {w} {way} {old} {local} {f} e g p =
    subst (λ v. Judges a b (old_value cx v word old a.locals.entries) f) e (subst (λ l. Judges a b (old_value cx w word l a.locals.entries) f) g p)

pub same_ways : (cx : TypeContext) {a b : Notes} (ts : Trees) {w way : Way} {k : Bool} → w ≡ way → JudgesAll a b (all_judged cx (Each w) a.locals.entries ts) k → JudgesAll a b (all_judged cx (Each way) a.locals.entries ts) k
same_ways cx {a} {b} ts {w} {way} {k} e p = subst (λ v. JudgesAll a b (all_judged cx (Each v) a.locals.entries ts) k) e p

-- what an assignment changes, and how, under other names
pub assigned_as : {m k : Named} {x y : Assignment} (n : ℕ) (at : Span) (word : Option Span) (value : Option Seen) → k ≡ m → x ≡ y → assign_tree m n at word x value ≡ assign_tree k n at word y value
assigned_as {m} {k} {x} {y} n at word value e f = ap (λ w. assign_tree w n at word x value) (sym e) ∙ ap (λ w. assign_tree k n at word w value) f
