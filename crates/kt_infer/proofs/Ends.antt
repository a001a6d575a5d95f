-- An `if` whose value is taken: what its branches end in, and the whole.
use Rattle.std.proofs.Common.{◌≡◌, ℕ, ◌&&◌, Bool, true, false, List, [], ◌∷◌, ◌++◌, map, Option, Some, None, is_some, refl, sym, ap, ◌∙◌, subst, append_assoc, append-nil}
use Rattle.kt_tree.specs.declared.token.Span.{Span}
use Rattle.kt_tree.specs.declared.ast.body.Stmt.{Stmt}
use Rattle.kt_model.specs.declared.uses.Named.{Named}
use Rattle.kt_model.specs.Classes.{Classes}
use Rattle.kt_model.specs.BodyTrees.{Tree, Trees, Braces, whole, If', Empty', First', listed, stmt_tree}
use Rattle.kt_typing.specs.Typing.{TypeContext, LocalTypes, Ways, Each, Then, Judgement, Judgements, closed, outcome, type_in, finding_in, have_types, judged, all_judged, last_of, boolean, branched, branch_way, branch_ways, of_branch, end_way, is_declaration_or_assignment, joined_claim}
use Rattle.kt_model.specs.declared.kinds.KtType.{KtType}
use Rattle.kt_model.specs.declared.finding.Finding.{Finding}
use Rattle.kt_typing.specs.declared.claims.Way.{Way}
use Rattle.kt_typing.specs.declared.claims.Way.TheVariants.{Unvalued, Plain, Inferred, Checked}
use Rattle.kt_typing.specs.declared.claims.Outcome.{Outcome}
use Rattle.kt_typing.specs.declared.claims.TypeRow.{TypeRow}
use Rattle.kt_infer.specs.Noting.{Judges, JudgesLeading, Adds, Exchanges, OpensIn, OpensAllIn, OpensAs, OpensEnd, OpensLast, is_valued, never_ends_by}
use Rattle.kt_infer.specs.Opening.{stem_of, joined_of, joined_with, joined_outcome, last_type, end_of, outcome_of, rows_of, own_rows, rows_behind, findings_behind, typed_before}
use Rattle.kt_infer.specs.declared.notes.Notes.{Notes}
use Rattle.kt_infer.specs.declared.notes.Stem.{Stem}
use Rattle.kt_infer.specs.declared.notes.Between.{Between}
use Rattle.kt_infer.specs.declared.notes.Opened.{Opened, EmptyBlock, Ended, Absent}
use Rattle.std.proofs.lemmas.Bool.{false≢true}
use Rattle.kt_infer.proofs.Passing.{no_end, no_leading}
use Rattle.kt_infer.proofs.BlockEnds.{branch_by_leading}

-- ---- what is added one after the other

pub adds_nothing : (a : Notes) → Adds a a [] []
adds_nothing a = record { added_rows = sym (append-nil a.rows); added_findings = sym (append-nil a.findings.items); kept_locals = refl }

pub adds_then : {a b c : Notes} {r s : List TypeRow} {f g : List Finding} → Adds a b r f → Adds b c s g → Adds a c (r ++ s) (f ++ g)
adds_then {a} {b} {c} {r} {s} {f} {g} p q = record {
  added_rows = q.added_rows ∙ ap (λ l. l ++ s) p.added_rows ∙ append_assoc a.rows r s;
  added_findings = q.added_findings ∙ ap (λ l. l ++ g) p.added_findings ∙ append_assoc a.findings.items f g;
  kept_locals = q.kept_locals ∙ p.kept_locals;
}

-- ---- the statements of a branch: those before the last, and the last

-- trees one behind another are those in front, then one more
record Splits (all front : Judgements) (j : Judgement) : Type 0 where
  split_last : last_of all.each_found ≡ j.found ∷ []
  split_rows : all.rows ≡ front.rows ++ j.rows
  split_findings : all.findings ≡ front.findings ++ j.findings
  split_locals : all.locals ≡ j.locals

last_behind : (f : Option KtType) (fs : List (Option KtType)) (g : Option KtType) → last_of fs ≡ g ∷ [] → last_of (f ∷ fs) ≡ g ∷ []
last_behind f [] g e = absurd (no_end (sym e))
last_behind f (h ∷ fs) g e = e

more_ways : (way : Way) (u : Tree) (us : List Tree) (t : Tree) → branch_ways way (First' u (listed (us ++ t ∷ []))) ≡ Then Unvalued (branch_ways way (listed (us ++ t ∷ [])))
more_ways way u [] t = refl
more_ways way u (v ∷ us) t = refl

splits : (cx : TypeContext) (way : Way) (us : List Tree) (t : Tree) (L : LocalTypes)
    → Splits (all_judged cx (branch_ways way (listed (us ++ t ∷ []))) L (listed (us ++ t ∷ []))) (all_judged cx (Each Unvalued) L (listed us))
    (judged cx way (all_judged cx (Each Unvalued) L (listed us)).locals t)
unfolding judged
splits cx way [] t L = record {
  split_last = refl;
  split_rows = append-nil (judged cx way L t).rows;
  split_findings = append-nil (judged cx way L t).findings;
  split_locals = refl;
}
splits cx way (u ∷ us) t L =
    let x = judged cx Unvalued L u in
    let ts = listed (us ++ t ∷ []) in
    let rest = splits cx way us t x.locals in
    let here = λ (w : Ways). all_judged cx w L (First' u ts) in
    let front = all_judged cx (Each Unvalued) x.locals (listed us) in
    let j = judged cx way front.locals t in
    record {
      split_last = ap (λ w. last_of (here w).each_found) (more_ways way u us t) ∙ last_behind x.found (all_judged cx (branch_ways way ts) x.locals ts).each_found j.found rest.split_last;
      split_rows = ap (λ w. (here w).rows) (more_ways way u us t) ∙ ap (λ l. x.rows ++ l) rest.split_rows ∙ sym (append_assoc x.rows front.rows j.rows);
      split_findings = ap (λ w. (here w).findings) (more_ways way u us t) ∙ ap (λ l. x.findings ++ l) rest.split_findings ∙ sym (append_assoc x.findings front.findings j.findings);
      split_locals = ap (λ w. (here w).locals) (more_ways way u us t) ∙ rest.split_locals;
    }

-- the last tree was opened, where the block may end
pub opens_going : (cx : TypeContext) {a b : Notes} {any : Bool} {t : Tree} {o : Opened} → never_ends_by cx any t ≡ false → OpensAs cx true a b t o → OpensEnd cx any a b t o
opens_going cx {a} {b} {any} {t} {o} h p = record { end_in_way = end_in_way }
  where
    end_in_way : (way : Way) → is_valued way ≡ true → OpensIn a b (judged cx (end_way (never_ends_by cx any t) way) a.locals.entries t) cx.classes way o
    end_in_way way v = subst (λ e. OpensIn a b (judged cx (end_way e way) a.locals.entries t) cx.classes way o) (sym h) (p.in_such_way way v)

typed_already : (f : Option KtType) → type_in (typed_before f) ≡ f
typed_already (Some t) = refl
typed_already None = refl

-- the last tree was ended, where the block never ends
pub opens_ended : (cx : TypeContext) {a b : Notes} {any : Bool} {t : Tree} {f : Option KtType} → never_ends_by cx any t ≡ true
    → Judges a b (judged cx Unvalued a.locals.entries t) f → OpensEnd cx any a b t (Ended f)
opens_ended cx {a} {b} {any} {t} {f} h p = record { end_in_way = end_in_way }
  where
    ended_in : (way : Way) → OpensIn a b (judged cx Unvalued a.locals.entries t) cx.classes way (Ended f)
    ended_in way = record {
      open_type = ap (λ g. g ∷ []) (sym p.same_type ∙ sym (typed_already f));
      open_rows = sym (append-nil b.rows ∙ p.more_rows);
      open_findings = sym (append-nil b.findings.items ∙ p.more_findings);
      open_locals = p.same_locals;
    }

    end_in_way : (way : Way) → is_valued way ≡ true → OpensIn a b (judged cx (end_way (never_ends_by cx any t) way) a.locals.entries t) cx.classes way (Ended f)
    end_in_way way v = subst (λ e. OpensIn a b (judged cx (end_way e way) a.locals.entries t) cx.classes way (Ended f)) (sym h) (ended_in way)

pub last_more : (cx : TypeContext) {a b c : Notes} {at : Option Span} (us : List Tree) (t : Tree) {any : Bool} {o : Opened}
    → JudgesLeading a b (all_judged cx (Each Unvalued) a.locals.entries (listed us)) any → OpensEnd cx any b c t o → OpensLast cx a c at (listed (us ++ t ∷ [])) o
last_more cx {a} {b} {c} {at} us t {any} {o} p q = record { last_in_way = last_in_way }
  where
    in_end_way : (way : Way) → is_valued way ≡ true
        → OpensAllIn a c (all_judged cx (branch_ways (end_way (never_ends_by cx any t) way) (listed (us ++ t ∷ []))) a.locals.entries (listed (us ++ t ∷ []))) cx.classes way o
    in_end_way way v =
        let w = end_way (never_ends_by cx any t) way in
        let front = all_judged cx (Each Unvalued) a.locals.entries (listed us) in
        let j = judged cx w front.locals t in
        let s : Splits (all_judged cx (branch_ways w (listed (us ++ t ∷ []))) a.locals.entries (listed (us ++ t ∷ []))) front j = splits cx w us t a.locals.entries in
        let i : OpensIn b c (judged cx w b.locals.entries t) cx.classes way o = q.end_in_way way v in
        let same : j ≡ judged cx w b.locals.entries t = ap (λ l. judged cx w l t) (sym p.leading_locals) in
        record {
          end_type = s.split_last ∙ ap (λ x. x.found ∷ []) same ∙ i.open_type;
          end_rows =
              ap (λ l. a.rows ++ l) s.split_rows ∙ sym (append_assoc a.rows front.rows j.rows) ∙ ap (λ l. l ++ j.rows) (sym p.leading_rows)
              ∙ ap (λ x. b.rows ++ x.rows) same ∙ i.open_rows;
          end_findings =
              ap (λ l. a.findings.items ++ l) s.split_findings ∙ sym (append_assoc a.findings.items front.findings j.findings)
              ∙ ap (λ l. l ++ j.findings) (sym p.leading_findings) ∙ ap (λ x. b.findings.items ++ x.findings) same ∙ i.open_findings;
          end_locals = i.open_locals ∙ sym (ap (λ x. x.locals) same) ∙ sym s.split_locals;
        }

    last_in_way : (way : Way) → is_valued way ≡ true
        → OpensAllIn a c (of_branch cx way at (listed (us ++ t ∷ [])) a.locals.entries (λ ways. all_judged cx ways a.locals.entries (listed (us ++ t ∷ [])))) cx.classes way o
    last_in_way way v =
        subst (λ js. OpensAllIn a c js cx.classes way o) (sym (branch_by_leading cx way at us t a.locals.entries p.same_nothing)) (in_end_way way v)

never_without : (d : Bool) → (d && false) ≡ false
never_without true = refl
never_without false = refl

pub last_alone : (cx : TypeContext) {a b : Notes} (t : Tree) {o : Opened} → OpensAs cx true a b t o → OpensLast cx a b None (First' t Empty') o
last_alone cx {a} t p = last_more cx [] t (no_leading cx a) (opens_going cx (never_without (is_declaration_or_assignment t)) p)

-- a branch that is not there
pub no_last : (cx : TypeContext) (a : Notes) → OpensLast cx a a None Empty' Absent
no_last cx a = record { last_in_way = λ way v. record { end_type = refl; end_rows = refl; end_findings = refl; end_locals = refl } }

-- an empty block
pub empty_last : (cx : TypeContext) (a : Notes) (at : Span) → OpensLast cx a a (Some at) Empty' (EmptyBlock at)
empty_last cx a at = record { last_in_way = λ way v. record { end_type = refl; end_rows = refl; end_findings = refl; end_locals = refl } }

pub same_last : {cx : TypeContext} {a b : Notes} {at place : Option Span} {ts us : Trees} {o : Opened} → place ≡ at → us ≡ ts → OpensLast cx a b at ts o → OpensLast cx a b place us o
same_last {cx} {a} {b} {at} {place} {ts} {us} {o} f e p = subst (λ s. OpensLast cx a b s us o) (sym f) (subst (λ r. OpensLast cx a b at r o) (sym e) p)

pub trees_behind : (uses : ℕ → Named) (xs : List Stmt) (s : Stmt) → map (stmt_tree uses) (xs ++ s ∷ []) ≡ map (stmt_tree uses) xs ++ stmt_tree uses s ∷ []
trees_behind uses [] s = refl
trees_behind uses (x ∷ xs) s = ap (λ l. stmt_tree uses x ∷ l) (trees_behind uses xs s)

-- ---- what an `if` is, as the code finds it

pub end_same : (classes : Classes) (way : Way) (p : Option (Option KtType)) {inner : Way} {o x z : Opened} {r : Outcome}
    → inner ≡ branch_way way → x ≡ o → r ≡ outcome_of classes inner x → z ≡ o → last_type p ≡ end_of z r → last_type p ≡ end_of o (outcome_of classes (branch_way way) o)
end_same classes way p {inner} {o} {x} {z} {r} e f g h k = k ∙ ap (λ w. end_of w r) h ∙ ap (end_of o) (g ∙ ap (outcome_of classes inner) f ∙ ap (λ v. outcome_of classes v o) e)

pub joined_stands : (classes : Classes) (way : Way) (stem : Stem) (first second : Opened) (between : Between) (p q : Option (Option KtType)) {r : Outcome}
    → r ≡ joined_outcome classes way stem (last_type p) (last_type q) → last_type p ≡ end_of first (outcome_of classes (branch_way way) first)
    → last_type q ≡ end_of second (outcome_of classes (branch_way way) second) → r ≡ outcome_of classes way (joined_with stem first between second)
joined_stands classes way stem first second between p q {r} e f g =
    e ∙ ap (λ l. joined_outcome classes way stem l (last_type q)) f ∙ ap (joined_outcome classes way stem (end_of first (outcome_of classes (branch_way way) first))) g

-- what ending an `if` adds, one after the other
pub joined_adds : (classes : Classes) (way : Way) (stem : Stem) (first second : Opened) (between : Between) {inner : Way} {a b c d e : Notes} {r : Outcome} {x y : Opened} {m : Between}
    → inner ≡ branch_way way → x ≡ first → y ≡ second → m ≡ between
    → Adds a b (rows_behind classes inner x) (findings_behind classes inner x) → Adds b c m.rows m.findings.items → Adds c d (rows_behind classes inner y) (findings_behind classes inner y)
    → r ≡ outcome_of classes way (joined_with stem first between second) → Adds d e (own_rows stem (type_in r)) (finding_in r)
    → Adds a e (rows_behind classes way (joined_with stem first between second)) (findings_behind classes way (joined_with stem first between second))
joined_adds classes way stem first second between {inner} {a} {b} {c} {d} {e} {r} {x} {y} {m} i f g h p q s o w =
    adds_then (subst (λ z. Adds a b (rows_behind classes (branch_way way) z) (findings_behind classes (branch_way way) z)) f (subst (λ v. Adds a b (rows_behind classes v x) (findings_behind classes v x)) i p))
    (adds_then (subst (λ z. Adds b c z.rows z.findings.items) h q)
    (adds_then (subst (λ z. Adds c d (rows_behind classes (branch_way way) z) (findings_behind classes (branch_way way) z)) g (subst (λ v. Adds c d (rows_behind classes v y) (findings_behind classes v y)) i s))
    (subst (λ z. Adds d e (own_rows stem (type_in z)) (finding_in z)) o w)))

-- ---- the whole

typed_front : (f : Option KtType) (fs : List (Option KtType)) → have_types (f ∷ fs) ≡ (is_some f && have_types fs)
typed_front (Some t) fs = refl
typed_front None fs = refl

branch_valued : (way : Way) → is_valued (branch_way way) ≡ true
branch_valued Unvalued = refl
branch_valued Plain = refl
branch_valued Inferred = refl
branch_valued (Checked t) = refl

-- what comes before the end of the first branch, that end, what is between, the other end and the tree's own
weave : {A : Type 0} (a c f s z e r q d : List A) {b : List A} → b ≡ a ++ c → b ++ f ≡ d ++ r → s ≡ e ++ q → a ++ ((c ++ (f ++ s)) ++ z) ≡ d ++ (r ++ (e ++ (q ++ z)))
weave a c f s z e r q d {b} h g k =
    ap (λ l. a ++ l) (append_assoc c (f ++ s) z)
    ∙ sym (append_assoc a c ((f ++ s) ++ z))
    ∙ ap (λ l. l ++ ((f ++ s) ++ z)) (sym h)
    ∙ ap (λ l. b ++ l) (append_assoc f s z)
    ∙ sym (append_assoc b f (s ++ z))
    ∙ ap (λ l. l ++ (s ++ z)) g
    ∙ ap (λ l. (d ++ r) ++ (l ++ z)) k
    ∙ append_assoc d r ((e ++ q) ++ z)
    ∙ ap (λ l. d ++ (r ++ l)) (append_assoc e q z)

-- what is said of an `if`, by what is said of its parts
abbrev joined_form : TypeContext → ℕ → Span → Way → Judgement → Judgements → Judgements → Judgement
joined_form cx n at way C F S = closed cx Plain (whole n at) (branched C F S) (joined_claim cx.classes way (whole n at) (last_of F.each_found) (last_of S.each_found))

-- what is said of the statements of a branch
abbrev ending_form : TypeContext → Option Span → Trees → Way → LocalTypes → Judgements
ending_form cx at ts way L = of_branch cx (branch_way way) at ts L (λ ways. all_judged cx ways L ts)

joins_in : (cx : TypeContext) {a b c d e f : Notes} {J : Judgement} (n : ℕ) (at : Span) (way : Way) (C : Judgement) (F S : Judgements) {g : Option KtType} {first second : Opened} {given before between : Between}
    → J ≡ joined_form cx n at way C F S
    → Judges a b C g → OpensAllIn b c F cx.classes (branch_way way) first → Exchanges c d given before → given.rows ≡ [] → given.findings.items ≡ []
    → OpensAllIn d e S cx.classes (branch_way way) second → Exchanges e f before between → OpensIn a f J cx.classes way (joined_of n at (is_some g) first between second)
joins_in cx {a} {b} {c} {d} {e} {f} {J} n at way C F S {g} {first} {second} {given} {before} {between} form p q x none_rows none_findings r y =
    let inner = branch_way way in
    let xs = last_of F.each_found in
    let ys = last_of S.each_found in
    let made = outcome cx.classes Plain at (have_types (C.found ∷ (xs ++ ys))) (joined_claim cx.classes way (whole n at) xs ys) in
    let row = λ (o : Outcome). rows_of (n ∷ []) (type_in o) in
    let same : made ≡ outcome_of cx.classes way (joined_of n at (is_some g) first between second) =
    ap (λ k. outcome cx.classes Plain at k (joined_claim cx.classes way (whole n at) xs ys)) (typed_front C.found (xs ++ ys) ∙ ap (λ h. is_some h && have_types (xs ++ ys)) (sym p.same_type))
    ∙ ap (λ l. joined_outcome cx.classes way (stem_of n at (is_some g)) l ys) q.end_type
    ∙ ap (λ l. joined_outcome cx.classes way (stem_of n at (is_some g)) (end_of first (outcome_of cx.classes inner first)) l) r.end_type in
    record {
      open_type = ap (λ j. j.found ∷ []) form ∙ ap (λ o. type_in o ∷ []) same;
      open_rows =
          ap (λ j. a.rows ++ j.rows) form
          ∙ weave a.rows C.rows F.rows S.rows (row made) between.rows (rows_behind cx.classes inner first) (rows_behind cx.classes inner second) f.rows p.more_rows
          (q.end_rows ∙ ap (λ l. l ++ rows_behind cx.classes inner first) (sym (y.given_rows ∙ x.taken_rows)))
          (ap (λ l. l ++ S.rows) (sym (x.given_rows ∙ none_rows)) ∙ r.end_rows ∙ ap (λ l. l ++ rows_behind cx.classes inner second) (sym y.taken_rows))
          ∙ ap (λ o. f.rows ++ (rows_behind cx.classes inner first ++ (between.rows ++ (rows_behind cx.classes inner second ++ row o)))) same;
      open_findings =
          ap (λ j. a.findings.items ++ j.findings) form
          ∙ weave a.findings.items C.findings F.findings S.findings (finding_in made) between.findings.items (findings_behind cx.classes inner first) (findings_behind cx.classes inner second) f.findings.items p.more_findings
          (q.end_findings ∙ ap (λ l. l ++ findings_behind cx.classes inner first) (sym (y.given_findings ∙ x.taken_findings)))
          (ap (λ l. l ++ S.findings) (sym (x.given_findings ∙ none_findings)) ∙ r.end_findings ∙ ap (λ l. l ++ findings_behind cx.classes inner second) (sym y.taken_findings))
          ∙ ap (λ o. f.findings.items ++ (findings_behind cx.classes inner first ++ (between.findings.items ++ (findings_behind cx.classes inner second ++ finding_in o)))) same;
      open_locals = y.exchanged_locals ∙ r.end_locals ∙ sym (ap (λ j. j.locals) form);
    }

pub opens_joined : (cx : TypeContext) {a b c d e f : Notes} (n : ℕ) (at : Span) (braces : Braces) (t : Tree) (us vs : Trees) {g : Option KtType} {k : Bool} {first second o : Opened} {given before between : Between}
    → Judges a b (judged cx (Checked boolean) a.locals.entries t) g → OpensLast cx b c braces.first us first → Exchanges c d given before → given.rows ≡ [] → given.findings.items ≡ []
    → OpensLast cx d e braces.second vs second → Exchanges e f before between → k ≡ is_some g → o ≡ joined_of n at k first between second → OpensAs cx true a f (If' (whole n at) braces t us vs) o
unfolding judged
opens_joined cx {a} {b} {c} {d} {e} {f} n at braces t us vs {g} {k} {first} {second} {o} {given} {before} {between} p q x none_rows none_findings r y m w =
    subst (λ z. OpensAs cx true a f (If' (whole n at) braces t us vs) z) (sym (w ∙ ap (λ h. joined_of n at h first between second) m)) all_ways
  where
    joins : (way : Way)
        → judged cx way a.locals.entries (If' (whole n at) braces t us vs)
        ≡ joined_form cx n at way (judged cx (Checked boolean) a.locals.entries t) (ending_form cx braces.first us way (judged cx (Checked boolean) a.locals.entries t).locals)
        (ending_form cx braces.second vs way (ending_form cx braces.first us way (judged cx (Checked boolean) a.locals.entries t).locals).locals)
        → OpensIn a f (judged cx way a.locals.entries (If' (whole n at) braces t us vs)) cx.classes way (joined_of n at (is_some g) first between second)
    joins way form =
        let C = judged cx (Checked boolean) a.locals.entries t in
        let i : OpensAllIn b c (ending_form cx braces.first us way b.locals.entries) cx.classes (branch_way way) first = q.last_in_way (branch_way way) (branch_valued way) in
        let l : OpensAllIn d e (ending_form cx braces.second vs way d.locals.entries) cx.classes (branch_way way) second = r.last_in_way (branch_way way) (branch_valued way) in
        joins_in cx n at way C (ending_form cx braces.first us way b.locals.entries) (ending_form cx braces.second vs way d.locals.entries)
        (form ∙ ap (λ L. joined_form cx n at way C (ending_form cx braces.first us way L) (ending_form cx braces.second vs way (ending_form cx braces.first us way L).locals)) (sym p.same_locals)
        ∙ ap (λ L. joined_form cx n at way C (ending_form cx braces.first us way b.locals.entries) (ending_form cx braces.second vs way L)) (sym i.end_locals ∙ sym x.exchanged_locals))
        p i x none_rows none_findings l y

    in_such_way : (way : Way) → is_valued way ≡ true → OpensIn a f (judged cx way a.locals.entries (If' (whole n at) braces t us vs)) cx.classes way (joined_of n at (is_some g) first between second)
    in_such_way Unvalued v = absurd (false≢true v)
    in_such_way Plain v = joins Plain refl
    in_such_way Inferred v = joins Inferred refl
    in_such_way (Checked u) v = joins (Checked u) refl

    all_ways : OpensAs cx true a f (If' (whole n at) braces t us vs) (joined_of n at (is_some g) first between second)
    all_ways = record { in_such_way = in_such_way; such_tree = refl }
