-- What typing keeps from tree to tree: the types of locals, that each local has one, that it is the written one, and what has none yet.
use Rattle.std.proofs.Common.{◌≡◌, ℕ, suc, nat_eq, cond, Bool, true, false, Option, Some, None, List, [], ◌∷◌, ◌++◌, length, refl, sym, ap, subst, ◌∙◌}
use Rattle.std.proofs.lemmas.Bool.{eqb-true, eq-eqb}
use Rattle.kt_tree.specs.declared.token.Span.{Span}
use Rattle.kt_model.specs.BodyTrees.{Operation, Mark, Tree, Trees, Empty', First', Operation', Name', Paren', Not', And', Or', If', Declare', Local', Assign', Compound', Call', Return', Throw', Shut'}
use Rattle.kt_model.specs.declared.kinds.KtType.{KtType}
use Rattle.kt_typing.specs.declared.claims.Way.{Way}
use Rattle.kt_typing.specs.declared.claims.Way.TheVariants.{Unvalued, Plain, Inferred, Checked}
use Rattle.kt_typing.specs.Typing.{Ways, Each, first_way, rest_ways, TypeContext, LocalTypes, Judgements, look_up, bound_unless, bound, declared, initialised, count, operator_of, call_demand, operation_demand, is_text, first_of, apart, value_way, known_type, type_or_none, right_way, inside, boolean, branch_way, branch_ways, end_way, never_ends, of_branch, judged, all_judged, parameter_types}

-- ---- lists and options

not_nil : {A : Type 0} (x : A) (xs : List A) → x ∷ xs ≡ [] → ⊥
not_nil x xs e = cc

pub none_in : {A : Type 0} (xs ys : List A) → xs ++ ys ≡ [] → (xs ≡ []) × (ys ≡ [])
none_in [] ys e = (refl, e)
none_in (x ∷ xs) ys e = absurd (not_nil x (xs ++ ys) e)

pub none-some : {A : Type 0} (a : A) → None ≡ Some a → ⊥
none-some a e = cc

pub some-some : {A : Type 0} (a b : A) → Some a ≡ Some b → a ≡ b
some-some a b e = cc

pub some_is : {A : Type 0} (o : Option A) → (o ≡ None → ⊥) → (a : A) × (o ≡ Some a)
some_is None h = absurd (h refl)
some_is (Some a) h = (a, refl)

-- ---- parts

-- each part has a type or none
pub found_count : (cx : TypeContext) (ways : Ways) (locals : LocalTypes) (ts : Trees) → length (all_judged cx ways locals ts).each_found ≡ count ts
unfolding all_judged
found_count cx ways locals Empty' = refl
found_count cx ways locals (First' t rest) = ap (λ k. suc k) (found_count cx (rest_ways ways) (judged cx (first_way ways) locals t).locals rest)

-- ---- branches whose value is taken

-- the ways of the trees of such a branch
abbrev pub ways_of_branch : TypeContext → Way → LocalTypes → Trees → Ways
ways_of_branch cx way locals ts = branch_ways (end_way (never_ends cx (all_judged cx (Each Unvalued) locals ts).each_found ts) way) ts

-- what is said of it
abbrev pub branch_judged : TypeContext → Way → Option Span → LocalTypes → Trees → Judgements
branch_judged cx way at locals ts = of_branch cx way at ts locals (λ ways. all_judged cx ways locals ts)

-- its locals are those behind its trees
pub branch_locals : (cx : TypeContext) (way : Way) (at : Option Span) (locals : LocalTypes) (ts : Trees)
    → (branch_judged cx way at locals ts).locals ≡ (all_judged cx (ways_of_branch cx way locals ts) locals ts).locals
unfolding all_judged
branch_locals cx way None locals Empty' = refl
branch_locals cx way (Some at) locals Empty' = refl
branch_locals cx way at locals (First' t rest) = refl

-- ---- types of locals

-- what was there before, else what is new
abbrev else_new : Option (Option KtType) → Option (Option KtType) → Option (Option KtType)
else_new (Some u) o = Some u
else_new None o = o

abbrev new_at : Bool → Option KtType → Option (Option KtType)
new_at true t = Some t
new_at false t = None

look_behind : (ls : LocalTypes) (x y : ℕ) (t : Option KtType) → look_up (ls ++ (y, t) ∷ []) x ≡ else_new (look_up ls x) (new_at (nat_eq x y) t)
look_behind [] x y t = by (nat_eq x y)
  where
    by : (b : Bool) → cond b (Some t) None ≡ new_at b t
    by true = refl
    by false = refl
look_behind (l ∷ ls) x y t = by (nat_eq x l.0) (look_behind ls x y t)
  where
    by : (b : Bool) → look_up (ls ++ (y, t) ∷ []) x ≡ else_new (look_up ls x) (new_at (nat_eq x y) t)
        → cond b (Some l.1) (look_up (ls ++ (y, t) ∷ []) x) ≡ else_new (cond b (Some l.1) (look_up ls x)) (new_at (nat_eq x y) t)
    by true h = refl
    by false h = h

-- a look-up after a declaration
look_bound : (ls : LocalTypes) (x y : ℕ) (t : Option KtType) → look_up (bound ls y t) x ≡ else_new (look_up ls x) (new_at (nat_eq x y) t)
look_bound ls x y t = by (look_up ls y) refl
  where
    old : (b : Bool) (o : Option (Option KtType)) (u : Option KtType) → (b ≡ true → o ≡ Some u) → o ≡ else_new o (new_at b t)
    old b (Some v) u h = refl
    old true None u h = absurd (none-some u (h refl))
    old false None u h = refl

    by : (o : Option (Option KtType)) → look_up ls y ≡ o → look_up (bound_unless o ls y t) x ≡ else_new (look_up ls x) (new_at (nat_eq x y) t)
    by None e = look_behind ls x y t
    by (Some u) e = old (nat_eq x y) (look_up ls x) u (λ h. subst (λ z. look_up ls z ≡ Some u) (sym (eqb-true x y h)) e)

-- what a local had, it has
abbrev pub Kept : LocalTypes → LocalTypes → Type 0
Kept before after = (x : ℕ) (u : Option KtType) → look_up before x ≡ Some u → look_up after x ≡ Some u

kept_bound : (ls : LocalTypes) (y : ℕ) (t : Option KtType) → Kept ls (bound ls y t)
kept_bound ls y t x u h = look_bound ls x y t ∙ ap (λ o. else_new o (new_at (nat_eq x y) t)) h

pub kept_declared : (ls : LocalTypes) (y : ℕ) (w : Option KtType) → Kept ls (declared ls y w)
kept_declared ls y (Some t) x u h = kept_bound ls y (Some t) x u h
kept_declared ls y None x u h = h

pub kept_initialised : (ls : LocalTypes) (y : ℕ) (w found : Option KtType) → Kept ls (initialised ls y w found)
kept_initialised ls y (Some t) found x u h = kept_bound ls y (Some t) x u h
kept_initialised ls y None found x u h = kept_bound ls y found x u h

-- each local that was declared has a type
abbrev pub Known : LocalTypes → Type 0
Known locals = (x : ℕ) → look_up locals x ≡ Some None → ⊥

known_new : (o : Option (Option KtType)) (b : Bool) (t : KtType) → (o ≡ Some None → ⊥) → else_new o (new_at b (Some t)) ≡ Some None → ⊥
known_new (Some u) b t h e = h e
known_new None true t h e = absurd (none-some t (sym (some-some (Some t) None e)))
known_new None false t h e = absurd (none-some None e)

known_bound : (ls : LocalTypes) (y : ℕ) (t : KtType) → Known ls → Known (bound ls y (Some t))
known_bound ls y t h x e = known_new (look_up ls x) (nat_eq x y) t (h x) (sym (look_bound ls x y (Some t)) ∙ e)

pub known_declared : (ls : LocalTypes) (y : ℕ) (w : Option KtType) → Known ls → Known (declared ls y w)
known_declared ls y (Some t) h = known_bound ls y t h
known_declared ls y None h = h

pub known_initialised : (ls : LocalTypes) (y : ℕ) (w : Option KtType) (t : KtType) → Known ls → Known (initialised ls y w (Some t))
known_initialised ls y (Some u) t h = known_bound ls y u h
known_initialised ls y None t h = known_bound ls y t h

-- a local with a written type has that type
abbrev pub AsWritten : (ℕ → Option KtType) → LocalTypes → Type 0
AsWritten written locals = (x : ℕ) (t w : KtType) → look_up locals x ≡ Some (Some t) → written x ≡ Some w → w ≡ t

written_bound : (written : ℕ → Option KtType) (ls : LocalTypes) (y : ℕ) (u : Option KtType) → ((t w : KtType) → u ≡ Some t → written y ≡ Some w → w ≡ t) → AsWritten written ls → AsWritten written (bound ls y u)
written_bound written ls y u own h x t w e f = by (look_up ls x) (nat_eq x y) refl refl (sym (look_bound ls x y u) ∙ e)
  where
    by : (o : Option (Option KtType)) (b : Bool) → look_up ls x ≡ o → nat_eq x y ≡ b → else_new o (new_at b u) ≡ Some (Some t) → w ≡ t
    by (Some v) b g i e' = h x t w (g ∙ e') f
    by None true g i e' = own t w (some-some u (Some t) e') (sym (ap written (eqb-true x y i)) ∙ f)
    by None false g i e' = absurd (none-some (Some t) e')

written_same : (o : Option KtType) (u t w : KtType) → o ≡ Some u → Some u ≡ Some t → o ≡ Some w → w ≡ t
written_same o u t w e f g = some-some w u (sym g ∙ e) ∙ some-some u t f

written_declared : (written : ℕ → Option KtType) (ls : LocalTypes) (y : ℕ) → AsWritten written ls → AsWritten written (declared ls y (written y))
written_declared written ls y h = by (written y) refl
  where
    by : (o : Option KtType) → written y ≡ o → AsWritten written (declared ls y o)
    by None e = h
    by (Some u) e = written_bound written ls y (Some u) (λ t w. written_same (written y) u t w e) h

written_initialised : (written : ℕ → Option KtType) (ls : LocalTypes) (y : ℕ) (found : Option KtType) → AsWritten written ls → AsWritten written (initialised ls y (written y) found)
written_initialised written ls y found h = by (written y) refl
  where
    by : (o : Option KtType) → written y ≡ o → AsWritten written (initialised ls y o found)
    by None e = written_bound written ls y found (λ t w f g. absurd (none-some w (sym e ∙ g))) h
    by (Some u) e = written_bound written ls y (Some u) (λ t w. written_same (written y) u t w e) h

-- ---- parameters

-- each parameter has a type before the body
pub known_parameters : (cx : TypeContext) (locals : LocalTypes) (xs : List ℕ) → Known locals → Known (parameter_types cx locals xs)
known_parameters cx locals [] h = h
known_parameters cx locals (x ∷ xs) h = known_parameters cx (declared locals x (cx.written x)) xs (known_declared locals x (cx.written x) h)

-- it is the written one
pub written_parameters : (cx : TypeContext) (locals : LocalTypes) (xs : List ℕ) → AsWritten cx.written locals → AsWritten cx.written (parameter_types cx locals xs)
written_parameters cx locals [] h = h
written_parameters cx locals (x ∷ xs) h = written_parameters cx (declared locals x (cx.written x)) xs (written_declared cx.written locals x h)

-- ---- initialisers

-- the type that a declaration with an initialiser gives
abbrev pub own_type : Option KtType → Option KtType → Option KtType
own_type (Some t) found = Some t
own_type None found = found

new_bound : (ls : LocalTypes) (y : ℕ) (t : Option KtType) → look_up ls y ≡ None → look_up (bound ls y t) y ≡ Some t
new_bound ls y t e = look_bound ls y y t ∙ ap (λ o. else_new o (new_at (nat_eq y y) t)) e ∙ ap (λ b. new_at b t) (eq-eqb y y refl)

pub new_initialised : (ls : LocalTypes) (y : ℕ) (w found : Option KtType) → look_up ls y ≡ None → look_up (initialised ls y w found) y ≡ Some (own_type w found)
new_initialised ls y (Some t) found e = new_bound ls y (Some t) e
new_initialised ls y None found e = new_bound ls y found e

-- ---- along trees

-- the ways of the parts of an operation
abbrev pub operation_ways : TypeContext → LocalTypes → Mark → Operation → Trees → Ways
operation_ways cx locals n o parts =
    (operation_demand n o (is_text (first_of (all_judged cx (Each Inferred) locals parts).each_found)) (apart (all_judged cx (Each Plain) locals parts).each_found) (count parts)).ways

abbrev pub call_ways : TypeContext → Mark → ℕ → Trees → Ways
call_ways cx n f arguments = (call_demand (cx.signature f) n (count arguments)).ways

abbrev pub operand_ways : LocalTypes → ℕ → Operation → Ways
operand_ways locals x o = Each (right_way (operator_of o (is_text (type_or_none (look_up locals x)))))

mutual
  unfolding judged all_judged

  pub kept_tree : (cx : TypeContext) (way : Way) (locals : LocalTypes) (t : Tree) → Kept locals (judged cx way locals t).locals
  kept_tree cx way locals (Operation' n o parts) x u h = kept_trees cx (operation_ways cx locals n o parts) locals parts x u h
  kept_tree cx way locals (Name' n at y) x u h = h
  kept_tree cx way locals (Paren' n e) x u h = kept_tree cx (inside way) locals e x u h
  kept_tree cx way locals (Not' n e) x u h = kept_tree cx (Checked boolean) locals e x u h
  kept_tree cx way locals (And' n a b) x u h =
      kept_tree cx (Checked boolean) (judged cx (Checked boolean) locals a).locals b x u (kept_tree cx (Checked boolean) locals a x u h)
  kept_tree cx way locals (Or' n a b) x u h =
      kept_tree cx (Checked boolean) (judged cx (Checked boolean) locals a).locals b x u (kept_tree cx (Checked boolean) locals a x u h)
  kept_tree cx Unvalued locals (If' n braces c a b) x u h =
      let condition = judged cx (Checked boolean) locals c in
      let first = all_judged cx (Each Unvalued) condition.locals a in
      kept_trees cx (Each Unvalued) first.locals b x u (kept_trees cx (Each Unvalued) condition.locals a x u (kept_tree cx (Checked boolean) locals c x u h))
  kept_tree cx way locals (If' n braces c a b) x u h =
      let condition = judged cx (Checked boolean) locals c in
      let inner = branch_way way in
      let first = branch_judged cx inner braces.first condition.locals a in
      let kept_first = kept_trees cx (ways_of_branch cx inner condition.locals a) condition.locals a x u (kept_tree cx (Checked boolean) locals c x u h) in
      subst (λ (ls : LocalTypes). look_up ls x ≡ Some u) (sym (branch_locals cx inner braces.second first.locals b))
      (kept_trees cx (ways_of_branch cx inner first.locals b) first.locals b x u
      (subst (λ (ls : LocalTypes). look_up ls x ≡ Some u) (sym (branch_locals cx inner braces.first condition.locals a)) kept_first))
  kept_tree cx way locals (Declare' n y) x u h = kept_declared locals y (cx.written y) x u h
  kept_tree cx way locals (Local' n at y e) x u h =
      let value = judged cx (value_way (known_type (look_up locals y) (cx.written y))) locals e in
      kept_initialised value.locals y (cx.written y) value.found x u (kept_tree cx (value_way (known_type (look_up locals y) (cx.written y))) locals e x u h)
  kept_tree cx way locals (Assign' n at y fixed e) x u h = kept_tree cx (value_way (type_or_none (look_up locals y))) locals e x u h
  kept_tree cx way locals (Compound' n at y fixed o operand) x u h = kept_trees cx (operand_ways locals y o) locals operand x u h
  kept_tree cx way locals (Call' n f returns arguments) x u h = kept_trees cx (call_ways cx n f arguments) locals arguments x u h
  kept_tree cx way locals (Return' n value) x u h = kept_trees cx (Each (value_way cx.result)) locals value x u h
  kept_tree cx way locals (Throw' n e) x u h = h
  kept_tree cx way locals (Shut' n) x u h = h

  pub kept_trees : (cx : TypeContext) (ways : Ways) (locals : LocalTypes) (ts : Trees) → Kept locals (all_judged cx ways locals ts).locals
  kept_trees cx ways locals Empty' x u h = h
  kept_trees cx ways locals (First' t rest) x u h =
      kept_trees cx (rest_ways ways) (judged cx (first_way ways) locals t).locals rest x u (kept_tree cx (first_way ways) locals t x u h)

mutual
  unfolding judged all_judged

  pub written_tree : (cx : TypeContext) (way : Way) (locals : LocalTypes) (t : Tree) → AsWritten cx.written locals → AsWritten cx.written (judged cx way locals t).locals
  written_tree cx way locals (Operation' n o parts) h = written_trees cx (operation_ways cx locals n o parts) locals parts h
  written_tree cx way locals (Name' n at y) h = h
  written_tree cx way locals (Paren' n e) h = written_tree cx (inside way) locals e h
  written_tree cx way locals (Not' n e) h = written_tree cx (Checked boolean) locals e h
  written_tree cx way locals (And' n a b) h = written_tree cx (Checked boolean) (judged cx (Checked boolean) locals a).locals b (written_tree cx (Checked boolean) locals a h)
  written_tree cx way locals (Or' n a b) h = written_tree cx (Checked boolean) (judged cx (Checked boolean) locals a).locals b (written_tree cx (Checked boolean) locals a h)
  written_tree cx Unvalued locals (If' n braces c a b) h =
      let condition = judged cx (Checked boolean) locals c in
      let first = all_judged cx (Each Unvalued) condition.locals a in
      written_trees cx (Each Unvalued) first.locals b (written_trees cx (Each Unvalued) condition.locals a (written_tree cx (Checked boolean) locals c h))
  written_tree cx way locals (If' n braces c a b) h =
      let condition = judged cx (Checked boolean) locals c in
      let inner = branch_way way in
      let first = branch_judged cx inner braces.first condition.locals a in
      let behind_first = written_trees cx (ways_of_branch cx inner condition.locals a) condition.locals a (written_tree cx (Checked boolean) locals c h) in
      subst (AsWritten cx.written) (sym (branch_locals cx inner braces.second first.locals b))
      (written_trees cx (ways_of_branch cx inner first.locals b) first.locals b
      (subst (AsWritten cx.written) (sym (branch_locals cx inner braces.first condition.locals a)) behind_first))
  written_tree cx way locals (Declare' n y) h = written_declared cx.written locals y h
  written_tree cx way locals (Local' n at y e) h =
      let value = judged cx (value_way (known_type (look_up locals y) (cx.written y))) locals e in
      written_initialised cx.written value.locals y value.found (written_tree cx (value_way (known_type (look_up locals y) (cx.written y))) locals e h)
  written_tree cx way locals (Assign' n at y fixed e) h = written_tree cx (value_way (type_or_none (look_up locals y))) locals e h
  written_tree cx way locals (Compound' n at y fixed o operand) h = written_trees cx (operand_ways locals y o) locals operand h
  written_tree cx way locals (Call' n f returns arguments) h = written_trees cx (call_ways cx n f arguments) locals arguments h
  written_tree cx way locals (Return' n value) h = written_trees cx (Each (value_way cx.result)) locals value h
  written_tree cx way locals (Throw' n e) h = h
  written_tree cx way locals (Shut' n) h = h

  pub written_trees : (cx : TypeContext) (ways : Ways) (locals : LocalTypes) (ts : Trees) → AsWritten cx.written locals → AsWritten cx.written (all_judged cx ways locals ts).locals
  written_trees cx ways locals Empty' h = h
  written_trees cx ways locals (First' t rest) h =
      written_trees cx (rest_ways ways) (judged cx (first_way ways) locals t).locals rest (written_tree cx (first_way ways) locals t h)
