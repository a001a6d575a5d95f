use Rattle.std.proofs.Common.{◌≡◌, ◌∙◌, ℕ, List, arith, ap, sym, subst, length}
use Rattle.kt_model.specs.declared.finding.Finding.{Finding}
use Rattle.kt_model.specs.Classes.{Classes, IsProperlyAbove}
use Rattle.kt_model.specs.DeclarationRules.{IsViolated}
use Rattle.kt_decl.specs.Marks.{HasKnownSupers, FallsAlong}
use Rattle.kt_decl.proofs.TableLemmas.{free_of, none_violated}
use Rattle.kt_decl.proofs.table.classes.Goals as goal
use Rattle.kt_decl.proofs.table.classes.Goals.{After-deref-4}

known : (a b : Classes) → a ≡ b → HasKnownSupers b → HasKnownSupers a
known a b e h = let P : Classes → Type 0 = λ z. HasKnownSupers z in subst P (sym e) h

falls : (a b : Classes) (p q : List ℕ) → a ≡ b → p ≡ q → FallsAlong b q → FallsAlong a p
falls a b p q e f h =
    let P : List ℕ → Type 0 = λ z. FallsAlong a z in
    let Q : Classes → Type 0 = λ z. FallsAlong z q in
    subst P (sym f) (subst Q (sym e) h)

accepted : (c : After-deref-4) → (f : Finding) → IsViolated c.args.file.now f → ⊥
accepted c =
    none_violated (IsViolated c.args.file.now) c.in_ok-found.found c.in_ok-found.ensures (c.is_empty.ensures.0 c.if-not-is_empty.false)

pub search_all-requires-clause-closed : goal.search_all-requires-clause-closed
search_all-requires-clause-closed c = known _ _ c.deref.ensures.value c.in_ok-supers.ensures.closed

pub declaration_findings-requires-clause-long : goal.declaration_findings-requires-clause-long
declaration_findings-requires-clause-long c =
    let cycles = c.in_ok-hierarchy.hierarchy.cycles in
    let one = ap length c.deref-2.ensures.value in
    let two = ap length c.deref.ensures.value in
    omega (arith, one, two, cycles.ok.0, c.in_ok-hierarchy.ensures.marks, c.in_ok-supers.ensures.len)

pub is_ranked-requires-clause-some : goal.is_ranked-requires-clause-some
is_ranked-requires-clause-some c =
    let same = ap length c.deref-3.ensures.value in omega (arith, same, c.in_ok-supers.ensures.len)

pub is_ranked-requires-clause-closed : goal.is_ranked-requires-clause-closed
is_ranked-requires-clause-closed c = known _ _ c.deref-3.ensures.value c.in_ok-supers.ensures.closed

pub is_ranked-requires-clause-free : goal.is_ranked-requires-clause-free
is_ranked-requires-clause-free c =
    let P : Classes → Type 0 = λ z. (k : ℕ) → IsProperlyAbove z k k → ⊥ in
    subst P (sym (c.deref-3.ensures.value ∙ c.in_ok-supers.ensures.classes)) (free_of c.args.file.now (accepted c))

pub settled_rows-requires-clause-closed : goal.settled_rows-requires-clause-closed
settled_rows-requires-clause-closed c = known _ _ c.deref-5.ensures.value c.in_ok-supers.ensures.closed

pub settled_rows-requires-clause-falls : goal.settled_rows-requires-clause-falls
settled_rows-requires-clause-falls c =
    falls _ _ _ _ (c.deref-5.ensures.value ∙ sym c.deref-3.ensures.value) (c.deref-6.ensures.value ∙ sym c.deref-4.ensures.value) c.is_ranked.ensures.falls

pub returns-clause-accepted : goal.returns-clause-accepted
returns-clause-accepted c =
    none_violated (IsViolated c.args.file.now) c.in_ok-found.found c.in_ok-found.ensures (c.is_empty.ensures.0 c.if-not-is_empty.false)
