use Rattle.std.proofs.Common.{◌≡◌, ◌==◌, ◌↔◌, ◌∙◌, ℕ, Bool, true, List, Option, Some, Contains, sym, ap, arith}
use Rattle.std.specs.List.{list_any}
use Rattle.kt_model.specs.Classes.{Classes, IsProperlyAbove}
use Rattle.kt_model.proofs.ListLemmas.{contains_tested}
use Rattle.kt_decl.specs.Marks.{CountsAbove}
use Rattle.kt_decl.proofs.ListSteps.{get_more, index_more}
use Rattle.kt_decl.proofs.hierarchy.search_all.Goals as goal

some_same : {a b : Bool} → Some a ≡ Some b → a ≡ b
some_same e = cc

-- the test tells whether the class is above itself
tells : (classes : Classes) (above : List ℕ) (class : ℕ) (b : Bool) → b ≡ list_any (λ y. y == class) above → ((d : ℕ) → Contains above d ↔ IsProperlyAbove classes class d) → (Some b ≡ Some true) ↔ IsProperlyAbove classes class class
tells classes above class b is has = (
  (λ t. (has class).0 ((contains_tested above class).0 (sym is ∙ some_same t))),
  (λ w. ap Some (is ∙ (contains_tested above class).1 ((has class).1 w))),
)

pub loop-i-preserved : goal.loop-i-preserved
loop-i-preserved c =
    let i = c.loop-i.invariant in
    let classes = c.args.classes.now in
    let above = c.in_ok-above.above in
    let P : ℕ → ℕ → Type 0 = λ k n. CountsAbove classes k n in
    let Q : ℕ → Option Bool → Type 0 = λ k o. (o ≡ Some true) ↔ IsProperlyAbove classes k k in
    let count : CountsAbove classes c.loop-i.i c.len.result = rw c.len.ensures c.in_ok-above.ensures.count in
    let tested = tells classes above.items c.loop-i.i c.contains.result (c.contains.ensures.value ∙ ap (λ xs. list_any (λ y. y == c.loop-i.i) xs) c.deref.ensures.value) c.in_ok-above.ensures.members in
    record {
      counts = index_more P c.loop-i.counts.items _ c.len.result c.loop-i.i (omega (arith, c.loop-i.counts.ok.0, i.len)) c.in_ok-push.ensures.items i.counts count;
      len = omega (arith, c.in_ok-push.ensures.len, i.len);
      cycles = get_more Q c.loop-i.cycles.items _ c.contains.result c.loop-i.i (omega (arith, c.loop-i.cycles.ok.0, i.marks)) c.in_ok-push-2.ensures.items i.cycles tested;
      marks = omega (arith, c.in_ok-push-2.ensures.len, i.marks);
    }
