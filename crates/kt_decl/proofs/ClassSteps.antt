-- Findings that a loop over the classes adds.
use Rattle.std.proofs.Common.{◌≡◌, ◌<◌, ◌≤◌, ◌⊎◌, ◌↔◌, ◌++◌, ◌+◌, ℕ, Bool, true, false, List, [], Some, Contains, inl, inr, refl, sym, ap, subst, ◌∙◌, arith, slice_get, length, get_or}
use Rattle.std.proofs.lemmas.Bool.{cases_lt, false≢true}
use Rattle.std.proofs.lemmas.Option.{slice_get_within, slice_get-get_or}
use Rattle.std.proofs.lemmas.List.{length-map}
use Rattle.std.proofs.lemmas.List.Elements.{Contains-push, Contains-append_left, Contains-append_right, Contains-append_cases}
use Rattle.kt_tree.specs.declared.ast.declaration.File.{File}
use Rattle.kt_tree.specs.declared.ast.declaration.ClassDecl.{ClassDecl}
use Rattle.kt_model.specs.declared.finding.Finding.{Finding}
use Rattle.kt_model.specs.declared.finding.Rule.TheVariants.{SupertypeCycle}
use Rattle.kt_model.specs.TopNames.{top_names, built_in_classes}
use Rattle.kt_model.specs.Findings.{Adds, AreFindings}
use Rattle.kt_model.specs.DeclarationRules.{IsViolatedAt, cycle, misfit, IsOfClass, IsOnCycle, kinds_of, classes_of}
use Rattle.kt_model.proofs.ListLemmas.{contains_has, has_one}
use Rattle.kt_decl.specs.Marks.{class_findings, IsOfClassBefore, IsMarked, MarksCycles}

-- the parts of two walks, one after the other
pub adds_both : (P Q : Finding → Type 0) (old mid new : List Finding) → Adds P old mid → Adds Q mid new → Adds (λ f. P f ⊎ Q f) old new
adds_both P Q old mid new a b f = (
  (λ h. elim ((b f).0 h) [ inl m ↦ (elim ((a f).0 m) [ inl o ↦ inl o | inr p ↦ inr (inl p) ]) | inr q ↦ inr (inr q) ]),
  (λ s. elim s [ inl o ↦ (b f).1 (inl ((a f).1 (inl o))) | inr pq ↦ (elim pq [ inl p ↦ (b f).1 (inl ((a f).1 (inr p))) | inr q ↦ (b f).1 (inr q) ]) ]),
)

pub adds_append : (xs old new : List Finding) → new ≡ old ++ xs → Adds (Contains xs) old new
adds_append xs old new e =
    rw e (λ f. ((λ h. Contains-append_cases old xs f h), λ s. elim s [ inl o ↦ Contains-append_left old xs f o | inr x ↦ Contains-append_right old xs f x ]))

-- what a walk from nothing has put in, in order
pub findings_of_walk : (P : Finding → Type 0) (out found : List Finding) → Adds P [] out → AreFindings (Contains out) found → AreFindings P found
findings_of_walk P out found a are = record {
  in_order = are.in_order;
  only = λ f h. elim ((a f).0 (are.only f h)) [ inl none ↦ absurd (omega (arith, none.1)) | inr p ↦ p ];
  all = λ f p. are.all f ((a f).1 (inr p));
}

one_decl : {a b : ClassDecl} → Some a ≡ Some b → a ≡ b
one_decl e = cc

module _ (file : File) where
  -- what is put in at a class is what is violated there
  put_in : (n : ℕ) (d : ClassDecl) (b : Bool) → (b ≡ true → IsOnCycle file n) → (IsOnCycle file n → b ≡ true) → (f : Finding) → Contains (class_findings (top_names file) (kinds_of file) b d) f ↔ IsViolatedAt file n d f
  put_in n d true to from f = (
    (λ h. cycle (to refl) (sym (has_one _ f (contains_has _ f h)))),
    back,
  )
    where
      back : IsViolatedAt file n d f → Contains (class_findings (top_names file) (kinds_of file) true d) f
      back (cycle on e) =
          subst (λ z. Contains (class_findings (top_names file) (kinds_of file) true d) z) (sym e) (Contains-push [] (record { rule = SupertypeCycle; span = d.name.span }))
      back (misfit free h) = absurd (free (to refl))
  put_in n d false to from f = ((λ h. misfit (λ on. false≢true (from on)) h), back)
    where
      back : IsViolatedAt file n d f → Contains (class_findings (top_names file) (kinds_of file) false d) f
      back (cycle on e) = absurd (false≢true (from on))
      back (misfit free h) = h

  -- one more class
  pub class_step : (n : ℕ) (d : ClassDecl) (b : Bool) (old mid new : List Finding) → (b ≡ true → IsOnCycle file n) → (IsOnCycle file n → b ≡ true) → slice_get file.classes n ≡ Some d → Adds (IsOfClassBefore file n) old mid → new ≡ mid ++ class_findings (top_names file) (kinds_of file) b d → Adds (IsOfClassBefore file (n + 1)) old new
  class_step n d b old mid new to from is a grown f =
      subst (λ z. Contains z f ↔ (Contains old f ⊎ IsOfClassBefore file (n + 1) f)) (sym grown) (
        (λ h. elim (Contains-append_cases mid _ f h) [ inl m ↦ (elim ((a f).0 m) [ inl o ↦ inl o | inr w ↦ inr (w.0, omega (arith, w.1)) ]) | inr x ↦ inr (record { place = n; decl = d; declared = is; violated = (put_in n d b to from f).0 x }, omega arith) ]),
        (λ s. elim s [ inl o ↦ Contains-append_left mid _ f ((a f).1 (inl o)) | inr w ↦ at w ]),
      )
    where
      at : IsOfClassBefore file (n + 1) f → Contains (mid ++ class_findings (top_names file) (kinds_of file) b d) f
      at w =
          elim (cases_lt w.0.place n) [ inl before ↦ Contains-append_left mid _ f ((a f).1 (inr (w.0, before))) | inr here ↦ last here ]
        where
          same : n ≤ w.0.place → w.0.place ≡ n
          same h = omega (arith, w.1)

          last : n ≤ w.0.place → Contains (mid ++ class_findings (top_names file) (kinds_of file) b d) f
          last h =
              let there : slice_get file.classes n ≡ Some w.0.decl = subst (λ z. slice_get file.classes z ≡ Some w.0.decl) (same h) w.0.declared in
              let the_decl : w.0.decl ≡ d = one_decl (sym there ∙ is) in
              let violated : IsViolatedAt file n d f = subst (λ z. IsViolatedAt file n z f) the_decl (subst (λ z. IsViolatedAt file z w.0.decl f) (same h) w.0.violated) in
              Contains-append_right mid _ f ((put_in n d b to from f).1 violated)

  pub all_classes : (n : ℕ) (old new : List Finding) → length file.classes ≤ n → Adds (IsOfClassBefore file n) old new → Adds (IsOfClass file) old new
  all_classes n old new long a f = (
    (λ h. elim ((a f).0 h) [ inl o ↦ inl o | inr w ↦ inr w.0 ]),
    (λ s. elim s [ inl o ↦ (a f).1 (inl o) | inr w ↦ (a f).1 (inr (w, (let inside = slice_get_within file.classes w.place w.decl w.declared in omega arith))) ]),
  )

some_same : {a b : Bool} → Some a ≡ Some b → a ≡ b
some_same e = cc

pub length_classes_of : (file : File) → length (classes_of file) ≡ built_in_classes + length file.classes
unfolding classes_of
length_classes_of file = simp length-map (omega arith)

-- what the marks tell at a class of the file
pub read_cycle : (file : File) (cycles : List Bool) (number place : ℕ) → MarksCycles (classes_of file) cycles → length cycles ≡ built_in_classes + length file.classes → number ≡ built_in_classes + place → place < length file.classes → (get_or cycles number false ≡ true → IsOnCycle file place) × (IsOnCycle file place → get_or cycles number false ≡ true)
read_cycle file cycles number place marked long is within =
    subst (λ k. (get_or cycles k false ≡ true → IsOnCycle file place) × (IsOnCycle file place → get_or cycles k false ≡ true)) (sym is) ((λ t. at.0 (read ∙ ap Some t)), λ w. some_same (sym read ∙ at.1 w))
  where
    at : IsMarked cycles (built_in_classes + place) ↔ IsOnCycle file place
    at = marked (built_in_classes + place) (omega (arith, length_classes_of file))

    read : slice_get cycles (built_in_classes + place) ≡ Some (get_or cycles (built_in_classes + place) false)
    read = slice_get-get_or cycles (built_in_classes + place) false (omega arith)
