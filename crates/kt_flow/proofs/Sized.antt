-- What is added for the limits that bodies pass.
use Rattle.std.proofs.Common.{◌≡◌, ◌⊎◌, ◌↔◌, ◌<◌, ◌+◌, ℕ, Bool, true, false, List, ◌++◌, length, Some, slice_get, IsTrue, inl, inr, refl, sym, ap, subst, ◌∙◌, arith, append-nil}
use Rattle.std.specs.Prelude.{Result, Ok, Err, OnOk}
use Rattle.std.proofs.lemmas.Bool.{cases_order, false≢true}
use Rattle.std.proofs.lemmas.Option.{slice_get_within}
use Rattle.kt_tree.specs.declared.token.Span.{Span}
use Rattle.kt_tree.specs.declared.ast.declaration.File.{File}
use Rattle.kt_tree.specs.declared.ast.declaration.FunctionDecl.{FunctionDecl}
use Rattle.kt_model.specs.NameUses.{Resolved}
use Rattle.kt_model.specs.Bodies.{IsTooLarge}
use Rattle.kt_paths.specs.FlowRules.{most_locals, IsSizeViolated, too_many, too_large}
use Rattle.kt_model.specs.Findings.{Adds}
use Rattle.kt_model.specs.declared.uses.Owner.TheVariants as owner
use Rattle.kt_model.specs.declared.finding.Finding.{Finding}
use Rattle.kt_model.specs.declared.finding.Rule.{Rule}
use Rattle.kt_model.specs.declared.finding.Rule.TheVariants.{TooManyLocals, FlowTooLarge}
use Rattle.kt_flow.specs.Sizes.{finding_if, owner_locals, owner_nodes, IsPassed, many, large, IsPassedBefore}
use Rattle.kt_flow.proofs.Adding.{adds_none, adds_push, adds_same, adds_both}

-- what is added where a rule holds
pub adds_if : (b : Bool) (rule : Rule) (at : Span) (P : Type 0) (old new : List Finding) → IsTrue b ↔ P → new ≡ old ++ finding_if b rule at → Adds (λ f. P × (record { rule = rule; span = at } ≡ f)) old new
adds_if true rule at P old new is e = adds_push _ old new (record { rule = rule; span = at }) e (is.0 refl, refl) (λ f h. h.1)
adds_if false rule at P old new is e =
    subst (λ l. Adds (λ f. P × (record { rule = rule; span = at } ≡ f)) old l) (sym (e ∙ append-nil old)) (adds_none _ old (λ f h. false≢true (is.1 h.0)))

-- what a body passes
pub passed : (m l : Bool) (locals nodes classes : ℕ) (at : Span) (old mid new : List Finding) → IsTrue m ↔ (most_locals < locals) → IsTrue l ↔ IsTooLarge nodes 0 classes
    → mid ≡ old ++ finding_if m TooManyLocals at → new ≡ mid ++ finding_if l FlowTooLarge at → Adds (IsPassed locals nodes classes at) old new
passed m l locals nodes classes at old mid new is_many is_large e d =
    adds_same _ _ old new to from (adds_both _ _ old mid new (adds_if m TooManyLocals at (most_locals < locals) old mid is_many e) (adds_if l FlowTooLarge at (IsTooLarge nodes 0 classes) mid new is_large d))
  where
    to : (f : Finding) → ((most_locals < locals) × (record { rule = TooManyLocals; span = at } ≡ f)) ⊎ (IsTooLarge nodes 0 classes × (record { rule = FlowTooLarge; span = at } ≡ f)) → IsPassed locals nodes classes at f
    to f (inl h) = subst (λ x. IsPassed locals nodes classes at x) h.1 (many h.0)
    to f (inr h) = subst (λ x. IsPassed locals nodes classes at x) h.1 (large h.0)

    from : (f : Finding) → IsPassed locals nodes classes at f → ((most_locals < locals) × (record { rule = TooManyLocals; span = at } ≡ f)) ⊎ (IsTooLarge nodes 0 classes × (record { rule = FlowTooLarge; span = at } ≡ f))
    from f (many h) = inl (h, refl)
    from f (large h) = inr (h, refl)

-- the same of a call that may fail
pub passed_on : {A E : Type 0} (r : Result A E) (m l : Bool) (locals nodes classes : ℕ) (at : Span) (old mid new : List Finding) → IsTrue m ↔ (most_locals < locals) → IsTrue l ↔ IsTooLarge nodes 0 classes
    → mid ≡ old ++ finding_if m TooManyLocals at → OnOk r (new ≡ mid ++ finding_if l FlowTooLarge at) → OnOk r (Adds (IsPassed locals nodes classes at) old new)
passed_on (Ok a) m l locals nodes classes at old mid new is_many is_large e d = passed m l locals nodes classes at old mid new is_many is_large e d
passed_on (Err x) m l locals nodes classes at old mid new is_many is_large e d = tt

module _ (file : File) (uses : Resolved) (classes : ℕ) where
  pub none_passed : (f : Finding) → IsPassedBefore file uses classes 0 f → ⊥
  none_passed f h = let below : h.at < 0 = h.before in absurd (omega arith)

  -- one function more
  pub passed_more : (i : ℕ) (d : FunctionDecl) (old mid new : List Finding) → slice_get file.functions i ≡ Some d → Adds (IsPassedBefore file uses classes i) old mid
      → Adds (IsPassed (owner_locals file uses (owner.Function i)) (owner_nodes file uses (owner.Function i)) classes d.name.span) mid new → Adds (IsPassedBefore file uses classes (i + 1)) old new
  passed_more i d old mid new is a b =
      adds_same _ _ old new to from (adds_both _ _ old mid new a b)
    where
      to : (f : Finding) → IsPassedBefore file uses classes i f ⊎ IsPassed (owner_locals file uses (owner.Function i)) (owner_nodes file uses (owner.Function i)) classes d.name.span f → IsPassedBefore file uses classes (i + 1) f
      to f (inl h) = record { at = h.at; before = (let below = h.before in omega arith); function = h.function; is_function = h.is_function; passed = h.passed }
      to f (inr h) = record { at = i; before = omega arith; function = d; is_function = is; passed = h }

      at_this : (k : ℕ) (other : FunctionDecl) (f : Finding) → k ≡ i → slice_get file.functions k ≡ Some other → IsPassed (owner_locals file uses (owner.Function k)) (owner_nodes file uses (owner.Function k)) classes other.name.span f
          → IsPassed (owner_locals file uses (owner.Function i)) (owner_nodes file uses (owner.Function i)) classes d.name.span f
      at_this k other f same there h =
          let found : Some other ≡ Some d = sym there ∙ ap (slice_get file.functions) same ∙ is in
          let one : other ≡ d = cc in
          subst (λ x. IsPassed (owner_locals file uses (owner.Function i)) (owner_nodes file uses (owner.Function i)) classes x.name.span f) one
          (subst (λ j. IsPassed (owner_locals file uses (owner.Function j)) (owner_nodes file uses (owner.Function j)) classes other.name.span f) same h)

      from : (f : Finding) → IsPassedBefore file uses classes (i + 1) f → IsPassedBefore file uses classes i f ⊎ IsPassed (owner_locals file uses (owner.Function i)) (owner_nodes file uses (owner.Function i)) classes d.name.span f
      from f h = elim (cases_order h.at i) [
        | inl same ↦ inr (at_this h.at h.function f same h.is_function h.passed)
        | inr apart ↦ elim apart [
          | inl below ↦ inl (record { at = h.at; before = below; function = h.function; is_function = h.is_function; passed = h.passed })
          | inr above ↦ (let before = h.before in absurd (omega arith))
        ]
      ]

  violated_by : (k : ℕ) (d : FunctionDecl) (f : Finding) → slice_get file.functions k ≡ Some d → IsPassed (owner_locals file uses (owner.Function k)) (owner_nodes file uses (owner.Function k)) classes d.name.span f → IsSizeViolated file uses classes f
  violated_by k d f is (many h) = too_many k d is h
  violated_by k d f is (large h) = too_large k d is h

  -- what all functions pass is what is violated
  pub violated : (f : Finding) → IsPassedBefore file uses classes (length file.functions) f → IsSizeViolated file uses classes f
  violated f h = violated_by h.at h.function f h.is_function h.passed

  pub is_passed : (f : Finding) → IsSizeViolated file uses classes f → IsPassedBefore file uses classes (length file.functions) f
  is_passed f (too_many k d is h) = record { at = k; before = slice_get_within file.functions k d is; function = d; is_function = is; passed = many h }
  is_passed f (too_large k d is h) = record { at = k; before = slice_get_within file.functions k d is; function = d; is_function = is; passed = large h }
