-- Findings that one walk after another has put in.
use Rattle.std.proofs.Common.{◌≡◌, ◌⊎◌, ◌<◌, ◌+◌, ℕ, List, [], ◌∷◌, ◌++◌, take, length, get_or, Contains, inl, inr, sym, ap, subst, ◌∙◌, arith}
use Rattle.std.specs.Prelude.{Result, Ok, Err, OnOk}
use Rattle.std.proofs.lemmas.Bool.{cases_order}
use Rattle.std.proofs.lemmas.List.{take_more}
use Rattle.std.proofs.lemmas.List.Elements.{Contains-push, Contains-push_cases, Contains-append_left}
use Rattle.kt_model.specs.declared.finding.Finding.{Finding}
use Rattle.kt_model.specs.declared.graph.FlowEffect.{FlowEffect}
use Rattle.kt_model.specs.declared.graph.Graph.{Graph}
use Rattle.kt_model.specs.Findings.{Adds, AreFindings}
use Rattle.kt_flow.specs.declared.notes.TreeNote.{TreeNote}
use Rattle.kt_flow.specs.Against.{IsAgainst, IsAgainstOne, IsAgainstAt, IsAgainstBefore}

-- nothing
pub adds_none : (P : Finding → Type 0) (old : List Finding) → ((f : Finding) → P f → ⊥) → Adds P old old
adds_none P old never f = (λ h. inl h, λ s. elim s [ inl h ↦ h | inr p ↦ absurd (never f p) ])

-- one
pub adds_push : (P : Finding → Type 0) (old new : List Finding) (g : Finding) → new ≡ old ++ g ∷ [] → P g → ((f : Finding) → P f → g ≡ f) → Adds P old new
adds_push P old new g e p only =
    subst (λ l. Adds P old l) (sym e)
    (λ f. (
      λ h. elim (Contains-push_cases old g f h) [ inl o ↦ inl o | inr s ↦ inr (subst P s p) ],
      λ s. elim s [ inl o ↦ Contains-append_left old (g ∷ []) f o | inr q ↦ subst (λ x. Contains (old ++ g ∷ []) x) (only f q) (Contains-push old g) ],
    ))

-- the same in other words
pub adds_same : (P Q : Finding → Type 0) (old new : List Finding) → ((f : Finding) → P f → Q f) → ((f : Finding) → Q f → P f) → Adds P old new → Adds Q old new
adds_same P Q old new to from a f =
    (λ h. elim ((a f).0 h) [ inl o ↦ inl o | inr p ↦ inr (to f p) ], λ s. elim s [ inl o ↦ (a f).1 (inl o) | inr q ↦ (a f).1 (inr (from f q)) ])

-- one walk after another
pub adds_both : (P Q : Finding → Type 0) (old mid new : List Finding) → Adds P old mid → Adds Q mid new → Adds (λ f. P f ⊎ Q f) old new
adds_both P Q old mid new a b f = (
  (λ h. elim ((b f).0 h) [ inl m ↦ (elim ((a f).0 m) [ inl o ↦ inl o | inr p ↦ inr (inl p) ]) | inr q ↦ inr (inr q) ]),
  (λ s. elim s [ inl o ↦ (b f).1 (inl ((a f).1 (inl o))) | inr pq ↦ (elim pq [ inl p ↦ (b f).1 (inl ((a f).1 (inr p))) | inr q ↦ (b f).1 (inr q) ]) ]),
)

-- of a call that may fail
pub adds_on : {A E : Type 0} (r : Result A E) (P Q : Finding → Type 0) (old new : List Finding) → ((f : Finding) → P f → Q f) → ((f : Finding) → Q f → P f) → OnOk r (Adds P old new) → OnOk r (Adds Q old new)
adds_on (Ok a) P Q old new to from h = adds_same P Q old new to from h
adds_on (Err e) P Q old new to from h = tt

-- what a walk from nothing has put in, in order
pub findings_of_walk : (P Q : Finding → Type 0) (out found : List Finding) → ((f : Finding) → P f → Q f) → ((f : Finding) → Q f → P f) → Adds P [] out → AreFindings (Contains out) found → AreFindings Q found
findings_of_walk P Q out found to from a are = record {
  in_order = are.in_order;
  only = λ f h. elim ((a f).0 (are.only f h)) [ inl none ↦ absurd (omega (arith, none.1)) | inr p ↦ to f p ];
  all = λ f q. are.all f ((a f).1 (inr (from f q)));
}

-- the same findings of what is violated in other words
pub same_findings : (P Q : Finding → Type 0) (found : List Finding) → ((f : Finding) → P f → Q f) → ((f : Finding) → Q f → P f) → AreFindings P found → AreFindings Q found
same_findings P Q found to from are = record { in_order = are.in_order; only = λ f h. to f (are.only f h); all = λ f q. are.all f (from f q) }

module _ (g : Graph) (node : ℕ) (n : TreeNote) where
  -- no effect
  pub no_effects : (f : Finding) → IsAgainstOne g node n [] f → ⊥
  no_effects f h = absurd (omega (arith, h.among.1))

  -- one effect more
  pub effects_more : (xs : List FlowEffect) (i : ℕ) (x : FlowEffect) (old mid new : List Finding) → i < length xs → x ≡ get_or xs i x
      → Adds (IsAgainstOne g node n (take i xs)) old mid → Adds (IsAgainst g node n x) mid new → Adds (IsAgainstOne g node n (take (i + 1) xs)) old new
  effects_more xs i x old mid new lt is a b =
      adds_same _ _ old new to from (adds_both _ _ old mid new a b)
    where
      one : take (i + 1) xs ≡ take i xs ++ x ∷ []
      one = take_more xs i x lt ∙ ap (λ y. take i xs ++ y ∷ []) (sym is)

      to : (f : Finding) → IsAgainstOne g node n (take i xs) f ⊎ IsAgainst g node n x f → IsAgainstOne g node n (take (i + 1) xs) f
      to f (inl h) = record { effect = h.effect; among = subst (λ l. Contains l h.effect) (sym one) (Contains-append_left (take i xs) (x ∷ []) h.effect h.among); against = h.against }
      to f (inr h) = record { effect = x; among = subst (λ l. Contains l x) (sym one) (Contains-push (take i xs) x); against = h }

      from : (f : Finding) → IsAgainstOne g node n (take (i + 1) xs) f → IsAgainstOne g node n (take i xs) f ⊎ IsAgainst g node n x f
      from f h = elim (Contains-push_cases (take i xs) x h.effect (subst (λ l. Contains l h.effect) one h.among)) [
        | inl o ↦ inl (record { effect = h.effect; among = o; against = h.against })
        | inr s ↦ inr (subst (λ y. IsAgainst g node n y f) (sym s) h.against)
      ]

module _ (notes : List TreeNote) (g : Graph) where
  pub no_nodes : (f : Finding) → IsAgainstBefore notes g 0 f → ⊥
  no_nodes f h = let below : h.node < 0 = h.before in absurd (omega arith)

  -- one node more
  pub nodes_more : (i : ℕ) (old mid new : List Finding) → Adds (IsAgainstBefore notes g i) old mid → Adds (IsAgainstAt notes g i) mid new → Adds (IsAgainstBefore notes g (i + 1)) old new
  nodes_more i old mid new a b =
      adds_same _ _ old new to from (adds_both _ _ old mid new a b)
    where
      to : (f : Finding) → IsAgainstBefore notes g i f ⊎ IsAgainstAt notes g i f → IsAgainstBefore notes g (i + 1) f
      to f (inl h) = record { node = h.node; before = (let below = h.before in omega arith); there = h.there }
      to f (inr h) = record { node = i; before = omega arith; there = h }

      from : (f : Finding) → IsAgainstBefore notes g (i + 1) f → IsAgainstBefore notes g i f ⊎ IsAgainstAt notes g i f
      from f h = elim (cases_order h.node i) [
        | inl same ↦ inr (subst (λ k. IsAgainstAt notes g k f) same h.there)
        | inr apart ↦ elim apart [
          | inl below ↦ inl (record { node = h.node; before = below; there = h.there })
          | inr above ↦ (let before = h.before in absurd (omega arith))
        ]
      ]
