-- What is violated in the bodies of a file, one after another.
use Rattle.std.proofs.Common.{◌≡◌, ◌<◌, ◌+◌, ℕ, List, [], ◌++◌, Contains, length, inl, inr, sym, ap, subst, ◌∙◌, append_assoc, arith}
use Rattle.std.proofs.lemmas.Bool.{cases_lt}
use Rattle.std.proofs.lemmas.List.Elements.{Contains-append_left, Contains-append_right, Contains-append_cases}
use Rattle.kt_tree.specs.declared.ast.declaration.File.{File}
use Rattle.kt_model.specs.Bodies.{owner_parameters, owner_trees, IsTooLarge}
use Rattle.kt_model.specs.ControlFlow.{body_nodes}
use Rattle.kt_model.specs.Findings.{AreFindings}
use Rattle.kt_paths.specs.FlowRules.{IsSizeViolated, too_large}
use Rattle.kt_model.specs.NameUses.{Resolved}
use Rattle.kt_model.specs.declared.finding.Finding.{Finding}
use Rattle.kt_model.specs.declared.uses.Owner.TheVariants as owner
use Rattle.kt_sound.proofs.DeadOfFile.{got}
use Rattle.kt_check.specs.Phases.{IsViolatedBefore, AreBefore, AddsBody}
use Rattle.kt_check.specs.Verdicts.{IsBodySettled}
use Rattle.kt_check.specs.Violations.{IsBodyViolated}

-- no body is too large where no limit is passed
pub none_too_large : (file : File) (uses : Resolved) (classes place : ℕ) → ((f : Finding) → IsSizeViolated file uses classes f → ⊥) → place < length file.functions
    → IsTooLarge (length (body_nodes (owner_parameters uses (owner.Function place)) (owner_trees file uses (owner.Function place)))) 0 classes → ⊥
none_too_large file uses classes place none within large = let f = got file.functions place within in none _ (too_large place f.0 f.1 large)

pub none_before : (file : File) (uses : Resolved) → AreBefore file uses 0 []
none_before file uses = record {
  only = λ f h. absurd (omega (arith, h.1));
  all = λ f v. absurd (omega (arith, v.before));
  settled = λ place below. absurd (omega arith);
}

-- one body more
pub one_more : (file : File) (uses : Resolved) (n : ℕ) (old new : List Finding) → AreBefore file uses n old → AddsBody file uses n old new → AreBefore file uses (n + 1) new
one_more file uses n old new before adds = record {
  only = λ f h. elim (Contains-append_cases old (adds.typing ++ adds.flow) f (subst (λ (xs : List Finding). Contains xs f) adds.is h)) [
    | inl there ↦ let v = before.only f there in record { place = v.place; before = let b = v.before in omega arith; violated = v.violated }
    | inr here ↦ record { place = n; before = omega arith; violated = violated f here }
  ];
  all = λ f v. subst (λ (xs : List Finding). Contains xs f) (sym adds.is) (elim (cases_lt v.place n) [
    | inl below ↦ Contains-append_left old (adds.typing ++ adds.flow) f (before.all f (record { place = v.place; before = below; violated = v.violated }))
    | inr from ↦ (let b = v.before in let same : v.place ≡ n = omega arith in
        Contains-append_right old (adds.typing ++ adds.flow) f (found f (subst (λ p. IsBodyViolated file uses p f) same v.violated)))
  ]);
  settled = λ place below. elim (cases_lt place n) [
    | inl less ↦ before.settled place less
    | inr from ↦ (let same : n ≡ place = omega arith in
        subst (λ p. IsBodySettled file uses p) same adds.settled)
  ];
}
  where
    violated : (f : Finding) → Contains (adds.typing ++ adds.flow) f → IsBodyViolated file uses n f
    violated f h = elim (Contains-append_cases adds.typing adds.flow f h) [ inl t ↦ inl (adds.typed.only f t) | inr p ↦ inr (adds.flows.only f p) ]

    found : (f : Finding) → IsBodyViolated file uses n f → Contains (adds.typing ++ adds.flow) f
    found f (inl t) = Contains-append_left adds.typing adds.flow f (adds.typed.all f t)
    found f (inr p) = Contains-append_right adds.typing adds.flow f (adds.flows.all f p)

-- the same in order
pub put_in_order : (file : File) (uses : Resolved) (n : ℕ) (found sorted : List Finding) → AreBefore file uses n found → AreFindings (Contains found) sorted → AreFindings (IsViolatedBefore file uses n) sorted
put_in_order file uses n found sorted before are =
    record { in_order = are.in_order; only = λ f c. before.only f (are.only f c); all = λ f v. are.all f (before.all f v) }

-- two lists of findings behind what was there
pub both_added : (old one two middle new typing flow : List Finding) → middle ≡ old ++ one → one ≡ typing → new ≡ middle ++ two → two ≡ flow → new ≡ old ++ (typing ++ flow)
both_added old one two middle new typing flow first is_typing second is_flow =
    second ∙ ap (λ (xs : List Finding). middle ++ xs) is_flow ∙ ap (λ (xs : List Finding). xs ++ flow) (first ∙ ap (λ (xs : List Finding). old ++ xs) is_typing) ∙ append_assoc old typing flow
