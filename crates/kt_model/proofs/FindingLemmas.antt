-- The order of findings is total, and two findings that tie are one.
use Rattle.std.proofs.Common.{◌≡◌, true, rules}
use Rattle.std.specs.Cmp.{IsTotalOrder, IsEquivalence, first_so, second_so}
use Rattle.std.specs.Cmp.Rules.{comparing}
use Rattle.std.specs.Cmp.Lexicographic.{bytes_decides}
use Rattle.std.specs.Ordering.{eq_by_cmp}
use Rattle.std.proofs.lemmas.Bool.{eqb-true}
use Rattle.kt_model.specs.Order.{by_place, same_finding}
use Rattle.kt_model.specs.declared.finding.Finding.{Finding}
use Rattle.kt_model.proofs.CodeLemmas.{code_of-injective}

pub by_place_total : IsTotalOrder by_place
by_place_total = search (comparing, rules) depth 9

pub same_finding_equiv : IsEquivalence same_finding
same_finding_equiv = search (comparing, rules) depth 9

pub ties : (x y : Finding) → same_finding x y ≡ eq_by_cmp by_place x y
ties = search (comparing, rules) depth 9

joined : (f g : Finding) → f.span.start ≡ g.span.start → f.span.end ≡ g.span.end → f.rule ≡ g.rule → f ≡ g
joined f g a b c = λ i. record { span = record { start = a i; end = b i }; rule = c i }

pub same_is : (x y : Finding) → same_finding x y ≡ true → x ≡ y
same_is x y h =
    let start = first_so _ _ h in
    let rest = second_so _ _ h in
    let end = first_so _ _ rest in
    let code = second_so _ _ rest in
    joined x y (eqb-true _ _ start) (eqb-true _ _ end) (code_of-injective _ _ ((bytes_decides _ _).0 code))
