-- The order of findings in a report: by start, then by end, then by the code's bytes. It is this project's own.
use Rattle.std.specs.Prelude.{Bool, ◌==◌}
use Rattle.std.specs.declared.cmp.Ordering.{Ordering}
use Rattle.std.specs.Ordering.{nat_cmp, on, then_cmp, eq_of_both}
use Rattle.std.specs.Cmp.Lexicographic.{slice_cmp, pointwise}
use Rattle.kt_model.specs.Codes.{code_of}
use Rattle.kt_model.specs.declared.finding.Finding.{Finding}

abbrev pub by_place : Finding → Finding → Ordering
by_place =
    then_cmp (on (λ f. f.span.start) nat_cmp) (then_cmp (on (λ f. f.span.end) nat_cmp) (on (λ f. code_of f.rule) (slice_cmp nat_cmp)))

-- whether two findings are the same by place and code
abbrev pub same_finding : Finding → Finding → Bool
same_finding =
    eq_of_both (on (λ f. f.span.start) ◌==◌) (eq_of_both (on (λ f. f.span.end) ◌==◌) (on (λ f. code_of f.rule) (pointwise ◌==◌)))
