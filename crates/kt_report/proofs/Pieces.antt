-- The pieces of a report, one behind another.
use Rattle.std.proofs.Common.{◌≡◌, ℕ, List, [], ◌++◌, ap, ◌∙◌}
use Rattle.std.specs.Prelude.{codes}
use Rattle.kt_model.specs.Codes.{code_of, text_of}
use Rattle.kt_model.specs.declared.finding.Finding.{Finding}
use Rattle.kt_report.specs.Report.{place_of, report_of}

-- what was put behind what so far
pub pieces : (source : List ℕ) (f : Finding) (t0 t1 t2 t3 t4 t5 t6 t7 t8 start end code text : List ℕ) → t0 ≡ [] → t1 ≡ t0 ++ start → t2 ≡ t1 ++ codes "-" → t3 ≡ t2 ++ end
    → t4 ≡ t3 ++ codes " " → t5 ≡ t4 ++ code → t6 ≡ t5 ++ codes " " → t7 ≡ t6 ++ text → t8 ≡ t7 ++ codes "\nrefused findings=1\n"
    → start ≡ place_of source f.span.start → end ≡ place_of source f.span.end → code ≡ code_of f.rule → text ≡ text_of f.rule → t8 ≡ report_of source f
unfolding report_of
pieces source f t0 t1 t2 t3 t4 t5 t6 t7 t8 start end code text e0 e1 e2 e3 e4 e5 e6 e7 e8 starts ends codes_are texts_are =
    e8 ∙ ap (λ t. t ++ codes "\nrefused findings=1\n") (e7 ∙ ap (λ t. t ++ text) (e6 ∙ ap (λ t. t ++ codes " ") (e5 ∙ ap (λ t. t ++ code) (e4 ∙ ap (λ t. t ++ codes " ") (e3
    ∙ ap (λ t. t ++ end) (e2 ∙ ap (λ t. t ++ codes "-") (e1 ∙ ap (λ t. t ++ start) e0)))))))
    ∙ ap (λ p. p ++ codes "-" ++ end ++ codes " " ++ code ++ codes " " ++ text ++ codes "\nrefused findings=1\n") starts
    ∙ ap (λ p. place_of source f.span.start ++ codes "-" ++ p ++ codes " " ++ code ++ codes " " ++ text ++ codes "\nrefused findings=1\n") ends
    ∙ ap (λ p. place_of source f.span.start ++ codes "-" ++ place_of source f.span.end ++ codes " " ++ p ++ codes " " ++ text ++ codes "\nrefused findings=1\n") codes_are
    ∙ ap (λ p. place_of source f.span.start ++ codes "-" ++ place_of source f.span.end ++ codes " " ++ code_of f.rule ++ codes " " ++ p ++ codes "\nrefused findings=1\n") texts_are
