use Rattle.std.proofs.Common.{ℕ, List, map, ap, ◌∙◌, bytes_eq, Bor}
use Rattle.std.specs.Map.{lookup}
use Rattle.kt_table.proofs.Texts.{first_value-text}
use Rattle.kt_table.proofs.tests.number_of.Goals as goal

-- what `find` gives is the row of the constant whose text has the same bytes
pub returns : goal.returns
returns c =
    c.copied.ensures ∙ c.find.ensures.first ∙ first_value-text c.new.result c.args.word
    ∙ ap (λ (rows : List (Bor (List ℕ) × ℕ)). lookup (λ text. bytes_eq text c.args.word.now) (map (λ row. (row.0.now, row.1)) rows)) c.new.ensures
