use Rattle.std.proofs.Common.{ap, ◌∙◌}
use Rattle.kt_table.specs.Table.{first_value}
use Rattle.kt_grammar.specs.Places.{by_place}
use Rattle.kt_grammar.proofs.Sections.{place}
use Rattle.kt_grammar.proofs.Table.{table_rows}
use Rattle.kt_grammar.proofs.lookup.row_at.Goals as goal

pub returns : goal.returns
returns c =
    c.copied.ensures ∙ c.find.ensures.first
    ∙ ap (λ rs. first_value by_place rs (place c.args.nonterminal c.args.first)) c.new.ensures
    ∙ table_rows c.args.nonterminal c.args.first
