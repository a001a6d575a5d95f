use Rattle.std.proofs.Common.{ap, ◌∙◌}
use Rattle.kt_table.proofs.Texts.{first_value-text}
use Rattle.kt_grammar.proofs.Named.{or_id, shown, words_at}
use Rattle.kt_grammar.proofs.words.word_of.Goals as goal

pub returns-in-Some : goal.returns-in-Some
returns-in-Some c =
    ap or_id (c.in-Some.ensures.first ∙ first_value-text c.new.result c.args.text)
    ∙ words_at c.new.result c.args.text.now (ap shown c.new.ensures)

pub returns-in-None : goal.returns-in-None
returns-in-None c =
    ap or_id (c.in-None.ensures.first ∙ first_value-text c.new.result c.args.text)
    ∙ words_at c.new.result c.args.text.now (ap shown c.new.ensures)
