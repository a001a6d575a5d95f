use Rattle.std.specs.Str.{chars}
use Rattle.kt_tree.specs.Sources.{source_text}
use Rattle.kt_source.proofs.StageLaws.{tokens_err, file_of_source}
use Rattle.kt_source.proofs.reading.read.Goals as goal

pub returns-in_err-tokens : goal.returns-in_err-tokens
returns-in_err-tokens c =
    tokens_err c.args.source.now (source_text c.in_ok-text.text) c.in_err-tokens.field-0.0 c.from_residual-in_err-tokens.result c.in_ok-text.ensures c.in_err-tokens.ensures c.from_residual-in_err-tokens.ensures.1

pub returns : goal.returns
returns c =
    file_of_source c.args.source.now c.in_ok-tokens.tokens c.file_of.result
    (record { text = chars (source_text c.in_ok-text.text); has_text = c.in_ok-text.ensures; has_tokens = c.in_ok-tokens.ensures }) c.file_of.ensures
