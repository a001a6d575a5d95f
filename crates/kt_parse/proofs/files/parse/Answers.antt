use Rattle.kt_parse.proofs.Parsing.{only_parsed}
use Rattle.kt_parse.proofs.files.parse.Goals as goal

pub returns-clause-only : goal.returns-clause-only
returns-clause-only c = only_parsed _ _ c.file_of_tokens.ensures
