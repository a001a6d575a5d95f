use Rattle.kt_parse.proofs.Parsing.{fault_parsed}
use Rattle.kt_parse.proofs.files.file_of_tokens.Goals as goal

pub returns-in-Err : goal.returns-in-Err
returns-in-Err c = fault_parsed _ _ c.in-Err.ensures.answer
