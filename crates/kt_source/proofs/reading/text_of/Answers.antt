use Rattle.std.proofs.Common.{arith}
use Rattle.kt_source.proofs.StageLaws.{long_told, invalid_told}
use Rattle.kt_source.proofs.reading.text_of.Goals as goal

pub returns-then-bytes-gt-SOURCE_LIMIT : goal.returns-then-bytes-gt-SOURCE_LIMIT
returns-then-bytes-gt-SOURCE_LIMIT c = long_told c.args.bytes.now c.refused.result c.refused.ensures (omega (arith, c.if-bytes-gt-SOURCE_LIMIT.true))

pub returns-in-Err : goal.returns-in-Err
returns-in-Err c =
    let cases = c.in-Err.ensures.cases in
    let short = c.if-bytes-gt-SOURCE_LIMIT.false in
    invalid_told c.args.bytes.now c.refused-in-Err.result _ c.in-Err.error.valid_up_to c.refused-in-Err.ensures
    (omega (arith, c.valid_up_to-at.ensures, short, cases.1.short)) (omega (arith, short)) cases.0 cases.1
