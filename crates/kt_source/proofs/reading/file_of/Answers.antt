use Rattle.kt_tree.specs.Derives.{FaultAt}
use Rattle.kt_tree.specs.declared.grammar.fault.ParseFault.TheVariants as fault
use Rattle.kt_source.proofs.StageLaws.{misfit_told, deep_told}
use Rattle.kt_source.proofs.reading.file_of.Goals as goal

pub returns-in-Err-Syntax : goal.returns-in-Err-Syntax
returns-in-Err-Syntax c =
    let h : FaultAt c.args.tokens.now (fault.Syntax c.in-Err-Syntax.token) = rw c.in-Err-Syntax.field-0-is at c.in-Err-Syntax.ensures.answer in
    misfit_told c.args.tokens.now c.in-Err-Syntax.token c.refused.result c.span_of_token.result c.refused.ensures c.span_of_token.ensures h

pub returns-in-Err-TooDeep : goal.returns-in-Err-TooDeep
returns-in-Err-TooDeep c =
    let h : FaultAt c.args.tokens.now (fault.TooDeep c.in-Err-TooDeep.token) = rw c.in-Err-TooDeep.field-0-is at c.in-Err-TooDeep.ensures.answer in
    deep_told c.args.tokens.now c.in-Err-TooDeep.token c.refused-in-Err-TooDeep.result c.span_of_token-in-Err-TooDeep.result c.refused-in-Err-TooDeep.ensures c.span_of_token-in-Err-TooDeep.ensures h
