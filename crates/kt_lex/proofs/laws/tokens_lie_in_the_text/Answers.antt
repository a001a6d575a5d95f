use Rattle.kt_lex.proofs.LayoutLaw.{tokens-lie, tokens-rise}
use Rattle.kt_lex.proofs.laws.tokens_lie_in_the_text.Goals as goal

pub returns-clause-lie : goal.returns-clause-lie
returns-clause-lie c = λ text ts h. tokens-lie text ts h

pub returns-clause-rise : goal.returns-clause-rise
returns-clause-rise c = λ text ts h. tokens-rise text ts h
