use Rattle.kt_grammar.proofs.Written.{symbols_at}
use Rattle.kt_grammar.proofs.productions.symbols.Goals as goal

pub returns : goal.returns
returns c = symbols_at c.all_symbols.result.now c.args.production _ c.all_symbols.ensures
