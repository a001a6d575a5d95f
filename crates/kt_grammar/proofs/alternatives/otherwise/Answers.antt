use Rattle.kt_grammar.proofs.Written.{otherwise_at}
use Rattle.kt_grammar.proofs.alternatives.otherwise.Goals as goal

pub returns : goal.returns
returns c = otherwise_at c.all_otherwise.result.now c.args.nonterminal _ c.all_otherwise.ensures
