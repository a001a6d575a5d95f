use Rattle.kt_init.proofs.Variables.{place_is}
use Rattle.kt_init.proofs.numbers.Numbers.of.Goals as goal

pub returns : goal.returns
returns c = rw c.get_index_of.ensures.index (place_is c.args.variable c.args.self.now.variables.keys)
