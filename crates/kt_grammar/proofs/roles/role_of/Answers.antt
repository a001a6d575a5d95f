use Rattle.kt_grammar.proofs.Tested.{role_at}
use Rattle.kt_grammar.proofs.roles.role_of.Goals as goal

pub returns : goal.returns
returns c = role_at c.all_roles.result.now c.args.terminal _ c.all_roles.ensures
