use Rattle.kt_decl.proofs.TableLemmas.{none_violated}
use Rattle.kt_model.specs.MemberRules.{IsMisdeclared}
use Rattle.kt_rules.proofs.rules.members.Goals as goal

pub returns-then-is_empty-clause-accepted : goal.returns-then-is_empty-clause-accepted
returns-then-is_empty-clause-accepted c =
    none_violated (IsMisdeclared c.args.file.now) c.in_ok-found.found c.in_ok-found.ensures (c.is_empty.ensures.0 c.if-is_empty.true)
