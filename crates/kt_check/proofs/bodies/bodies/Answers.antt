use Rattle.kt_decl.proofs.TableLemmas.{none_violated}
use Rattle.std.proofs.Common.{length}
use Rattle.kt_check.specs.Phases.{IsViolatedBefore}
use Rattle.kt_check.proofs.bodies.bodies.Goals as goal

pub returns-then-is_empty-clause-accepted : goal.returns-then-is_empty-clause-accepted
returns-then-is_empty-clause-accepted c =
    none_violated (IsViolatedBefore c.args.file.now c.args.uses.now (length c.args.file.now.functions)) c.in_ok-found.found c.in_ok-found.ensures.found (c.is_empty.ensures.0 c.if-is_empty.true)
