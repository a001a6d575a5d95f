use Rattle.std.proofs.Common.{sym, ◌∙◌}
use Rattle.kt_model.specs.Classes.{outlines}
use Rattle.kt_model.specs.MemberRules.{conflicts}
use Rattle.kt_rules.proofs.Names.{any_found, any_more}
use Rattle.kt_rules.proofs.inherited.has_conflict.Goals as goal

pub loop-name-preserved : goal.loop-name-preserved
loop-name-preserved c =
    any_more (conflicts (outlines c.args.t.now) c.args.c) c.args.names.now c.loop-name.name-index c.loop-name-test.true c.loop-name.invariant (sym c.in_ok-found.ensures ∙ c.if-found.false)

pub returns-then-found : goal.returns-then-found
returns-then-found c =
    sym (any_found (conflicts (outlines c.args.t.now) c.args.c) c.args.names.now c.loop-name.name-index c.loop-name-test.true (sym c.in_ok-found.ensures ∙ c.if-found.true))
