use Rattle.std.proofs.Common.{◌++◌, ◌+◌, ◌∙◌, ap, sym, drop, arith, append_assoc, append-nil}
use Rattle.kt_decl.proofs.ListSteps.{drop_more, drop_end}
use Rattle.kt_model.specs.Classes.{outlines}
use Rattle.kt_model.specs.MemberRules.{rules_from}
use Rattle.kt_rules.proofs.rules.at_classes.Goals as goal

pub loop-c-preserved : goal.loop-c-preserved
loop-c-preserved c =
    let file = c.args.tables.now.file.now in
    let os = outlines c.args.tables.now.table.now in
    let classes = c.args.classes.now in
    let left = drop_more classes c.loop-c.c-index c.c-item.result c.loop-c-test.true c.c-item.is in
    record {
      walked = ap (λ z. z ++ rules_from file os (c.loop-c.number + 1) (drop (c.loop-c.c-index + 1) classes)) c.in_ok-at_class.ensures ∙ append_assoc c.loop-c.out.items _ _ ∙ ap (λ z. c.loop-c.out.items ++ rules_from file os c.loop-c.number z) (sym left) ∙ c.loop-c.invariant.walked;
      number = omega (arith, c.loop-c.invariant.number);
    }

pub returns : goal.returns
returns c =
    let file = c.args.tables.now.file.now in
    let os = outlines c.args.tables.now.table.now in
    sym (append-nil c.loop-c.out.items) ∙ ap (λ z. c.loop-c.out.items ++ rules_from file os c.loop-c.number z) (sym (drop_end c.args.classes.now c.loop-c.c-index c.loop-c-test.false)) ∙ c.loop-c.invariant.walked
