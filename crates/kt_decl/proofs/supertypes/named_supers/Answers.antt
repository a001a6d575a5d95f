use Rattle.std.proofs.Common.{[]}
use Rattle.kt_model.specs.TopNames.{class_named}
use Rattle.kt_decl.proofs.ListSteps.{push_step}
use Rattle.kt_decl.proofs.supertypes.named_supers.Goals as goal

pub loop-s-preserved : goal.loop-s-preserved
loop-s-preserved c =
    push_step (λ s. class_named c.args.tops.now s.name.name) _ _ c.s-item.result [] _ _ _ c.loop-s-test.true c.s-item.is c.class_named.ensures.class c.loop-s.invariant c.in_ok-push_class.ensures
