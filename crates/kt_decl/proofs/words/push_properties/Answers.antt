use Rattle.kt_model.specs.Sites.{property_word}
use Rattle.kt_decl.proofs.ListSteps.{push_step}
use Rattle.kt_decl.proofs.words.push_properties.Goals as goal

pub loop-p-preserved : goal.loop-p-preserved
loop-p-preserved c =
    push_step property_word _ _ c.p-item.result _ _ _ _ c.loop-p-test.true c.p-item.is c.word_of_property.ensures c.loop-p.invariant c.in_ok-push_some.ensures
