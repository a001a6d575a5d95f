use Rattle.kt_model.specs.Sites.{member_word}
use Rattle.kt_decl.proofs.ListSteps.{push_step}
use Rattle.kt_decl.proofs.words.push_members.Goals as goal

pub loop-m-preserved : goal.loop-m-preserved
loop-m-preserved c =
    push_step member_word _ _ c.m-item.result _ _ _ _ c.loop-m-test.true c.m-item.is c.word_of_member.ensures c.loop-m.invariant c.in_ok-push_some.ensures
