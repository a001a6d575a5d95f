use Rattle.std.proofs.Common.{[]}
use Rattle.kt_model.specs.Classes.{outlines}
use Rattle.kt_model.specs.Members.{candidate_in}
use Rattle.kt_decl.proofs.ListSteps.{push_number}
use Rattle.kt_decl.proofs.settle.candidates_in.Goals as goal

pub loop-d-preserved : goal.loop-d-preserved
loop-d-preserved c =
    push_number (candidate_in (outlines c.args.rows.now) c.args.c c.args.name) _ _ [] _ _ _ c.loop-d-test.true c.candidate_in.ensures c.loop-d.invariant c.in_ok-push_member.ensures
