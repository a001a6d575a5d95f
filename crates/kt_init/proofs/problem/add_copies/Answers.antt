use Rattle.std.proofs.Common.{ap}
use Rattle.kt_solve.specs.Flow.{Flow}
use Rattle.kt_init.proofs.Push.{copies_step, frame_step}
use Rattle.kt_init.proofs.problem.add_copies.Goals as goal

pub loop-node-preserved : goal.loop-node-preserved
loop-node-preserved c = record {
  frame = frame_step c.args.problem.now c.loop-node.problem c.effect_range.new.self _ c.loop-node.invariant.frame c.in_ok-effect_range.ensures.ok;
  copies = copies_step c.loop-node.node c.args.half c.args.problem.now c.loop-node.problem c.effect_range.new.self c.loop-node.invariant.copies (ap (λ (f : Flow). f.effects) c.in_ok-effect_range.ensures.ok);
}
