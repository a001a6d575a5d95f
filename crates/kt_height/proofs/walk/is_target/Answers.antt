use Rattle.std.proofs.Common.{sym, arith}
use Rattle.kt_height.proofs.HeightFolds as fold
use Rattle.kt_height.proofs.walk.is_target.Goals as goal

pub returns-in-Name : goal.returns-in-Name
returns-in-Name c = grind (arith, fold.name_target)

pub returns-in-Dot : goal.returns-in-Dot
returns-in-Dot c = grind (arith, fold.member_target)

pub returns-in-Safe : goal.returns-in-Safe
returns-in-Safe c = grind (arith, fold.member_target)

pub returns-in_default : goal.returns-in_default
returns-in_default c = sym (fold.other_target c.args.kind.now c.in_default.not-Name c.in_default.not-Member)
