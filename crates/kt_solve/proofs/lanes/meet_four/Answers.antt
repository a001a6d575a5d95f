use Rattle.std.proofs.Common.{bit_and}
use Rattle.kt_solve.proofs.Four.{four_below, four_at, four_above}
use Rattle.kt_solve.proofs.lanes.meet_four.Goals as goal

pub returns-clause-below : goal.returns-clause-below
returns-clause-below c = λ k h. four_below bit_and c.args.at c.args.into.now c.args.from.now k h

pub returns-clause-four : goal.returns-clause-four
returns-clause-four c = λ j h. four_at bit_and c.args.at c.args.into.now c.args.from.now j c.requires.lens c.requires.at h

pub returns-clause-above : goal.returns-clause-above
returns-clause-above c = λ k h. four_above bit_and c.args.at c.args.into.now c.args.from.now k c.requires.lens c.requires.at h
