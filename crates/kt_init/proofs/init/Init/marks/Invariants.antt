use Rattle.kt_init.specs.Marks.{AreMarked}
use Rattle.kt_init.proofs.init.Init.marks.Given as goal

abbrev pub invariant-loop-node : goal.invariant-loop-node
invariant-loop-node l = AreMarked l.g l.self l.node l.marks.begun.keys l.marks.entered.keys
