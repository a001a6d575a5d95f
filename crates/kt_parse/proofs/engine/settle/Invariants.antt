use Rattle.std.proofs.Common.{◌≡◌}
use Rattle.kt_parse.specs.Engine.{Leads}
use Rattle.kt_parse.specs.Reach.{reach}
use Rattle.kt_parse.proofs.engine.settle.Given as goal

abbrev pub invariant-symbols : goal.invariant-symbols
invariant-symbols l = Leads l.tokens l.fn.pending l.fn.state l.pending l.state × (l.state.at ≡ l.fn.state.at)

abbrev pub decreases-symbols : goal.decreases-symbols
decreases-symbols l = reach l.pending
