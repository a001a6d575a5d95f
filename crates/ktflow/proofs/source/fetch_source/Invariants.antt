use Rattle.std.proofs.Common.{◌-◌, length}
use Rattle.ktflow.proofs.FetchSteps.{FetchesSoFar}
use Rattle.ktflow.proofs.source.fetch_source.Given as goal

abbrev pub invariant-loop-buf : goal.invariant-loop-buf
invariant-loop-buf g l = FetchesSoFar (g.L.Library.state l.fn.library) (g.L.Library.state l.library) l.name l.source.items

abbrev pub decreases-loop-buf : goal.decreases-loop-buf
decreases-loop-buf g l = 1048577 - length l.source.items
