use Rattle.std.proofs.Common.{◌-◌, ◌≤◌, length}
use Rattle.kt_parse.specs.Engine.{Leads}
use Rattle.kt_tree.specs.Derives.{whole, start}
use Rattle.kt_parse.proofs.engine.run.Given as goal

abbrev pub invariant-tokens : goal.invariant-tokens
invariant-tokens l = Leads l.tokens whole start l.pending l.state × (l.state.at ≤ length l.tokens.list)

abbrev pub decreases-tokens : goal.decreases-tokens
decreases-tokens l = length l.tokens.list - l.state.at
