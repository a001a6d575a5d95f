use Rattle.std.proofs.Common.{length, ◌-◌, ◌≤◌, ◌≡◌, take}
use Rattle.kt_outside.specs.Texts.{PutsBytes}
use Rattle.kt_outside.proofs.puts.put_all.Given as goal

abbrev pub invariant-loop-at : goal.invariant-loop-at
invariant-loop-at g l =
    PutsBytes (g.O.Output.state l.fn.out) (g.O.Output.state l.out) (take l.at l.text) × (l.at ≤ length l.text) × ((g.O.Output.state l.out).faults ≡ (g.O.Output.state l.fn.out).faults)

abbrev pub decreases-loop-at : goal.decreases-loop-at
decreases-loop-at g l = length l.text - l.at
