use Rattle.kt_check.specs.Phases.{AreBefore}
use Rattle.kt_check.proofs.bodies.all_bodies.Given as goal

abbrev pub invariant-loop-place : goal.invariant-loop-place
invariant-loop-place l = AreBefore l.file l.uses l.place l.found.items
