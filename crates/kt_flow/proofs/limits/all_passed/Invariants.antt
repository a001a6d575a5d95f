use Rattle.std.proofs.Common.{length, []}
use Rattle.kt_model.specs.Findings.{Adds}
use Rattle.kt_flow.specs.Sizes.{IsPassedBefore}
use Rattle.kt_flow.proofs.limits.all_passed.Given as goal

abbrev pub invariant-loop-place : goal.invariant-loop-place
invariant-loop-place l = Adds (IsPassedBefore l.file l.uses (length l.table) l.place) [] l.found.items
