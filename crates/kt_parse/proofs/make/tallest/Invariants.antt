use Rattle.std.proofs.Common.{◌≡◌, max, drop}
use Rattle.kt_tree.specs.Derives as spec
use Rattle.kt_parse.proofs.make.tallest.Given as goal

abbrev pub invariant-loop-part : goal.invariant-loop-part
invariant-loop-part l = max l.height (spec.tallest (drop l.part-index l.parts)) ≡ spec.tallest l.parts
