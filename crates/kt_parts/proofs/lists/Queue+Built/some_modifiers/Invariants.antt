use Rattle.std.proofs.Common.{◌≡◌}
use Rattle.kt_tree.specs.Parts as spec
use Rattle.kt_parts.proofs.Times.{Then}
use Rattle.kt_parts.proofs.lists.Queue+Built.some_modifiers.Given as goal

abbrev pub invariant-items : goal.invariant-items
invariant-items l = Then (spec.modifier l.tokens) l.fn.count l.fn.self l.items l.left l.self

abbrev pub decreases-items : goal.decreases-items
decreases-items l = l.left
