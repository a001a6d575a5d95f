use Rattle.std.proofs.Common.{◌≡◌, map, take}
use Rattle.kt_rules.proofs.inherited.names_of.Given as goal

abbrev pub invariant-loop-s : goal.invariant-loop-s
invariant-loop-s l = l.names.items ≡ map (λ s. s.name) (take l.s-index l.settled)
