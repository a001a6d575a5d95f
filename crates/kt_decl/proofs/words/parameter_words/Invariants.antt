use Rattle.std.proofs.Common.{◌≡◌, map, take}
use Rattle.kt_decl.proofs.words.parameter_words.Given as goal

abbrev pub invariant-loop-p : goal.invariant-loop-p
invariant-loop-p l = l.words.items ≡ map (λ p. p.name) (take l.p-index l.parameters)
