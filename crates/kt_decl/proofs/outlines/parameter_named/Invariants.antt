use Rattle.std.proofs.Common.{◌≡◌, drop, find, ◌==◌}
use Rattle.kt_decl.proofs.outlines.parameter_named.Given as goal

abbrev pub invariant-loop-p : goal.invariant-loop-p
invariant-loop-p l =
    find (λ p. p.name.name == l.name) l.parameters ≡ find (λ p. p.name.name == l.name) (drop l.p-index l.parameters)
