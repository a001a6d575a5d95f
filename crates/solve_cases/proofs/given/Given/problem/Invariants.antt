use Rattle.std.proofs.Common.{◌≡◌}
use Rattle.solve_cases.proofs.given.Given.problem.Given as goal

abbrev pub invariant-loop-edge : goal.invariant-loop-edge
invariant-loop-edge l = (l.p.nodes ≡ l.self.nodes) × (l.p.pairs ≡ l.self.pairs)

abbrev pub invariant-loop-effect : goal.invariant-loop-effect
invariant-loop-effect l = (l.p.nodes ≡ l.self.nodes) × (l.p.pairs ≡ l.self.pairs)
