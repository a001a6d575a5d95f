use Rattle.std.proofs.Common.{take}
use Rattle.kt_model.specs.Findings.{Adds}
use Rattle.kt_flow.specs.Against.{IsAgainstOne}
use Rattle.kt_flow.proofs.along.Paths.add_effects.Given as goal

abbrev pub invariant-loop-effect : goal.invariant-loop-effect
invariant-loop-effect l = Adds (IsAgainstOne l.self.graph.now l.node l.note (take l.effect-index l.effects)) l.fn.found.items l.found.items
