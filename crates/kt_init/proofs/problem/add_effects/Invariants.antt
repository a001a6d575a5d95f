use Rattle.std.proofs.Common.{take}
use Rattle.kt_init.specs.Transfers.{SameFrame, AddsEffects}
use Rattle.kt_init.proofs.problem.add_effects.Given as goal

abbrev pub invariant-loop-effect : goal.invariant-loop-effect
invariant-loop-effect l = record {
  frame : SameFrame l.initial.problem l.problem;
  effects : AddsEffects l.numbers.variables.keys l.node (take l.effect-index l.effects) l.initial.problem l.problem;
}
