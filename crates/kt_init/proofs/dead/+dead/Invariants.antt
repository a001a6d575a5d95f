use Rattle.std.proofs.Common.{◌≡◌, ◌++◌, map, take}
use Rattle.kt_model.specs.DeadTrees.{catch_dead, condition_dead, expr_dead, joined, piece_dead, stmt_dead, when_dead}
use Rattle.kt_init.specs.Marks.{dead_by}
use Rattle.kt_init.proofs.dead.+dead.Given as goal

abbrev pub invariant-block-loop-s : goal.invariant-block-loop-s
invariant-block-loop-s l = l.found ≡ l.initial.found ++ joined (map (stmt_dead (dead_by l.marks)) (take l.s-index l.s-items))

abbrev pub invariant-caught-loop-c : goal.invariant-caught-loop-c
invariant-caught-loop-c l = l.found ≡ l.initial.found ++ joined (map (catch_dead (dead_by l.marks)) (take l.c-index l.catches))

abbrev pub invariant-exprs-loop-e : goal.invariant-exprs-loop-e
invariant-exprs-loop-e l = l.found ≡ l.initial.found ++ joined (map (expr_dead (dead_by l.marks)) (take l.e-index l.list))

abbrev pub invariant-pieces-loop-part : goal.invariant-pieces-loop-part
invariant-pieces-loop-part l = l.found ≡ l.initial.found ++ joined (map (piece_dead (dead_by l.marks)) (take l.part-index l.parts))

abbrev pub invariant-tests-loop-condition : goal.invariant-tests-loop-condition
invariant-tests-loop-condition l = l.found ≡ l.initial.found ++ joined (map (condition_dead (dead_by l.marks)) (take l.condition-index l.list))

abbrev pub invariant-cases-loop-b : goal.invariant-cases-loop-b
invariant-cases-loop-b l = l.found ≡ l.initial.found ++ joined (map (when_dead (dead_by l.marks)) (take l.b-index l.branches))
