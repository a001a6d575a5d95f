use Rattle.std.proofs.Common.{◌≡◌, max, map, drop}
use Rattle.kt_height.specs.Height.{greatest, expr_height, piece_height, stmt_height, when_branch_height, condition_height, catch_height}
use Rattle.kt_height.proofs.walk.+heights.Given as goal

abbrev pub invariant-of_exprs-loop-x : goal.invariant-of_exprs-loop-x
invariant-of_exprs-loop-x l = max l.height (greatest (map expr_height (drop l.x-index l.es))) ≡ greatest (map expr_height l.es)

abbrev pub invariant-of_pieces-loop-x : goal.invariant-of_pieces-loop-x
invariant-of_pieces-loop-x l = max l.height (greatest (map piece_height (drop l.x-index l.pieces))) ≡ greatest (map piece_height l.pieces)

abbrev pub invariant-of_stmts-loop-x : goal.invariant-of_stmts-loop-x
invariant-of_stmts-loop-x l = max l.height (greatest (map stmt_height (drop l.x-index l.statements))) ≡ greatest (map stmt_height l.statements)

abbrev pub invariant-of_when_branches-loop-x : goal.invariant-of_when_branches-loop-x
invariant-of_when_branches-loop-x l = max l.height (greatest (map when_branch_height (drop l.x-index l.branches))) ≡ greatest (map when_branch_height l.branches)

abbrev pub invariant-of_conditions-loop-x : goal.invariant-of_conditions-loop-x
invariant-of_conditions-loop-x l = max l.height (greatest (map condition_height (drop l.x-index l.conditions))) ≡ greatest (map condition_height l.conditions)

abbrev pub invariant-of_catches-loop-x : goal.invariant-of_catches-loop-x
invariant-of_catches-loop-x l = max l.height (greatest (map catch_height (drop l.x-index l.catches))) ≡ greatest (map catch_height l.catches)
