use Rattle.std.proofs.Common.{◌≡◌, ◌++◌, map, take, drop}
use Rattle.std.specs.List.{flat_map}
use Rattle.kt_shape.specs.ShapeRules.{in_part, in_turn, piece_shape, stmt_shape, case_shape, condition_shape, catch_shape}
use Rattle.kt_shape.proofs.walk.+shapes.Given as goal

abbrev pub invariant-in_exprs-loop-x : goal.invariant-in_exprs-loop-x
invariant-in_exprs-loop-x l = l.out.items ≡ l.fn.out.items ++ flat_map in_part (take l.x-index l.es)

abbrev pub invariant-in_pieces-loop-x : goal.invariant-in_pieces-loop-x
invariant-in_pieces-loop-x l = l.out.items ≡ l.fn.out.items ++ flat_map piece_shape (take l.x-index l.pieces)

abbrev pub invariant-in_stmts-loop-place : goal.invariant-in_stmts-loop-place
invariant-in_stmts-loop-place l =
    l.out.items ++ in_turn (map stmt_shape (drop l.place l.statements)) l.valued ≡ l.fn.out.items ++ in_turn (map stmt_shape l.statements) l.valued

abbrev pub invariant-in_when_branches-loop-x : goal.invariant-in_when_branches-loop-x
invariant-in_when_branches-loop-x l = l.out.items ≡ l.fn.out.items ++ flat_map (λ b. (case_shape b).whole l.valued) (take l.x-index l.branches)

abbrev pub invariant-in_conditions-loop-x : goal.invariant-in_conditions-loop-x
invariant-in_conditions-loop-x l = l.out.items ≡ l.fn.out.items ++ flat_map condition_shape (take l.x-index l.conditions)

abbrev pub invariant-in_catches-loop-x : goal.invariant-in_catches-loop-x
invariant-in_catches-loop-x l = l.out.items ≡ l.fn.out.items ++ flat_map (λ c. catch_shape c l.valued) (take l.x-index l.catches)
