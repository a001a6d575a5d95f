use Rattle.std.proofs.Common.{◌≡◌, ◌++◌, take}
use Rattle.std.specs.List.{flat_map}
use Rattle.kt_model.specs.TreeSites.{expr_sites, piece_sites, stmt_sites, when_branch_sites, condition_sites, catch_sites}
use Rattle.kt_bodies.proofs.walk.+walk.Given as goal

abbrev pub invariant-in_exprs-loop-e : goal.invariant-in_exprs-loop-e
invariant-in_exprs-loop-e l = l.out.items ≡ l.fn.out.items ++ flat_map expr_sites (take l.e-index l.es)

abbrev pub invariant-in_pieces-loop-p : goal.invariant-in_pieces-loop-p
invariant-in_pieces-loop-p l = l.out.items ≡ l.fn.out.items ++ flat_map piece_sites (take l.p-index l.pieces)

abbrev pub invariant-in_stmts-loop-s : goal.invariant-in_stmts-loop-s
invariant-in_stmts-loop-s l = l.out.items ≡ l.fn.out.items ++ flat_map stmt_sites (take l.s-index l.statements)

abbrev pub invariant-in_when_branches-loop-b : goal.invariant-in_when_branches-loop-b
invariant-in_when_branches-loop-b l = l.out.items ≡ l.fn.out.items ++ flat_map when_branch_sites (take l.b-index l.branches)

abbrev pub invariant-in_conditions-loop-c : goal.invariant-in_conditions-loop-c
invariant-in_conditions-loop-c l = l.out.items ≡ l.fn.out.items ++ flat_map condition_sites (take l.c-index l.conditions)

abbrev pub invariant-in_catches-loop-c : goal.invariant-in_catches-loop-c
invariant-in_catches-loop-c l = l.out.items ≡ l.fn.out.items ++ flat_map catch_sites (take l.c-index l.catches)
