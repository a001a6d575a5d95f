use Rattle.std.proofs.Common.{◌≡◌, ◌++◌, take}
use Rattle.std.specs.List.{flat_map}
use Rattle.kt_model.specs.NameUses.{named_at}
use Rattle.kt_flow.specs.Notes.{expr_notes, stmt_notes, piece_notes}
use Rattle.kt_flow.proofs.walk.+walk.Given as goal

abbrev pub invariant-exprs-loop-x : goal.invariant-exprs-loop-x
invariant-exprs-loop-x l = l.out.items ≡ l.fn.out.items ++ flat_map (expr_notes (named_at l.uses)) (take l.x-index l.es)

abbrev pub invariant-pieces-loop-x : goal.invariant-pieces-loop-x
invariant-pieces-loop-x l = l.out.items ≡ l.fn.out.items ++ flat_map (piece_notes (named_at l.uses)) (take l.x-index l.pieces)

abbrev pub invariant-stmts-loop-x : goal.invariant-stmts-loop-x
invariant-stmts-loop-x l = l.out.items ≡ l.fn.out.items ++ flat_map (stmt_notes (named_at l.uses)) (take l.x-index l.statements)
